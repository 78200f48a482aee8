use Rattle.std.proofs.Common.{◌≡◌, ◌∙◌, length, map, ap}
use Rattle.std.proofs.lemmas.List.{length-map}
use Rattle.std.proofs.lemmas.Result.{err_from_is_err_and}
use Rattle.wasi_form.specs.Plan.{guests_plan}
use Rattle.wasi_tree.specs.NodeData.{tree_of}
use Rattle.wasi_guests.specs.Alone.{ended, starting}
use Rattle.wasi_guests.specs.AsIfAlone.{preopen_directories}
use Rattle.wasi_guests.specs.GuestScript.{ends_told, guest_of}
use Rattle.wasi_guests.proofs.ScriptLemmas.{all_may_begin, all_pieces, all_shown, comes_to_none, comes_to_text, insides_same, shown_items, shows_same, starts_same}
use Rattle.wasi_guests.proofs.guest_script.text_of.Goals as goal

pub draw_all-requires : goal.draw_all-requires
draw_all-requires g c =
    all_pieces c.args.script.nodes.nodes c.args.script.nodes.limits c.args.script.guests.items c.requires.within

pub run_guests-requires-clause-begin : goal.run_guests-requires-clause-begin
run_guests-requires-clause-begin g c =
    rw (c.in_ok-tree.ensures.tree, c.in_ok-guests.ensures.guests)
    (all_may_begin c.args.script.nodes.nodes c.args.script.nodes.limits c.args.script.guests.items c.requires.within c.requires.quota)

pub run_guests-requires-clause-named : goal.run_guests-requires-clause-named
run_guests-requires-clause-named g c =
    let count : length c.in_ok-guests.field-0.guests.items ≡ length c.args.script.guests.items =
    ap length c.in_ok-guests.ensures.guests ∙ length-map c.args.script.guests.items guest_of in
    rw count c.requires.schedule

pub returns-in_err-outcome : goal.returns-in_err-outcome
returns-in_err-outcome g c =
    let residual = c.from_residual-in_err-outcome in
    let error = err_from_is_err_and residual.result residual.ensures.1 in
    let script = c.args.script in
    rw (error.1, error.2) (comes_to_none (guests_plan script) c.in_ok-tree.ensures.tree
    (ap (map preopen_directories) c.in_ok-guests.ensures.guests
    ∙ insides_same script.nodes.nodes script.nodes.limits script.guests.items) _ _ c.in_err-outcome.ensures.outcome)

pub outcomes_of-requires : goal.outcomes_of-requires
outcomes_of-requires g c =
    let script = c.args.script in
    rw c.in_ok-guests.ensures.shows
    (all_shown script.nodes.nodes script.nodes.limits script.guests.items c.in_ok-outcome.outcome.guests.items c.requires.within
    (c.in_ok-outcome.ensures.sizes ∙ c.in_ok-guests.ensures.sizes))

pub returns : goal.returns
returns g c =
    let script = c.args.script in
    let nodes = script.nodes.nodes in
    let limits = script.nodes.limits in
    let tree = c.in_ok-tree.ensures.tree in
    let guests = c.in_ok-guests.ensures in
    let came = c.in_ok-outcome.ensures.outcome in
    comes_to_text (guests_plan script) tree
    (ap (map preopen_directories) guests.guests ∙ insides_same nodes limits script.guests.items)
    (ap (λ t. map (starting t) c.in_ok-guests.field-0.guests.items) tree ∙ ap (map (starting (tree_of nodes limits))) guests.guests
    ∙ starts_same nodes limits script.guests.items)
    (c.in_ok-told.ensures ∙ ap (λ shows. ends_told shows (map ended c.in_ok-outcome.outcome.guests.items))
    (ap (map shown_items) guests.shows ∙ shows_same nodes limits script.guests.items))
    came.0 came.1 came.2 (rw (c.as_slice.ensures.value, c.as_slice-2.ensures.value) at c.in_ok-guests_in.ensures.fits)
    (rw (c.as_slice.ensures.value, c.as_slice-2.ensures.value) at c.in_ok-guests_in.ensures.text)
