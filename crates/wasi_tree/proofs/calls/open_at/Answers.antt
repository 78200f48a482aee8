use Rattle.std.proofs.Common.{◌≡◌, ◌∙◌, refl, sym, ap}
use Rattle.std.specs.FinSet.{insert}
use Rattle.wasi_paths.specs.Name.{name_bytes}
use Rattle.wasi_host.specs.Tree.{next_of, child}
use Rattle.wasi_host.specs.Step.{new_file}
use Rattle.wasi_host.proofs.ValidSteps.{can_make_file}
use Rattle.wasi_tree.specs.declared.name_lookup.NameLookup.{NameLookup}
use Rattle.wasi_tree.proofs.GoodNames.{may_name}
use Rattle.wasi_tree.proofs.SoundLemmas.{bare}
use Rattle.wasi_tree.proofs.TouchedLemmas.{IsFree, none_of, held_stays, found_held, made_held, opens_found, opens_made}
use Rattle.wasi_tree.proofs.calls.open_at.Goals as goal
use Rattle.wasi_tree.proofs.calls.open_at.Given.{Over}
use Rattle.wasi_tree.proofs.calls.open_at.Goals.{In_default}

free : (g : Over) (c : In_default g) → IsFree (g.S.NodeStore.seen c.args.store.now).tree c.args.directory (name_bytes c.args.name) c.args.options.now
free g c = record { none = sym (rw (c.in_ok-looked.ensures.tree, c.in_ok-looked.ensures.looked) at c.refuse_open.ensures) ∙ none_of _ c.in_default.not-Some }

-- what the name holds
found : (g : Over) (c : In_default g)
    → c.in_ok-looked.looked.found ≡ child (g.S.NodeStore.seen c.args.store.now).tree c.args.directory (name_bytes c.args.name)
found g c = ap (λ (looked : NameLookup). looked.found) c.in_ok-looked.ensures.looked

-- ---- the name is there

pub returns-in-Some-found-clause-does : goal.returns-in-Some-found-clause-does
returns-in-Some-found-clause-does g c =
    let at = (goal.at.returns-in-Some-found-clause-does g c).In_default in
    let is = sym (found g at) ∙ c.in-Some-found.is in
    rw (c.access-mode.ensures.mode)
    (opens_found (free g at) c.in-Some-found.node is (rw c.in_ok-looked.ensures.tree at c.cut_where_asked.ensures.tree)
    (c.cut_where_asked.ensures.touched ∙ (rw is at c.in_ok-looked.ensures.touched)))

pub returns-in-Some-found-clause-held : goal.returns-in-Some-found-clause-held
returns-in-Some-found-clause-held g c =
    let at = (goal.at.returns-in-Some-found-clause-held g c).In_default in
    rw c.access-mode.ensures.mode (held_stays (rw c.in_ok-looked.ensures.tree at c.cut_where_asked.ensures.stays)
    (found_held (free g at) c.in-Some-found.node (sym (found g at) ∙ c.in-Some-found.is)
    (rw c.in-Some-found.is at c.in_ok-looked.ensures.is.below)))

-- ---- the name is missing

pub make_node-requires-clause-may : goal.make_node-requires-clause-may
make_node-requires-clause-may g c =
    let at = (goal.at.make_node-requires-clause-may g c).In_default in
    rw c.in_ok-looked.ensures.tree
    (may_name (can_make_file _ _ _ _ (free g at).none (sym (found g at) ∙ c.in-None.is)) c.args.name.is_name)

pub make_node-requires-clause-sound : goal.make_node-requires-clause-sound
make_node-requires-clause-sound g c = rw c.new_file-file.ensures (bare 0 new_file refl refl)

pub returns-in_ok-node-in-None-clause-does : goal.returns-in_ok-node-in-None-clause-does
returns-in_ok-node-in-None-clause-does g c =
    let at = (goal.at.returns-in_ok-node-in-None-clause-does g c).In_default in
    let is = sym (found g at) ∙ c.in-None.is in
    rw (c.access-mode.ensures.mode, c.in_ok-node-in-None.ensures.number, c.in_ok-node-in-None.ensures.made, c.new_file-file.ensures, c.in_ok-looked.ensures.tree)
    (opens_made (free g at) is refl
    (ap (λ nodes. insert nodes (next_of (g.S.NodeStore.seen c.args.store.now).tree)) (rw is at c.in_ok-looked.ensures.touched)))

pub returns-in_ok-node-in-None-clause-held : goal.returns-in_ok-node-in-None-clause-held
returns-in_ok-node-in-None-clause-held g c =
    rw (c.in_ok-node-in-None.ensures.made, c.new_file-file.ensures, c.access-mode.ensures.mode, c.in_ok-node-in-None.ensures.number, c.in_ok-looked.ensures.tree)
    (made_held (free g (goal.at.returns-in_ok-node-in-None-clause-held g c).In_default))
