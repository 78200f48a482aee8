use Rattle.std.proofs.Common.{◌∙◌, ap, slice_index_or, slice_set, sym}
use Rattle.wasi_host.specs.Step.{with_size}
use Rattle.wasi_host.specs.Tree.{stray}
use Rattle.wasi_overlay.specs.OverNodes.{over_state}
use Rattle.wasi_overlay.specs.OverSeats.{kept_changed, own_at, own_put}
use Rattle.wasi_overlay.proofs.StepLemmas.{HasBytesPut, bytes_made, bytes_put, rounds_changed}
use Rattle.wasi_overlay.proofs.over_nodes.OverNodes.resize.Goals as goal

pub invariant_of-self : goal.invariant_of-self
invariant_of-self c =
    rounds_changed c.self.inside.round c.args.n c.self.inside.seats c.resize.new.self
    (kept_changed (own_put (own_at c.resize.new.self c.args.n))) c.self.invariant (λ _ below. below) c.resize.ensures.put

-- where the file has bytes of its own
put : (c : goal.After-resize) → HasBytesPut c.resize.result c.args.self.now
    (over_state c.self.inside.below c.resize.new.self c.self.inside.round) c.args.n (λ bytes. with_size c.args.size bytes)
put c =
    bytes_put c.self.inside.below c.self.inside.seats c.self.inside.round c.args.n c.self.view_is c.requires.within
    (sym c.has_bytes.ensures ∙ c.if-has_bytes.true) c.resize.new.self c.resize.ensures.put c.resize.result (λ bytes. with_size c.args.size bytes)
    c.resize.ensures.bytes c.resize.ensures.same

pub returns-then-has_bytes-clause-nodes : goal.returns-then-has_bytes-clause-nodes
returns-then-has_bytes-clause-nodes c = (put c).nodes

pub returns-then-has_bytes-clause-worked : goal.returns-then-has_bytes-clause-worked
returns-then-has_bytes-clause-worked c = (put c).worked

pub returns-then-has_bytes-clause-kept : goal.returns-then-has_bytes-clause-kept
returns-then-has_bytes-clause-kept c = (put c).kept

pub returns-then-has_bytes-clause-touched : goal.returns-then-has_bytes-clause-touched
returns-then-has_bytes-clause-touched c = (put c).touched

pub returns-then-has_bytes-clause-held : goal.returns-then-has_bytes-clause-held
returns-then-has_bytes-clause-held c = (put c).held

pub returns-then-has_bytes-clause-room : goal.returns-then-has_bytes-clause-room
returns-then-has_bytes-clause-room c = (put c).room

pub returns-clause-nodes : goal.returns-clause-nodes
returns-clause-nodes c =
    c.set_bytes.ensures.nodes ∙ ap (slice_set c.args.self.now.nodes c.args.n)
    (bytes_made (slice_index_or c.args.self.now.nodes c.args.n stray) (λ bytes. with_size c.args.size bytes) _
    (c.in_ok-bytes.ensures ∙ ap (λ bytes. with_size c.args.size bytes) c.bytes.ensures))
