-- Two places that were found, as contracts see them.
use Rattle.std.specs.Prelude.{ℕ, List, [], ◌∷◌, Result, Ok, Err}
use Rattle.wasi_host.specs.Tree.{Tree}
use Rattle.wasi_host.specs.Provenance.{HasProvenance, OneOf, Nothing}
use Rattle.wasi_host.specs.HostLaws.{Handles}
use Rattle.wasi_host.specs.declared.errors.HostError.{HostError}
use Rattle.wasi_host.specs.declared.open_handle.OpenHandle.{OpenHandle}
use Rattle.wasi_host.specs.declared.lookup.Lookup.{Lookup}
use Rattle.wasi_resolve.specs.TwoPathOps.{Places, places_in}
use Rattle.wasi_resolve.specs.Parents.{directory_of, released, shown_place}
use Rattle.wasi_resolve.specs.Resolved.{Meant}
use Rattle.wasi_resolve.specs.declared.two_path_ops.TwoParents.{TwoParents}
use Rattle.wasi_resolve.specs.declared.parent.MaybeOwned.{MaybeOwned}

abbrev pub shown_places : (ℕ → OpenHandle) → TwoParents → Places
shown_places held both = record { old = shown_place held both.old; new = shown_place held both.new }

-- what two places mean
abbrev pub both_at : Tree → ℕ → List ℕ → ℕ → List ℕ → Meant Places
both_at t old old_text new new_text =
    record { starts = old ∷ new ∷ []; answer = places_in t old old_text new new_text; stepped = t; ends = [] }

-- what is live once both directories are closed, as far as they were opened: the second one comes first
abbrev pub both_released : Handles → MaybeOwned → MaybeOwned → Handles
both_released live first second = released (released live second) first

-- where both are found, their directories are known, which were the starts or were got
abbrev pub TracedBoth : ℕ → ℕ → Result TwoParents HostError → List Lookup → List Lookup → Type 0
TracedBoth old new (Ok both) =
    HasProvenance (OneOf old new) (OneOf old new) (OneOf (directory_of both.old.directory) (directory_of both.new.directory))
TracedBoth old new (Err e) = HasProvenance (OneOf old new) Nothing Nothing
