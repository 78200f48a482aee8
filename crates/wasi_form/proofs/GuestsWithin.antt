-- Several guests within the limits, by what each of them runs.
use Rattle.std.proofs.Common.{◌≡◌, ◌+◌, ◌&&◌, ℕ, List, [], ◌∷◌, map, refl, ap, ◌∙◌, sym}
use Rattle.std.specs.Prelude.{sum_by, nat_le}
use Rattle.std.specs.List.{list_all}
use Rattle.std.proofs.lemmas.List.Folds.{list_all-map}
use Rattle.std.proofs.lemmas.List.Sums.{sum_by-cons}
use Rattle.wasi_host.specs.declared.limits.Limits.{Limits}
use Rattle.wasi_tree.specs.NodeData.{NodeData}
use Rattle.wasi_form.specs.declared.script.Session.{Session}
use Rattle.wasi_form.specs.LimitsForm.{default_limits}
use Rattle.wasi_form.specs.Plan.{planned, planned_guests}
use Rattle.wasi_form.specs.Within.{most_memory, shown_bytes, is_within_limits, guests_within}

sum_by-map : {A B : Type 0} (size : B → ℕ) (see : A → B) (xs : List A)
    → sum_by size (map see xs) ≡ sum_by (λ x. size (see x)) xs
sum_by-map size see [] = refl
sum_by-map size see (x ∷ xs) =
    sum_by-cons size (see x) (map see xs) ∙ ap (λ n. size (see x) + n) (sum_by-map size see xs)
    ∙ sym (sum_by-cons (λ y. size (see y)) x xs)

-- the limits of their tree are another matter
pub by_sessions : (nodes : List NodeData) (limits : Limits) (guests : List Session) (schedule : List ℕ)
    → guests_within (planned_guests nodes limits guests schedule)
    ≡ (list_all (λ guest. is_within_limits (planned nodes default_limits guest)) guests
    && nat_le (sum_by (λ guest. guest.size) guests) most_memory
    && nat_le (sum_by (λ guest. shown_bytes guest.show.items) guests) most_memory)
unfolding guests_within is_within_limits
by_sessions nodes limits guests schedule =
    rw (list_all-map is_within_limits (planned nodes limits) guests, sum_by-map (λ guest. guest.size) (planned nodes limits) guests, sum_by-map (λ guest. shown_bytes guest.show) (planned nodes limits) guests)
    refl
