-- Several contexts and tables whose handles are owned, as a call of one of them keeps its own so.
use Rattle.std.proofs.Common.{suc, zero, ◌≡◌, ℕ, List, [], ◌∷◌, length, slice_get, Some, None, ap, sym, subst, ◌∙◌, inl, inr}
use Rattle.std.specs.FinMap.{empty, get-empty}
use Rattle.std.proofs.lemmas.List.{length-set}
use Rattle.wasi_host.specs.HostLaws.{Handles}
use Rattle.wasi_host.specs.declared.host.Host.{Ghosts}
use Rattle.wasi_streams.proofs.OneChanged.{set_cases}
use Rattle.wasi_p2.specs.Named.{AtOne, OneDoes}
use Rattle.wasi_p2_calls.specs.Resources.{AreOwned, Holder, entry_handle, handle_held, preopened, tabled}
use Rattle.wasi_p2_calls.specs.Views.{Files, FilesOwned}
use Rattle.test_p2.specs.AllOwned.{AllOwned, StayOwned}

-- what one is
some_is : {A : Type 0} {x y : A} → Some x ≡ Some y → x ≡ y
some_is is = cc

-- a call of one
pub stay_owned : {H : Type 0} {host : Ghosts H} {olds news : List (Files H)} {id : ℕ}
    {Did : Files H → Files H → Type 0} → AllOwned host olds → OneDoes olds news id Did
    → ((old new : Files H) → FilesOwned host old → Did old new → FilesOwned host new) → StayOwned host olds news
stay_owned {H} {host} {olds} {news} {id} owned one keeps = record {
  count = ap length one.others ∙ length-set olds id one.new;
  owned = λ i a at. let placed = sym (ap (λ (all : List (Files H)). slice_get all i) one.others) ∙ at in
      elim (set_cases olds id i one.new) [
        | inl same ↦ owned i a (sym same ∙ placed)
        | inr new ↦ subst (FilesOwned host) (some_is (sym new.1 ∙ placed))
            (keeps one.old one.new (owned id one.old one.was) one.did)
      ];
}

-- each of two
pub two_at : {A : Type 0} (P : A → Type 0) {first second : A} → P first → P second → (id : ℕ)
    → AtOne (first ∷ second ∷ []) id P
two_at P one other zero a at = subst P (some_is at) one
two_at P one other (suc zero) a at = subst P (some_is at) other
two_at P one other (suc (suc n)) a at = absurd (cc)

-- with no directory and no entry no handle stands anywhere
pub owned_none : {live : Handles} → AreOwned live [] empty
owned_none = record { lives = λ p h has. absurd (none p h has); apart = λ p q h has has'. absurd (none p h has) }
  where
    none : (p : Holder) (h : ℕ) → handle_held [] empty p ≡ Some h → ⊥
    none (preopened i) h has = absurd (cc)
    none (tabled n) h has =
        let at : entry_handle None ≡ Some h = sym (ap entry_handle (get-empty _ n)) ∙ has in absurd (cc)
