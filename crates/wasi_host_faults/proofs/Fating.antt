-- What becomes of the calls of a host that fails at listed ones.
use Rattle.std.proofs.Common.{arith, ◌≡◌, ◌∙◌, inl, inr, refl, ap, sym, subst, ℕ, zero, suc, ◌+◌, Bool, true, false, IsTrue, Result, Ok, Err}
use Rattle.std.specs.FinSet.{contains}
use Rattle.wasi_host.specs.Answer.{HostAnswer}
use Rattle.wasi_host.specs.FurtherLaws.{EffectOf, FollowsPlan, Fates, Finds, Follow, Leaves, MayTakeEffect, Others, TakesEffect, changed_to, has_failed, is_failing}
use Rattle.wasi_host.specs.HostCall.{HostCall, Close}
use Rattle.wasi_host.specs.HostLaws.{Handles, RefinesCall, HostModel, answered, hosted}
use Rattle.wasi_host.specs.Tree.{Tree}
use Rattle.wasi_host.specs.declared.errors.ErrorCode.{ErrorCode}
use Rattle.wasi_host.specs.declared.errors.ErrorCode.TheVariants.{Io}
use Rattle.wasi_host.specs.declared.errors.HostError.{HostError}
use Rattle.wasi_host.specs.declared.errors.HostError.TheVariants.{Code, Memory}
use Rattle.wasi_host.specs.declared.injected_fault.InjectedFault.{InjectedFault}
use Rattle.wasi_host.specs.declared.injected_fault.InjectedFault.TheVariants.{Passes, FailsBefore, FailsAfter}
use Rattle.wasi_host.proofs.Refusals.{free_of}
use Rattle.wasi_host_faults.specs.Faults.{Calls, one_came, fates_of, joined, next_fate, others_of, passed_on}

-- hosts of the same fates have them under the same list
same_fates : (f g : Fates) (s : Calls) → ((n : ℕ) → f n ≡ g n) → (n : ℕ) → fates_of f s n ≡ fates_of g s n
same_fates f g s same zero = ap (joined (next_fate s)) (same 0)
same_fates f g s same (suc n) = same_fates (passed_on fate f) (passed_on fate g) (one_came s) (passed fate) n
  where
    fate : InjectedFault
    fate = next_fate s

    passed : (fate : InjectedFault) (m : ℕ) → passed_on fate f m ≡ passed_on fate g m
    passed Passes m = same (m + 1)
    passed FailsBefore m = same m
    passed FailsAfter m = same (m + 1)

-- hosts of which others change the tree alike find it changed alike under the same list
same_others : (f g : Others) (s : Calls) → ((n : ℕ) (t : Tree) → f n t ≡ g n t) → (n : ℕ) (t : Tree)
    → others_of f s n t ≡ others_of g s n t
same_others f g s same zero t = same 0 t
same_others f g s same (suc n) t = same_others (passed_on fate f) (passed_on fate g) (one_came s) (passed fate) n t
  where
    fate : InjectedFault
    fate = next_fate s

    passed : (fate : InjectedFault) (m : ℕ) (t : Tree) → passed_on fate f m t ≡ passed_on fate g m t
    passed Passes m = same (m + 1)
    passed FailsBefore m = same m
    passed FailsAfter m = same (m + 1)

-- where nobody else changes the tree, nobody does under a list
pub alone_too : (inner : Others) (s : Calls) → ((n : ℕ) (t : Tree) → inner n t ≡ t) → (n : ℕ) (t : Tree)
    → others_of inner s n t ≡ t
alone_too inner s alone zero t = alone 0 t
alone_too inner s alone (suc n) t = alone_too (passed_on fate inner) (one_came s) (passed fate) n t
  where
    fate : InjectedFault
    fate = next_fate s

    passed : (fate : InjectedFault) (m : ℕ) (t : Tree) → passed_on fate inner m t ≡ t
    passed Passes m = alone (m + 1)
    passed FailsBefore m = alone m
    passed FailsAfter m = alone (m + 1)

module _ (tells : Bool) (s : Calls) where
  -- the fates under a list stay with those of the inner host
  pub fates_stay : {f g : Fates} → (IsTrue tells → (n : ℕ) → f n ≡ g n)
      → IsTrue tells → (n : ℕ) → fates_of f s n ≡ fates_of g s n
  fates_stay {f = f} {g = g} same modelled = same_fates f g s (same modelled)

  -- and so does what others do
  pub others_stay : {f g : Others} → (IsTrue tells → (n : ℕ) (t : Tree) → f n t ≡ g n t)
      → IsTrue tells → (n : ℕ) (t : Tree) → others_of f s n t ≡ others_of g s n t
  others_stay {f = f} {g = g} same modelled = same_others f g s (same modelled)

-- the fates after one call of which that becomes by the list
later_by : (inner inner' : Fates) (s : Calls) {s' : Calls} (fate : InjectedFault) → fate ≡ next_fate s → s' ≡ one_came s
    → ((n : ℕ) → inner' n ≡ passed_on fate inner n) → (n : ℕ) → fates_of inner' s' n ≡ fates_of inner s (n + 1)
later_by inner inner' s fate is after same n =
    let one : suc n ≡ n + 1 = omega arith in
    ap (λ u. fates_of inner' u n) after
    ∙ same_fates inner' (passed_on (next_fate s) inner) (one_came s) (λ m. same m ∙ ap (λ f. passed_on f inner m) is) n
    ∙ ap (fates_of inner s) one

-- what others do after one call of which that becomes by the list
follow_by : (inner inner' : Others) (s : Calls) {s' : Calls} (fate : InjectedFault) → fate ≡ next_fate s → s' ≡ one_came s
    → ((n : ℕ) (t : Tree) → inner' n t ≡ passed_on fate inner n t) → Follow (others_of inner s) (others_of inner' s')
follow_by inner inner' s fate is after same n t =
    let one : suc n ≡ n + 1 = omega arith in
    ap (λ u. others_of inner' u n t) after
    ∙ same_others inner' (passed_on (next_fate s) inner) (one_came s)
    (λ m u. same m u ∙ ap (λ f. passed_on f inner m u) is) n t
    ∙ ap (λ m. others_of inner s m t) one

module _ (tells : Bool) (inner : Others) (s : Calls) {s' : Calls} (after : s' ≡ one_came s) where
  -- after one that isn't listed
  pub follow_passed : {inner' : Others} → Passes ≡ next_fate s → (IsTrue tells → Follow inner inner')
      → IsTrue tells → Follow (others_of inner s) (others_of inner' s')
  follow_passed {inner' = inner'} is follow modelled = follow_by inner inner' s Passes is after (follow modelled)

  -- after one that is made, and its answer lost
  pub follow_after : {inner' : Others} → FailsAfter ≡ next_fate s → (IsTrue tells → Follow inner inner')
      → IsTrue tells → Follow (others_of inner s) (others_of inner' s')
  follow_after {inner' = inner'} is follow modelled = follow_by inner inner' s FailsAfter is after (follow modelled)

  -- after one that isn't made
  pub follow_before : FailsBefore ≡ next_fate s → IsTrue tells → Follow (others_of inner s) (others_of inner s')
  follow_before is modelled = follow_by inner inner s FailsBefore is after (λ n t. refl)

module _ {A : Type 0} (tells : Bool) (inner : Fates) (s : Calls) {inner' : Fates} {s' : Calls} (after : s' ≡ one_came s) where
  -- one that isn't listed
  pub fated_passed : {r : Result A HostError} → Passes ≡ next_fate s → (IsTrue tells → FollowsPlan inner inner' r)
      → IsTrue tells → FollowsPlan (fates_of inner s) (fates_of inner' s') r
  fated_passed is fated modelled = record {
    failed = (fated modelled).failed ∙ ap (λ f. is_failing (joined f (inner 0))) is;
    later = later_by inner inner' s Passes is after (fated modelled).later;
  }

  -- one that is made, and its answer lost
  pub fated_after : {B : Type 0} {r : Result B HostError} → FailsAfter ≡ next_fate s → (IsTrue tells → FollowsPlan inner inner' r)
      → IsTrue tells → FollowsPlan {A = A} (fates_of inner s) (fates_of inner' s') (Err (Code Io))
  fated_after is fated modelled = record {
    failed = elim (inner 0) as (λ f. true ≡ is_failing (joined FailsAfter f)) [
      | Passes ↦ refl
      | FailsBefore ↦ refl
      | FailsAfter ↦ refl
    ] ∙ ap (λ f. is_failing (joined f (inner 0))) is;
    later = later_by inner inner' s FailsAfter is after (fated modelled).later;
  }

-- one that isn't made
pub fated_before : {A : Type 0} (tells : Bool) (inner : Fates) (s : Calls) {s' : Calls} → s' ≡ one_came s
    → FailsBefore ≡ next_fate s
    → IsTrue tells → FollowsPlan {A = A} (fates_of inner s) (fates_of inner s') (Err (Code Io))
fated_before tells inner s after is modelled = record {
  failed = ap (λ f. is_failing (joined f (inner 0))) is;
  later = later_by inner inner s FailsBefore is after (λ n. refl);
}

-- a handle that was got is closed again
pub fated_closed : {A : Type 0} {old mid new : Fates} {r : Result A HostError} → FollowsPlan old mid r
    → ((n : ℕ) → new n ≡ mid n) → FollowsPlan old new r
fated_closed fated same = record { failed = fated.failed; later = λ n. same n ∙ fated.later n }

pub follow_closed : (old mid new : Others) → Follow old mid → ((n : ℕ) (t : Tree) → new n t ≡ mid n t) → Follow old new
follow_closed old mid new follow same n t = same n t ∙ follow n t

-- a call whose answer is lost did what it did
pub told_lost : {A B : Type 0} {old new : Handles} {w v : HostModel} {call : HostCall} {shown : A → HostAnswer call}
    {shown' : B → HostAnswer call} (r : Result A HostError) → RefinesCall old new w v call shown r
    → RefinesCall old new w v call shown' (Err (Code Io))
told_lost {w = w} {call = call} (Ok a) modelled = record { meaning = tt; after = inr (inr (free_of w.tree call modelled.meaning, modelled.after)); keeps = modelled.keeps }
told_lost (Err Memory) modelled = record { meaning = tt; after = elim modelled.after [ inl stayed ↦ inl stayed | inr looked ↦ inr (inl looked) ]; keeps = modelled.keeps }
told_lost (Err (Code Io)) modelled = record { meaning = tt; after = modelled.after; keeps = modelled.keeps }
told_lost (Err (Code code)) modelled = record { meaning = tt; after = inr (inl modelled.after); keeps = modelled.keeps }

-- an open whose answer is lost, and the handle that it gave closed again
module _ {old mid new : Handles} {w u v : HostModel} {call : HostCall} {A B : Type 0} {shown : A → HostAnswer call}
    {shown' : B → HostAnswer call} (within : (h : ℕ) → contains old h ≡ true → contains mid h ≡ true)
    (closed : RefinesCall mid new u v Close (λ unit. unit) answered) where
  pub told_closed : {a : A} → RefinesCall old mid w u call shown (Ok a) → RefinesCall old new w v call shown' (Err (Code Io))
  told_closed opened = record {
    meaning = tt;
    after = inr (inr (
      free_of w.tree call opened.meaning,
      record {
        tree = closed.after.tree ∙ opened.after.tree;
        touched = closed.after.touched ∙ opened.after.touched;
      },
    ));
    keeps = λ h old new. closed.keeps h (within h old) new ∙ opened.keeps h old (within h old);
  }

pub finds_lost : {A B : Type 0} {old new : Handles} {left after : HostModel} {found : Tree} {call : HostCall}
    {shown : A → HostAnswer call} {shown' : B → HostAnswer call} (r : Result A HostError)
    → Finds old new left found after call shown r → Finds old new left found after call shown' (Err (Code Io))
finds_lost r (inl modelled) = inl (told_lost r modelled)
finds_lost r (inr failed) = inr (refl, failed.1)

-- ---- what a call leaves that fails

-- a call that didn't fail did what its rule says, or memory ran out
effect_told : {A : Type 0} {old new : Handles} {w v : HostModel} {call : HostCall} {shown : A → HostAnswer call}
    (r : Result A HostError) → has_failed r ≡ false → RefinesCall old new w v call shown r → MayTakeEffect call w v
effect_told {w = w} {v = v} {call = call} (Ok a) is modelled =
    inl (subst (λ a. EffectOf a call w v) (sym modelled.meaning) modelled.after)
effect_told (Err Memory) is modelled = inr modelled.after
effect_told (Err (Code Io)) is modelled = absurd (cc)
effect_told {w = w} {v = v} {call = call} (Err (Code code)) is modelled =
    inl (subst (λ a. EffectOf a call w v) (sym modelled.meaning) modelled.after)

-- and where it takes no memory, it did
effect_hosted : {A : Type 0} {old new : Handles} {w v : HostModel} {call : HostCall} {shown : A → HostAnswer call}
    (r : Result A ErrorCode) → has_failed (hosted r) ≡ false → RefinesCall old new w v call shown (hosted r)
    → TakesEffect call w v
effect_hosted {w = w} {v = v} {call = call} (Ok a) is modelled =
    subst (λ a. EffectOf a call w v) (sym modelled.meaning) modelled.after
effect_hosted (Err Io) is modelled = absurd (cc)
effect_hosted {w = w} {v = v} {call = call} (Err code) is modelled =
    subst (λ a. EffectOf a call w v) (sym modelled.meaning) modelled.after

-- a call that didn't fail was made
unfailed : {A : Type 0} {old new : Handles} {left after : HostModel} {found : Tree} {call : HostCall}
    {shown : A → HostAnswer call} {r : Result A HostError} → has_failed r ≡ false
    → Finds old new left found after call shown r → RefinesCall old new (changed_to found left) after call shown r
unfailed is (inl modelled) = modelled
unfailed is (inr failed) = absurd (cc)

-- what is left by the list and by the inner host, of a call that is made
left_after : (left after : HostModel) (found : Tree) (Effect : HostModel → HostModel → Type 0) (fate : InjectedFault)
    → (fate ≡ Passes → Effect (changed_to found left) after) → Leaves fate left found after Effect
    → Leaves (joined FailsAfter fate) left found after Effect
left_after left after found Effect Passes passed leaves = passed refl
left_after left after found Effect FailsBefore passed leaves = leaves
left_after left after found Effect FailsAfter passed leaves = leaves

module _ (fails finds : Bool) (inner : Fates) (s : Calls) (left after : HostModel) (found : Tree) where
  abbrev Inner : (HostModel → HostModel → Type 0) → Type 0
  Inner Effect = IsTrue fails → IsTrue finds → Leaves (inner 0) left found after Effect

  abbrev Listed : InjectedFault → (HostModel → HostModel → Type 0) → Type 0
  Listed fate Effect = IsTrue fails → IsTrue finds → Leaves (joined fate (inner 0)) left found after Effect

  -- one that isn't listed
  pub made_passed : (Effect : HostModel → HostModel → Type 0) → Passes ≡ next_fate s → Inner Effect
      → Listed (next_fate s) Effect
  made_passed Effect is made = subst (λ f. Listed f Effect) is made

  -- one that is made, and its answer lost
  pub made_after : {A : Type 0} {old new : Handles} (call : HostCall) {shown : A → HostAnswer call}
      {inner' : Fates} (r : Result A HostError) → FailsAfter ≡ next_fate s → (IsTrue fails → FollowsPlan inner inner' r)
      → (IsTrue finds → Finds old new left found after call shown r)
      → Inner (MayTakeEffect call) → Listed (next_fate s) (MayTakeEffect call)
  made_after call r is fated did made = subst (λ f. Listed f (MayTakeEffect call)) is (λ fails finds.
      left_after left after found (MayTakeEffect call) (inner 0) (λ passes.
      let well : has_failed r ≡ false = (fated fails).failed ∙ ap is_failing passes in
      effect_told r well (unfailed well (did finds))) (made fails finds))

  pub made_hosted : {A : Type 0} {old new : Handles} (call : HostCall) {shown : A → HostAnswer call}
      {inner' : Fates} (r : Result A ErrorCode) → FailsAfter ≡ next_fate s
      → (IsTrue fails → FollowsPlan inner inner' (hosted r))
      → (IsTrue finds → Finds old new left found after call shown (hosted r))
      → Inner (TakesEffect call) → Listed (next_fate s) (TakesEffect call)
  made_hosted call r is fated did made = subst (λ f. Listed f (TakesEffect call)) is (λ fails finds.
      left_after left after found (TakesEffect call) (inner 0) (λ passes.
      let well : has_failed (hosted r) ≡ false = (fated fails).failed ∙ ap is_failing passes in
      effect_hosted r well (unfailed well (did finds))) (made fails finds))

  -- one that isn't made
  pub made_before : (Effect : HostModel → HostModel → Type 0) → after ≡ left → FailsBefore ≡ next_fate s
      → Listed (next_fate s) Effect
  made_before Effect same is = subst (λ f. Listed f Effect) is (λ fails finds. same)

pub ruleset fate_rules = (
  fated_passed,
  fated_before,
  fated_after,
  fated_closed,
  follow_passed,
  follow_before,
  follow_after,
  told_lost,
  finds_lost,
  made_passed,
  made_before,
  made_after,
  made_hosted,
)

pub ruleset forget_rules = (fates_stay, others_stay)
