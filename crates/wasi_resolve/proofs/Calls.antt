-- A call of a modelled host by itself, and after others that leave the tree.
use Rattle.std.proofs.Common.{ℕ, ◌≡◌, inl, inr, true, List, [], ◌∷◌, ◌++◌, Result, Ok, Err, refl, sym, ap, subst, ◌∙◌, arith}
use Rattle.std.specs.Prelude.{All, Contains, is_ok, if◌then◌else◌}
use Rattle.std.specs.FinSet.{contains, insert, members}
use Rattle.std.proofs.lemmas.List.Elements.{All-nil, Contains-append_cases}
use Rattle.std.proofs.lemmas.Bool.Decides.{nat_tests}
use Rattle.wasi_host.specs.Tree.{Tree}
use Rattle.wasi_host.specs.ValidTree.{Reached}
use Rattle.wasi_host.specs.Agree.{Touches, OrMade}
use Rattle.wasi_host.specs.HostCall.{HostCall, Close}
use Rattle.wasi_host.specs.Answer.{HostAnswer, host_answer}
use Rattle.wasi_host.specs.Step.{step, found_by, made_by, starts_of}
use Rattle.wasi_host.specs.Steps.{◌>>=◌}
use Rattle.wasi_host.specs.HostLaws.{HostModel, Handles, RefinesCall, Stepped, AfterErr, answered, Means, MeansErr}
use Rattle.wasi_host.specs.declared.errors.ErrorCode.{ErrorCode}
use Rattle.wasi_host.specs.declared.errors.ErrorCode.TheVariants.{Io}
use Rattle.wasi_host.specs.declared.errors.HostError.{HostError}
use Rattle.wasi_host.specs.declared.errors.HostError.TheVariants.{Code, Memory}
use Rattle.wasi_resolve.specs.Resolved.{Meant, Resolved, TreeAfter, call_meant}
use Rattle.wasi_resolve.specs.WalkSteps.{OnlyLooks, ModelStays, IsFault}
use Rattle.wasi_host.proofs.Refusals.{answer_of}
use Rattle.wasi_host.proofs.Touching.{touches_with, touches_same, no_ends, touches_through, found_near, made_new, to_one}

-- ---- a call by itself

tree_err : (A : Type 0) (w v : HostModel) (call : HostCall) (e : HostError) → AfterErr w call e v
    → TreeAfter {A = A} w.tree (step w.tree call) v.tree (host_answer w.tree call) (Err e)
tree_err A w v call Memory after = elim after [ inl stayed ↦ stayed.tree | inr looked ↦ looked.tree ]
tree_err A w v call (Code Io) after = elim after [
  | inl stayed ↦ inl stayed.tree
  | inr (inl looked) ↦ inl looked.tree
  | inr (inr stepped) ↦ inr (ap is_ok (answer_of w.tree call stepped.0).1, stepped.1.tree)
]
tree_err A w v call (Code code) after = after.tree

near_or_made : (t : Tree) (call : HostCall) (n : ℕ) → Contains (found_by t call ++ made_by t call) n
    → OrMade (Reached t (starts_of call)) t (step t call) n
near_or_made t call n has = elim (Contains-append_cases (found_by t call) (made_by t call) n has) [
  | inl found ↦ inl (found_near t call n found)
  | inr made ↦ inr (made_new t call n made)
]

touched_ok : {w v : HostModel} {call : HostCall} {ends : List ℕ}
    → All (Contains (found_by w.tree call ++ made_by w.tree call)) ends
    → Stepped w call v
    → Touches w.tree v.tree (starts_of call) ends w.touched v.touched
touched_ok {w} {v} {call} {ends} asked stepped =
    subst (λ t. Touches w.tree t (starts_of call) ends w.touched v.touched) (sym stepped.tree)
    (touches_with (found_by w.tree call ++ made_by w.tree call) stepped.touched (near_or_made w.tree call) asked)

touched_err : (w v : HostModel) (call : HostCall) (e : HostError) → AfterErr w call e v
    → Touches w.tree v.tree (starts_of call) [] w.touched v.touched
touched_err w v call Memory after = elim after [
  | inl stayed ↦ touches_same stayed.touched
  | inr looked ↦ touches_with (found_by w.tree call) looked.touched (λ n has. inl (found_near w.tree call n has)) (All-nil _)
]
touched_err w v call (Code Io) after = elim after [
  | inl stayed ↦ touches_same stayed.touched
  | inr (inl looked) ↦ touches_with (found_by w.tree call) looked.touched (λ n has. inl (found_near w.tree call n has)) (All-nil _)
  | inr (inr stepped) ↦ touched_ok (All-nil _) stepped.1
]
touched_err w v call (Code code) after =
    touches_with (found_by w.tree call) after.touched (λ n has. inl (found_near w.tree call n has)) (All-nil _)

module _ {A : Type 0} {old new : Handles} {w v : HostModel} {call : HostCall} {shown : A → HostAnswer call} where
  -- it means what the table says
  pub call_ok : {a : A} → (ends : List ℕ) → All (Contains (found_by w.tree call ++ made_by w.tree call)) ends
      → ((h : ℕ) → contains old h ≡ true → contains new h ≡ true) → RefinesCall old new w v call shown (Ok a)
      → Resolved old w v (call_meant w.tree call ends) shown (Ok a)
  call_ok ends asked stays modelled = record {
    answer = modelled.meaning;
    tree = modelled.after.tree;
    touched = touched_ok asked modelled.after;
    keeps = λ h live. modelled.keeps h live (stays h live);
  }

  pub call_err : (e : HostError) (ends : List ℕ) → new ≡ old → RefinesCall old new w v call shown (Err e)
      → Resolved old w v (call_meant w.tree call ends) shown (Err e)
  call_err e ends same modelled = record {
    answer = modelled.meaning;
    tree = tree_err A w v call e modelled.after;
    touched = touched_err w v call e modelled.after;
    keeps = λ h live. modelled.keeps h live (subst (λ s. contains s h ≡ true) (sym same) live);
  }

-- what was live is live with a new handle
pub still_live : (old : Handles) {new : Handles} (h : ℕ) → new ≡ insert old h → (q : ℕ) → contains old q ≡ true
    → contains new q ≡ true
still_live old h got q live = subst (λ s. contains s q ≡ true) (sym got) (grind (arith, members, nat_tests))

pub same_live : {old new : Handles} → new ≡ old → (q : ℕ) → contains old q ≡ true → contains new q ≡ true
same_live same q live = subst (λ s. contains s q ≡ true) (sym same) live

-- the handle is closed
pub close_stays : {live old new : Handles} {w v : HostModel} → RefinesCall old new w v Close (λ unit. unit) answered
    → ((q : ℕ) → contains live q ≡ true → (contains old q ≡ true) × (contains new q ≡ true))
    → ModelStays live w v
close_stays modelled within = record {
  tree = modelled.after.tree;
  touched = modelled.after.touched;
  keeps = λ q live. modelled.keeps q (within q live).0 (within q live).1;
}

-- ---- a call that leaves the tree

tree_same : {A B : Type 0} {t stepped t' : Tree} (meant : Result B ErrorCode) (shown : A → B) (r : Result A HostError)
    → (is_ok meant ≡ true → stepped ≡ t) → Means shown meant r
    → TreeAfter t stepped t' meant r → t' ≡ t
tree_same meant shown (Ok a) leaves means after = after ∙ leaves (ap is_ok means)
tree_same meant shown (Err Memory) leaves means after = after
tree_same meant shown (Err (Code Io)) leaves means after = elim after [ inl same ↦ same | inr stepped ↦ stepped.1 ∙ leaves stepped.0 ]
tree_same meant shown (Err (Code code)) leaves means after = after

pub looks_still : {A B : Type 0} {live : Handles} {w v : HostModel} {m : Meant B} {shown : A → B} {r : Result A HostError}
    → v.tree ≡ w.tree → Resolved live w v m shown r → OnlyLooks live w v m.starts
looks_still {w = w} {v = v} {m = m} same resolved = record {
  tree = same;
  touched = subst (λ t. Touches w.tree t m.starts [] w.touched v.touched) same (no_ends resolved.touched);
  keeps = resolved.keeps;
}

pub looks_of : {A B : Type 0} {live : Handles} {w v : HostModel} {m : Meant B} {shown : A → B} (r : Result A HostError)
    → (is_ok m.answer ≡ true → m.stepped ≡ w.tree) → Resolved live w v m shown r → OnlyLooks live w v m.starts
looks_of {m = m} {shown = shown} r leaves resolved =
    looks_still (tree_same m.answer shown r leaves resolved.answer resolved.tree) resolved

-- a refusal, or a failure, of what left the tree
pub resolved_err : {A B : Type 0} {live : Handles} {w v : HostModel} {starts : List ℕ} (m : Meant B) (shown : A → B)
    (e : HostError) → m.starts ≡ starts → MeansErr m.answer e → OnlyLooks live w v starts
    → Resolved live w v m shown (Err e)
resolved_err {A} {w = w} {v = v} m shown e at means looks = record {
  answer = means;
  tree = still e;
  touched = subst (λ t. Touches w.tree t m.starts [] w.touched v.touched) (sym looks.tree)
      (subst (λ ns. Touches w.tree w.tree ns [] w.touched v.touched) (sym at) looks.touched);
  keeps = looks.keeps;
}
  where
    still : (x : HostError) → TreeAfter {A = A} w.tree m.stepped v.tree m.answer (Err x)
    still Memory = looks.tree
    still (Code Io) = inl looks.tree
    still (Code code) = looks.tree

-- an answer of what leaves the tree, of which nothing need be touched
pub found_ok : {A B : Type 0} {live : Handles} {w v : HostModel} {starts : List ℕ} {meant : Result B ErrorCode}
    (shown : A → B) (a : A) → meant ≡ Ok (shown a) → OnlyLooks live w v starts
    → Resolved live w v (record { starts = starts; answer = meant; stepped = w.tree; ends = [] }) shown (Ok a)
found_ok {w = w} {v = v} {starts = starts} shown a means looks = record {
  answer = means;
  tree = looks.tree;
  touched = subst (λ t. Touches w.tree t starts [] w.touched v.touched) (sym looks.tree) looks.touched;
  keeps = looks.keeps;
}

-- a code that is meant
pub err_means : {B : Type 0} (meant : Result B ErrorCode) (code : ErrorCode) → meant ≡ Err code
    → MeansErr meant (Code code)
err_means meant Io is = tt
err_means meant code is = is

-- a fault, which says nothing of what is meant
pub fault_means : {B : Type 0} (meant : Result B ErrorCode) {e : HostError} → IsFault e → MeansErr meant e
fault_means meant (inl is) = subst (MeansErr meant) (sym is) tt
fault_means meant (inr is) = subst (MeansErr meant) (sym is) tt

-- a first step is refused, or fails, and so does the whole
pub means_then : {B C : Type 0} (r : Result B ErrorCode) (next : B → Result C ErrorCode) (e : HostError) → MeansErr r e
    → MeansErr (r >>= next) e
means_then r next Memory means = tt
means_then r next (Code Io) means = tt
means_then r next (Code code) means = ap (λ x. x >>= next) means

-- ---- one after another

-- from nodes that are reached
module _ {first live : Handles} {w v u : HostModel} {starts ds : List ℕ} (so_far : OnlyLooks first w v starts)
    (near : (d : ℕ) → Contains ds d → Reached w.tree starts d)
    (within : (h : ℕ) → contains first h ≡ true → contains live h ≡ true) where
  pub looks_through : OnlyLooks live v u ds → OnlyLooks first w u starts
  looks_through next = record {
    tree = next.tree ∙ so_far.tree;
    touched =
        touches_through so_far.touched near
        (subst (λ t. Touches t t ds [] v.touched u.touched) so_far.tree next.touched);
    keeps = λ h is. next.keeps h (within h is) ∙ so_far.keeps h is;
  }

  -- as from the starts
  pub resolved_through : {A B : Type 0} {m : Meant B} {shown : A → B} {r : Result A HostError} → m.starts ≡ ds
      → Resolved live v u m shown r → Resolved first w u (record m { starts = starts }) shown r
  resolved_through {m = m} {r = r} at next = record {
    answer = next.answer;
    tree = subst (λ t. TreeAfter t m.stepped u.tree m.answer r) so_far.tree next.tree;
    touched =
        touches_through so_far.touched near
        (subst (λ ns. Touches w.tree u.tree ns (if is_ok r then m.ends else []) v.touched u.touched) at
        (subst (λ t. Touches t u.tree m.starts
        (if is_ok r then m.ends else []) v.touched u.touched) so_far.tree next.touched));
    keeps = λ h is. next.keeps h (within h is) ∙ so_far.keeps h is;
  }

-- from one node that is reached
module _ {first live : Handles} {w v u : HostModel} {s d : ℕ} (so_far : OnlyLooks first w v (s ∷ [])) (near : Reached w.tree
    (s ∷ []) d)
    (within : (h : ℕ) → contains first h ≡ true → contains live h ≡ true) where
  pub looks_then : OnlyLooks live v u (d ∷ []) → OnlyLooks first w u (s ∷ [])
  looks_then next = looks_through so_far (to_one near) within next

  pub resolved_then : {A B : Type 0} {m : Meant B} {shown : A → B} {r : Result A HostError} → m.starts ≡ d ∷ []
      → Resolved live v u m shown r → Resolved first w u (record m { starts = s ∷ [] }) shown r
  resolved_then at next = resolved_through so_far (to_one near) within at next

pub looks_stay : {first : Handles} {w v u : HostModel} {starts : List ℕ} → OnlyLooks first w v starts → ModelStays first v u
    → OnlyLooks first w u starts
looks_stay {w = w} {starts = starts} looks stayed = record {
  tree = stayed.tree ∙ looks.tree;
  touched = subst (Touches w.tree w.tree starts [] w.touched) (sym stayed.touched) looks.touched;
  keeps = λ h is. stayed.keeps h is ∙ looks.keeps h is;
}

pub resolved_stay : {A B : Type 0} {first : Handles} {w v u : HostModel} {m : Meant B} {shown : A
    → B} {r : Result A HostError}
    → Resolved first w v m shown r → ModelStays first v u → Resolved first w u m shown r
resolved_stay {w = w} {v = v} {u = u} {m = m} {r = r} resolved stayed = record {
  answer = resolved.answer;
  tree = subst (λ t. TreeAfter w.tree m.stepped t m.answer r) (sym stayed.tree) resolved.tree;
  touched =
      subst (λ t. Touches w.tree t m.starts (if is_ok r then m.ends else []) w.touched u.touched)
      (sym stayed.tree)
      (subst (Touches w.tree v.tree m.starts (if is_ok r then m.ends else []) w.touched)
      (sym stayed.touched) resolved.touched);
  keeps = λ h is. stayed.keeps h is ∙ resolved.keeps h is;
}

-- nothing was asked
pub looks_none : (first : Handles) (w : HostModel) (starts : List ℕ) → OnlyLooks first w w starts
looks_none first w starts = record { tree = refl; touched = touches_same refl; keeps = λ h is. refl }

pub stayed_then : {live : Handles} {w v u : HostModel} → ModelStays live w v → ModelStays live v u → ModelStays live w u
stayed_then first second = record {
  tree = second.tree ∙ first.tree;
  touched = second.touched ∙ first.touched;
  keeps = λ h is. second.keeps h is ∙ first.keeps h is;
}

pub stayed_none : (live : Handles) (w : HostModel) → ModelStays live w w
stayed_none live w = record { tree = refl; touched = refl; keeps = λ h is. refl }
