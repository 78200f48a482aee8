-- What a call of a tree that others change finds and leaves.
use Rattle.std.proofs.Common.{◌≡◌, ◌∙◌, ◌+◌, ◌-◌, ◌^◌, ◌<◌, ◌≤◌, ℕ, List, cond, nat_lt, sym, ap, inl, arith, Result}
use Rattle.std.proofs.lemmas.Bool.{lt-ltb, le-ltb}
use Rattle.wasi_host.specs.Answer.{HostAnswer}
use Rattle.wasi_host.specs.FurtherLaws.{Finds, Follow, changed_to}
use Rattle.wasi_host.specs.HostCall.{HostCall}
use Rattle.wasi_host.specs.HostLaws.{Handles, RefinesCall, HostModel}
use Rattle.wasi_host.specs.Tree.{Tree}
use Rattle.wasi_host.specs.declared.errors.HostError.{HostError}
use Rattle.wasi_tree_shared.specs.Changes.{all_made, due_before, made_by_others}
use Rattle.wasi_tree_shared.specs.declared.change.Change.{Change}

-- it finds the tree with the changes before it
pub finds_changed : {A : Type 0} {old new : Handles} {left after : HostModel} {found : Tree} {call : HostCall}
    {shown : A → HostAnswer call} (r : Result A HostError)
    → RefinesCall old new (changed_to found left) after call shown r → Finds old new left found after call shown r
finds_changed r modelled = inl modelled

-- the call of a number finds the changes before it made
pub found_numbered : (calls number : ℕ) (changes : List Change) (t : Tree) → number ≡ calls + 1 → number ≤ 2 ^ 64 - 1
    → made_by_others calls changes 0 t ≡ all_made t (due_before number changes)
unfolding made_by_others
found_numbered calls number changes t is fits =
    let at : calls + 0 + 1 ≡ number = omega (arith, is) in
    ap (λ b. cond b (all_made t (due_before (calls + 0 + 1) changes)) t)
    (lt-ltb (calls + 0) (2 ^ 64 - 1) (omega (arith, is, fits)))
    ∙ ap (λ n. all_made t (due_before n changes)) at

-- and the changes after it are to come
pub follow_numbered : (calls number : ℕ) (changes changes' : List Change) → number ≡ calls + 1
    → ((n : ℕ) → number < n → due_before n changes' ≡ due_before n changes)
    → Follow (made_by_others calls changes) (made_by_others number changes')
unfolding made_by_others
follow_numbered calls number changes changes' is later n t =
    let at : number + n ≡ calls + (n + 1) = omega (arith, is) in
    ap (λ m. cond (nat_lt m (2 ^ 64 - 1)) (all_made t (due_before (m + 1) changes')) t) at
    ∙ ap (λ due. cond (nat_lt (calls + (n + 1)) (2 ^ 64 - 1)) (all_made t due) t)
    (later (calls + (n + 1) + 1) (omega (arith, is)))

-- no change is made before a call that has no number, nor before those after it
pub unchanged_late : (calls : ℕ) (changes : List Change) (n : ℕ) (t : Tree) → 2 ^ 64 - 1 ≤ calls
    → made_by_others calls changes n t ≡ t
unfolding made_by_others
unchanged_late calls changes n t late =
    ap (λ b. cond b (all_made t (due_before (calls + n + 1) changes)) t)
    (le-ltb (calls + n) (2 ^ 64 - 1) (omega (arith, late)))

pub follow_unnumbered : (calls : ℕ) (changes : List Change) → 2 ^ 64 - 1 ≤ calls
    → Follow (made_by_others calls changes) (made_by_others calls changes)
follow_unnumbered calls changes late n t =
    unchanged_late calls changes n t late ∙ sym (unchanged_late calls changes (n + 1) t late)

pub ruleset shared_rules = (finds_changed)
