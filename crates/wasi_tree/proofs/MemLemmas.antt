-- Lemmas on the host in memory: what its live handles stand for, and that it has no faults.
use Rattle.std.proofs.Common.{◌≡◌, ◌≢◌, ◌<◌, inl, inr, ℕ, Bool, true, false, cond, List, [], Option, Some, Result, Ok, Err, IsErrAnd, refl, sym, ap, ◌∙◌, arith}
use Rattle.std.proofs.lemmas.Bool.{true≢false}
use Rattle.std.specs.Ordering.{nat_cmp}
use Rattle.std.specs.FinSet.{contains, empty, contains-empty}
use Rattle.wasi_host.specs.Tree.{Tree, is_directory, node_at, next_of, child, hold_one}
use Rattle.wasi_host.specs.HostCall.{HostCall, OpenAt, StatAt, ReadLinkAt, MakeDirAt, SymlinkAt, LinkAt, RenameAt, UnlinkAt, RemoveDirAt, TimesAt, Access, Stat, SetTimes, Pread, Pwrite, Append, SetSize, Sync, Advise, Flags, ListDir, Dup, Close}
use Rattle.wasi_host.specs.Refusal.{refusal, first_rule, naming_rules, loop_rules, moving_rules, renaming_rules}
use Rattle.wasi_host.specs.Answer.{HostAnswer}
use Rattle.wasi_host.specs.FurtherLaws.{FollowsPlan}
use Rattle.wasi_host.specs.HostLaws.{AllHeld, IsHeld, HasCause, never_fails}
use Rattle.wasi_host.specs.declared.errors.ErrorCode.TheVariants.{Io}
use Rattle.wasi_host.specs.declared.errors.HostError.{HostError}
use Rattle.wasi_host.specs.declared.errors.HostError.TheVariants.{Code, Memory}
use Rattle.wasi_host.specs.declared.injected_fault.InjectedFault.TheVariants.{Passes}
use Rattle.wasi_host.specs.declared.open_handle.AccessMode.TheVariants.{PathOnly}
use Rattle.wasi_host.proofs.Changes.{directory_within}
use Rattle.wasi_host.proofs.Refusals.{refusal_of, part_refuses}
use Rattle.wasi_tree.specs.MemState.{HeldMap, MemState, live_of, held_in, model_of}
use Rattle.wasi_tree.specs.Sound.{HoldsNodes, NodesStay}
use Rattle.wasi_tree.specs.TouchedTree.{Touched, Grows, RefusedByRules, FollowsRules}
use Rattle.wasi_tree.proofs.TouchedLemmas.{held_stays}
use Rattle.wasi_tree.proofs.SlotLemmas.{holds-released, holds-given}

-- a live handle's node is in the tree; the first part of the conclusion shows the call to match
pub held_within : (t : Tree) (HasRoom : ℕ → Type 0) (handles : HeldMap) (h : ℕ) → HoldsNodes t HasRoom handles
    → contains (live_of handles) h ≡ true
    → (contains (live_of handles) h ≡ true) × ((held_in handles h).node < next_of t) × IsHeld t (held_in handles h)
    × HasRoom (held_in handles h).node
held_within t HasRoom handles h holds live =
    let is : IsHeld t (held_in handles h) = holds.each h live in (live, is.within, is, holds.room h live)

-- a directory's handle, for its path alone
pub path_held : (t : Tree) (n : ℕ) → is_directory (node_at t n).content ≡ true
    → IsHeld t (record { node = n; mode = PathOnly })
path_held t n directory = record {
  within = directory_within t n directory;
  writes_file = λ writes. absurd (true≢false (sym writes));
}

-- what always holds of the state
pub all_held : (m : MemState) (HasRoom : ℕ → Type 0) → HoldsNodes m.tree HasRoom m.handles
    → AllHeld (live_of m.handles) (model_of m)
all_held m HasRoom holds = record { each = holds.each }

-- with no live handle
pub holds_none : (t : Tree) (HasRoom : ℕ → Type 0) (handles : HeldMap) → live_of handles ≡ empty
    → HoldsNodes t HasRoom handles
holds_none t HasRoom handles none = record { each = λ h live. absurd (never h live); room = λ h live. absurd (never h live) }
  where
    never : (h : ℕ) → contains (live_of handles) h ≡ true → ⊥
    never h live = true≢false (sym live ∙ ap (λ l. contains l h) none ∙ contains-empty nat_cmp h)

-- the tree goes on, and what has room has it still
pub holds-on : {t u : Tree} {HasRoom StillHasRoom : ℕ → Type 0} {handles : HeldMap} → HoldsNodes t HasRoom handles
    → NodesStay t u → Grows HasRoom StillHasRoom → HoldsNodes u StillHasRoom handles
holds-on holds stays grows = record {
  each = λ h live. held_stays stays (holds.each h live);
  room = λ h live. grows (held_in _ h).node (holds.room h live);
}

-- ---- no rule is `Io`

naming_io : (t : Tree) (old : ℕ) (old_name : List ℕ) (new : ℕ) (new_name : List ℕ) (requires_dir : Bool)
    → first_rule (naming_rules t old old_name new new_name requires_dir) ≢ Some Io
naming_io t old old_name new new_name requires_dir io = grind (arith)

loop_io : (t : Tree) (old new : ℕ) (found there : Option ℕ) → first_rule (loop_rules t old new found there) ≢ Some Io
loop_io t old new found there io = grind (arith)

moving_io : (t : Tree) (old new : ℕ) (found there : Option ℕ) (one : Bool)
    → first_rule (cond one [] (moving_rules t old new found there)) ≢ Some Io
moving_io t old new found there true io = absurd (cc)
moving_io t old new found there false io = grind (arith)

renaming_io : (t : Tree) (old new : ℕ) (found there : Option ℕ)
    → first_rule (renaming_rules t old new found there) ≢ Some Io
renaming_io t old new found there io =
    let one : Bool = hold_one found there in
    elim (part_refuses (loop_rules t old new found there) (cond one [] (moving_rules t old new found there)) io) [
      | inl is ↦ loop_io t old new found there is
      | inr is ↦ moving_io t old new found there one is
    ]

rename_io : (t : Tree) (old : ℕ) (old_name : List ℕ) (new : ℕ) (new_name : List ℕ) (requires_dir : Bool)
    → refusal t (RenameAt old old_name new new_name requires_dir) ≢ Some Io
unfolding refusal
rename_io t old old_name new new_name requires_dir io =
    let found : Option ℕ = child t old old_name in
    let there : Option ℕ = child t new new_name in
    elim (part_refuses (naming_rules t old old_name new new_name requires_dir) (renaming_rules t old new found there) io) [
      | inl is ↦ naming_io t old old_name new new_name requires_dir is
      | inr is ↦ renaming_io t old new found there is
    ]

-- no rule of the table is `Io`
never_io : (t : Tree) (call : HostCall) → refusal t call ≢ Some Io
unfolding refusal
never_io t (OpenAt d name o) io = grind (arith)
never_io t (StatAt d name) io = grind (arith)
never_io t (ReadLinkAt d name) io = grind (arith)
never_io t (MakeDirAt d name) io = grind (arith)
never_io t (SymlinkAt text d name) io = grind (arith)
never_io t (LinkAt old old_name new new_name) io = grind (arith)
never_io t (RenameAt old old_name new new_name requires_dir) io =
    rename_io t old old_name new new_name requires_dir io
never_io t (UnlinkAt d name) io = grind (arith)
never_io t (RemoveDirAt d name) io = grind (arith)
never_io t (TimesAt d name atime mtime) io = grind (arith)
never_io t (Access d) io = grind (arith)
never_io t (Stat n) io = grind (arith)
never_io t (SetTimes n atime mtime) io = grind (arith)
never_io t (Pread file offset length) io = grind (arith)
never_io t (Pwrite file offset piece) io = grind (arith)
never_io t (Append file piece) io = grind (arith)
never_io t (SetSize file size) io = grind (arith)
never_io t (Sync n) io = grind (arith)
never_io t (Advise n offset length advice) io = grind (arith)
never_io t (Flags n) io = grind (arith)
never_io t (ListDir held) io = grind (arith)
never_io t (Dup held) io = grind (arith)
never_io t Close io = grind (arith)

no_fault : {A : Type 0} (result : Result A HostError) → result ≢ Err (Code Io) → HasCause never_fails never_fails result
no_fault result never = record { later = omega arith; most = refl; io = λ is. absurd (never is) }

pub cause_of : {A : Type 0} {s u : Touched} (call : HostCall) (error : HostError) → RefusedByRules s u call error
    → HasCause {A = A} never_fails never_fails (Err error)
cause_of call Memory is = no_fault (Err Memory) (λ io. (cc))
cause_of {s = s} call (Code code) is =
    no_fault (Err (Code code)) (λ io.
    let same : code ≡ Io = (cc) in
    never_io s.tree call (refusal_of s.tree call (is.meant ∙ ap Err same)))

-- of a call whose refusal is passed on
pub cause_passed : {A : Type 0} {s u : Touched} {call : HostCall} {error : HostError} (result : Result A HostError)
    → IsErrAnd result (λ e. e ≡ error) → RefusedByRules s u call error → HasCause never_fails never_fails result
cause_passed (Ok a) is refused = absurd is
cause_passed {call = call} {error = error} (Err passed) is refused = rw is (cause_of call error refused)

pub cause_done : {A : Type 0} (s u : Touched) (call : HostCall) (shown : A → HostAnswer call)
    (result : Result A HostError) → FollowsRules s u call shown result → HasCause never_fails never_fails result
cause_done s u call shown (Ok a) is = no_fault (Ok a) (λ io. (cc))
cause_done s u call shown (Err error) is = cause_of call error is

-- a host that has no faults tells that its calls pass
pub fated : {A : Type 0} (result : Result A HostError) → HasCause never_fails never_fails result
    → FollowsPlan (λ _. Passes) (λ _. Passes) result
fated (Ok a) cause = record { failed = refl; later = λ n. refl }
fated (Err Memory) cause = record { failed = refl; later = λ n. refl }
fated (Err (Code Io)) cause = absurd (omega (arith, cause.io refl))
fated (Err (Code code)) cause = record { failed = refl; later = λ n. refl }

pub ruleset mem_rules = (holds_none, held_within, path_held, all_held, holds-on, holds-released, holds-given)
