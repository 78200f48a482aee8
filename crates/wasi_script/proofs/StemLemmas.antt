-- From which directory descriptors stem, turn by turn.
use Rattle.std.proofs.Common.{ℕ, suc, ◌^◌, ◌<◌, ◌==◌, ◌≡◌, ◌≢◌, ◌⊎◌, inl, inr, Bool, true, false, cond, List, [], ◌∷◌, ◌++◌, refl, ap, sym, ◌∙◌, arith, slice_get, Some, Result, Ok, Err}
use Rattle.std.specs.Prelude.{Contains}
use Rattle.std.specs.FinMap.{get}
use Rattle.std.specs.List.{flat_map}
use Rattle.std.proofs.lemmas.Option.{slice_get_within}
use Rattle.std.proofs.lemmas.List.Elements.{Contains-append_cases}
use Rattle.wasi_fs.specs.declared.perms.FsPerms.{FsPerms}
use Rattle.wasi_host.specs.HostLaws.{HostModel}
use Rattle.wasi_host.specs.Tree.{Tree, next_of}
use Rattle.wasi_host.specs.ValidTree.{Reached, root, held}
use Rattle.wasi_audit.specs.Audits.{Stems, is_named_from, stems_after}
use Rattle.wasi_audit.specs.declared.effect.AuditEffect.TheVariants.{Opened, Renumbered}
use Rattle.wasi_audit.proofs.Membership.{named_from, opened_to, opened_other, closed_other, renumbered_to, renumbered_other, renumbered_itself}
use Rattle.wasi_guest.specs.declared.answer.Answer.{Answer}
use Rattle.wasi_guest.specs.declared.answer.Answer.TheVariants as answers
use Rattle.wasi_guest.specs.declared.answer.Value.{Value}
use Rattle.wasi_guest.specs.declared.answer.Value.TheVariants.{Number}
use Rattle.wasi_guest.specs.declared.call.Call.{Call}
use Rattle.wasi_guest.specs.declared.call.Call.TheVariants as calls
use Rattle.wasi_p1_model.specs.CallTransition.{Turns, in_model}
use Rattle.wasi_p1_model.specs.DescriptorLaws.{FitsTable}
use Rattle.wasi_p1_types.specs.Front.{FueledCall, with_fuel}
use Rattle.wasi_p1_types.specs.Guest.{Guest, State, node_in}
use Rattle.wasi_p1_model.specs.Calls.{descriptors_named, turn}
use Rattle.wasi_p1_model.specs.Trace.{TraceStep, Played, Faulted, answer_of}
use Rattle.wasi_p1_model.specs.Stems.{HasPerms, stems_from}
use Rattle.wasi_p1_types.specs.declared.error.P1Error.{P1Error}
use Rattle.wasi_p1_types.specs.declared.error.P1Error.TheVariants.{Errno, Trap, Exit, Memory}
use Rattle.wasi_p1_model.proofs.Changing.{slot_perms}
use Rattle.wasi_p1_model.proofs.Closing.{closes_number, renumbering_closes}
use Rattle.wasi_p1_model.proofs.DescriptorLaws.{opens_the_largest_closed}
use Rattle.wasi_p1_model.proofs.LocalCalls.{changes, leaves}
use Rattle.wasi_p1_model.proofs.Numbers.{other_number, same_number}
use Rattle.wasi_p1_model.proofs.Permitting.{turned_permitted}
use Rattle.wasi_p1_model.proofs.Stemming.{turn_stems}
use Rattle.wasi_script.specs.AuditedRun.{Covers, NumbersAreShort}
use Rattle.wasi_script.specs.Through.{effect_of, IsShort, stems_behind, stemmed, GoesThrough, IsLocalStep}

-- ---- one turn more

-- what the numbers stem from after all of these turns
abbrev pub stems_over : Stems → List TraceStep → Stems
stems_over stems [] = stems
stems_over stems (t ∷ turns) = stems_over (stems_behind stems t) turns

pub over_more : (stems : Stems) (turns : List TraceStep) (t : TraceStep)
    → stems_over stems (turns ++ t ∷ []) ≡ stems_behind (stems_over stems turns) t
over_more stems [] t = refl
over_more stems (x ∷ turns) t = over_more (stems_behind stems x) turns t

pub stemmed_more : (stems : Stems) (turns : List TraceStep) (t : TraceStep)
    → stemmed stems (turns ++ t ∷ []) ≡ stemmed stems turns ++ record { stems = stems_over stems turns; turn = t } ∷ []
stemmed_more stems [] t = refl
stemmed_more stems (x ∷ turns) t =
    ap (λ l. record { stems = stems; turn = x } ∷ l) (stemmed_more (stems_behind stems x) turns t)

-- ---- each directory or file stems from a directory that was given

-- where a number doesn't become one that stands for nothing its stem is that of what it stems from
kept_stem : {i : ℕ} (stems : Stems) (call : Call) (answer : Answer) (fd : ℕ)
    → ((x : Value) → call ≡ calls.FdClose fd → answer ≡ answers.Ok x → ⊥)
    → ((to : ℕ) (x : Value) → call ≡ calls.FdRenumber fd to → answer ≡ answers.Ok x → fd ≢ to → ⊥)
    → get stems (stems_from call answer fd) ≡ Some i → get (stems_after (effect_of call answer) stems) fd ≡ Some i
kept_stem {i} stems (calls.PathOpen from _ _ _ _ _ _ _) (answers.Ok (Number new)) fd shuts left is = by (fd == new) refl is
  where
    by : (b : Bool) → (fd == new) ≡ b → get stems (cond b from fd) ≡ Some i
        → get (stems_after (Opened from new) stems) fd ≡ Some i
    by true at is = ap (get (stems_after (Opened from new) stems)) (same_number fd new at) ∙ opened_to stems from new ∙ is
    by false at is = opened_other stems from new fd (other_number fd new at) ∙ is
kept_stem {i} stems (calls.FdClose number) (answers.Ok x) fd shuts left is =
    closed_other stems number fd (λ same. shuts x (ap calls.FdClose (sym same)) refl) ∙ is
kept_stem {i} stems (calls.FdRenumber from to) (answers.Ok x) fd shuts left is =
    by (from == to) refl (fd == to) refl (fd == from) refl is
  where
    by : (b : Bool) → (from == to) ≡ b → (c : Bool) → (fd == to) ≡ c → (e : Bool) → (fd == from) ≡ e
        → get stems (cond c from fd) ≡ Some i → get (stems_after (Renumbered from to) stems) fd ≡ Some i
    by true same c at e at' is =
        let one : from ≡ to = same_number from to same in
        let still : stems_after (Renumbered from to) stems ≡ stems =
        ap (λ k. stems_after (Renumbered from k) stems) (sym one) ∙ renumbered_itself stems from in
        ap (λ (s : Stems). get s fd) still ∙ itself c at is
      where
        itself : (c : Bool) → (fd == to) ≡ c → get stems (cond c from fd) ≡ Some i → get stems fd ≡ Some i
        itself true at is = ap (get stems) (same_number fd to at ∙ sym (same_number from to same)) ∙ is
        itself false at is = is
    by false apart true at e at' is = ap (get (stems_after (Renumbered from to) stems)) (same_number fd to at)
        ∙ renumbered_to stems from to (other_number from to apart) ∙ is
    by false apart false at true at' is =
        let own : fd ≡ from = same_number fd from at' in
        absurd (left to x (ap (λ k. calls.FdRenumber k to) (sym own)) refl (other_number fd to at))
    by false apart false at false at' is =
        renumbered_other stems from to fd (other_number from to apart) (other_number fd from at') (other_number fd to at) ∙ is
kept_stem stems call answer fd shuts left is = is

pub covers_on : (stems : Stems) (n : ℕ) (t : TraceStep) → Played t ⊎ Faulted t → Covers stems n t.before.guest
    → Covers (stems_behind stems t) n t.after.guest
covers_on stems n t took covers fd perms has =
    let (i, is, within) = covers _ perms (turn_stems t took fd perms has) in (
      i,
      kept_stem stems t.call.call t.answer fd
          (λ x call answer. closes_number t fd x call answer took perms has)
          (λ to x call answer other. renumbering_closes t fd to x call answer other took perms has) is,
      within,
    )

-- ---- what is near a call is come to through some directory

reached_root : {t : Tree} {roots : List ℕ} (n : ℕ) → Reached t roots n → (d : ℕ) × Contains roots d
reached_root n (root m has) = (m, has)
reached_root n (held d m name above has) = reached_root d above

-- a member of all the lists is one of some
among_some : (f : ℕ → List ℕ) (fds : List ℕ) (n : ℕ) → Contains (flat_map f fds) n
    → (fd : ℕ) × Contains fds fd × Contains (f fd) n
among_some f [] n has = absurd (omega (arith, has.1))
among_some f (x ∷ fds) n has = elim (Contains-append_cases (f x) (flat_map f fds) n has) [
  | inl here ↦ (x, (0, omega arith, refl), here)
  | inr later ↦ let (fd, (i, within, is), at) = among_some f fds n later in (fd, (suc i, omega (arith, within), is), at)
]

-- a call that names a directory or file goes through some directory
named_through : {perms : FsPerms} (stems : Stems) (n : ℕ) (g : Guest) (call : Call) (fd : ℕ) → Covers stems n g
    → Contains (descriptors_named g.memory call) fd → HasPerms g fd perms
    → (i : ℕ) × (is_named_from stems (descriptors_named g.memory call) i ≡ true) × (i < n)
named_through {perms} stems n g call fd covers named has =
    let (i, is, within) = covers fd perms has in
    (i, (named_from stems (descriptors_named g.memory call) i).1 (fd, named, is), within)

pub near_through : (stems : Stems) (most : ℕ) (t : TraceStep) → Played t ⊎ Faulted t → Covers stems most t.before.guest
    → (n : ℕ) → IsLocalStep n t
    → (i : ℕ) × GoesThrough i (record { stems = stems; turn = t }) × (i < most)
near_through stems most t took covers n (inl reached) =
    let g = t.before.guest in
    let (d, has) = reached_root n reached in
    let (fd, named, at) = among_some (λ fd. node_in (slice_get g.slots fd)) _ d has in
    let (perms, is) = slot_perms (slice_get g.slots fd) d at in
    named_through stems most g t.call.call fd covers named is
near_through stems most t took covers n (inr made) = elim (turned_permitted t took) [
  | leaves same ↦
      let fresh = made.fresh in let there = made.there in absurd (omega (arith, fresh, there, ap next_of same))
  | changes perms all other adds ↦
      named_through stems most t.before.guest t.call.call all.one covers all.named (all.all all.one all.named)
]

-- ---- the number that an open answers is below how many descriptors may be live, or is that

pub short_answer : (s s' : State) (call : Call) (fuel most : ℕ) (answer : Answer) (x : Value) → answer ≡ answers.Ok x
    → turn s (with_fuel fuel call) ≡ Ok (x, s') → FitsTable most s.guest → most < 2 ^ 32 → IsShort call answer
short_answer s s' (calls.PathOpen fd dirflags path len oflags base inheriting fdflags) fuel most (answers.Ok (Number new)) x
    is turns fits below =
    let (n, number, largest) = opens_the_largest_closed s s' x fuel fd dirflags path len oflags base inheriting fdflags turns in
    let same : new ≡ n = (let both = is ∙ ap answers.Ok number in cc) in
    elim largest.closed_or_next [
      | inl closed ↦ let within = slice_get_within s.guest.slots n _ closed in omega (arith, same, within, fits.0, below)
      | inr (none, next) ↦ omega (arith, same, next, fits.0, below)
    ]
short_answer s s' call fuel most answer x is turns fits below = tt

-- so of whatever is answered
not_ok_short : (call : Call) (answer : Answer) → ((x : Value) → answer ≡ answers.Ok x → ⊥) → IsShort call answer
not_ok_short (calls.PathOpen _ _ _ _ _ _ _ _) (answers.Ok x) never = absurd (never x refl)
not_ok_short call answer never = tt

pub short_call : {rose : Type 0} {w v : HostModel} {g g' : Guest} {call : FueledCall} {answer : Answer}
    (result : Result Value P1Error) → answer_of result ≡ Some answer → Turns rose w v g g' call result
    → NumbersAreShort g → IsShort call.call answer
short_call {w = w} {v = v} {g = g} {g' = g'} {call = call} {answer = answer} (Ok x) is takes (most, fits, below) =
    let same : answer ≡ answers.Ok x = (cc) in
    short_answer (in_model w g) (in_model v g') call.call call.fuel most answer x same takes.turn fits below
short_call {call = call} {answer = answer} (Err e) is takes short = not_ok_short call.call answer (never e is)
  where
    never : (e : P1Error) → answer_of (Err e) ≡ Some answer → (x : Value) → answer ≡ answers.Ok x → ⊥
    never (Errno number) is x same = let wrong = is ∙ ap Some same in absurd (cc)
    never (Trap kind) is x same = let wrong = is ∙ ap Some same in absurd (cc)
    never (Exit status) is x same = let wrong = is ∙ ap Some same in absurd (cc)
    never Memory is x same = absurd (cc)
