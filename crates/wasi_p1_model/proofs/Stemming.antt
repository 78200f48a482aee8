-- Each descriptor has the permissions of the one from which it stems.
use Rattle.std.proofs.Common.{ℕ, ◌≡◌, ◌⊎◌, inl, inr, true, false, Bool, List, [], ◌∷◌, refl, ap, sym, ◌∙◌, subst, slice_get, Some, Ok, Err}
use Rattle.std.specs.Prelude.{MatchBool}
use Rattle.wasi_fs.specs.declared.perms.FsPerms.{FsPerms}
use Rattle.wasi_guest.specs.declared.answer.Answer.{Answer}
use Rattle.wasi_guest.specs.declared.answer.Answer.TheVariants as answers
use Rattle.wasi_guest.specs.declared.answer.Value.{Value}
use Rattle.wasi_guest.specs.declared.call.Call.{Call}
use Rattle.wasi_p1_model.specs.DescriptorLaws.{FitsTable, NumbersFit}
use Rattle.wasi_p1_types.specs.Front.{FueledCall}
use Rattle.wasi_guest.specs.declared.errno.Errno.TheVariants as errnos
use Rattle.wasi_host.specs.Tree.{Tree}
use Rattle.wasi_p1_types.specs.Guest.{Guest, State, perms_in}
use Rattle.wasi_p1_types.specs.CallResult.{CallResult, Program, done, asking}
use Rattle.wasi_p1_model.specs.Calls.{Stem, itself, through, renumbering, stem_in, call_spec, turn}
use Rattle.wasi_p1_model.specs.Trace.{TraceStep, Trace, Played, Faulted, Gives, answer_of, ends, is_success}
use Rattle.wasi_p1_model.specs.Stems.{stems_by, stems_from, stem_of, HasPerms}
use Rattle.wasi_p1_types.specs.declared.error.P1Error.{P1Error}
use Rattle.wasi_p1_types.specs.declared.error.P1Error.TheVariants.{Errno, Trap, Exit, Memory}
use Rattle.wasi_p1_model.proofs.Alike.{spec_on}
use Rattle.wasi_p1_model.proofs.Moving.{over_guest, replied_by, faulted_stays, turned_by}
use Rattle.wasi_p1_model.proofs.LocalCalls.{IsLocal, KeepsSlots, given_by}
use Rattle.wasi_p1_model.proofs.Locality.{spec_near}

-- the descriptors after an answer stem from those before it
abbrev AllStem : Guest → Call → Answer → Guest → Type 0
AllStem g call answer g' = (n : ℕ) (perms : FsPerms) → HasPerms g' n perms → HasPerms g (stems_from call answer n) perms

spec_stems : (g : Guest) (call : Call) (t : Tree) (m : CallResult (Program (Value × Guest))) (p : Value × State)
    → IsLocal g call m → spec_on t m ≡ Ok p → AllStem g call (answers.Ok p.0) p.1.guest
spec_stems g call t (Ok (done q)) p near is =
    (subst (KeepsSlots g (stem_in call) []) (over_guest t (Ok q) is) near.slots).perms
spec_stems g call t (Ok (asking r next)) p near is =
    let did = replied_by t r next is in
    (subst (KeepsSlots g (stem_in call) (given_by r did.reply)) did.gives (near.slots did.reply)).perms
spec_stems g call t (Err e) p near is = absurd (cc)

-- where it isn't answered Ok each descriptor stems from itself
from_itself : (stem : Stem) (e : P1Error) {answer : Answer} (n : ℕ) → answer_of (Err e) ≡ Some answer
    → stems_by stem answer n ≡ n
from_itself stem e {answer} n is = by e is
  where
    still : (stem : Stem) (a : Answer) → is_success a ≡ false → stems_by stem a n ≡ n
    still itself a refused = refl
    still (through fd) (answers.Ok x) refused = absurd (cc)
    still (through fd) a refused = refl
    still (renumbering from to) (answers.Ok x) refused = absurd (cc)
    still (renumbering from to) a refused = refl

    refused : {a : Answer} → Some a ≡ Some answer → is_success a ≡ false → stems_by stem answer n ≡ n
    refused {a} given failed =
        let same : a ≡ answer = (cc) in ap (λ b. stems_by stem b n) (sym same) ∙ still stem a failed

    by : (e : P1Error) → answer_of (Err e) ≡ Some answer → stems_by stem answer n ≡ n
    by (Errno e) given = refused given refl
    by (Trap kind) given = refused given refl
    by (Exit status) given = refused given refl
    by Memory given = absurd (cc)

pub turn_stems : (t : TraceStep) → Played t ⊎ Faulted t → (n : ℕ) (perms : FsPerms) → HasPerms t.after.guest n perms
    → HasPerms t.before.guest (stems_from t.call.call t.answer n) perms
turn_stems t (inl played) n perms has = by (turn t.before t.call) refl played
  where
    by : (m : CallResult (Value × State)) → turn t.before t.call ≡ m → Gives m t.before t.answer t.after
        → HasPerms t.before.guest (stems_from t.call.call t.answer n) perms
    by (Ok p) is (answer, new) =
        let stems = spec_stems t.before.guest t.call.call t.before.tree (call_spec t.before.guest t.call) p
        (spec_near t.before.guest t.call) is in
        subst (λ a. HasPerms t.before.guest (stems_from t.call.call a n) perms) (sym answer)
        (stems n perms (subst (λ (s : State). HasPerms s.guest n perms) new has))
    by (Err e) is (answer, same) =
        subst (λ k. HasPerms t.before.guest k perms) (sym (from_itself (stem_in t.call.call) e n answer))
        (subst (λ (s : State). HasPerms s.guest n perms) same has)
turn_stems t (inr faulted) n perms has =
    let still = ap (λ (g : Guest). g.slots) (faulted_stays faulted).guest in
    let at = from_itself (stem_in t.call.call) (Errno errnos.Io) n (ap Some (sym faulted.io)) in
    subst (λ k. HasPerms t.before.guest k perms) (sym at)
    (subst (λ slots. perms_in (slice_get slots n) ≡ Some perms) still has)

-- ---- how many numbers are given

spec_fits : (most : ℕ) (g : Guest) (call : Call) (t : Tree) (m : CallResult (Program (Value × Guest))) (p : Value × State)
    → IsLocal g call m → spec_on t m ≡ Ok p → FitsTable most g → FitsTable most p.1.guest
spec_fits most g call t (Ok (done q)) p near is =
    (subst (KeepsSlots g (stem_in call) []) (over_guest t (Ok q) is) near.slots).fits most
spec_fits most g call t (Ok (asking r next)) p near is =
    let did = replied_by t r next is in
    (subst (KeepsSlots g (stem_in call) (given_by r did.reply)) did.gives (near.slots did.reply)).fits most
spec_fits most g call t (Err e) p near is = absurd (cc)

pub numbers_fit : NumbersFit
numbers_fit most t (inl played) fits = by (turn t.before t.call) refl played
  where
    by : (m : CallResult (Value × State)) → turn t.before t.call ≡ m → Gives m t.before t.answer t.after
        → FitsTable most t.after.guest
    by (Ok p) is (answer, new) = subst (λ (s : State). FitsTable most s.guest) (sym new)
        (spec_fits most t.before.guest t.call.call t.before.tree (call_spec t.before.guest t.call) p
        (spec_near t.before.guest t.call) is fits)
    by (Err e) is (answer, same) = subst (λ (s : State). FitsTable most s.guest) (sym same) fits
numbers_fit most t (inr faulted) fits = subst (FitsTable most) (sym (faulted_stays faulted).guest) fits

-- ---- a run

pub run_stems : (calls : List FueledCall) (turns : List TraceStep) (k : ℕ) (old new : State) → Trace k old calls turns new
    → (n : ℕ) (perms : FsPerms) → HasPerms new.guest n perms → HasPerms old.guest (stem_of turns n) perms
run_stems [] [] k old new run n perms has = subst (λ (s : State). HasPerms s.guest n perms) run has
run_stems [] (t ∷ turns) k old new run n perms has = absurd run
run_stems (call ∷ calls) [] k old new run n perms has = absurd run
run_stems (call ∷ calls) (t ∷ turns) k old new (j, before, is, spends, rest) n perms has =
    subst (λ (s : State). HasPerms s.guest (stem_of (t ∷ turns) n) perms) before
    (turn_stems t (turned_by spends) (stem_of turns n) perms
    (later (λ on. run_stems calls turns j t.after new on n perms has) (ends t.answer) rest))
  where
    later : (Trace j t.after calls turns new → HasPerms t.after.guest (stem_of turns n) perms) → (b : Bool)
        → MatchBool b ((turns ≡ []) × (new ≡ t.after)) (Trace j t.after calls turns new)
        → HasPerms t.after.guest (stem_of turns n) perms
    later next true (none, last) = subst (λ ts. HasPerms t.after.guest (stem_of ts n) perms) (sym none)
        (subst (λ (s : State). HasPerms s.guest n perms) last has)
    later next false on = next on
