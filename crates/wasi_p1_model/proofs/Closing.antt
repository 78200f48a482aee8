-- A number that was closed, or whose descriptor took another number, stands for nothing.
use Rattle.std.proofs.Common.{ℕ, zero, suc, ◌≡◌, ◌≢◌, ◌⊎◌, inl, inr, List, [], ◌∷◌, get_or, refl, ap, sym, ◌∙◌, subst, slice_get, slice_set, Some, Ok, Err}
use Rattle.wasi_fs.specs.declared.perms.FsPerms.{FsPerms}
use Rattle.wasi_guest.specs.declared.answer.Answer.TheVariants as answers
use Rattle.wasi_guest.specs.declared.answer.Value.{Value}
use Rattle.wasi_guest.specs.declared.call.Call.{Call}
use Rattle.wasi_guest.specs.declared.call.Call.TheVariants as calls
use Rattle.wasi_p1_types.specs.Front.{with_fuel}
use Rattle.wasi_p1_types.specs.Guest.{GuestSlot, State, closed, perms_in}
use Rattle.wasi_p1_types.specs.Numbering.{renumbered}
use Rattle.wasi_p1_types.specs.SpecParts.{live_in}
use Rattle.wasi_p1_types.specs.CallResult.{CallResult}
use Rattle.wasi_p1_model.specs.Calls.{fd_close, fd_renumber, turn}
use Rattle.wasi_p1_model.specs.Trace.{TraceStep, Played, Faulted, Gives, answer_of}
use Rattle.wasi_p1_model.specs.Stems.{HasPerms}
use Rattle.wasi_p1_types.specs.declared.error.P1Error.{P1Error}
use Rattle.wasi_p1_types.specs.declared.error.P1Error.TheVariants.{Errno, Trap, Exit, Memory}
use Rattle.wasi_p1_model.proofs.Changing.{IsUnder, in_set}
use Rattle.wasi_p1_model.proofs.Moving.{gave}
use Rattle.wasi_p1_model.proofs.Writing.{state_is}

-- ---- the descriptors after such a call

closed_slots : (s s' : State) (x : Value) (fuel fd : ℕ) → turn s (with_fuel fuel (calls.FdClose fd)) ≡ Ok (x, s')
    → s'.guest.slots ≡ slice_set s.guest.slots fd closed
unfolding fd_close
closed_slots s s' x fuel fd is =
    let (slot, live, rest) = gave s.tree (live_in (slice_get s.guest.slots fd)) _ fuel is in
    ap (λ (t : State). t.guest.slots) (state_is rest).1

renumbered_slots : (s s' : State) (x : Value) (fuel from to : ℕ)
    → turn s (with_fuel fuel (calls.FdRenumber from to)) ≡ Ok (x, s')
    → s'.guest.slots ≡ renumbered closed s.guest.slots from to
unfolding fd_renumber
renumbered_slots s s' x fuel from to is =
    let (one, live, rest) = gave s.tree (live_in (slice_get s.guest.slots from)) _ fuel is in
    let (other, lives, last) = gave s.tree (live_in (slice_get s.guest.slots to)) _ fuel rest in
    ap (λ (t : State). t.guest.slots) (state_is last).1

-- ---- a closed number is under no permissions

closed_there : {perms : FsPerms} (slots : List GuestSlot) (fd : ℕ)
    → perms_in (slice_get (slice_set slots fd closed) fd) ≡ Some perms → ⊥
closed_there [] fd has = absurd (cc)
closed_there (x ∷ xs) zero has = absurd (cc)
closed_there (x ∷ xs) (suc fd) has = closed_there xs fd has

left_there : {perms : FsPerms} (slots : List GuestSlot) (from to : ℕ) → from ≢ to
    → perms_in (slice_get (renumbered closed slots from to) from) ≡ Some perms → ⊥
unfolding renumbered
left_there {perms} slots from to other has =
    elim (in_set (IsUnder perms) (slice_set slots from closed) to from (get_or slots from closed) has) [
      | inl was ↦ closed_there slots from was
      | inr (same, _) ↦ other same
    ]

-- ---- a turn that answers such a call

-- what is answered Ok was answered by its specification
answered_ok : (t : TraceStep) (x : Value) → t.answer ≡ answers.Ok x → Played t ⊎ Faulted t
    → turn t.before t.call ≡ Ok (x, t.after)
answered_ok t x is (inr faulted) = let io = sym is ∙ faulted.io in absurd (cc)
answered_ok t x is (inl played) = by (turn t.before t.call) refl played
  where
    refused : (e : P1Error) → answer_of (Err e) ≡ Some t.answer → ⊥
    refused (Errno e) given = let wrong = given ∙ ap Some is in absurd (cc)
    refused (Trap kind) given = let wrong = given ∙ ap Some is in absurd (cc)
    refused (Exit status) given = let wrong = given ∙ ap Some is in absurd (cc)
    refused Memory given = absurd (cc)

    by : (m : CallResult (Value × State)) → turn t.before t.call ≡ m → Gives m t.before t.answer t.after
        → turn t.before t.call ≡ Ok (x, t.after)
    by (Ok p) at (answer, new) =
        let same : p.0 ≡ x = (let both = sym answer ∙ is in cc) in
        at ∙ (λ i. Ok (same i, sym new i))
    by (Err e) at (answer, new) = absurd (refused e answer)

pub closes_number : (t : TraceStep) (fd : ℕ) (x : Value) → t.call.call ≡ calls.FdClose fd → t.answer ≡ answers.Ok x
    → Played t ⊎ Faulted t → (perms : FsPerms) → HasPerms t.after.guest fd perms → ⊥
closes_number t fd x is answer took perms has =
    let gives = ap (λ (c : Call). turn t.before (with_fuel t.call.fuel c)) (sym is) ∙ answered_ok t x answer took in
    let slots = closed_slots t.before t.after x t.call.fuel fd gives in
    closed_there t.before.guest.slots fd (subst (λ slots. perms_in (slice_get slots fd) ≡ Some perms) slots has)

pub renumbering_closes : (t : TraceStep) (from to : ℕ) (x : Value) → t.call.call ≡ calls.FdRenumber from to
    → t.answer ≡ answers.Ok x → from ≢ to → Played t ⊎ Faulted t → (perms : FsPerms)
    → HasPerms t.after.guest from perms → ⊥
renumbering_closes t from to x is answer other took perms has =
    let gives = ap (λ (c : Call). turn t.before (with_fuel t.call.fuel c)) (sym is) ∙ answered_ok t x answer took in
    let slots = renumbered_slots t.before t.after x t.call.fuel from to gives in
    left_there t.before.guest.slots from to other
    (subst (λ slots. perms_in (slice_get slots from) ≡ Some perms) slots has)
