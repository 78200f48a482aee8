-- What the program has read and written, by its status.
use Rattle.std.proofs.Common.{ℕ, ◌≡◌, ◌≤◌, List, [], length, refl, subst, arith, Bool, Ok, Err}
use Rattle.wasi_io.specs.Ends.{ReadAll, ReadFront, most_bytes}
use Rattle.wasi_io.specs.Endings.{all_of_it, left_unread, IsStatus, Took, Written}
use Rattle.wasi_io.specs.declared.reading.Unfinished.{Unfinished}
use Rattle.wasi_io.specs.declared.reading.Unfinished.TheVariants as errors
use Rattle.wasi_io.proofs.EndingLemmas.{none_unread, front_read, some_longer, is_status, of_owed, takes}
use Rattle.wasi_form.proofs.Accepted.{too_long, refused_before}
use Rattle.wasi_form.specs.Plan.{GuestsPlan}
use Rattle.wasi_form.specs.Verdict.{IsGuestsVerdict, ReadsGuests, guests_kind}
use Rattle.wasi_form.specs.declared.script_reader.Refusal.{Refusal}
use Rattle.wasi_form.specs.declared.script_reader.Refusal.TheVariants as forms
use Rattle.wasi_form.specs.declared.script_reader.ScriptError.{ScriptError}
use Rattle.wasi_form.specs.declared.script_reader.ScriptError.TheVariants as scripts
use Rattle.wasi_guests.specs.GuestsDue.{Due, the_usage, the_refusal, the_outcome, IsOwed, IsRefused, IsText, NoText, OfDue, status_of}
use Rattle.wasi_guests.specs.GuestScript.{ComesTo}
use Rattle.wasi_guests.specs.Status.{extent, guests_status, refusal_of, script_status, unfinished_status}
use Rattle.wasi_guests.specs.declared.plan.GuestsError.{GuestsError}
use Rattle.wasi_guests.specs.declared.plan.GuestsError.TheVariants as guests
use Rattle.wasi_guests.specs.declared.status.GuestStatus.{GuestStatus}
use Rattle.wasi_guests.specs.declared.status.GuestStatus.TheVariants as statuses

-- ---- reading

-- a refusal as a script is one of the program
pub refused_so : {bytes : List ℕ} (refusal : Refusal) → IsGuestsVerdict bytes (Err refusal)
    → IsRefused bytes (refusal_of refusal)
refused_so forms.Long is = is
refused_so forms.Json is = is
refused_so forms.Shape is = is
refused_so forms.Tree is = is
refused_so forms.Limit is = is

-- bytes that weren't read to their end
pub unread : (left rest : List ℕ) (error : Unfinished) → ReadAll (Err error) left rest
    → NoText (unfinished_status error) left rest
unfolding left_unread
unread left rest errors.Long (over, is) = (refused_before (too_long guests_kind.form left over), is)
unread left rest errors.Fault is = is
unread left rest errors.Memory is = is

-- that came so of some bytes
nothing_read : ReadFront [] []
nothing_read = record { front = []; whole = refl; short = omega arith }

-- and no other, where some bytes are refused so
pub unread_some : (error : Unfinished) → (left : List ℕ) × (rest : List ℕ) × NoText (unfinished_status error) left rest
unread_some errors.Long =
    let (left, over) = some_longer most_bytes in (left, left_unread left, (refused_before (too_long guests_kind.form left over), refl))
unread_some errors.Fault = ([], [], nothing_read)
unread_some errors.Memory = ([], [], nothing_read)

-- bytes that were read to their end are judged whole
pub read_whole : {bytes left rest : List ℕ} {plan : GuestsPlan} → IsGuestsVerdict bytes (Ok plan) → bytes ≡ left → rest ≡ []
    → length bytes ≤ most_bytes → IsGuestsVerdict left (Ok plan) × (rest ≡ left_unread left)
read_whole {plan = plan} is whole-is none fits =
    (subst (λ b. IsGuestsVerdict b (Ok plan)) whole-is is, none_unread whole-is none fits)

-- bytes that aren't a script of guests
pub no_script : {bytes left rest : List ℕ} (error : ScriptError) → ReadsGuests (Err error) (IsGuestsVerdict bytes)
    → bytes ≡ left → rest ≡ [] → length bytes ≤ most_bytes → NoText (script_status error) left rest
no_script (scripts.Refused refusal) reads whole-is none fits = (
  subst (λ b. IsRefused b (refusal_of refusal)) whole-is (refused_so refusal reads),
  none_unread whole-is none fits,
)
no_script scripts.Memory reads whole-is none fits = front_read _ (none_unread whole-is none fits)

pub no_script_some : (bytes : List ℕ) (error : ScriptError) → ReadsGuests (Err error) (IsGuestsVerdict bytes)
    → (left : List ℕ) × (rest : List ℕ) × NoText (script_status error) left rest
no_script_some bytes (scripts.Refused refusal) reads = (bytes, left_unread bytes, (refused_so refusal reads, refl))
no_script_some bytes scripts.Memory reads = ([], [], nothing_read)

-- ---- running

-- there is no text where the guests don't run
pub gives_none : {left rest : List ℕ} {plan : GuestsPlan} (error : GuestsError) → IsGuestsVerdict left (Ok plan)
    → rest ≡ left_unread left → ComesTo plan (Err error) → NoText (guests_status error) left rest
gives_none {plan = plan} (guests.Overlap n) verdict is comes = ((plan, verdict, (n, comes)), is)
gives_none {plan = plan} guests.Room verdict is comes = ((plan, verdict, comes), is)
gives_none {left} guests.Memory verdict is comes = front_read left is

-- ---- writing

whole_extent : (d : Due) → extent (status_of d) ≡ all_of_it
whole_extent the_usage = refl
whole_extent (the_refusal refusal) = refl
whole_extent (the_outcome plan) = refl

module _ {modelled rose : Type 0} {taken now text : List ℕ} {status : GuestStatus} (run : Bool) (left : List ℕ) (d : Due)
    (owed : IsOwed run left d) (was : Written statuses.WriteFault modelled rose taken now text (status_of d) status) where
  -- the status of what was written is due
  pub status_due : OfDue status run left (λ due. IsStatus (extent status) status (status_of due))
  status_due = of_owed extent (whole_extent d) refl (IsOwed run left)
      (λ due. IsStatus (extent status) status (status_of due)) d owed (is_status extent (whole_extent d) refl was) was

  -- and so is the text
  pub text_due : modelled → IsText d text → OfDue status run left (λ due. Took (extent status) (IsText due) taken now)
  text_due tells is = of_owed extent (whole_extent d) refl (IsOwed run left)
      (λ due. Took (extent status) (IsText due) taken now) d owed
      (takes extent (whole_extent d) refl (IsText d) tells is was) was
