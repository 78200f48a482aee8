-- What the program has written, by its status.
use Rattle.std.proofs.Common.{ℕ, ◌+◌, ◌<◌, ◌≤◌, ◌≡◌, List, [], length, replicate, take}
use Rattle.std.proofs.Common.{◌⊎◌, inl, inr, refl, sym, ◌∙◌, subst, arith, Result, Err}
use Rattle.std.proofs.lemmas.List.{drop_all, length-replicate, length-take, take-append-drop}
use Rattle.wasi_io.specs.Ends.{ReadAll, ReadFront}
use Rattle.wasi_form.specs.Plan.{Plan}
use Rattle.wasi_form.specs.Verdict.{Reads, most_script, IsVerdict}
use Rattle.wasi_io.specs.declared.reading.Unfinished.{Unfinished}
use Rattle.wasi_io.specs.declared.reading.Unfinished.TheVariants as errors
use Rattle.wasi_form.specs.declared.script_reader.Refusal.{Refusal}
use Rattle.wasi_form.specs.declared.script_reader.ScriptError.{ScriptError}
use Rattle.wasi_form.specs.declared.script_reader.ScriptError.TheVariants as scripts
use Rattle.wasi_form.proofs.Accepted.{too_many, refused_before}
use Rattle.wasi_script.specs.Exit.{unfinished_status, script_status}
use Rattle.wasi_script.specs.Due.{Due, the_usage, the_refusal, the_outcome, the_line, EndsGenerated, IsOwed, OfDue, left_unread, LeavesBytes, KeepsSink, NotRead, RefusesSome}
use Rattle.wasi_script.specs.Due.{IsText, IsDue, Writes, Written, whole, in_part, status_of}
use Rattle.wasi_script.specs.declared.status.Status.{Status}
use Rattle.wasi_script.specs.declared.status.Status.TheVariants as statuses
use Rattle.wasi_script.specs.declared.words.Task.{Task}
use Rattle.wasi_script.specs.declared.words.Task.TheVariants as tasks

-- ---- reading

-- bytes that aren't too many leave nothing
none_unread : {bytes left rest : List ℕ} → bytes ≡ left → rest ≡ [] → length bytes ≤ most_script
    → rest ≡ left_unread left
unfolding left_unread
none_unread {left} whole-is none fits =
    let fits_left : length left ≤ most_script + 1 = rw (← whole-is) (omega arith) in
    none ∙ sym (drop_all (most_script + 1) left fits_left)

-- and are judged whole
pub judged : {bytes left rest : List ℕ} (verdict : Result Plan Refusal) → IsVerdict bytes verdict → bytes ≡ left
    → rest ≡ [] → length bytes ≤ most_script → IsVerdict left verdict × (rest ≡ left_unread left)
judged verdict is whole-is none fits =
    (subst (λ b. IsVerdict b verdict) whole-is is, none_unread whole-is none fits)

-- reading that ended took no more than it may
pub front_read : {rest : List ℕ} (left : List ℕ) → rest ≡ left_unread left → ReadFront left rest
unfolding left_unread
front_read left is = record {
  front = take (most_script + 1) left;
  whole = rw is (sym (take-append-drop (most_script + 1) left));
  short = omega (arith, length-take (most_script + 1) left);
}

-- bytes that weren't read to their end
pub unread : (left rest : List ℕ) (error : Unfinished) → ReadAll (Err error) left rest
    → NotRead (unfinished_status error) left rest
unfolding left_unread
unread left rest errors.Long (over, is) = (refused_before (too_many left over), is)
unread left rest errors.Fault is = is
unread left rest errors.Memory is = is

-- bytes that aren't a script
pub no_script : {bytes left rest : List ℕ} (error : ScriptError) → Reads (Err error) (IsVerdict bytes) → bytes ≡ left
    → rest ≡ [] → length bytes ≤ most_script → NotRead (script_status error) left rest
no_script (scripts.Refused refusal) reads whole-is none fits = judged (Err refusal) reads whole-is none fits
no_script scripts.Memory reads whole-is none fits = front_read _ (none_unread whole-is none fits)

-- there are more bytes than any number
some_longer : (n : ℕ) → (left : List ℕ) × (n < length left)
some_longer n = (replicate (n + 1) 0, omega (arith, length-replicate {A = ℕ} (n + 1) 0))

-- where a source wasn't read to its end, bytes that are too many are refused so
pub unread_some : (error : Unfinished) → RefusesSome (unfinished_status error)
unread_some errors.Long =
    let (left, over) = some_longer most_script in (left, refused_before (too_many left over))
unread_some errors.Fault = tt
unread_some errors.Memory = tt

-- and bytes that aren't a script are
pub no_script_some : (bytes : List ℕ) (error : ScriptError) → Reads (Err error) (IsVerdict bytes)
    → RefusesSome (script_status error)
no_script_some bytes (scripts.Refused refusal) reads = (bytes, reads)
no_script_some bytes scripts.Memory reads = tt

-- what reading left of a script, whose report was written
pub leaves_unread : {modelled rose : Type 0} {taken now text rest : List ℕ} {status : Status} (left : List ℕ)
    → rest ≡ left_unread left → Written modelled rose taken now text statuses.Done status → LeavesBytes status left rest
leaves_unread left is (whole took) = is
leaves_unread left is (in_part failed took) = is

-- ---- writing

-- a report that was written isn't a fault of reading
pub no_read_fault : {modelled rose Anything : Type 0} {taken now text : List ℕ} {status : Status}
    → Written modelled rose taken now text statuses.Done status → status ≡ statuses.ReadFault → Anything
no_read_fault (whole took) is = absurd (cc)
no_read_fault (in_part failed took) is = absurd (cc)

-- where it is a fault of writing the sink has failed
pub write_failed : {modelled rose : Type 0} {taken now text : List ℕ} {status : Status}
    → Written modelled rose taken now text statuses.Done status → status ≡ statuses.WriteFault → rose
write_failed (whole took) is = absurd (cc)
write_failed (in_part failed took) is = failed

-- nor is it the usage line's
pub no_usage : {modelled rose Anything : Type 0} {taken now text : List ℕ} {status : Status}
    → Written modelled rose taken now text statuses.Done status → status ≡ statuses.Usage → Anything
no_usage (whole took) is = absurd (cc)
no_usage (in_part failed took) is = absurd (cc)

-- nor does the sink have to be as it was before it
pub may_take : {modelled rose : Type 0} {taken now text : List ℕ} {status : Status}
    → Written modelled rose taken now text statuses.Done status → KeepsSink status taken now
may_take (whole took) = tt
may_take (in_part failed took) = tt

-- what was written under the status that is due
pub writes : {modelled rose : Type 0} {taken now text : List ℕ} {status : Status} (d : Due) → modelled → IsText d text
    → Written modelled rose taken now text (status_of d) status → Writes status d taken now
writes {text} the_usage tells is (whole took) = record { text = text; is_text = is; took = took tells }
writes {text} the_usage tells is (in_part failed took) = record { text = text; is_text = is; front = took tells }
writes {text} (the_refusal refusal) tells is (whole took) = record { text = text; is_text = is; took = took tells }
writes {text} (the_refusal refusal) tells is (in_part failed took) = record { text = text; is_text = is; front = took tells }
writes {text} (the_outcome task plan) tells is (whole took) = record { text = text; is_text = is; took = took tells }
writes {text} (the_outcome task plan) tells is (in_part failed took) = record { text = text; is_text = is; front = took tells }
writes {text} (the_line n) tells is (whole took) = record { text = text; is_text = is; took = took tells }
writes {text} (the_line n) tells is (in_part failed took) = record { text = text; is_text = is; front = took tells }

is_due : {modelled rose : Type 0} {taken now text : List ℕ} {status : Status} (d : Due)
    → Written modelled rose taken now text (status_of d) status → IsDue status d
is_due the_usage (whole took) = refl
is_due the_usage (in_part failed took) = tt
is_due (the_refusal refusal) (whole took) = refl
is_due (the_refusal refusal) (in_part failed took) = tt
is_due (the_outcome wanted plan) (whole took) = refl
is_due (the_outcome wanted plan) (in_part failed took) = tt
is_due (the_line n) (whole took) = refl
is_due (the_line n) (in_part failed took) = tt

-- what holds of what was due when it was written
of_due : {modelled rose : Type 0} {taken now text : List ℕ} {status : Status} (task : Task)
    (left : List ℕ) (Holds : Due → Type 0) (d : Due) → IsOwed task left d → Written modelled rose taken now text (status_of d) status
    → Holds d → OfDue status task left Holds
of_due task left Holds the_usage owed (whole took) holds = (the_usage, owed, holds)
of_due task left Holds the_usage owed (in_part failed took) holds = (the_usage, owed, holds)
of_due task left Holds (the_refusal refusal) owed (whole took) holds = (the_refusal refusal, owed, holds)
of_due task left Holds (the_refusal refusal) owed (in_part failed took) holds = (the_refusal refusal, owed, holds)
of_due task left Holds (the_outcome wanted plan) owed (whole took) holds = (the_outcome wanted plan, owed, holds)
of_due task left Holds (the_outcome wanted plan) owed (in_part failed took) holds = (the_outcome wanted plan, owed, holds)
of_due task left Holds (the_line n) owed (whole took) holds = (the_line n, owed, holds)
of_due task left Holds (the_line n) owed (in_part failed took) holds = (the_line n, owed, holds)

pub is_due_by : {modelled rose : Type 0} {taken now text : List ℕ} {status : Status} (task : Task) (left : List ℕ) (d : Due)
    → IsOwed task left d → Written modelled rose taken now text (status_of d) status → OfDue status task left (IsDue status)
is_due_by {status} task left d owed was = of_due task left (IsDue status) d owed was (is_due d was)

pub writes_due : {modelled rose : Type 0} {taken now text : List ℕ} {status : Status} (task : Task) (left : List ℕ) (d : Due)
    → IsOwed task left d → modelled → IsText d text → Written modelled rose taken now text (status_of d) status
    → OfDue status task left (λ due. Writes status due taken now)
writes_due {taken} {now} {status} task left d owed tells is was =
    of_due task left (λ due. Writes status due taken now) d owed was (writes d tells is was)

-- ---- a script that was made

-- its line was written, or a front of it, or memory ran out
pub ends_made : {modelled rose : Type 0} {taken now text : List ℕ} {status : Status}
    → Written modelled rose taken now text statuses.Done status → EndsGenerated status
ends_made (whole took) = tt
ends_made (in_part failed took) = tt

-- what was written under its status, or that nothing was, is due
pub line_due : (status : Status) (n : ℕ) (left taken now : List ℕ) → EndsGenerated status
    → Writes status (the_line n) taken now → OfDue status (tasks.Generate n) left (λ due. Writes status due taken now)
line_due statuses.Done n left taken now ends wrote = (the_line n, refl, wrote)
line_due statuses.WriteFault n left taken now ends wrote = (the_line n, refl, wrote)
line_due statuses.NoMemory n left taken now ends wrote = λ d. wrote
line_due statuses.Usage n left taken now ends wrote = absurd ends
line_due (statuses.Refused refusal) n left taken now ends wrote = absurd ends
line_due statuses.ReadFault n left taken now ends wrote = absurd ends

-- and so is its status
pub made_due : (status : Status) (n : ℕ) (left : List ℕ) → EndsGenerated status
    → OfDue status (tasks.Generate n) left (IsDue status)
made_due statuses.Done n left ends = (the_line n, refl, refl)
made_due statuses.WriteFault n left ends = (the_line n, refl, tt)
made_due statuses.NoMemory n left ends = λ d. tt
made_due statuses.Usage n left ends = absurd ends
made_due (statuses.Refused refusal) n left ends = absurd ends
made_due statuses.ReadFault n left ends = absurd ends

-- it doesn't end so
pub other_end : {Anything : Type 0} (status : Status) → EndsGenerated status
    → (status ≡ statuses.ReadFault) ⊎ (status ≡ statuses.Usage) → Anything
other_end statuses.Done ends (inl is) = absurd (cc)
other_end statuses.Done ends (inr is) = absurd (cc)
other_end statuses.WriteFault ends (inl is) = absurd (cc)
other_end statuses.WriteFault ends (inr is) = absurd (cc)
other_end statuses.NoMemory ends (inl is) = absurd (cc)
other_end statuses.NoMemory ends (inr is) = absurd (cc)
other_end statuses.Usage ends is = absurd ends
other_end (statuses.Refused refusal) ends is = absurd ends
other_end statuses.ReadFault ends is = absurd ends

-- what it ended with may be taken
pub made_keeps : (status : Status) (n : ℕ) (taken now : List ℕ) → EndsGenerated status
    → Writes status (the_line n) taken now → KeepsSink status taken now
made_keeps statuses.Done n taken now ends wrote = tt
made_keeps statuses.WriteFault n taken now ends wrote = tt
made_keeps statuses.NoMemory n taken now ends wrote = wrote
made_keeps statuses.Usage n taken now ends wrote = absurd ends
made_keeps (statuses.Refused refusal) n taken now ends wrote = absurd ends
made_keeps statuses.ReadFault n taken now ends wrote = absurd ends
