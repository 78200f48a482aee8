-- The audit of a script over a tree in memory.
use Rattle.std.proofs.Common.{ℕ, String, Global, Result, Ok, Err, true, zero, suc, ◌+◌, ◌<◌, ◌≤◌, ◌≡◌, ◌↔◌, List, [], ◌∷◌, length, map, refl, sym, ap, ◌∙◌, subst, arith, slice_get, Option, Some, None}
use Rattle.std.specs.Prelude.{Contains, IfOk, Vec}
use Rattle.std.specs.declared.alloc.AllocError.{AllocError}
use Rattle.std.specs.FinMap.{get}
use Rattle.std.specs.List.Sorted.{IsStrictlyIncreasing}
use Rattle.std.specs.String.{string_bytes}
use Rattle.std.proofs.lemmas.List.{length-map}
use Rattle.std.proofs.lemmas.List.Elements.{All-weaker}
use Rattle.std.proofs.lemmas.Option.{slice_get_within}
use Rattle.wasi_audit.specs.Audits.{Audited, first_stems, started}
use Rattle.wasi_audit.proofs.Membership.{first_stems-preopen, started-count}
use Rattle.wasi_form.specs.Plan.{Plan, PlannedPreopen}
use Rattle.wasi_form.specs.Within.{is_within_limits}
use Rattle.wasi_form.proofs.Accepted.{limits_kept}
use Rattle.wasi_host.specs.HostLaws.{FaultCount}
use Rattle.wasi_report.specs.Audit.{AuditedPreopen, audit_text, audited, audited_preopen}
use Rattle.wasi_report.specs.declared.audit.PreopenNodes.{PreopenNodes}
use Rattle.wasi_script.specs.Audited.{Audits, HasAudit, listed_preopens, preopen_names}
use Rattle.wasi_script.specs.AuditedRun.{AuditedRun, Covers, StartsAudit}
use Rattle.wasi_script.specs.Headline.{fueled_calls}
use Rattle.wasi_script.specs.Through.{IsListed}
use Rattle.wasi_setup.specs.Start.{start, first_guest_slots, preopen_guest_slots}
use Rattle.wasi_p1_types.specs.Guest.{State, GuestSlot, perms_in}
use Rattle.wasi_p1_model.specs.Trace.{Allows, named}
use Rattle.wasi_script.proofs.Headlines.{run_more}

-- ---- the guest at the start

length-given : (place : ℕ) (preopens : List PlannedPreopen) → length (preopen_guest_slots place preopens) ≡ length preopens
length-given place [] = refl
length-given place (p ∷ ps) = let rest = length-given (suc place) ps in omega (arith, rest)

-- each directory stems from itself
starts_covered : (plan : Plan) → Covers (first_stems (length plan.preopens)) (length plan.preopens) (start plan).guest
starts_covered plan fd perms has = by fd has
  where
    within : (i : ℕ) → perms_in (slice_get (preopen_guest_slots 0 plan.preopens) i) ≡ Some perms → i < length plan.preopens
    within i is = found (slice_get (preopen_guest_slots 0 plan.preopens) i) refl is
      where
        found : (p : Option GuestSlot) → slice_get (preopen_guest_slots 0 plan.preopens) i ≡ p → perms_in p ≡ Some perms
            → i < length plan.preopens
        found None at is = absurd (cc)
        found (Some slot) at is =
            let inside = slice_get_within (preopen_guest_slots 0 plan.preopens) i slot at in
            omega (arith, inside, length-given 0 plan.preopens)

    by : (fd : ℕ) → perms_in (slice_get (first_guest_slots plan.preopens) fd) ≡ Some perms
        → (i : ℕ) × (get (first_stems (length plan.preopens)) fd ≡ Some i) × (i < length plan.preopens)
    by zero is = absurd (cc)
    by (suc zero) is = absurd (cc)
    by (suc (suc zero)) is = absurd (cc)
    by (suc (suc (suc i))) is =
        let below = within i is in
        let at : suc (suc (suc i)) ≡ 3 + i = omega arith in
        (i, ap (get (first_stems (length plan.preopens))) at ∙ first_stems-preopen (length plan.preopens) i below, below)

pub starts_audit : (plan : Plan) (names : ℕ) {first : State} {audit : Audited} → is_within_limits plan ≡ true
    → first ≡ start plan → names ≡ length plan.preopens → audit ≡ started names → StartsAudit first.guest audit
starts_audit plan names {audit = audit} within begins count is =
    let kept = limits_kept plan within in
    subst (λ (s : State). StartsAudit s.guest audit) (sym begins) (record {
      given = length plan.preopens;
      begins = is ∙ ap started count;
      covers = starts_covered plan;
      short = (plan.table, (omega (arith, kept.table, length-given 0 plan.preopens), refl), omega (arith, kept.most));
    })

-- ---- a run of a plan's calls from its start, over a host that fails at most as often as the plan lists faults

pub has_audit : {plan : Plan} {first : State} {lists : List (List ℕ)} (before now : FaultCount) (names : ℕ) (begun : Audited)
    → ((k : ℕ) → Allows before now k → k ≤ length plan.faults) → first ≡ start plan → names ≡ length plan.preopens
    → begun ≡ started names → length lists ≡ length begun.lists
    → AuditedRun before now first (fueled_calls plan) begun.stems lists → HasAudit plan lists
has_audit {plan} {first} {lists} before now names begun few begins count is sized ran =
    let run : AuditedRun before now (start plan) (fueled_calls plan) (first_stems (length plan.preopens)) lists =
    subst (λ s. AuditedRun before now s (fueled_calls plan) (first_stems (length plan.preopens)) lists) begins
    (subst (λ stems. AuditedRun before now first (fueled_calls plan) stems lists)
    (ap (λ (a : Audited). a.stems) (is ∙ ap started count)) ran) in
    record {
      turns = run.turns;
      last = run.last;
      run = run_more (fueled_calls plan) run.turns run.faults (length plan.faults) (start plan) run.last
          (few run.faults run.allowed) run.run;
      few = few _ run.errors;
      ends = run.ends;
      in_reach = run.in_reach;
      count = sized ∙ ap (λ (a : Audited). length a.lists) (is ∙ ap started count) ∙ started-count (length plan.preopens);
      through = run.through;
    }

-- ---- its text

pub audits : {plan : Plan} {lists : List (List ℕ)} {names : List (List ℕ)} {preopens : List AuditedPreopen} {text : List ℕ}
    (touched : List ℕ) → HasAudit plan lists → IsStrictlyIncreasing touched
    → ((n : ℕ) → Contains touched n ↔ IsListed lists n) → names ≡ preopen_names plan
    → preopens ≡ listed_preopens names lists → text ≡ audit_text (record { preopens = preopens; touched = touched })
    → Audits plan text
audits {plan} {lists} touched has rising joined names_are preopens text = record {
  turns = has.turns;
  last = has.last;
  lists = lists;
  touched = touched;
  run = has.run;
  few = has.few;
  rising = rising;
  ends = All-weaker (IsListed lists) (Contains touched) (λ n is. (joined n).1 is) (named has.turns) has.ends;
  in_reach = λ n is. has.in_reach n ((joined n).0 is);
  count = has.count;
  through = has.through;
  joined = joined;
  text_is = text ∙ ap (λ preopens. audit_text (record { preopens = preopens; touched = touched }))
      (preopens ∙ ap (λ names. listed_preopens names lists) names_are);
}

pub audits_written : {plan : Plan} {lists : List (List ℕ)} {names : List (List ℕ)} (preopens : List PreopenNodes)
    (touched : List ℕ) (result : Result (Vec ℕ Global) AllocError) → HasAudit plan lists → IsStrictlyIncreasing touched
    → ((n : ℕ) → Contains touched n ↔ IsListed lists n) → names ≡ preopen_names plan
    → map audited_preopen preopens ≡ listed_preopens names lists
    → IfOk result (λ text. text.items ≡ audit_text (audited preopens touched))
    → IfOk result (λ text. Audits plan text.items)
audits_written preopens touched (Err error) has rising joined named listed is = tt
audits_written preopens touched (Ok text) has rising joined named listed is = audits touched has rising joined named listed is

-- ---- as many names as directories

pub names_count : (plan : Plan) (names : List (String Global)) → map string_bytes names ≡ preopen_names plan
    → length names ≡ length plan.preopens
names_count plan names is = sym (length-map names string_bytes) ∙ ap length is ∙ length-map plan.preopens _

pub few_given : (plan : Plan) → is_within_limits plan ≡ true → length plan.preopens < 65536
few_given plan within = let kept = limits_kept plan within in omega (arith, kept.table, kept.most)
