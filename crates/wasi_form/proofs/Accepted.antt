-- What is known of an accepted script, of one guest or of several.
use Rattle.std.proofs.Common.{ℕ, List, [], ◌≡◌, ◌+◌, ◌≤◌, ◌<◌, length, Bool, Option, Some, None, Result, Ok, Err, refl, sym, ap, ◌∙◌, true, false, arith, subst, map}
use Rattle.std.specs.Prelude.{All, sum_by, nat_le, IfSome, IsTrue}
use Rattle.std.specs.List.{list_all}
use Rattle.std.proofs.lemmas.Bool.{and_parts, leb-true}
use Rattle.std.proofs.lemmas.Bool.Decides.{same_from_decides}
use Rattle.std.proofs.lemmas.List.{get_or-map, length-map}
use Rattle.std.proofs.lemmas.List.Sums.{AllPass-from_list_all}
use Rattle.serde_json.specs.Data.{Data}
use Rattle.wasi_host_faults.specs.Faults.{numbers_rise}
use Rattle.wasi_guest.specs.Quotas.{IsQuota}
use Rattle.wasi_guest.specs.Services.{AreWithin}
use Rattle.wasi_host.specs.Steps.{◌>>=◌}
use Rattle.wasi_host.specs.ValidTree.{AreLimits}
use Rattle.wasi_host.specs.declared.limits.Limits.{Limits}
use Rattle.wasi_tree.specs.WellFormed.{AreFit}
use Rattle.wasi_tree.specs.WellFormedNodes.{NodeList}
use Rattle.wasi_tree.specs.NodeData.{NodeData}
use Rattle.wasi_form.specs.declared.script.Session.{Session}
use Rattle.wasi_form.specs.Plan.{Plan, GuestsPlan, planned}
use Rattle.wasi_form.specs.ScriptForm.{script_of}
use Rattle.wasi_form.specs.GuestsForm.{guests_of}
use Rattle.wasi_form.specs.Within.{most_memory, shown_bytes, are_preopens_directories, is_piece_within, is_shown_within, is_within_limits, guests_within}
use Rattle.wasi_form.specs.Verdict.{refused_unless, found, value_of, formed, read_as, read_plan, most_script, Kind, script_kind, guests_kind, judged, verdict_by, IsFit, IsFitFor, IsVerdictBy, IsVerdict, IsGuestsVerdict, Refuses, ReadsBy, IsTestOf}
use Rattle.wasi_form.specs.declared.script_reader.Refusal.{Refusal}
use Rattle.wasi_form.specs.declared.script_reader.Refusal.TheVariants.{Long, Shape, Tree, Limit}
use Rattle.wasi_form.proofs.ScriptRanges.{IsInRange, script_in_range, IsGuestOn, AreInRange, guests_read_in_range}
use Rattle.wasi_form.specs.declared.script_reader.ScriptError.{ScriptError}
use Rattle.wasi_form.specs.declared.script_reader.ScriptError.TheVariants.{Refused, Memory}

-- ---- from the bytes to a plan

-- too many bytes are refused unread, in any form
pub too_long : {P : Type 0} (form : Data → Option P) (bytes : List ℕ) → most_script < length bytes
    → read_as form bytes ≡ Err Long
unfolding read_as
too_long form bytes over = let long : nat_le (length bytes) most_script ≡ false = grind (arith) in rw long refl

pub too_many : (bytes : List ℕ) → most_script < length bytes → read_plan bytes ≡ Err Long
too_many bytes over = too_long script_of bytes over

not_too_many : {P : Type 0} (form : Data → Option P) (bytes : List ℕ) (verdict : Result P Refusal)
    → length bytes ≤ most_script → formed form (value_of bytes) ≡ verdict → read_as form bytes ≡ verdict
unfolding read_as
not_too_many form bytes verdict fits is =
    let short : nat_le (length bytes) most_script ≡ true = grind (arith) in rw short is

-- what is read of the value is read of the bytes
pub reads_within : {S P : Type 0} (see : S → P) (form : Data → Option P) (result : Result S ScriptError) (bytes : List ℕ)
    → length bytes ≤ most_script
    → ReadsBy see result (λ verdict. formed form (value_of bytes) ≡ verdict)
    → ReadsBy see result (λ verdict. read_as form bytes ≡ verdict)
reads_within see form (Ok s) bytes fits reads = not_too_many form bytes _ fits reads
reads_within see form (Err (Refused refusal)) bytes fits reads = not_too_many form bytes _ fits reads
reads_within see form (Err Memory) bytes fits reads = reads

shape_read : {P : Type 0} (Holds : P → Type 0) (shape : Option P) (p : P) → IfSome shape Holds
    → found Shape shape ≡ Ok p → Holds p
shape_read Holds None p all e = absurd (cc)
shape_read Holds (Some q) p all e = let same : q ≡ p = cc in subst Holds same all

value_read : {P : Type 0} (Holds : P → Type 0) (form : Data → Option P) (value : Option Data) (p : P)
    → ((d : Data) → IfSome (form d) Holds) → formed form value ≡ Ok p → Holds p
value_read Holds form None p all e = absurd (cc)
value_read Holds form (Some d) p all e = shape_read Holds (form d) p (all d) e

within_read : {P : Type 0} (Holds : P → Type 0) (form : Data → Option P) (fits : Bool) (value : Option Data) (p : P)
    → ((d : Data) → IfSome (form d) Holds) → (refused_unless Long fits >>= (λ _. formed form value)) ≡ Ok p → Holds p
within_read Holds form false value p all e = absurd (cc)
within_read Holds form true value p all e = value_read Holds form value p all e

-- what holds of all that has a form holds of what is read in it
form_is_read : {P : Type 0} (Holds : P → Type 0) (form : Data → Option P) → ((d : Data) → IfSome (form d) Holds)
    → (bytes : List ℕ) (p : P) → read_as form bytes ≡ Ok p → Holds p
unfolding read_as
form_is_read Holds form all bytes p e =
    within_read Holds form (nat_le (length bytes) most_script) (value_of bytes) p all e

-- of a plan that was read all is within its range
pub plan_is_read : (bytes : List ℕ) (p : Plan) → read_plan bytes ≡ Ok p → IsInRange p
plan_is_read bytes p e = form_is_read IsInRange script_of script_in_range bytes p e

-- ---- from there to the verdict

-- bytes that are refused before their nodes are looked at
pub refused_before : {P : Type 0} {kind : Kind P} {bytes : List ℕ} {refusal : Refusal}
    → read_as kind.form bytes ≡ Err refusal → IsVerdictBy kind bytes (Err refusal)
unfolding verdict_by
refused_before is = record { fit = true; is_test = rw is tt; is = rw is refl }

pub unread_before : {P : Type 0} (kind : Kind P) (bytes : List ℕ) (error : ScriptError)
    → Refuses error (λ verdict. read_as kind.form bytes ≡ verdict) → Refuses error (IsVerdictBy kind bytes)
unread_before kind bytes (Refused refusal) is = refused_before is
unread_before kind bytes Memory is = tt

-- what bytes are read as, and a tree can be made of its nodes
pub record IsTested {P : Type 0} (kind : Kind P) (bytes : List ℕ) (p : P) : Type 0 where
  pub read : read_as kind.form bytes ≡ Ok p
  pub fit : IsFit (kind.tree p)

-- nodes that passed the test stand in place of those that were read
pub tested : {P : Type 0} (kind : Kind P) (over : NodeList → P) {bytes : List ℕ} {tree passed : NodeList}
    → ((t : NodeList) → kind.tree (over t) ≡ t) → read_as kind.form bytes ≡ Ok (over tree) → IsTestOf tree (Ok passed)
    → IsTested kind bytes (over passed)
tested kind over {bytes} {tree} tree_is read is =
    subst (λ t. IsTested kind bytes (over t)) (sym is.0)
    (record { read = read; fit = subst IsFit (sym (tree_is tree)) is.1 })

no_tree : {P : Type 0} {kind : Kind P} {bytes : List ℕ} {p : P} → read_as kind.form bytes ≡ Ok p
    → (IsFit (kind.tree p) → ⊥) → IsVerdictBy kind bytes (Err Tree)
unfolding verdict_by
no_tree read unfit = record {
  fit = false;
  is_test = rw read (λ same. absurd (cc), λ fit. absurd (unfit fit));
  is = rw read refl;
}

-- the end of the test that failed
pub refused_by : {P : Type 0} (kind : Kind P) (bytes : List ℕ) (p : P) (error : ScriptError)
    → read_as kind.form bytes ≡ Ok p → IsTestOf (kind.tree p) (Err error) → Refuses error (IsVerdictBy kind bytes)
refused_by kind bytes p (Refused refusal) read failed =
    subst (λ r. IsVerdictBy kind bytes (Err r)) (sym failed.0) (no_tree read failed.1)
refused_by kind bytes p Memory read failed = tt

pub past_limit : {P : Type 0} {kind : Kind P} {bytes : List ℕ} {p : P} → IsTested kind bytes p
    → kind.is_within p ≡ false → IsVerdictBy kind bytes (Err Limit)
unfolding verdict_by
past_limit is over = record {
  fit = true;
  is_test = rw is.read (λ _. is.fit, λ _. refl);
  is = rw (is.read, over) refl;
}

pub taken : {P : Type 0} {kind : Kind P} {bytes : List ℕ} {p : P} → IsTested kind bytes p → kind.is_within p ≡ true
    → IsVerdictBy kind bytes (Ok p)
unfolding verdict_by
taken is within = record {
  fit = true;
  is_test = rw is.read (λ _. is.fit, λ _. refl);
  is = rw (is.read, within) refl;
}

-- ---- what a verdict says

one_outcome : {P : Type 0} (kind : Kind P) (first : Result P Refusal) (fit other : Bool) → IsFitFor kind fit first
    → IsFitFor kind other first → (first >>= judged kind fit) ≡ (first >>= judged kind other)
one_outcome kind (Err refusal) fit other is also = refl
one_outcome kind (Ok p) fit other is also = ap (λ f. judged kind f p) (same_from_decides fit other is also)

pub one_verdict : {P : Type 0} {kind : Kind P} (bytes : List ℕ) (verdict other : Result P Refusal)
    → IsVerdictBy kind bytes verdict → IsVerdictBy kind bytes other → verdict ≡ other
unfolding verdict_by
one_verdict {kind = kind} bytes verdict other is also =
    sym is.is ∙ one_outcome kind (read_as kind.form bytes) is.fit also.fit is.is_test also.is_test ∙ also.is

-- what was read is taken: a tree can be made of its nodes, and it is within the limits
record IsTaken {P : Type 0} (kind : Kind P) (first : Result P Refusal) (p : P) : Type 0 where
  read : first ≡ Ok p
  fit : IsFit (kind.tree p)
  within : kind.is_within p ≡ true

taken_within : {P : Type 0} (kind : Kind P) (q p : P) (within : Bool) → kind.is_within q ≡ within → IsFit (kind.tree q)
    → judged kind true q ≡ Ok p → IsTaken kind (Ok q) p
taken_within kind q p true within fit e =
    let kept : judged kind true q ≡ Ok q = rw within refl in
    let same : q ≡ p = cc in
    subst (IsTaken kind (Ok q)) same (record { read = refl; fit = fit; within = within })
taken_within kind q p false within fit e = let refused = rw within at e in absurd (cc)

taken_of : {P : Type 0} (kind : Kind P) (first : Result P Refusal) (fit : Bool) (p : P) → IsFitFor kind fit first
    → (first >>= judged kind fit) ≡ Ok p → IsTaken kind first p
taken_of kind (Err refusal) fit p test e = absurd (cc)
taken_of kind (Ok q) true p test e = taken_within kind q p (kind.is_within q) refl (test.0 refl) e
taken_of kind (Ok q) false p test e = absurd (cc)

is_taken : {P : Type 0} (kind : Kind P) {bytes : List ℕ} {p : P} → IsVerdictBy kind bytes (Ok p)
    → IsTaken kind (read_as kind.form bytes) p
unfolding verdict_by
is_taken kind {bytes} {p} is = taken_of kind (read_as kind.form bytes) is.fit p is.is_test is.is

-- a plan that is accepted can be run
pub record IsAccepted (p : Plan) : Type 0 where
  pub within : is_within_limits p ≡ true
  pub limits : AreLimits p.limits
  pub fit : AreFit p.limits p.nodes
  pub faults : IsTrue (numbers_rise p.faults)
  pub quota : IsQuota p.quota
  pub services : AreWithin p.services

pub accepted : {bytes : List ℕ} {p : Plan} → IsVerdict bytes (Ok p) → IsAccepted p
accepted {bytes} {p} is =
    let taken = is_taken script_kind is in
    let range = plan_is_read bytes p taken.read in
    record {
      within = taken.within;
      limits = range.limits;
      fit = taken.fit;
      faults = range.faults;
      quota = range.quota;
      services = range.services;
    }

-- a guest that is accepted is one of the tree, none of the calls that its host makes is let fail, and it can be run alone
pub record IsAcceptedGuest (nodes : List NodeData) (limits : Limits) (p : Plan) : Type 0 where
  pub nodes_are : p.nodes ≡ nodes
  pub limits_are : p.limits ≡ limits
  pub faults : p.faults ≡ []
  pub accepted : IsAccepted p

-- guests that are accepted can be run in turns
pub record AreAccepted (p : GuestsPlan) : Type 0 where
  pub within : guests_within p ≡ true
  pub limits : AreLimits p.limits
  pub fit : AreFit p.limits p.nodes
  pub guests : All (IsAcceptedGuest p.nodes p.limits) p.guests
  pub schedule : All (λ guest. guest < length p.guests) p.schedule

-- what the limits say of several guests, one by one
pub record KeepGuestsLimits (p : GuestsPlan) : Type 0 where
  pub each : All (λ guest. is_within_limits guest ≡ true) p.guests
  pub size : sum_by (λ guest. guest.size) p.guests ≤ most_memory
  pub shown : sum_by (λ guest. shown_bytes guest.show) p.guests ≤ most_memory

pub guests_limits_kept : (p : GuestsPlan) → guests_within p ≡ true → KeepGuestsLimits p
unfolding guests_within
guests_limits_kept p e =
    let shown = and_parts _ _ e in
    let size = and_parts _ _ shown.0 in
    record {
      each = AllPass-from_list_all is_within_limits p.guests size.0;
      size = leb-true _ _ size.1;
      shown = leb-true _ _ shown.1;
    }

accepted_guest : (nodes : List NodeData) (limits : Limits) (p : Plan) → AreLimits limits → AreFit limits nodes
    → is_within_limits p ≡ true → IsGuestOn nodes limits p → IsAcceptedGuest nodes limits p
accepted_guest nodes limits p are fit within is = record {
  nodes_are = is.nodes_are;
  limits_are = is.limits_are;
  faults = is.faults;
  accepted = record {
    within = within;
    limits = rw is.limits_are are;
    fit = rw (is.limits_are, is.nodes_are) fit;
    faults = rw is.faults refl;
    quota = is.quota;
    services = is.services;
  };
}

pub guests_accepted : {bytes : List ℕ} {p : GuestsPlan} → IsGuestsVerdict bytes (Ok p) → AreAccepted p
guests_accepted {bytes} {p} is =
    let taken = is_taken guests_kind is in
    let range = form_is_read AreInRange guests_of guests_read_in_range bytes p taken.read in
    let each = (guests_limits_kept p taken.within).each in
    record {
      within = taken.within;
      limits = range.limits;
      fit = taken.fit;
      guests = λ k d l. accepted_guest p.nodes p.limits _ range.limits taken.fit (each k d l) (range.guests k d l);
      schedule = range.schedule;
    }

-- of what each guest runs, what is known of it as a guest
pub each_session : (nodes : List NodeData) (limits : Limits) (guests : List Session)
    → All (IsAcceptedGuest nodes limits) (map (planned nodes limits) guests)
    → All (λ guest. IsAcceptedGuest nodes limits (planned nodes limits guest)) guests
each_session nodes limits guests are k d l =
    subst (IsAcceptedGuest nodes limits) (get_or-map (planned nodes limits) guests k d (planned nodes limits d) l)
    (are k (planned nodes limits d) (rw length-map l))

-- what the limits say of a plan, one by one
pub record KeepsLimits (p : Plan) : Type 0 where
  pub preopens : are_preopens_directories p.nodes p.preopens ≡ true
  pub table : 3 + length p.preopens ≤ p.table
  pub most : p.table ≤ 65536
  pub size : p.size ≤ most_memory
  pub pieces : list_all (is_piece_within p.size) p.pieces ≡ true
  pub show : list_all (is_shown_within p.size) p.show ≡ true
  pub shown : sum_by (λ shown. shown.len) p.show ≤ most_memory

pub limits_kept : (p : Plan) → is_within_limits p ≡ true → KeepsLimits p
unfolding is_within_limits
limits_kept p e =
    let shown = and_parts _ _ e in
    let show = and_parts _ _ shown.0 in
    let pieces = and_parts _ _ show.0 in
    let size = and_parts _ _ pieces.0 in
    let table = and_parts _ _ size.0 in
    let fit = and_parts _ _ table.1 in
    record {
      preopens = table.0;
      table = leb-true _ _ fit.0;
      most = leb-true _ _ fit.1;
      size = leb-true _ _ size.1;
      pieces = pieces.1;
      show = show.1;
      shown = leb-true _ _ shown.1;
    }
