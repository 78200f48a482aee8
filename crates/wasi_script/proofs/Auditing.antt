-- Calls that are made and noted one by one.
use Rattle.std.proofs.Common.{ℕ, ◌<◌, ◌^◌, zero, suc, ◌≡◌, ◌⊎◌, inl, inr, true, false, List, [], ◌∷◌, ◌++◌, length, refl, ap, sym, ◌∙◌, subst, arith, slice_get, Some}
use Rattle.std.specs.Prelude.{All, Contains}
use Rattle.std.specs.FinSet.{contains, empty, contains-empty}
use Rattle.std.specs.List.Sorted.{IsStrictlyIncreasing}
use Rattle.std.specs.Ordering.{nat_cmp}
use Rattle.std.proofs.lemmas.List.Elements.{All-weaker, Contains-append_cases, Contains-append_left, Contains-push}
use Rattle.wasi_host.specs.Agree.{Touches}
use Rattle.wasi_host.specs.HostLaws.{HostModel, FaultCount, Rose}
use Rattle.wasi_host.specs.Tree.{Tree, Nodes}
use Rattle.wasi_audit.specs.Audits.{Stems, Audited, first_stems, noted_lists, started}
use Rattle.wasi_audit.proofs.Membership.{Contains-noted, length-noted_lists, noted-rising, started-count}
use Rattle.wasi_guest.specs.declared.answer.Answer.{Answer}
use Rattle.wasi_p1_model.specs.CallTransition.{Turns, in_model}
use Rattle.wasi_p1_model.specs.DescriptorLaws.{FitsTable}
use Rattle.wasi_p1_types.specs.Front.{FueledCall}
use Rattle.wasi_p1_types.specs.Guest.{Guest, State}
use Rattle.wasi_p1_model.specs.Reach.{Confined}
use Rattle.wasi_p1_model.specs.Calls.{descriptors_named}
use Rattle.wasi_p1_model.specs.Trace.{TraceStep, Played, Faulted, Allows, RefinesTrace, ends, ends_of, ios, named}
use Rattle.wasi_p1_model.proofs.Confining.{turn_confines}
use Rattle.wasi_p1_model.proofs.Runs.{SoFar, all_done, all_done_turns, ended, ended_turns, io_counted, nothing_yet, nothing_yet_turns, turn_ends, turn_of, turned, turned_on, turned_on_turns}
use Rattle.wasi_p1_model.proofs.Stemming.{numbers_fit}
use Rattle.wasi_setup.proofs.Starts.{confined_at_start}
use Rattle.wasi_script.specs.Through.{Stemmed, stems_behind, stemmed, GoesThrough, IsLocalStep, ListsThrough, IsListed}
use Rattle.wasi_script.specs.AuditedRun.{AuditedTurn, AuditedRun, Covers, StartsAudit}
use Rattle.wasi_script.proofs.StemLemmas.{stems_over, over_more, stemmed_more, covers_on, near_through}
use Rattle.wasi_setup.proofs.ListedNodes.{in_listed, in_list}
use Rattle.wasi_script.proofs.ListLemmas.{listed_set, none_at, set_has, starts_empty, list_at, still_listed, newly_listed, listed_from}

-- The calls so far were made and noted. So many directories were given, and so many descriptors may be live
pub record NotedSoFar (before now : FaultCount) (first : State) (stems : Stems) (given most : ℕ) (calls : List FueledCall)
    (last : State) (audit : Audited) : Type 0 where
  pub answered : List Answer
  pub run : SoFar before now first calls answered last (listed_set audit.lists)
  pub errors : Allows before now (ios answered)
  pub stems_are : audit.stems ≡ stems_over stems run.turns
  pub count : length audit.lists ≡ given
  pub through : (i : ℕ) (list : List ℕ) → slice_get audit.lists i ≡ Some list
      → ListsThrough (stemmed stems run.turns) i list
  pub confined : Confined first last (listed_set audit.lists)
  pub covers : Covers audit.stems given last.guest
  pub fits : FitsTable most last.guest

-- ---- one call more

-- nodes that were touched beside others
widened : {t t' : Tree} {roots paths : List ℕ} {fresh : Nodes} (old new : Nodes) → Touches t t' roots paths empty fresh
    → ((n : ℕ) → contains old n ≡ true → contains new n ≡ true)
    → ((n : ℕ) → contains fresh n ≡ true → contains new n ≡ true)
    → ((n : ℕ) → contains new n ≡ true → (contains old n ≡ true) ⊎ (contains fresh n ≡ true))
    → Touches t t' roots paths old new
widened {paths = paths} {fresh = fresh} old new touches stays adds from = record {
  stays = stays;
  near = λ n has. elim (from n has) [
    | inl was ↦ inl was
    | inr is ↦ elim (touches.near n is) [
      | inl none ↦ absurd (let never = contains-empty nat_cmp n in cc)
      | inr near ↦ inr near
    ]
  ];
  ends = All-weaker (λ n. contains fresh n ≡ true) _ (λ n is. adds n is) paths touches.ends;
}

-- a run whose touched nodes are those that are listed
audited : {before now : FaultCount} {first last : State} {calls : List FueledCall} {answered : List Answer} {stems : Stems}
    {lists : List (List ℕ)} → Allows before now (ios answered)
    → (ran : RefinesTrace before now first calls answered last (listed_set lists))
    → ((i : ℕ) (list : List ℕ) → slice_get lists i ≡ Some list → ListsThrough (stemmed stems ran.turns) i list)
    → Confined first last (listed_set lists) → AuditedRun before now first calls stems lists
audited {before} {now} {last = last} {lists = lists} errors ran through confined = record {
  turns = ran.turns;
  last = last;
  faults = ran.faults;
  allowed = ran.allowed;
  run = ran.run;
  errors = subst (λ all. Allows before now (ios all)) ran.answers_are errors;
  ends = All-weaker (λ n. contains (listed_set lists) n ≡ true) _ (λ n has. (set_has lists n).0 has) (named ran.turns)
      ran.ends_touched;
  in_reach = λ n is. confined.touched_in n ((set_has lists n).1 is);
  through = through;
}

module _ {before now after : FaultCount} {first : State} {stems : Stems} {given most : ℕ} {calls : List FueledCall}
    {w v : HostModel} {g g' : Guest} {call : FueledCall} {was is : Audited} {answer : Answer}
    (so : NotedSoFar before now first stems given most calls (in_model w g) was)
    (made : AuditedTurn now after w v g g' call was is answer) where
  abbrev t : TraceStep
  t = turned (in_model w g) call answer (in_model v g')

  abbrev names : List ℕ
  names = descriptors_named g.memory call.call

  took : Played t ⊎ Faulted t
  took = elim (turn_of call made.result made.answers made.turn.turn) [ inl played ↦ inl played | inr (faulted, _) ↦ inr faulted ]

  -- the lists after it, in the words of the notes
  lists_are : is.lists ≡ noted_lists was.stems names made.touched was.lists
  lists_are = ap (λ (a : Audited). a.lists) made.notes

  fresh : (n : ℕ) → contains v.touched n ≡ true → Contains made.touched n
  fresh n has = in_listed made.touched n (subst (λ s. contains s n ≡ true) (sym made.touched_are) has)

  touched_now : (n : ℕ) → Contains made.touched n → contains v.touched n ≡ true
  touched_now n has = subst (λ s. contains s n ≡ true) made.touched_are (in_list made.touched n has)

  near_now : (n : ℕ) → Contains made.touched n → IsLocalStep n t
  near_now n has = elim (made.near.near n (touched_now n has)) [
    | inl none ↦ absurd (let never = contains-empty nat_cmp n in cc)
    | inr near ↦ near
  ]

  -- each touched node comes to some list
  listed_now : (n : ℕ) → Contains made.touched n → IsListed is.lists n
  listed_now n has =
      let (i, through, within) = near_through was.stems given t took so.covers n (near_now n has) in
      subst (λ lists. IsListed lists n) (sym lists_are)
      (newly_listed was.stems names made.touched was.lists i n through (omega (arith, within, so.count)) has)

  still_now : (n : ℕ) → IsListed was.lists n → IsListed is.lists n
  still_now n has =
      subst (λ lists. IsListed lists n) (sym lists_are) (still_listed was.stems names made.touched was.lists n has)

  from_now : (n : ℕ) → IsListed is.lists n → IsListed was.lists n ⊎ Contains made.touched n
  from_now n has =
      listed_from was.stems names made.touched was.lists n (subst (λ lists. IsListed lists n) lists_are has)

  -- so it is a turn that touches what is listed
  takes : Turns (Rose now after) (record w { touched = listed_set was.lists }) (record v { touched = listed_set is.lists })
      g g' call made.result
  takes = record {
    turn = made.turn.turn;
    touched = widened (listed_set was.lists) (listed_set is.lists) made.turn.touched
        (λ n has. (set_has is.lists n).1 (still_now n ((set_has was.lists n).0 has)))
        (λ n has. (set_has is.lists n).1 (listed_now n (fresh n has)))
        (λ n has. elim (from_now n ((set_has is.lists n).0 has)) [
          | inl old ↦ inl ((set_has was.lists n).1 old)
          | inr new ↦ inr (touched_now n new)
        ]);
  }

  -- the turn is the last one
  abbrev last_one : Stemmed
  last_one = record { stems = was.stems; turn = t }

  abbrev turns_so : List Stemmed
  turns_so = stemmed stems so.run.turns

  stemmed_now : stemmed stems (so.run.turns ++ t ∷ []) ≡ turns_so ++ last_one ∷ []
  stemmed_now = stemmed_more stems so.run.turns t
      ∙ ap (λ (s : Stems). turns_so ++ record { stems = s; turn = t } ∷ []) (sym so.stems_are)

  -- the lists hold what they have to, and no more
  ends_touched : All (Contains made.touched) (ends_of t)
  ends_touched = All-weaker (λ n. contains v.touched n ≡ true) _ (λ n has. fresh n has) (ends_of t)
      (turn_ends made.answers made.turn)

  through_now : (i : ℕ) (list : List ℕ) → slice_get is.lists i ≡ Some list
      → ListsThrough (stemmed stems (so.run.turns ++ t ∷ [])) i list
  through_now i list at =
      let (old, noted) = list_at was.stems names made.touched was.lists i
      (subst (λ lists. slice_get lists i ≡ Some list) lists_are at) in
      let held = so.through i old noted.before in
      subst (λ turns. ListsThrough turns i list) (sym stemmed_now) (record {
        rising = noted-rising noted held.rising;
        whole = λ s among goes. elim (Contains-append_cases turns_so (last_one ∷ []) s among) [
          | inl before ↦ All-weaker (Contains old) _ (λ n has. (Contains-noted noted n).1 (inl has)) (ends_of s.turn)
              (held.whole s before goes)
          | inr here ↦
              let own : last_one ≡ s = only here in
              subst (λ (s : Stemmed). All (Contains list) (ends_of s.turn)) own
              (All-weaker (Contains made.touched) _ (λ n has. (Contains-noted noted n).1
              (inr (subst (λ (s : Stemmed). GoesThrough i s) (sym own) goes, has))) (ends_of t) ends_touched)
        ];
        near = λ n has. elim ((Contains-noted noted n).0 has) [
          | inl before ↦ let near = held.near n before in record {
            stemmed = near.stemmed;
            among = Contains-append_left turns_so (last_one ∷ []) near.stemmed near.among;
            through = near.through;
            near = near.near;
          }
          | inr (goes, new) ↦ record {
            stemmed = last_one;
            among = Contains-push turns_so last_one;
            through = goes;
            near = near_now n new;
          }
        ];
      })
    where
      only : {A : Type 0} {x y : A} → Contains (x ∷ []) y → x ≡ y
      only (zero, within, is) = is
      only (suc i, within, is) = absurd (omega (arith, within))

  abbrev answers_now : ends answer ≡ false → SoFar before after first (calls ++ call ∷ []) (so.answered ++ answer ∷ [])
      (in_model v g') (listed_set is.lists)
  answers_now goes = turned_on made.answers made.cause takes so.run goes

  errors_now : Allows before after (ios (so.answered ++ answer ∷ []))
  errors_now = io_counted before so.answered made.answers made.cause so.errors

  stems_now : is.stems ≡ stems_over stems (so.run.turns ++ t ∷ [])
  stems_now = ap (λ (a : Audited). a.stems) made.notes ∙ ap (λ s. stems_behind s t) so.stems_are
      ∙ sym (over_more stems so.run.turns t)

  confined_now : Confined first (in_model v g') (listed_set is.lists)
  confined_now = turn_confines takes so.confined

  pub noted_on : ends answer ≡ false → NotedSoFar before after first stems given most (calls ++ call ∷ []) (in_model v g') is
  noted_on goes =
      let turns = turned_on_turns made.answers made.cause takes so.run goes in record {
        answered = so.answered ++ answer ∷ [];
        run = answers_now goes;
        errors = errors_now;
        stems_are = stems_now ∙ ap (stems_over stems) (sym turns);
        count = ap length lists_are ∙ length-noted_lists was.stems names made.touched was.lists ∙ so.count;
        through = subst (λ turns. (i : ℕ) (list : List ℕ) → slice_get is.lists i ≡ Some list
            → ListsThrough (stemmed stems turns) i list) (sym turns) through_now;
        confined = confined_now;
        covers = subst (λ s. Covers s given g') (sym (ap (λ (a : Audited). a.stems) made.notes))
            (covers_on was.stems given t took so.covers);
        fits = numbers_fit most t took so.fits;
      }

  pub noted_last : (more : List FueledCall) → ends answer ≡ true
      → AuditedRun before after first (calls ++ call ∷ more) stems is.lists
  noted_last more stops = audited errors_now (ended made.answers made.cause takes so.run more stops)
      (subst (λ turns. (i : ℕ) (list : List ℕ) → slice_get is.lists i ≡ Some list → ListsThrough (stemmed stems turns) i list)
      (sym (ended_turns made.answers made.cause takes so.run more stops)) through_now) confined_now

-- ---- the calls end with no answer that ends the run

pub noted_all : {before now : FaultCount} {first last : State} {stems : Stems} {given most : ℕ} {calls : List FueledCall}
    {audit : Audited} → NotedSoFar before now first stems given most calls last audit
    → AuditedRun before now first calls stems audit.lists
noted_all {stems = stems} {audit = audit} so = audited so.errors (all_done so.run)
    (subst (λ turns. (i : ℕ) (list : List ℕ) → slice_get audit.lists i ≡ Some list → ListsThrough (stemmed stems turns) i list)
    (sym (all_done_turns so.run)) so.through) so.confined

-- ---- no call yet

pub none_noted : (before : FaultCount) (first : State) (given most : ℕ) → Covers (first_stems given) given first.guest
    → FitsTable most first.guest → NotedSoFar before before first (first_stems given) given most [] first (started given)
none_noted before first given most covers fits = record {
  answered = [];
  run = none;
  errors = inl (omega arith);
  stems_are = ap (stems_over (first_stems given)) (sym turns);
  count = started-count given;
  through = λ i list at. record {
    rising = subst IsStrictlyIncreasing (sym (none_at given i at)) (λ k within. omega (arith, within));
    whole = λ s among goes. absurd (let empty : Contains [] s = subst (λ ts. Contains (stemmed (first_stems given) ts) s) turns among in
        omega (arith, empty.1));
    near = λ n has. absurd (starts_empty given i at n has);
  };
  confined = record {
    later = confined.later;
    descriptors = confined.descriptors;
    names = confined.names;
    touched_in = λ n has. absurd (nothing n has);
  };
  covers = covers;
  fits = fits;
}
  where
    nothing : (n : ℕ) → contains (listed_set (started given).lists) n ≡ true → ⊥
    nothing n has = let is = (set_has (started given).lists n).0 has in starts_empty given is.place is.at n is.has

    none : SoFar before before first [] [] first (listed_set (started given).lists)
    none = nothing_yet

    turns : none.turns ≡ []
    turns = nothing_yet_turns before first (listed_set (started given).lists)

    confined : Confined first first empty
    confined = confined_at_start first refl

-- ---- the calls of a guest whose audit began so

-- as many lists were begun as directories were given
pub record NotedCalls (before now : FaultCount) (first : State) (begun : Audited) (calls : List FueledCall) (last : State)
    (audit : Audited) : Type 0 where
  pub given : ℕ
  pub most : ℕ
  pub below : most < 2 ^ 32
  pub begins : begun ≡ started given
  pub so : NotedSoFar before now first (first_stems given) given most calls last audit

pub none_called : {before : FaultCount} {first : State} {audit : Audited} → StartsAudit first.guest audit
    → NotedCalls before before first audit [] first audit
none_called {before} {first} {audit} starts =
    let (most, fits, below) = starts.short in record {
      given = starts.given;
      most = most;
      below = below;
      begins = starts.begins;
      so = subst (NotedSoFar before before first (first_stems starts.given) starts.given most [] first) (sym starts.begins)
          (none_noted before first starts.given most starts.covers fits);
    }

pub still_counted : {before now : FaultCount} {first last : State} {begun audit : Audited} {calls : List FueledCall}
    → NotedCalls before now first begun calls last audit → length audit.lists ≡ length begun.lists
still_counted noted = noted.so.count
    ∙ sym (ap (λ (a : Audited). length a.lists) noted.begins ∙ started-count noted.given)

pub last_counted : {before now after : FaultCount} {first last : State} {begun was is : Audited} {calls : List FueledCall}
    {w v : HostModel} {g g' : Guest} {call : FueledCall} {answer : Answer} → NotedCalls before now first begun calls last was
    → AuditedTurn now after w v g g' call was is answer → length is.lists ≡ length begun.lists
last_counted {was = was} {g = g} {call = call} noted made = ap (λ (a : Audited). length a.lists) made.notes
    ∙ length-noted_lists was.stems (descriptors_named g.memory call.call) made.touched was.lists ∙ still_counted noted

pub one_called : {before now after : FaultCount} {first : State} {begun was is : Audited} {calls : List FueledCall}
    {w v : HostModel} {g g' : Guest} {call : FueledCall} {answer : Answer}
    → NotedCalls before now first begun calls (in_model w g) was → AuditedTurn now after w v g g' call was is answer
    → ends answer ≡ false → NotedCalls before after first begun (calls ++ call ∷ []) (in_model v g') is
one_called noted made goes = record {
  given = noted.given;
  most = noted.most;
  below = noted.below;
  begins = noted.begins;
  so = noted_on noted.so made goes;
}

pub last_called : {before now after : FaultCount} {first : State} {begun was is : Audited} {calls : List FueledCall}
    {w v : HostModel} {g g' : Guest} {call : FueledCall} {answer : Answer} (more : List FueledCall)
    → NotedCalls before now first begun calls (in_model w g) was → AuditedTurn now after w v g g' call was is answer
    → ends answer ≡ true → AuditedRun before after first (calls ++ call ∷ more) begun.stems is.lists
last_called {before} {after = after} {first = first} {is = is} {calls = calls} {call = call} more noted made stops =
    subst (λ (a : Audited). AuditedRun before after first (calls ++ call ∷ more) a.stems is.lists) (sym noted.begins)
    (noted_last noted.so made more stops)

pub all_called : {before now : FaultCount} {first last : State} {begun audit : Audited} {calls : List FueledCall}
    → NotedCalls before now first begun calls last audit → AuditedRun before now first calls begun.stems audit.lists
all_called {before} {now} {first} {audit = audit} {calls = calls} noted =
    subst (λ (a : Audited). AuditedRun before now first calls a.stems audit.lists) (sym noted.begins) (noted_all noted.so)
