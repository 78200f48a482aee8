-- Guests of which no node lies inside two come to what each of them comes to alone.
use Rattle.std.proofs.Common.{ℕ, zero, suc, ◌+◌, ◌-◌, ◌<◌, ◌≤◌, ◌≡◌, ◌≢◌, ◌⊎◌, inl, inr, Bool, true, false, List, [], ◌∷◌, ◌++◌, length, take, map, refl, ap, sym, ◌∙◌, subst, arith, Option, Some, None, slice_get, get_or, append-nil, ◌==◌}
use Rattle.std.specs.Prelude.{◌&&◌, All, sum_by, option_map, unwrap_or, if◌then◌else◌}
use Rattle.std.specs.FinMap as maps
use Rattle.std.specs.FinSet.{contains, empty}
use Rattle.std.proofs.lemmas.Bool.{and_parts, cases_Bool, cases_eq, cases_lt, false_from_ne_true, le-ltb, lt-ltb}
use Rattle.std.proofs.lemmas.Bool.Decides.{nat_tests}
use Rattle.std.proofs.lemmas.List.{length-map}
use Rattle.std.proofs.lemmas.List.Elements.{All-cons, All-contains, All-head, All-map, All-nil, All-tail, All-weaker}
use Rattle.std.proofs.lemmas.List.Sums.{sum_by-cons}
use Rattle.std.proofs.lemmas.Option.{get_or_from_slice_get, slice_get-get_or, slice_get-map, slice_get_within}
use Rattle.wasi_form.specs.Plan.{planned_preopen}
use Rattle.wasi_form.specs.declared.script.ScriptPreopen.{ScriptPreopen}
use Rattle.wasi_host.specs.Agree.{IsMade}
use Rattle.wasi_host.specs.Tree.{Tree, Content, File, Directory, Link, next_of, node_at, names_of, is_directory}
use Rattle.wasi_host.specs.ValidTree.{Reached, root, held}
use Rattle.wasi_host.proofs.Changes.{directory_within}
use Rattle.wasi_setup.specs.Start.{preopen_guest_slots}
use Rattle.wasi_setup.proofs.Starts.{confined_at_start}
use Rattle.wasi_setup.proofs.ToldNodes.{told_at}
use Rattle.wasi_tree.specs.NodeData.{NodeData, directory, data_of_content, data_of_node}
use Rattle.wasi_tree.specs.Sound.{IsSoundNode}
use Rattle.wasi_p1_types.specs.Guest.{State, open_nodes}
use Rattle.wasi_p1_model.specs.Reach.{Inside}
use Rattle.wasi_guests.specs.Alone.{AloneRun, End, IsAlone, Starting, end_alone, made_by, starting, turns_of}
use Rattle.wasi_guests.specs.AsIfAlone.{AsIfAlone, IsGuest, MayBegin, preopen_directories}
use Rattle.wasi_guests.specs.Between.{AreAt, AreBegunOn, AreJoined, AreNumbered, HasRoom, IsAt, IsBegunOn, IsGoing, IsOver, end_of, joint_node_data, joint_in, tree_of}
use Rattle.wasi_guests.specs.Insides.{AreInTree, IsLowestShared, LiesInside, directories_of}
use Rattle.wasi_guests.specs.Joint.{MadeNode, content_renumbered, joint_number, made_before, renumbered}
use Rattle.wasi_setup.specs.Merged.{IsMergedTree}
use Rattle.wasi_guests.specs.declared.guest_run.GuestRun.{GuestRun}
use Rattle.wasi_guests.specs.declared.plan.GuestPlan.{GuestPlan}
use Rattle.wasi_guests.proofs.MadeLemmas.{not_one}
use Rattle.wasi_setup.proofs.Merging.{run_over}
use Rattle.wasi_guests.proofs.PlaceLemmas.{is_there, map_alike, some_same}
use Rattle.wasi_guests.proofs.WalkLemmas.{entries_within}

-- ---- before the first turn

-- whether a node is a directory doesn't rest on what was worked on
pub directories_still : (t : Tree) (preopens : List ScriptPreopen)
    → All (λ preopen. is_directory (node_at t preopen.node).content ≡ true) preopens
    → All (λ preopen. is_directory (node_at (record t { worked = empty }) preopen.node).content ≡ true) preopens
unfolding node_at
directories_still t preopens are = are

abbrev starts : Tree → List GuestPlan → List Starting
starts t plans = map (starting t) plans

abbrev nothing_run : Starting → AloneRun
nothing_run g = record { turns = []; last = g.state }

begun_at : {t : Tree} {plan : GuestPlan} {run : GuestRun} → IsBegunOn t plan run
    → IsAt (starting t plan) 0 (nothing_run (starting t plan)) run
begun_at {t} {plan} {run} begins = record {
  calls = begins.calls;
  state = begins.state;
  answers = begins.unanswered;
  size = ap (λ (s : State). length s.guest.memory) begins.state;
  unfailing = rw begins.unfailing refl;
  confined = confined_at_start (starting t plan).state begins.untouched;
  goes = inl (record {
    next = begins.first;
    within = omega arith;
    on = λ more rest last run. run;
    each = refl;
  });
}

begun_run : {t : Tree} (plans : List GuestPlan) (runs : List GuestRun) → AreBegunOn t plans runs → (i : ℕ) (plan : GuestPlan)
    (run : GuestRun) → slice_get plans i ≡ Some plan → slice_get runs i ≡ Some run → IsBegunOn t plan run
begun_run [] runs are i plan run there stands = absurd (cc)
begun_run (p ∷ plans) [] are i plan run there stands = absurd are
begun_run (p ∷ plans) (r ∷ runs) are zero plan run there stands = rw (some_same there, some_same stands) at are.0
begun_run (p ∷ plans) (r ∷ runs) are (suc i) plan run there stands = begun_run plans runs are.1 i plan run there stands

pub begun_count : (t : Tree) (plans : List GuestPlan) (runs : List GuestRun) → AreBegunOn t plans runs → length runs ≡ length plans
begun_count t [] [] are = refl
begun_count t [] (r ∷ runs) are = absurd are
begun_count t (p ∷ plans) [] are = absurd are
begun_count t (p ∷ plans) (r ∷ runs) are = ap (λ n. suc n) (begun_count t plans runs are.1)

-- one guest more
pub begun_push : {t : Tree} (plans : List GuestPlan) (runs : List GuestRun) {plan : GuestPlan} {run : GuestRun}
    → AreBegunOn t plans runs → IsBegunOn t plan run → AreBegunOn t (plans ++ plan ∷ []) (runs ++ run ∷ [])
begun_push [] [] are begins = (begins, tt)
begun_push [] (r ∷ runs) are begins = absurd are
begun_push (p ∷ plans) [] are begins = absurd are
begun_push (p ∷ plans) (r ∷ runs) are begins = (are.0, begun_push plans runs are.1 begins)

-- each has room for its answers
pub begun_rooms : (t : Tree) (plans : List GuestPlan) (runs : List GuestRun) → AreBegunOn t plans runs → All HasRoom runs
begun_rooms t [] [] are = All-nil HasRoom
begun_rooms t [] (r ∷ runs) are = absurd are
begun_rooms t (p ∷ plans) [] are = absurd are
begun_rooms t (p ∷ plans) (r ∷ runs) are = All-cons HasRoom r runs are.0.room (begun_rooms t plans runs are.1)

-- an item of a list of items that were changed
was_item : {A B : Type 0} (f : A → B) (xs : List A) (i : ℕ) (y : B) → slice_get (map f xs) i ≡ Some y
    → (x : A) × (slice_get xs i ≡ Some x) × (f x ≡ y)
was_item f [] i y is = absurd (cc)
was_item f (x ∷ xs) zero y is = (x, refl, some_same is)
was_item f (x ∷ xs) (suc i) y is = was_item f xs i y is

-- nothing was made
none_made : (t : Tree) (plans : List GuestPlan) → sum_by (made_by t) (map nothing_run (starts t plans)) ≡ 0
none_made t [] = refl
none_made t (plan ∷ plans) =
    sum_by-cons (made_by t) (nothing_run (starting t plan)) (map nothing_run (starts t plans))
    ∙ let rest = none_made t plans in let here : next_of t - next_of t ≡ 0 = omega arith in omega (arith, rest, here)

pub none_at : {t : Tree} (plans : List GuestPlan) (runs : List GuestRun) → AreBegunOn t plans runs
    → AreAt t (starts t plans) [] runs []
none_at {t} plans runs are = record {
  count = begun_count t plans runs are ∙ sym (length-map plans (starting t));
  alone = map nothing_run (starts t plans);
  each = length-map (starts t plans) nothing_run;
  at = λ i g one run guest stands.
      let (plan, there, is) = was_item (starting t) plans i g guest.begins in
      let (h, begins, own) = was_item nothing_run (starts t plans) i one guest.runs in
      let same : h ≡ g = some_same (sym begins ∙ guest.begins) in
      subst (λ (p : Starting × AloneRun). IsAt p.0 0 p.1 run)
      (λ k. (is k, (ap nothing_run (is ∙ sym same) ∙ own) k))
      (begun_at (begun_run plans runs are i plan run there stands));
  made_are = refl;
  total = sym (none_made t plans);
  numbered = λ i run stands.
      let short = slice_get_within runs i run stands in
      let (plan, there) = is_there plans i (omega (arith, short, begun_count t plans runs are)) in
      let begins = begun_run plans runs are i plan run there stands in record {
        count = omega (arith, ap length begins.unmade, ap (λ (s : State). next_of s.tree) begins.state);
        each = λ k. ap (λ l. slice_get l k) begins.unmade;
      };
  within = λ k d short. absurd (omega arith);
  fresh = λ k d short. absurd (omega arith);
}

-- each guest's memory keeps its size
pub sizes_kept : (t : Tree) (plans : List GuestPlan) {schedule : List ℕ} {runs : List GuestRun} {made : List MadeNode}
    → AreAt t (starts t plans) schedule runs made
    → map (λ run. length run.memory) runs ≡ map (λ plan. length plan.memory) plans
sizes_kept t plans {runs = runs} are =
    map_alike (λ (run : GuestRun). length run.memory) (λ (plan : GuestPlan). length plan.memory) runs plans
    (are.count ∙ length-map plans (starting t)) (λ i run plan stands there.
    let short = slice_get_within runs i run stands in
    let (one, ran) = is_there are.alone i (omega (arith, short, are.count, are.each)) in
    let begins = slice_get-map (starting t) plans i ∙ ap (option_map (starting t)) there in
    (are.at i (starting t plan) one run (record { begins = begins; runs = ran }) stands).size)

-- each guest sees the nodes of the start at least
pub are_within : {t : Tree} {guests : List Starting} {schedule : List ℕ} {runs : List GuestRun} {made : List MadeNode}
    → AreAt t guests schedule runs made → All (λ run. next_of t ≤ next_of (tree_of run)) runs
are_within {runs = runs} are k run within =
    let count = (are.numbered k (get_or runs k run) (slice_get-get_or runs k run within)).count in omega (arith, count)

-- ---- a guest's inside

-- the nodes of its first descriptors are the directories that it is given
given_nodes : (place : ℕ) (preopens : List ScriptPreopen)
    → open_nodes (preopen_guest_slots place (map planned_preopen preopens)) ≡ map (λ p. p.node) preopens
given_nodes place [] = refl
given_nodes place (p ∷ preopens) = ap (λ l. p.node ∷ l) (given_nodes (suc place) preopens)

opened_first : (t : Tree) (plan : GuestPlan) → open_nodes (starting t plan).state.guest.slots ≡ preopen_directories plan
opened_first t plan = given_nodes 0 plan.preopens.items

-- what is reached doesn't rest on what was worked on
reached_in : {t : Tree} {roots : List ℕ} {n : ℕ} → Reached (record t { worked = empty }) roots n → Reached t roots n
unfolding node_at
reached_in (root n has) = root n has
reached_in (held d n name above is) = held d n name (reached_in above) is

-- the directories that guests are given are in the tree
directories_in : {t : Tree} (plan : GuestPlan) → MayBegin t plan → All (λ n. n < next_of t) (preopen_directories plan)
directories_in {t} plan begin = All-map (λ n. n < next_of t) (λ (p : ScriptPreopen). p.node) plan.preopens.items
    (All-weaker (λ (p : ScriptPreopen). is_directory (node_at t p.node).content ≡ true) _
    (λ p is. directory_within t p.node is) plan.preopens.items begin.directories)

pub all_in : {t : Tree} (plans : List GuestPlan) → All (MayBegin t) plans → AreInTree t (map preopen_directories plans)
all_in {t} plans may = All-map (All (λ n. n < next_of t)) preopen_directories plans
    (All-weaker (MayBegin t) _ directories_in plans may)

-- a guest among those that begin, and what it begins as
record Begins (t : Tree) (plans : List GuestPlan) (i : ℕ) (g : Starting) : Type 0 where
  plan : GuestPlan
  there : slice_get plans i ≡ Some plan
  is : starting t plan ≡ g

begins_at : {t : Tree} {plans : List GuestPlan} {i : ℕ} {g : Starting} → slice_get (starts t plans) i ≡ Some g
    → Begins t plans i g
begins_at {t} {plans} {i} {g} begins =
    let (plan, there, is) = was_item (starting t) plans i g begins in
    record { plan = plan; there = there; is = is }

module _ {t : Tree} {plans : List GuestPlan} {i : ℕ} {g : Starting} (guest : Begins t plans i g) where
  reached : {n : ℕ} → Inside g.state n → Reached t (preopen_directories guest.plan) n
  reached {n} inside =
      let here : Reached (record t { worked = empty }) (open_nodes (starting t guest.plan).state.guest.slots) n =
      subst (λ (h : Starting). Inside h.state n) (sym guest.is) inside in
      rw (opened_first t guest.plan) at (reached_in {t = t} here)

  -- in the words of the guests' directories
  lies_inside : {n : ℕ} → Inside g.state n → LiesInside t (directories_of (map preopen_directories plans) i) n
  lies_inside {n} inside = subst (λ ds. LiesInside t ds n)
      (sym (get_or_from_slice_get (map preopen_directories plans) i (preopen_directories guest.plan) []
      (slice_get-map preopen_directories plans i ∙ ap (option_map preopen_directories) guest.there)))
      (reached inside)

  module _ (may : All (MayBegin t) plans) (sound : (n : ℕ) → IsSoundNode (next_of t) (node_at t n)) where
    begin : MayBegin t guest.plan
    begin = subst (MayBegin t) (get_or_from_slice_get plans i guest.plan guest.plan guest.there)
        (may i guest.plan (slice_get_within plans i guest.plan guest.there))

    within_tree : {n : ℕ} → Reached t (preopen_directories guest.plan) n → n < next_of t
    within_tree (root n has) =
        All-contains (λ n. n < next_of t) (preopen_directories guest.plan) n (directories_in guest.plan begin) has
    within_tree (held d n name above is) = (sound d).below name n is

    -- what lies inside is in the tree
    inside_within : {n : ℕ} → Inside g.state n → n < next_of t
    inside_within inside = within_tree (reached inside)

-- ---- after the last turn

-- a guest's run so far is its run alone
is_alone : {g : Starting} {t : ℕ} {alone : AloneRun} {run : GuestRun} → IsAt g t alone run → IsAlone g t alone
is_alone {g} {t} {alone} {run} at = by at.goes
  where
    by : IsGoing g t alone run ⊎ IsOver g t alone run → IsAlone g t alone
    by (inl going) = rw (append-nil, append-nil) at (going.on [] [] alone.last refl)
    by (inr over) = over.ran t (omega arith)

ends_alone : {g : Starting} {t : ℕ} {alone : AloneRun} {run : GuestRun} → IsAt g t alone run → end_of run ≡ end_alone alone
ends_alone {alone = alone} {run = run} at = λ k. record {
  answers = at.answers k;
  memory = (at.state k).guest.memory;
  stdout = (at.state k).guest.holdings.stdout;
  stderr = (at.state k).guest.holdings.stderr;
}

-- ---- numbers for all

-- a node of the start was not made
not_made : (start guest n : ℕ) (made : List MadeNode) → All (λ one. start ≤ one.1) made → n < start
    → made_before (guest, n) made ≡ None
not_made start guest n [] fresh below = refl
not_made start guest n ((i, m) ∷ made) fresh below =
    let first : start ≤ m = All-head (λ one. start ≤ one.1) (i, m) made fresh in
    let other = not_one guest n i m (inr (λ same. omega (arith, first, same))) in
    let rest = not_made start guest n made (All-tail (λ one. start ≤ one.1) (i, m) made fresh) below in
    rw (other, rest) refl

-- by the numbers of a guest's made nodes
number_is : (t : Tree) {made : List MadeNode} {guest next : ℕ} {joint : List ℕ} → AreNumbered (next_of t) made guest joint next
    → All (λ one. next_of t ≤ one.1) made → (n : ℕ) → joint_in (next_of t) joint n ≡ joint_number t made guest n
number_is t {made} {guest} {next} {joint} are fresh n = elim (cases_lt n (next_of t)) [
  | inl below ↦
      ap (λ b. if b then n else unwrap_or (slice_get joint (n - next_of t)) n) (lt-ltb n (next_of t) below)
      ∙ sym (ap (λ o. unwrap_or (option_map (λ before. next_of t + before) o) n) (not_made (next_of t) guest n made fresh below))
  | inr past ↦
      let back : next_of t + (n - next_of t) ≡ n = omega arith in
      ap (λ b. if b then n else unwrap_or (slice_get joint (n - next_of t)) n) (le-ltb n (next_of t) past)
      ∙ ap (λ o. unwrap_or o n) (are.each (n - next_of t))
      ∙ ap (λ m. unwrap_or (option_map (λ before. next_of t + before) (made_before (guest, m) made)) n) back
]

-- where a node was made, it stands among those that were
made_there : (one : MadeNode) (made : List MadeNode) (p : ℕ) → made_before one made ≡ Some p → slice_get made p ≡ Some one
made_there (guest, n) [] p is = absurd (cc)
made_there (guest, n) ((i, m) ∷ made) p is = by (made_there (guest, n) made) (i == guest && m == n) refl p is
  where
    later : (o : Option ℕ) (p : ℕ) → option_map (λ before. suc before) o ≡ Some p → (q : ℕ) × (o ≡ Some q) × (p ≡ suc q)
    later None p is = absurd (cc)
    later (Some q) p is = let same : suc q ≡ p = some_same is in (q, refl, sym same)

    by : ((q : ℕ) → made_before (guest, n) made ≡ Some q → slice_get made q ≡ Some (guest, n))
        → (b : Bool) → (i == guest && m == n) ≡ b → (p : ℕ) → made_before (guest, n) ((i, m) ∷ made) ≡ Some p
        → slice_get ((i, m) ∷ made) p ≡ Some (guest, n)
    by rest true same p is =
        let zero_is : 0 ≡ p = some_same (sym (ap (λ b. if b then Some 0
        else option_map (λ before. suc before) (made_before (guest, n) made)) same) ∙ is) in
        let (first, second) = and_parts (i == guest) (m == n) same in
        let i_is : i ≡ guest = grind (arith, nat_tests, first) in
        let m_is : m ≡ n = grind (arith, nat_tests, second) in
        ap (slice_get ((i, m) ∷ made)) (sym zero_is) ∙ (λ k. Some (i_is k, m_is k))
    by rest false other p is =
        let (q, before, next) = later (made_before (guest, n) made) p (sym (ap (λ b. if b then Some 0
        else option_map (λ before. suc before) (made_before (guest, n) made)) other) ∙ is) in
        ap (slice_get ((i, m) ∷ made)) next ∙ rest q before

-- numbers that stay leave a node as it is
entries_same : (number : ℕ → ℕ) (entries : List (List ℕ × ℕ)) → All (λ e. number e.1 ≡ e.1) entries
    → map (λ e. (e.0, number e.1)) entries ≡ entries
entries_same number [] stay = refl
entries_same number (e ∷ entries) stay =
    let here : number e.1 ≡ e.1 = All-head (λ e. number e.1 ≡ e.1) e entries stay in
    let rest = entries_same number entries (All-tail (λ e. number e.1 ≡ e.1) e entries stay) in
    λ k. (e.0, here k) ∷ rest k

content_same : (number : ℕ → ℕ) (content : Content) → All (λ e. number e.1 ≡ e.1) (maps.entries (names_of content))
    → content_renumbered number (data_of_content content) ≡ data_of_content content
content_same number (File bytes links) stay = refl
content_same number (Directory names gone) stay = ap (λ l. directory l) (entries_same number (maps.entries names) stay)
content_same number (Link text links) stay = refl

-- ---- all guests

module _ (t : Tree) (plans : List GuestPlan) (may : All (MayBegin t) plans)
    (sound : (n : ℕ) → IsSoundNode (next_of t) (node_at t n))
    (apart : IsLowestShared t (map preopen_directories plans) None) (schedule : List ℕ) (runs : List GuestRun)
    (made : List MadeNode) (nodes : List NodeData) (are : AreAt t (starts t plans) schedule runs made)
    (joined : AreJoined runs made (map data_of_node t.nodes) nodes) where
  abbrev guests : List Starting
  guests = starts t plans

  long : length (map data_of_node t.nodes) ≡ next_of t
  long = length-map t.nodes data_of_node

  guest_at : {i : ℕ} {g : Starting} → slice_get guests i ≡ Some g → Begins t plans i g
  guest_at begins = begins_at {t = t} {plans = plans} begins

  run_there : {i : ℕ} {g : Starting} {one : AloneRun} → IsGuest guests are.alone i g one
      → (run : GuestRun) × (slice_get runs i ≡ Some run)
  run_there {i} {one = one} is =
      is_there runs i (let short = slice_get_within are.alone i one is.runs in omega (arith, short, are.each, are.count))

  -- a node of the start lies inside the guest that worked on it
  module _ {i : ℕ} {g : Starting} {one : AloneRun} {run : GuestRun} (is : IsGuest guests are.alone i g one)
      (stands : slice_get runs i ≡ Some run) where
    at : IsAt g (turns_of i schedule) one run
    at = are.at i g one run is stands

    same_tree : one.last.tree ≡ tree_of run
    same_tree = ap (λ (s : State). s.tree) (sym at.state)

    first_tree : g.state.tree ≡ record t { worked = empty }
    first_tree = ap (λ (h : Starting). h.state.tree) (sym ((guest_at is.begins).is))

    worked_inside : (n : ℕ) → n < next_of t → contains (tree_of run).worked n ≡ true → Inside g.state n
    worked_inside n below worked = elim (at.confined.touched_in n ((joined.touched i run stands).touched n worked)) [
      | inl inside ↦ inside
      | inr fresh ↦ let past = fresh.fresh in absurd (omega (arith, past, ap next_of first_tree, below))
    ]

    over : IsMergedTree g.state.tree one.last.tree
    over = run_over 0 g.state one.last (take (turns_of i schedule) g.calls) one.turns (is_alone at)

    -- a node that it didn't work on is the start's
    node_is : (n : ℕ) → contains (tree_of run).worked n ≡ false → node_at one.last.tree n ≡ node_at t n
    unfolding node_at
    node_is n unworked = over.others n (ap (λ (u : Tree). contains u.worked n) same_tree ∙ unworked)
        ∙ ap (λ u. node_at u n) first_tree

    numbers : joint_in (next_of t) run.joint.items ≡ joint_number t made i
    numbers = λ k n. number_is t (are.numbered i run stands) are.fresh n k

    -- a node of the guest, with the numbers for all
    given_is : (n : ℕ) → joint_node_data (next_of t) run n
        ≡ renumbered (joint_number t made i) (data_of_node (node_at one.last.tree n))
    given_is n = ap (λ f. renumbered f (data_of_node (node_at (tree_of run) n))) numbers
        ∙ ap (λ u. renumbered (joint_number t made i) (data_of_node (node_at u n))) (sym same_tree)

  -- no other guest worked on what lies inside one
  nobody_else : {i n : ℕ} {g : Starting} → slice_get guests i ≡ Some g → Inside g.state n → (j : ℕ) (other : GuestRun)
      → slice_get runs j ≡ Some other → j ≢ i → contains (tree_of other).worked n ≡ false
  nobody_else {i} {n} {g} begins inside j other stands differ = false_from_ne_true (contains (tree_of other).worked n) (λ worked.
      let short = slice_get_within runs j other stands in
      let (h, starts_at) = is_there guests j (omega (arith, short, are.count)) in
      let (one, ran) = is_there are.alone j (omega (arith, short, are.count, are.each)) in
      let below = inside_within (guest_at begins) may sound inside in
      let there = worked_inside (record { begins = starts_at; runs = ran }) stands n below worked in
      apart n (record {
        one = j;
        other = i;
        apart = differ;
        in_one = lies_inside (guest_at starts_at) there;
        in_other = lies_inside (guest_at begins) inside;
      }))

  -- a node of the start that no guest worked on stays
  stays : (n : ℕ) → n < next_of t
      → ((i : ℕ) (run : GuestRun) → slice_get runs i ≡ Some run → contains (tree_of run).worked n ≡ false)
      → slice_get nodes n ≡ Some (data_of_node (node_at t n))
  stays n below nobody = joined.others n (omega (arith, below, long)) nobody ∙ told_at t n below

  module _ {i n : ℕ} {g : Starting} {one : AloneRun} (is : IsGuest guests are.alone i g one) where
    inside : Inside g.state n
        → slice_get nodes n ≡ Some (renumbered (joint_number t made i) (data_of_node (node_at one.last.tree n)))
    inside in_it = by (run_there is)
      where
        below : n < next_of t
        below = inside_within (guest_at is.begins) may sound in_it

        same_node : (n : ℕ) → renumbered (joint_number t made i) (data_of_node (node_at t n)) ≡ data_of_node (node_at t n)
        same_node n = ap (λ c. record (data_of_node (node_at t n)) { content = c })
            (content_same (joint_number t made i) (node_at t n).content
            (All-weaker (λ e. e.1 < next_of t) _ (λ e low.
            ap (λ o. unwrap_or (option_map (λ before. next_of t + before) o) e.1) (not_made (next_of t) i e.1 made are.fresh low))
            _ (entries_within (sound n))))

        by : (run : GuestRun) × (slice_get runs i ≡ Some run)
            → slice_get nodes n ≡ Some (renumbered (joint_number t made i) (data_of_node (node_at one.last.tree n)))
        by (run, stands) = elim (cases_Bool (contains (tree_of run).worked n)) [
          | inl worked ↦
              joined.kept i n run stands (omega (arith, below, long)) worked (nobody_else is.begins in_it)
              ∙ ap (λ k. Some (joint_node_data k run n)) long
              ∙ ap (λ node. Some node) (given_is is stands n)
          | inr unworked ↦
              stays n below (λ j other there. elim (cases_eq j i) [
                | inl same ↦
                    let own : run ≡ other = some_same (sym stands ∙ ap (slice_get runs) (sym same) ∙ there) in
                    ap (λ r. contains (tree_of r).worked n) (sym own) ∙ unworked
                | inr differ ↦ nobody_else is.begins in_it j other there differ
              ])
              ∙ ap (λ node. Some node) (sym (ap (λ x. renumbered (joint_number t made i) (data_of_node x)) (node_is is stands n unworked)
              ∙ same_node n))
        ]

    new : IsMade t one.last.tree n
        → slice_get nodes (joint_number t made i n)
        ≡ Some (renumbered (joint_number t made i) (data_of_node (node_at one.last.tree n)))
    new fresh = by (run_there is)
      where
        was_some : (o : Option ℕ) (number : ℕ) → option_map (λ before. next_of t + before) o ≡ Some number
            → (p : ℕ) × (o ≡ Some p) × (number ≡ next_of t + p)
        was_some None number is = absurd (cc)
        was_some (Some p) number is = (p, refl, sym (some_same is))

        by : (run : GuestRun) × (slice_get runs i ≡ Some run)
            → slice_get nodes (joint_number t made i n)
            ≡ Some (renumbered (joint_number t made i) (data_of_node (node_at one.last.tree n)))
        by (run, stands) =
            let are_numbered = are.numbered i run stands in
            let k : n - next_of t < length run.joint.items =
            let high = fresh.there in let low = fresh.fresh in
            omega (arith, high, low, are_numbered.count, ap next_of (same_tree is stands)) in
            let back : next_of t + (n - next_of t) ≡ n = let low = fresh.fresh in omega arith in
            let (number, here) = is_there run.joint.items (n - next_of t) k in
            let (p, before, number_is) = was_some (made_before (i, n) made) number
            (ap (λ m. option_map (λ before. next_of t + before) (made_before (i, m) made)) (sym back)
            ∙ sym (are_numbered.each (n - next_of t)) ∙ here) in
            let joint_is : joint_number t made i n ≡ next_of t + p =
            ap (λ o. unwrap_or (option_map (λ before. next_of t + before) o) n) before in
            ap (slice_get nodes) (joint_is ∙ ap (λ m. m + p) (sym long))
            ∙ joined.behind p i n run (made_there (i, n) made p before) stands
            ∙ ap (λ k. Some (joint_node_data k run n)) long
            ∙ ap (λ node. Some node) (given_is is stands n)

  others : (n : ℕ) → n < next_of t → ((i : ℕ) (g : Starting) → slice_get guests i ≡ Some g → Inside g.state n → ⊥)
      → slice_get nodes n ≡ Some (data_of_node (node_at t n))
  others n below nobody = stays n below (λ i run stands.
      false_from_ne_true (contains (tree_of run).worked n) (λ worked.
      let short = slice_get_within runs i run stands in
      let (g, begins) = is_there guests i (omega (arith, short, are.count)) in
      let (one, ran) = is_there are.alone i (omega (arith, short, are.count, are.each)) in
      nobody i g begins (worked_inside (record { begins = begins; runs = ran }) stands n below worked)))

  pub as_if_alone : (ends : List End) → ends ≡ map end_of runs → AsIfAlone t guests schedule ends nodes
  as_if_alone ends are_ends = record {
    alone = are.alone;
    each = are.each;
    runs = λ i g one is.
        let (run, stands) = run_there is in is_alone (are.at i g one run is stands);
    ends_are = are_ends ∙ map_alike end_of end_alone runs are.alone (omega (arith, are.count, are.each)) (λ i run one stands ran.
        let short = slice_get_within runs i run stands in
        let (g, begins) = is_there guests i (omega (arith, short, are.count)) in
        ends_alone (are.at i g one run (record { begins = begins; runs = ran }) stands));
    made = made;
    made_are = are.made_are;
    inside = λ i n g one is in_it. inside is in_it;
    new = λ i n g one is fresh. new is fresh;
    others = others;
    count = joined.count ∙ (λ k. long k + are.total k);
  }
