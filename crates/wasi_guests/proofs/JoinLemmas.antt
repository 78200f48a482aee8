-- How the nodes that guests kept and made are put together.
use Rattle.std.proofs.Common.{ℕ, suc, ◌+◌, ◌<◌, ◌≡◌, ◌≢◌, inl, inr, true, false, List, [], ◌∷◌, ◌++◌, length, map, refl, ap, sym, ◌∙◌, subst, arith, Some, get_or, slice_get, slice_set}
use Rattle.std.specs.Prelude.{All, Contains}
use Rattle.std.specs.FinSet.{contains, from_list}
use Rattle.std.specs.Ordering.{nat_cmp}
use Rattle.std.proofs.lemmas.Bool.{cases_eq, cases_lt, true≢false}
use Rattle.std.proofs.lemmas.List.{get_or-map, length-append, length-map, length-set}
use Rattle.std.proofs.lemmas.List.Elements.{All-contains, Contains-append_left, Contains-push, Contains-push_cases}
use Rattle.std.proofs.lemmas.Option.{slice_get_within}
use Rattle.wasi_tree_index.proofs.RunLemmas.{get_within}
use Rattle.wasi_overlay.specs.Overlay.{WorksOnTouched}
use Rattle.wasi_setup.proofs.ListedNodes.{in_list, in_listed}
use Rattle.wasi_tree.specs.NodeData.{NodeData}
use Rattle.wasi_tree.specs.MemState.{MemState}
use Rattle.wasi_guests.specs.Between.{AreJoined, IsMadeBy, IsPut, IsPutAt, made_node, joint_node_data, tree_of}
use Rattle.wasi_guests.specs.Joint.{MadeNode}
use Rattle.wasi_guests.specs.declared.guest_run.GuestRun.{GuestRun}
use Rattle.wasi_guests.specs.declared.turns.Made.{Made}
use Rattle.wasi_guests.proofs.PlaceLemmas.{got_last, set_apart, set_here, some_same}

-- ---- what one guest kept

-- of these numbers, those that the start has stand with the guest's nodes in their places
pub record SomePut (run : GuestRun) (numbers : List ℕ) (old new : List NodeData) : Type 0 where
  pub count : length new ≡ length old
  pub kept : (n : ℕ) → n < length old → Contains numbers n → slice_get new n ≡ Some (joint_node_data (length old) run n)
  pub others : (n : ℕ) → (Contains numbers n → ⊥) → slice_get new n ≡ slice_get old n

pub none_put : (run : GuestRun) (old : List NodeData) → SomePut run [] old old
none_put run old = record {
  count = refl;
  kept = λ n within has. let short = has.1 in absurd (omega arith);
  others = λ n none. refl;
}

-- one number more
pub one_put : {run : GuestRun} {numbers : List ℕ} {old now new : List NodeData} (m : ℕ) → SomePut run numbers old now
    → IsPutAt run m now new → SomePut run (numbers ++ m ∷ []) old new
one_put {run} {numbers} {old} {now} {new} m put is = elim (cases_lt m (length now)) [
  | inl short ↦
      let set = is.within short in record {
        count = ap length set ∙ length-set now m _ ∙ put.count;
        kept = λ n within has. ap (λ l. slice_get l n) set ∙ elim (cases_eq n m) [
          | inl same ↦
              ap (slice_get (slice_set now m (joint_node_data (length now) run m))) same
              ∙ set_here now m (joint_node_data (length now) run m) short
              ∙ ap (λ k. Some (joint_node_data k run m)) put.count
              ∙ ap (λ k. Some (joint_node_data (length old) run k)) (sym same)
          | inr other ↦ set_apart now m n _ other ∙ put.kept n within (elim (Contains-push_cases numbers m n has) [
            | inl before ↦ before
            | inr last ↦ absurd (other (sym last))
          ])
        ];
        others = λ n none. ap (λ l. slice_get l n) set
            ∙ set_apart now m n _ (λ same. none (rw same (Contains-push numbers m)))
            ∙ put.others n (λ has. none (Contains-append_left numbers (m ∷ []) n has));
      }
  | inr past ↦
      let same = is.past past in record {
        count = ap length same ∙ put.count;
        kept = λ n within has. ap (λ l. slice_get l n) same ∙ elim (Contains-push_cases numbers m n has) [
          | inl before ↦ put.kept n within before
          | inr last ↦ absurd (omega (arith, past, within, last, put.count))
        ];
        others = λ n none. ap (λ l. slice_get l n) same
            ∙ put.others n (λ has. none (Contains-append_left numbers (m ∷ []) n has));
      }
]

pub all_put : {run : GuestRun} {numbers : List ℕ} {old new : List NodeData} → SomePut run numbers old new
    → from_list {R = nat_cmp} numbers ≡ (tree_of run).worked → WorksOnTouched run.context.host.inner → IsPut run old new
all_put {run} {numbers} put are touched = record {
  count = put.count;
  kept = λ n within worked. put.kept n within (in_listed numbers n (ap (λ s. contains s n) are ∙ worked));
  others = λ n unworked. put.others n (λ has.
      true≢false (sym (in_list numbers n has) ∙ ap (λ s. contains s n) are ∙ unworked));
  touched = touched;
}

-- what was worked on was touched, where that is so of the list of what is kept
pub works_touched : {m : MemState} (kept : List ℕ) → from_list {R = nat_cmp} kept ≡ m.tree.worked
    → All (λ n. contains m.touched n ≡ true) kept → WorksOnTouched m
works_touched {m} kept are touched = record {
  touched = λ n worked. All-contains (λ n. contains m.touched n ≡ true) kept n touched
      (in_listed kept n (ap (λ s. contains s n) are ∙ worked));
}

-- ---- what all guests kept

-- what the first of the guests kept stands in its place
pub record FirstPut (runs : List GuestRun) (first : ℕ) (old new : List NodeData) : Type 0 where
  pub count : length new ≡ length old
  pub kept : (i n : ℕ) (run : GuestRun) → i < first → slice_get runs i ≡ Some run → n < length old
      → contains (tree_of run).worked n ≡ true
      → ((j : ℕ) (other : GuestRun) → slice_get runs j ≡ Some other → j ≢ i → contains (tree_of other).worked n ≡ false)
      → slice_get new n ≡ Some (joint_node_data (length old) run n)
  pub others : (n : ℕ)
      → ((i : ℕ) (run : GuestRun) → slice_get runs i ≡ Some run → contains (tree_of run).worked n ≡ false)
      → slice_get new n ≡ slice_get old n
  pub touched : (i : ℕ) (run : GuestRun) → i < first → slice_get runs i ≡ Some run → WorksOnTouched run.context.host.inner

pub nobody_put : (runs : List GuestRun) (old : List NodeData) → FirstPut runs 0 old old
nobody_put runs old = record {
  count = refl;
  kept = λ i n run low there within worked alone. absurd (omega arith);
  others = λ n none. refl;
  touched = λ i run low there. absurd (omega arith);
}

pub guest_put : {runs : List GuestRun} {first : ℕ} {old now new : List NodeData} {run : GuestRun}
    → FirstPut runs first old now → slice_get runs first ≡ Some run → IsPut run now new
    → FirstPut runs (suc first) old new
guest_put {runs} {first} {old} {now} {new} {run} firsts there put = record {
  count = put.count ∙ firsts.count;
  kept = λ i n one low stands within worked alone. elim (cases_lt i first) [
    | inl before ↦
        put.others n (alone first run there (λ same. omega (arith, same, before)))
        ∙ firsts.kept i n one before stands within worked alone
    | inr here ↦
        let last : i ≡ first = omega arith in
        let own : one ≡ run = some_same (sym stands ∙ ap (slice_get runs) last ∙ there) in
        put.kept n (omega (arith, within, firsts.count)) (ap (λ r. contains (tree_of r).worked n) (sym own) ∙ worked)
        ∙ ap (λ k. Some (joint_node_data k run n)) firsts.count
        ∙ ap (λ r. Some (joint_node_data (length old) r n)) (sym own)
  ];
  others = λ n none. put.others n (none first run there) ∙ firsts.others n none;
  touched = λ i one low stands. elim (cases_lt i first) [
    | inl before ↦ firsts.touched i one before stands
    | inr here ↦
        let last : i ≡ first = omega arith in
        let own : run ≡ one = some_same (sym there ∙ ap (slice_get runs) (sym last) ∙ stands) in
        subst (λ (r : GuestRun). WorksOnTouched r.context.host.inner) own put.touched
  ];
}

-- ---- the nodes that were made, after them

-- the node at a place of those that were made
pub made_by_at : (runs : List GuestRun) (made : List Made) (i : ℕ) (d : Made) → All (IsMadeBy runs) (map made_node made)
    → i < length made → IsMadeBy runs (made_node (get_or made i d))
made_by_at runs made i d are within =
    rw (get_or-map made_node made i d (made_node d) within) at
    (are i (made_node d) (omega (arith, within, length-map made made_node)))

-- those of the first made nodes
pub record MadeBehind (runs : List GuestRun) (made : List MadeNode) (start : ℕ) (put new : List NodeData) : Type 0 where
  pub count : length new ≡ length put + length made
  pub before : (n : ℕ) → n < length put → slice_get new n ≡ slice_get put n
  pub behind : (p guest n : ℕ) (run : GuestRun) → slice_get made p ≡ Some (guest, n) → slice_get runs guest ≡ Some run
      → slice_get new (length put + p) ≡ Some (joint_node_data start run n)

pub none_behind : (runs : List GuestRun) (start : ℕ) (put : List NodeData) → MadeBehind runs [] start put put
none_behind runs start put = record {
  count = omega arith;
  before = λ n within. refl;
  behind = λ p guest n run there stands. absurd (cc);
}

pub one_behind : {runs : List GuestRun} {made : List MadeNode} {start : ℕ} {put now : List NodeData} (guest n : ℕ)
    (run : GuestRun) → MadeBehind runs made start put now → slice_get runs guest ≡ Some run
    → MadeBehind runs (made ++ (guest, n) ∷ []) start put (now ++ joint_node_data start run n ∷ [])
one_behind {runs} {made} {start} {put} {now} guest n run are there = record {
  count = omega (arith, are.count, length-append now (joint_node_data start run n ∷ []), length-append made ((guest, n) ∷ []));
  before = λ k within. get_within now (joint_node_data start run n ∷ []) k (omega (arith, within, are.count)) ∙ are.before k within;
  behind = λ p i m one stands holds. elim (cases_lt p (length made)) [
    | inl low ↦ get_within now (joint_node_data start run n ∷ []) (length put + p) (omega (arith, low, are.count))
        ∙ are.behind p i m one (sym (get_within made ((guest, n) ∷ []) p low) ∙ stands) holds
    | inr high ↦
        let within = slice_get_within (made ++ (guest, n) ∷ []) p (i, m) stands in
        let last : p ≡ length made = omega (arith, high, within, length-append made ((guest, n) ∷ [])) in
        let same : (i, m) ≡ (guest, n) = some_same (sym stands ∙ ap (slice_get (made ++ (guest, n) ∷ [])) last ∙ got_last made (guest, n)) in
        let own : one ≡ run = some_same (sym holds ∙ ap (λ (m : MadeNode). slice_get runs m.0) same ∙ there) in
        let place : length put + p ≡ length now = omega (arith, last, are.count) in
        ap (slice_get (now ++ joint_node_data start run n ∷ [])) place
        ∙ got_last now (joint_node_data start run n)
        ∙ ap (λ r. Some (joint_node_data start r n)) (sym own)
        ∙ ap (λ (m : MadeNode). Some (joint_node_data start one m.1)) (sym same)
  ];
}

pub all_joined : {runs : List GuestRun} {made : List MadeNode} {old put new : List NodeData}
    → FirstPut runs (length runs) old put → MadeBehind runs made (length old) put new → AreJoined runs made old new
all_joined {runs} {made} {old} {put} firsts are = record {
  kept = λ i n run stands within worked alone.
      are.before n (omega (arith, within, firsts.count))
      ∙ firsts.kept i n run (slice_get_within runs i run stands) stands within worked alone;
  others = λ n within none. are.before n (omega (arith, within, firsts.count)) ∙ firsts.others n none;
  touched = λ i run stands. firsts.touched i run (slice_get_within runs i run stands) stands;
  behind = λ p guest n run there stands.
      let same : length old + p ≡ length put + p = omega (arith, firsts.count) in
      ap (slice_get _) same ∙ are.behind p guest n run there stands;
  count = omega (arith, are.count, firsts.count);
}
