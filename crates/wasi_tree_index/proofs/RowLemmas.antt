-- Rows and blocks against their entries.
use Rattle.std.proofs.Common.{◌≡◌, ℕ, zero, suc, pred, ◌+◌, ◌<◌, ◌≤◌, Bool, true, false, cond, List, [], ◌∷◌, ◌++◌, map, length, drop, get_or, set, refl, sym, ap, ◌∙◌, subst, arith, None}
use Rattle.std.specs.Prelude.{All, IsTrue, nat_eq, ◌==◌}
use Rattle.std.proofs.lemmas.Bool.Decides.{nat_tests}
use Rattle.std.proofs.lemmas.List.Elements.{All-head, All-tail}
use Rattle.std.specs.declared.vec.Vec.{Vec}
use Rattle.std.specs.FinMap.{find}
use Rattle.std.specs.Ordering.{is_gt}
use Rattle.std.specs.FinMap.{is_sorted}
use Rattle.wasi_tree_index.specs.declared.key.DirEntryKey.{DirEntryKey}
use Rattle.wasi_tree_index.specs.Fronts.{front_len, list_at}
use Rattle.wasi_tree_index.specs.Places.{place_in, starts_by, list_place, first_at, revalued}
use Rattle.wasi_tree_index.specs.Blocks.{block_entries, all_entries, IsBlock, AreBlocks}
use Rattle.wasi_tree_index.specs.DirEntryKeys.{Key, NameEntry, key_cmp, row_key, row_entry}
use Rattle.wasi_tree_index.proofs.FrontLemmas.{AllFail, IsClosed, front_all}
use Rattle.wasi_tree_index.proofs.EntryLemmas.{Rises, rises, sorted_of, closed_places}
use Rattle.wasi_tree_index.proofs.ListLemmas.{Started, AllStarted, closed_lists, list_at-get, list_rises, no_lists}
use Rattle.wasi_tree_index.proofs.KeyLemmas.{key_total}

module _ {X Z : Type 0} (g : X → Z) (p : Z → Bool) where
  pub front-map : (xs : List X) → front_len (λ x. p (g x)) xs ≡ front_len p (map g xs)
  unfolding front_len
  front-map [] = refl
  front-map (x ∷ xs) = ap (λ n. cond (p (g x)) (suc n) 0) (front-map xs)

  fail-map : (xs : List X) → AllFail p (map g xs) → AllFail (λ x. p (g x)) xs
  fail-map [] h = tt
  fail-map (x ∷ xs) h = (h.0, fail-map xs h.1)

  pub closed-map : (xs : List X) → IsClosed p (map g xs) → IsClosed (λ x. p (g x)) xs
  closed-map [] h = tt
  closed-map (x ∷ xs) h = (λ n. fail-map xs (h.0 n), closed-map xs h.1)

pub closed_rows : (key : Key) (rows : List DirEntryKey) → IsTrue (is_sorted key_cmp (map row_entry rows))
    → IsClosed (λ row. is_gt (key_cmp key (row_key row))) rows
closed_rows key rows h = closed-map row_entry (λ e. is_gt (key_cmp key e.0)) rows
    (closed_places key_cmp key_total key _ (rises key_cmp _ h))

pub front_rows : (key : Key) (rows : List DirEntryKey)
    → front_len (λ row. is_gt (key_cmp key (row_key row))) rows ≡ place_in key_cmp key (map row_entry rows)
front_rows key rows = front-map row_entry (λ e. is_gt (key_cmp key e.0)) rows

pub map_drop : {X Z : Type 0} (g : X → Z) (n : ℕ) (xs : List X) → map g (drop n xs) ≡ drop n (map g xs)
map_drop g zero xs = refl
map_drop g (suc n) [] = refl
map_drop g (suc n) (x ∷ xs) = map_drop g n xs

-- what the first row from a place on has
pub first_from : (key : Key) (rows : List DirEntryKey) (es : List NameEntry) (at : ℕ) → map row_entry rows ≡ es
    → first_at key_cmp key (map row_entry (drop at rows)) ≡ first_at key_cmp key (drop at es)
first_from key rows es at is = ap (first_at key_cmp key) (map_drop row_entry at rows ∙ ap (drop at) is)

started_rows : (rows : List DirEntryKey) → 0 < length rows → Started (map row_entry rows)
started_rows [] some = absurd (omega arith)
started_rows (r ∷ rs) some = tt

-- nothing isn't one more than another number, whichever test is asked
not_none : (n : ℕ) → (suc n == 0) ≡ false
not_none n = grind (arith, nat_tests)

some_left : (n : ℕ) → false ≡ nat_eq (suc n) 0
some_left n = grind (arith, nat_tests)

some_rows : (rows : List DirEntryKey) (es : List NameEntry) → 0 < length rows → false ≡ nat_eq (length (map row_entry rows ++ es)) 0
some_rows [] es some = absurd (omega arith)
some_rows (r ∷ rs) es some = some_left (length (map row_entry rs ++ es))

module _ {Y : Type 0} where
  -- there are rows wherever there are blocks
  pub no_rows : (bs : List (Vec DirEntryKey Y)) → All IsBlock bs → (length bs == 0) ≡ nat_eq (length (all_entries bs)) 0
  no_rows [] h = refl
  no_rows (b ∷ bs) h = not_none (length bs) ∙ some_rows b.items (all_entries bs) (All-head IsBlock b bs h).some

  pub started : (bs : List (Vec DirEntryKey Y)) → All IsBlock bs → AllStarted block_entries bs
  started [] h = tt
  started (b ∷ bs) h = (started_rows b.items (All-head IsBlock b bs h).some, started bs (All-tail IsBlock b bs h))

  pub block_sorted : (bs : List (Vec DirEntryKey Y)) (k : ℕ) (d : Vec DirEntryKey Y) → AreBlocks bs → k < length bs
      → IsTrue (is_sorted key_cmp (block_entries (get_or bs k d)))
  block_sorted bs k d h lt = sorted_of key_cmp _ (subst (Rises key_cmp) (list_at-get block_entries bs k d lt)
      (list_rises key_cmp block_entries key_total (0, []) bs k lt (rises key_cmp _ h.rises)))

  pub closed_blocks : (key : Key) (bs : List (Vec DirEntryKey Y)) → AreBlocks bs
      → IsClosed (λ (b : Vec DirEntryKey Y). starts_by key_cmp key (block_entries b)) bs
  closed_blocks key bs h = closed_lists key_cmp block_entries key_total key bs (started bs h.each) (rises key_cmp _ h.rises)

  -- the rows of a block rise
  pub list_sorted : (bs : List (Vec DirEntryKey Y)) (k : ℕ) → AreBlocks bs → k < length bs
      → IsTrue (is_sorted key_cmp (list_at block_entries bs k))
  list_sorted bs k h lt =
      sorted_of key_cmp _ (list_rises key_cmp block_entries key_total (0, []) bs k lt (rises key_cmp _ h.rises))

  -- where the last block starts by a key, that is the key's
  pub last_started : (key : Key) (bs : List (Vec DirEntryKey Y)) (k : ℕ) → AreBlocks bs → k + 1 ≡ length bs
      → starts_by key_cmp key (list_at block_entries bs k) ≡ true → k ≡ list_place key_cmp block_entries key bs
  last_started key [] k h last starts = absurd (omega arith)
  last_started key (b ∷ bs) k h last starts =
      let all = front_all (λ (b : Vec DirEntryKey Y). starts_by key_cmp key (block_entries b)) (b ∷ bs) k b last
      (closed_blocks key (b ∷ bs) h)
      (subst (λ es. starts_by key_cmp key es ≡ true) (list_at-get block_entries (b ∷ bs) k b (omega arith)) starts) in
      sym (ap pred all ∙ omega (arith, last))

  pub find_none : (key : Key) (bs : List (Vec DirEntryKey Y)) → length bs ≤ list_place key_cmp block_entries key bs
      → find key_cmp key (all_entries bs) ≡ None
  find_none key bs le = ap (λ bs. find key_cmp key (all_entries bs)) (no_lists key_cmp block_entries key_total key bs le)

pub set_row : (rows : List DirEntryKey) (i : ℕ) (row new : DirEntryKey) → i < length rows → row ≡ get_or rows i row
    → row_key new ≡ row_key row → map row_entry (set rows i new) ≡ revalued new.node (map row_entry rows) i
set_row [] i row new lt is same = absurd (omega arith)
set_row (r ∷ rs) zero row new lt is same =
    ap (λ k. (k, new.node) ∷ map row_entry rs) same ∙ ap (λ x. (row_key x, new.node) ∷ map row_entry rs) is
set_row (r ∷ rs) (suc i) row new lt is same = ap (λ es. row_entry r ∷ es) (set_row rs i row new (omega arith) is same)
