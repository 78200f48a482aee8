-- What is done to a block, against all entries.
use Rattle.std.proofs.Common.{◌≡◌, ℕ, zero, suc, ◌+◌, ◌<◌, ◌≤◌, true, false, List, [], ◌∷◌, ◌++◌, map, length, drop, take, get_or, set, refl, sym, ap, ◌∙◌, subst, arith, Option, None, Some, add-one, append_assoc}
use Rattle.std.specs.Prelude.{All, is_some, not, if◌then◌else◌}
use Rattle.std.specs.Ordering.{eq_by_cmp, is_eq, is_gt, is_lt}
use Rattle.std.specs.declared.cmp.Ordering.{Ordering}
use Rattle.std.specs.declared.cmp.Ordering.TheVariants.{Less, Equal, Greater}
use Rattle.std.proofs.lemmas.List.Elements.{All-set, All-append, All-cons, All-take, All-drop}
use Rattle.std.proofs.lemmas.List.{length-map, map-append, take-append-drop}
use Rattle.std.proofs.Math.ListN.{drop_of_length-le}
use Rattle.std.specs.List.{flat_map, insert, remove}
use Rattle.std.specs.declared.vec.Vec.{Vec}
use Rattle.std.specs.FinMap.{find, put, is_sorted}
use Rattle.std.specs.FinMap.Entries.{where_key, is_sorted-put, is_sorted-where_key}
use Rattle.wasi_tree_index.specs.declared.key.DirEntryKey.{DirEntryKey}
use Rattle.wasi_tree_index.specs.Fronts.{front_len, list_at, with_list}
use Rattle.wasi_tree_index.specs.Places.{place_in, starts_by, list_place, first_at, revalued}
use Rattle.wasi_tree_index.specs.Blocks.{block_entries, all_entries, IsBlock, AreBlocks}
use Rattle.wasi_tree_index.specs.DirEntryKeys.{Key, NameEntry, key_cmp, row_entry}
use Rattle.wasi_tree_index.proofs.EntryLemmas.{told, true_of, rises, Rises, find_place, find_tied, put_new, put_same, without_place, without_none}
use Rattle.wasi_tree_index.proofs.ListLemmas.{no_lists, list_at-get, lists_around, lists-set, lists-split, lists-remove, list_rises, find_lists, put_lists, without_lists}
use Rattle.wasi_tree_index.proofs.KeyLemmas.{key_total}
use Rattle.wasi_tree_index.proofs.RowLemmas.{last_started, started}

map_take : {X Z : Type 0} (g : X → Z) (n : ℕ) (xs : List X) → map g (take n xs) ≡ take n (map g xs)
map_take g zero xs = refl
map_take g (suc n) [] = refl
map_take g (suc n) (x ∷ xs) = ap (λ zs. g x ∷ zs) (map_take g n xs)

pub map_insert : {X Z : Type 0} (g : X → Z) (xs : List X) (n : ℕ) (x : X) → map g (insert xs n x) ≡ insert (map g xs) n (g x)
map_insert g xs zero x = refl
map_insert g [] (suc n) x = refl
map_insert g (y ∷ xs) (suc n) x = ap (λ zs. g y ∷ zs) (map_insert g xs n x)

map_remove : {X Z : Type 0} (g : X → Z) (xs : List X) (n : ℕ) → map g (remove xs n) ≡ remove (map g xs) n
map_remove g [] zero = refl
map_remove g [] (suc n) = refl
map_remove g (y ∷ xs) zero = refl
map_remove g (y ∷ xs) (suc n) = ap (λ zs. g y ∷ zs) (map_remove g xs n)

none_left : {X : Type 0} (xs : List X) (at : ℕ) → length xs ≡ 1 → at < 1 → remove xs at ≡ []
none_left [] at one lt = absurd (omega arith)
none_left (x ∷ []) zero one lt = refl
none_left (x ∷ []) (suc at) one lt = absurd (omega arith)
none_left (x ∷ y ∷ xs) at one lt = absurd (omega arith)

some_of : {X : Type 0} (o : Option X) → is_some o ≡ true → (x : X) × (o ≡ Some x)
some_of None h = absurd (cc)
some_of (Some x) h = (x, refl)

none_of : {X : Type 0} (o : Option X) → is_some o ≡ false → o ≡ None
none_of None h = refl
none_of (Some x) h = absurd (cc)

module _ {Y : Type 0} (bs : List (Vec DirEntryKey Y)) (k : ℕ) (b : Vec DirEntryKey Y) (lt : k < length bs) (is : b ≡ get_or bs k b) where
  pub at_block : list_at block_entries bs k ≡ block_entries b
  at_block = list_at-get block_entries bs k b lt ∙ ap block_entries (sym is)

  pub at_len : length (list_at block_entries bs k) ≡ length b.items
  at_len = ap length at_block ∙ length-map b.items row_entry

  pub is_block_at : All IsBlock bs → IsBlock b
  is_block_at each = subst (IsBlock {Y = Y}) (sym is) (each k b lt)

  pub inserted : (c : Vec DirEntryKey Y) (at : ℕ) (row : DirEntryKey) → c.items ≡ insert b.items at row
      → all_entries (set bs k c) ≡ with_list block_entries bs k (insert (list_at block_entries bs k) at (row_entry row))
  inserted c at row e = lists-set block_entries bs k c lt ∙ ap (with_list block_entries bs k)
      (ap (map row_entry) e ∙ map_insert row_entry b.items at row ∙ ap (λ es. insert es at (row_entry row)) (sym at_block))

  pub split : (c d : Vec DirEntryKey Y) (at : ℕ) (row : DirEntryKey) → c.items ++ d.items ≡ insert b.items at row
      → all_entries (insert (set bs k c) (k + 1) d)
      ≡ with_list block_entries bs k (insert (list_at block_entries bs k) at (row_entry row))
  split c d at row e = rw add-one (lists-split block_entries bs k c d lt ∙ ap (with_list block_entries bs k)
      (sym (map-append row_entry c.items d.items) ∙ ap (map row_entry) e ∙ map_insert row_entry b.items at row
      ∙ ap (λ es. insert es at (row_entry row)) (sym at_block)))

  pub taken_out : (c : Vec DirEntryKey Y) (at : ℕ) → c.items ≡ remove b.items at
      → all_entries (set bs k c) ≡ with_list block_entries bs k (remove (list_at block_entries bs k) at)
  taken_out c at e = lists-set block_entries bs k c lt ∙ ap (with_list block_entries bs k)
      (ap (map row_entry) e ∙ map_remove row_entry b.items at ∙ ap (λ es. remove es at) (sym at_block))

  pub last_out : (at : ℕ) → length b.items ≡ 1 → at < length (list_at block_entries bs k)
      → all_entries (remove bs k) ≡ with_list block_entries bs k (remove (list_at block_entries bs k) at)
  last_out at one within = lists-remove block_entries bs k lt ∙ ap (with_list block_entries bs k)
      (sym (none_left (list_at block_entries bs k) at (at_len ∙ one) (subst (λ n. at < n) (at_len ∙ one) within)))

  pub reset : (c : Vec DirEntryKey Y) (at v : ℕ) → map row_entry c.items ≡ revalued v (map row_entry b.items) at
      → all_entries (set bs k c) ≡ with_list block_entries bs k (revalued v (list_at block_entries bs k) at)
  reset c at v e = lists-set block_entries bs k c lt ∙ ap (with_list block_entries bs k)
      (e ∙ ap (λ es. revalued v es at) (sym at_block))

pub split_each : {Y : Type 0} (bs : List (Vec DirEntryKey Y)) (k n : ℕ) (c d : Vec DirEntryKey Y) → All IsBlock bs
    → IsBlock c → IsBlock d → All IsBlock (insert (set bs k c) n d)
split_each bs k n c d each front back =
    let all : All IsBlock (set bs k c) = All-set IsBlock bs k c front each in
    All-append IsBlock _ _ (All-take IsBlock n _ all) (All-cons IsBlock d _ back (All-drop IsBlock n _ all))

first_some : (key : Key) (es : List NameEntry) → is_some (first_at key_cmp key es) ≡ true → 0 < length es
first_some key [] h = absurd (cc)
first_some key (e ∷ es) h = omega arith

longer : {X : Type 0} (n : ℕ) (xs : List X) → 0 < length (drop n xs) → n < length xs
longer zero xs h = h
longer (suc n) [] h = absurd (omega arith)
longer (suc n) (x ∷ xs) h = let t = longer n xs h in omega arith

-- an entry that is found is in the list
pub found_within : (key : Key) (es : List NameEntry) (at : ℕ) → is_some (first_at key_cmp key (drop at es)) ≡ true → at < length es
found_within key es at h = longer at es (first_some key (drop at es) h)

-- a row that has a key, wherever it stands, has what is found of it
pub find_there : {Y : Type 0} (key : Key) (bs : List (Vec DirEntryKey Y)) (k at n : ℕ) → AreBlocks bs → k < length bs
    → first_at key_cmp key (drop at (list_at block_entries bs k)) ≡ Some n → find key_cmp key (all_entries bs) ≡ Some n
find_there key bs k at n h lt has = by (drop at here) (take-append-drop at here) has
  where
    here : List NameEntry
    here = list_at block_entries bs k

    before : List NameEntry
    before = flat_map block_entries (take k bs)

    after : List NameEntry
    after = flat_map block_entries (drop (suc k) bs)

    tied : (q : Ordering) (v : ℕ) → (if is_eq q then Some v else None) ≡ Some n → (q ≡ Equal) × (v ≡ n)
    tied Equal v is = (refl, cc)
    tied Less v is = absurd (cc)
    tied Greater v is = absurd (cc)

    by : (left : List NameEntry) → take at here ++ left ≡ here → first_at key_cmp key left ≡ Some n
        → find key_cmp key (all_entries bs) ≡ Some n
    by [] split is = absurd (cc)
    by (e ∷ left) split is =
        let (same, node) = tied (key_cmp key e.0) e.1 is in
        let all : all_entries bs ≡ (before ++ take at here) ++ e ∷ (left ++ after) =
        lists_around block_entries bs k lt ∙ ap (λ es. before ++ (es ++ after)) (sym split)
        ∙ ap (λ es. before ++ es) (append_assoc (take at here) (e ∷ left) after)
        ∙ sym (append_assoc before (take at here) (e ∷ (left ++ after))) in
        ap (find key_cmp key) all
        ∙ find_tied key_cmp key_total key (before ++ take at here) e (left ++ after)
        (subst (Rises key_cmp) all (rises key_cmp _ h.rises)) same
        ∙ ap Some node

module _ {Y : Type 0} (key : Key) (bs : List (Vec DirEntryKey Y)) (h : AreBlocks bs) (k : ℕ)
    (is : k ≡ list_place key_cmp block_entries key bs) (lt : k < length bs)
    (at : ℕ) (here : at ≡ place_in key_cmp key (list_at block_entries bs k)) where
  place_lt : list_place key_cmp block_entries key bs < length bs
  place_lt = subst (λ n. n < length bs) is lt

  sorted_at : Rises key_cmp (list_at block_entries bs k)
  sorted_at = list_rises key_cmp block_entries key_total key bs k lt (rises key_cmp _ h.rises)

  pub find_here : find key_cmp key (all_entries bs) ≡ first_at key_cmp key (drop at (list_at block_entries bs k))
  find_here =
      find_lists key_cmp block_entries key_total key bs (started bs h.each) (rises key_cmp _ h.rises) place_lt
      ∙ ap (λ n. find key_cmp key (list_at block_entries bs n)) (sym is)
      ∙ find_place key_cmp key_total key _ sorted_at
      ∙ ap (λ n. first_at key_cmp key (drop n (list_at block_entries bs k))) (sym here)

  put_here : (v : ℕ) → put key_cmp key v (all_entries bs)
      ≡ with_list block_entries bs k (put key_cmp key v (list_at block_entries bs k))
  put_here v =
      put_lists key_cmp block_entries key_total key bs (started bs h.each) (rises key_cmp _ h.rises) place_lt v
      ∙ ap (λ n. with_list block_entries bs n (put key_cmp key v (list_at block_entries bs n))) (sym is)

  pub put_found : (v : ℕ) → is_some (first_at key_cmp key (drop at (list_at block_entries bs k))) ≡ true
      → with_list block_entries bs k (revalued v (list_at block_entries bs k) at) ≡ put key_cmp key v (all_entries bs)
  put_found v some =
      let w = some_of (first_at key_cmp key (drop at (list_at block_entries bs k))) some in
      ap (with_list block_entries bs k) (ap (revalued v (list_at block_entries bs k)) here
      ∙ sym (put_same key_cmp key v w.0 _ (ap (λ n. first_at key_cmp key (drop n (list_at block_entries bs k))) (sym here) ∙ w.1)))
      ∙ sym (put_here v)

  pub put_absent : (v : ℕ) → is_some (first_at key_cmp key (drop at (list_at block_entries bs k))) ≡ false
      → with_list block_entries bs k (insert (list_at block_entries bs k) at (key, v)) ≡ put key_cmp key v (all_entries bs)
  put_absent v none =
      let w = none_of (first_at key_cmp key (drop at (list_at block_entries bs k))) none in
      ap (with_list block_entries bs k) (ap (λ n. insert (list_at block_entries bs k) n (key, v)) here
      ∙ sym (put_new key_cmp key v _ (ap (λ n. first_at key_cmp key (drop n (list_at block_entries bs k))) (sym here) ∙ w)))
      ∙ sym (put_here v)

  without_here : where_key key_cmp (λ x. not (eq_by_cmp key_cmp key x)) (all_entries bs)
      ≡ with_list block_entries bs k (where_key key_cmp (λ x. not (eq_by_cmp key_cmp key x)) (list_at block_entries bs k))
  without_here =
      without_lists key_cmp block_entries key_total key bs (started bs h.each) (rises key_cmp _ h.rises) place_lt
      ∙ ap (λ n. with_list block_entries bs n (where_key key_cmp (λ x. not (eq_by_cmp key_cmp key x)) (list_at block_entries bs n))) (sym is)

  pub without_found : is_some (first_at key_cmp key (drop at (list_at block_entries bs k))) ≡ true
      → with_list block_entries bs k (remove (list_at block_entries bs k) at)
      ≡ where_key key_cmp (λ x. not (eq_by_cmp key_cmp key x)) (all_entries bs)
  without_found some =
      let w = some_of (first_at key_cmp key (drop at (list_at block_entries bs k))) some in
      ap (with_list block_entries bs k) (ap (remove (list_at block_entries bs k)) here
      ∙ sym (without_place key_cmp key_total key w.0 _ sorted_at
      (ap (λ n. first_at key_cmp key (drop n (list_at block_entries bs k))) (sym here) ∙ w.1)))
      ∙ sym without_here

  pub without_absent : is_some (first_at key_cmp key (drop at (list_at block_entries bs k))) ≡ false
      → all_entries bs ≡ where_key key_cmp (λ x. not (eq_by_cmp key_cmp key x)) (all_entries bs)
  without_absent none =
      let w = none_of (first_at key_cmp key (drop at (list_at block_entries bs k))) none in
      lists_around block_entries bs k lt
      ∙ ap (with_list block_entries bs k) (sym (without_none key_cmp key_total key _ sorted_at
      (ap (λ n. first_at key_cmp key (drop n (list_at block_entries bs k))) (sym here) ∙ w)))
      ∙ sym without_here

-- rows that are all before a key start by it
starts_before : (key : Key) (es : List NameEntry) → place_in key_cmp key es ≡ length es → starts_by key_cmp key es ≡ true
unfolding front_len
starts_before key [] all = refl
starts_before key (e ∷ es) all = by (key_cmp key e.0) all
  where
    by : (q : Ordering) → (if is_gt q then suc (front_len (λ e. is_gt (key_cmp key e.0)) es) else 0) ≡ suc (length es)
        → not (is_lt q) ≡ true
    by Greater all = refl
    by Equal all = refl
    by Less all = absurd (omega arith)

-- after all rows nothing is found
pub behind_all : {Y : Type 0} (key : Key) (bs : List (Vec DirEntryKey Y)) (k : ℕ) → AreBlocks bs → k + 1 ≡ length bs
    → place_in key_cmp key (list_at block_entries bs k) ≡ length (list_at block_entries bs k)
    → find key_cmp key (all_entries bs) ≡ None
behind_all key bs k h last all =
    let here : List NameEntry = list_at block_entries bs k in
    find_here key bs h k (last_started key bs k h last (starts_before key here all)) (omega arith) (length here) (sym all)
    ∙ ap (first_at key_cmp key) (drop_of_length-le here (omega arith))

pub put_kept : {Y : Type 0} (key : Key) (v : ℕ) (bs cs : List (Vec DirEntryKey Y)) → AreBlocks bs → All IsBlock cs
    → all_entries cs ≡ put key_cmp key v (all_entries bs) → AreBlocks cs
put_kept key v bs cs h each e = record {
  rises = ap (is_sorted key_cmp) e ∙ true_of _ (is_sorted-put key_cmp key_total key v _ (told h.rises));
  each = each;
}

pub without_kept : {Y : Type 0} (key : Key) (bs cs : List (Vec DirEntryKey Y)) → AreBlocks bs → All IsBlock cs
    → all_entries cs ≡ where_key key_cmp (λ x. not (eq_by_cmp key_cmp key x)) (all_entries bs) → AreBlocks cs
without_kept key bs cs h each e = record {
  rises = ap (is_sorted key_cmp) e
      ∙ true_of _ (is_sorted-where_key key_cmp (λ x. not (eq_by_cmp key_cmp key x)) _ (told h.rises));
  each = each;
}

pub no_blocks : {Y : Type 0} (key : Key) (bs : List (Vec DirEntryKey Y)) → length bs ≤ list_place key_cmp block_entries key bs → bs ≡ []
no_blocks key bs le = no_lists key_cmp block_entries key_total key bs le

pub put_first : {Y : Type 0} {bs : List (Vec DirEntryKey Y)} (key : Key) (v : ℕ) → bs ≡ []
    → (key, v) ∷ [] ≡ put key_cmp key v (all_entries bs)
put_first key v e = ap (λ bs. put key_cmp key v (all_entries bs)) (sym e)

pub without_first : {Y : Type 0} {bs : List (Vec DirEntryKey Y)} (key : Key) → bs ≡ []
    → all_entries bs ≡ where_key key_cmp (λ x. not (eq_by_cmp key_cmp key x)) (all_entries bs)
without_first key e = ap all_entries e ∙ ap (λ bs. where_key key_cmp (λ x. not (eq_by_cmp key_cmp key x)) (all_entries bs)) (sym e)
