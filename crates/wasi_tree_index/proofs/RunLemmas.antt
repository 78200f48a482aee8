-- The rows of one directory among all.
use Rattle.std.proofs.Common.{◌≡◌, ℕ, zero, suc, ◌+◌, ◌-◌, ◌<◌, ◌≤◌, Bool, true, false, cond, List, [], ◌∷◌, ◌++◌, map, length, take, drop, refl, sym, ap, ◌∙◌, subst, arith, append_assoc, Option, None, Some, Bor, get_or, add-one}
use Rattle.std.specs.Prelude.{nat_eq, is_some, not, IsSome, IfSome, MatchOption}
use Rattle.std.proofs.lemmas.Bool.{true≢false}
use Rattle.std.proofs.lemmas.Bool.Decides.{nat_tests}
use Rattle.std.proofs.lemmas.Cmp.{ranked, by_ranked}
use Rattle.std.proofs.lemmas.List.{map-append, take-append-drop, length-map, nil_from_length}
use Rattle.std.proofs.lemmas.Option.{slice_get-map, slice_get_read}
use Rattle.std.specs.Option.{option_map}
use Rattle.std.proofs.lemmas.List.Elements.{filter-append}
use Rattle.std.specs.Ordering.{nat_cmp, ordering_then, is_gt}
use Rattle.std.specs.Cmp.Lexicographic.{slice_cmp}
use Rattle.std.specs.declared.cmp.Ordering.TheVariants.{Less, Equal, Greater}
use Rattle.std.specs.List.{filter, flat_map, slice_get, AllByRecursion}
use Rattle.std.specs.List.Sorted.{IsStrictlySortedBy}
use Rattle.std.specs.FinMap.{is_sorted}
use Rattle.std.specs.declared.vec.Vec.{Vec}
use Rattle.wasi_tree_index.specs.declared.key.DirEntryKey.{DirEntryKey}
use Rattle.wasi_tree_index.specs.Fronts.{front_len, list_at}
use Rattle.wasi_tree_index.specs.Places.{place_in, list_place}
use Rattle.wasi_tree_index.specs.DirEntryKeys.{Key, NameEntry, key_cmp, run_of, row_entry}
use Rattle.wasi_tree_index.specs.Blocks.{block_entries, all_entries, AreBlocks}
use Rattle.wasi_tree_index.specs.EntryCursors.{AllFrom, entries_from, IsRun}
use Rattle.wasi_tree_index.proofs.EntryLemmas.{rises, Rises, AllLess, AllGreater, StartsAbove, rises_right}
use Rattle.wasi_tree_index.proofs.ListLemmas.{lists_around, around}
use Rattle.wasi_tree_index.proofs.KeyLemmas.{key_total}
use Rattle.wasi_tree_index.proofs.RowLemmas.{started, map_drop}
use Rattle.wasi_tree_index.proofs.NamesLemmas.{same_directory, same_number, run_rises}

-- a key that isn't above another is of no later directory
not_later : (a b : Key) → is_gt (key_cmp a b) ≡ false → a.0 ≤ b.0
not_later a b n = by_ranked (a.0 < b.0) (a.0 ≡ b.0) (b.0 < a.0) (nat_cmp a.0 b.0) (ranked a.0 b.0 _ refl)
    (λ e p. omega arith) (λ e p. omega arith)
    (λ e p. absurd (true≢false (sym (ap (λ q. is_gt (ordering_then q (slice_cmp nat_cmp a.1 b.1))) e) ∙ n)))

never_after : (ys : List ℕ) → slice_cmp nat_cmp [] ys ≡ Greater → ⊥
never_after [] h = absurd (cc)
never_after (y ∷ ys) h = absurd (cc)

-- what is before the first name of a directory is of another
other_than : (d : ℕ) (b : Key) → key_cmp (d, []) b ≡ Greater → nat_eq b.0 d ≡ false
other_than d b h = elim (nat_eq b.0 d) as (λ t. nat_eq b.0 d ≡ t → t ≡ false) [
  | true ↦ λ t. absurd (never_after b.1 (sym (same_directory (d, []) b (sym (same_number b.0 d t))) ∙ h))
  | false ↦ λ f. refl
] refl

run_skip : (d : ℕ) (e : NameEntry) (es : List NameEntry) → nat_eq e.0.0 d ≡ false → run_of d (e ∷ es) ≡ run_of d es
run_skip d e es f = ap (λ b. map (λ (e : NameEntry). (e.0.1, e.1)) (cond b (e ∷ filter (λ (e : NameEntry). nat_eq e.0.0 d) es) (filter (λ (e : NameEntry). nat_eq e.0.0 d) es))) f

run_before : (d : ℕ) (xs : List NameEntry) → AllGreater key_cmp (d, []) xs → run_of d xs ≡ []
run_before d [] h = refl
run_before d (x ∷ xs) h = run_skip d x xs (other_than d x.0 h.0) ∙ run_before d xs h.1

run_append : (d : ℕ) (xs ys : List NameEntry) → run_of d (xs ++ ys) ≡ run_of d xs ++ run_of d ys
run_append d xs ys = ap (map (λ (e : NameEntry). (e.0.1, e.1))) (filter-append (λ (e : NameEntry). nat_eq e.0.0 d) xs ys)
    ∙ map-append (λ (e : NameEntry). (e.0.1, e.1)) (filter (λ (e : NameEntry). nat_eq e.0.0 d) xs) _

apart : (m n : ℕ) → m < n → nat_eq n m ≡ false
apart m n lt = grind (arith, nat_tests)

later_of : (a b : ℕ) → a ≤ b → nat_eq b a ≡ false → a < b
later_of a b le n = grind (arith, nat_tests)

run_behind : (d : ℕ) (k : Key) (es : List NameEntry) → d < k.0 → AllLess key_cmp k es → run_of d es ≡ []
run_behind d k [] lt h = refl
run_behind d k (e ∷ es) lt h =
    let le = not_later k e.0 (ap is_gt h.0) in
    run_skip d e es (apart d e.0.0 (omega arith)) ∙ run_behind d k es lt h.1

run_own : (d : ℕ) (e : NameEntry) (es : List NameEntry) → nat_eq e.0.0 d ≡ true
    → run_of d (e ∷ es) ≡ (e.0.1, e.1) ∷ run_of d es
run_own d e es f = ap (λ b. map (λ (e : NameEntry). (e.0.1, e.1)) (cond b (e ∷ filter (λ (e : NameEntry). nat_eq e.0.0 d) es) (filter (λ (e : NameEntry). nat_eq e.0.0 d) es))) f

-- past its last name a directory has none
pub run_past : (d : ℕ) (e : NameEntry) (es : List NameEntry) → Rises key_cmp (e ∷ es) → d ≤ e.0.0 → nat_eq e.0.0 d ≡ false
    → run_of d (e ∷ es) ≡ []
run_past d e es r le n = run_skip d e es n ∙ run_behind d e.0 es (later_of d e.0.0 le n) r.0

-- the first key isn't below one
abbrev StartsAt : Key → List NameEntry → Type 0
StartsAt k [] = Unit {0}
StartsAt k (e ∷ es) = is_gt (key_cmp k e.0) ≡ false

all_from : (d : ℕ) (k : Key) (es : List NameEntry) → d ≤ k.0 → AllLess key_cmp k es → AllFrom d es
all_from d k [] le h = tt
all_from d k (e ∷ es) le h =
    let more = not_later k e.0 (ap is_gt h.0) in
    let here : d ≤ e.0.0 = omega arith in (here, all_from d k es le h.1)

starts_from : (d : ℕ) (es : List NameEntry) → StartsAt (d, []) es → Rises key_cmp es → AllFrom d es
starts_from d [] s r = tt
starts_from d (e ∷ es) s r = let here = not_later (d, []) e.0 s in (here, all_from d e.0 es here r.0)

before_place : (k : Key) (es : List NameEntry) → AllGreater key_cmp k (take (place_in key_cmp k es) es)
unfolding front_len
before_place k [] = tt
before_place k (e ∷ es) = elim (key_cmp k e.0) as (λ q. key_cmp k e.0 ≡ q
    → AllGreater key_cmp k (take (cond (is_gt q) (suc (place_in key_cmp k es)) 0) (e ∷ es))) [
      | Less ↦ λ is. tt
      | Equal ↦ λ is. tt
      | Greater ↦ λ is. (is, before_place k es)
    ] refl

starts_append : (k : Key) (xs ys : List NameEntry) → StartsAt k xs → StartsAbove key_cmp k ys → StartsAt k (xs ++ ys)
starts_append k [] [] s a = tt
starts_append k [] (y ∷ ys) s a = ap is_gt a
starts_append k (x ∷ xs) ys s a = s

at_place : (k : Key) (es : List NameEntry) → StartsAt k (drop (place_in key_cmp k es) es)
unfolding front_len
at_place k [] = tt
at_place k (e ∷ es) = elim (key_cmp k e.0) as (λ q. key_cmp k e.0 ≡ q
    → StartsAt k (drop (cond (is_gt q) (suc (place_in key_cmp k es)) 0) (e ∷ es))) [
      | Less ↦ λ is. ap is_gt is
      | Equal ↦ λ is. ap is_gt is
      | Greater ↦ λ is. at_place k es
    ] refl

module _ {Y : Type 0} (d : ℕ) (bs : List (Vec DirEntryKey Y)) (h : AreBlocks bs) (k : ℕ)
    (is : k ≡ list_place key_cmp block_entries (d, []) bs) (lt : k < length bs)
    (at : ℕ) (here : at ≡ place_in key_cmp (d, []) (list_at block_entries bs k)) where
  place_lt : list_place key_cmp block_entries (d, []) bs < length bs
  place_lt = subst (λ n. n < length bs) is lt

  halves : all_entries bs ≡ flat_map block_entries (take k bs) ++ (take at (list_at block_entries bs k)
      ++ (drop at (list_at block_entries bs k) ++ flat_map block_entries (drop (suc k) bs)))
  halves = lists_around block_entries bs k lt
      ∙ ap (λ es. flat_map block_entries (take k bs) ++ (es ++ flat_map block_entries (drop (suc k) bs)))
      (sym (take-append-drop at (list_at block_entries bs k)))
      ∙ ap (λ es. flat_map block_entries (take k bs) ++ es)
      (append_assoc (take at (list_at block_entries bs k)) (drop at (list_at block_entries bs k)) _)

  pub tail_rises : Rises key_cmp (drop at (list_at block_entries bs k) ++ flat_map block_entries (drop (suc k) bs))
  tail_rises = rises_right key_cmp (take at (list_at block_entries bs k)) _
      (rises_right key_cmp (flat_map block_entries (take k bs)) _ (subst (Rises key_cmp) halves (rises key_cmp _ h.rises)))

  pub tail_from : AllFrom d (drop at (list_at block_entries bs k) ++ flat_map block_entries (drop (suc k) bs))
  tail_from = starts_from d _ (starts_append (d, []) (drop at (list_at block_entries bs k)) _
      (subst (λ n. StartsAt (d, []) (drop n (list_at block_entries bs k))) (sym here) (at_place (d, []) (list_at block_entries bs k)))
      (subst (λ n. StartsAbove key_cmp (d, []) (flat_map block_entries (drop (suc n) bs))) (sym is)
      (around key_cmp block_entries key_total (d, []) bs (started bs h.each) (rises key_cmp _ h.rises)).after))
      tail_rises

  pub tail_run : run_of d (drop at (list_at block_entries bs k) ++ flat_map block_entries (drop (suc k) bs))
      ≡ run_of d (all_entries bs)
  tail_run = sym (ap (run_of d) halves
      ∙ run_append d (flat_map block_entries (take k bs)) _
      ∙ ap (λ xs. xs ++ run_of d (take at (list_at block_entries bs k)
      ++ (drop at (list_at block_entries bs k) ++ flat_map block_entries (drop (suc k) bs))))
      (run_before d _ (subst (λ n. AllGreater key_cmp (d, []) (flat_map block_entries (take n bs))) (sym is)
      (around key_cmp block_entries key_total (d, []) bs (started bs h.each) (rises key_cmp _ h.rises)).before))
      ∙ run_append d (take at (list_at block_entries bs k)) _
      ∙ ap (λ xs. xs ++ run_of d (drop at (list_at block_entries bs k) ++ flat_map block_entries (drop (suc k) bs)))
      (run_before d _ (subst (λ n. AllGreater key_cmp (d, []) (take n (list_at block_entries bs k))) (sym here)
      (before_place (d, []) (list_at block_entries bs k)))))

-- whether there is a next one
pub none_is : {A X : Type 0} (g : A → X) (r : Bool) (o : Option A) (xs ys : List X) → is_some o ≡ not r
    → MatchOption o ((xs ≡ []) × (ys ≡ [])) (λ f. xs ≡ g f ∷ ys) → r ≡ nat_eq (length xs) 0
none_is g true None xs ys is h = rw h.0 refl
none_is g false None xs ys is h = absurd (true≢false (sym is))
none_is g true (Some f) xs ys is h = absurd (true≢false is)
none_is g false (Some f) xs ys is h = rw h (sym (apart 0 (length (g f ∷ ys)) (omega arith)))

differ : (a b : ℕ) → (a ≡ b → ⊥) → nat_eq a b ≡ false
differ a b n = grind (arith, nat_tests)

equal : (a b : ℕ) → a ≡ b → nat_eq a b ≡ true
equal a b same = grind (arith, nat_tests)

-- a run whose first row is of another directory is over
pub run_over : {Y : Type 0} (d : ℕ) (row : DirEntryKey) (more here : List DirEntryKey) (rest : List (Vec DirEntryKey Y))
    → here ≡ row ∷ more → IsRun d here rest → (row.directory ≡ d → ⊥) → run_of d (entries_from here rest) ≡ []
run_over d row more here rest is run n =
    let run' = subst (λ rows. IsRun d rows rest) is run in
    ap (λ rows. run_of d (entries_from rows rest)) is
    ∙ run_past d (row_entry row) (map row_entry more ++ all_entries rest)
    (rises key_cmp (entries_from (row ∷ more) rest) run'.rises) run'.from.0 (differ row.directory d n)

pub tail_is : {Y : Type 0} (here : List DirEntryKey) (rest bs : List (Vec DirEntryKey Y)) (k at : ℕ) (rows : List DirEntryKey)
    → map row_entry rows ≡ list_at block_entries bs k → here ≡ drop at rows → rest ≡ drop (k + 1) bs
    → entries_from here rest ≡ drop at (list_at block_entries bs k) ++ flat_map block_entries (drop (suc k) bs)
tail_is here rest bs k at rows are is behind =
    (λ i. map row_entry (is i) ++ all_entries (behind i))
    ∙ (λ i. (map_drop row_entry at rows ∙ ap (drop at) are) i ++ all_entries (drop (add-one k i) bs))

-- ---- names in byte order

names_less : (name : List ℕ) (es : List (List ℕ × ℕ)) → AllLess (slice_cmp nat_cmp) name es
    → AllByRecursion (λ k. slice_cmp nat_cmp name k ≡ Less) (map (λ e. e.0) es)
names_less name [] h = tt
names_less name (e ∷ es) h = (h.0, names_less name es h.1)

pub names_rise : (es : List (List ℕ × ℕ)) → Rises (slice_cmp nat_cmp) es
    → IsStrictlySortedBy (slice_cmp nat_cmp) (map (λ e. e.0) es)
unfolding IsStrictlySortedBy
names_rise [] h = tt
names_rise (e ∷ es) h = (names_less e.0 es h.0, names_rise es h.1)

-- those of a directory
pub run_in_order : (d : ℕ) (es : List NameEntry) → is_sorted key_cmp es ≡ true
    → IsStrictlySortedBy (slice_cmp nat_cmp) (map (λ e. e.0) (run_of d es))
run_in_order d es sorted = names_rise (run_of d es) (run_rises d es (rises key_cmp es sorted))

-- ---- the name at a place

-- past a list, the elements of the one after it
pub get_behind : {X : Type 0} (xs ys : List X) (n : ℕ) → length xs ≤ n
    → slice_get (xs ++ ys) n ≡ slice_get ys (n - length xs)
get_behind [] ys n le = let same : n ≡ n - 0 = omega arith in ap (slice_get ys) same
get_behind (x ∷ xs) ys zero le = absurd (omega arith)
get_behind (x ∷ xs) ys (suc n) le =
    let same : n - length xs ≡ suc n - suc (length xs) = omega arith in
    get_behind xs ys n (omega arith) ∙ ap (slice_get ys) same

-- before its end, its own
pub get_within : {X : Type 0} (xs ys : List X) (n : ℕ) → n < length xs → slice_get (xs ++ ys) n ≡ slice_get xs n
get_within [] ys n lt = absurd (omega arith)
get_within (x ∷ xs) ys zero lt = refl
get_within (x ∷ xs) ys (suc n) lt = get_within xs ys n (omega arith)

-- what a directory's names show of the row at a place
abbrev pub shown_of : ℕ → Option NameEntry → Option (List ℕ × ℕ)
shown_of d None = None
shown_of d (Some e) = cond (nat_eq e.0.0 d) (Some (e.0.1, e.1)) None

-- none of a later directory's rows is shown
none_shown : (d : ℕ) (k : Key) (es : List NameEntry) (n : ℕ) → d < k.0 → AllLess key_cmp k es
    → shown_of d (slice_get es n) ≡ None
none_shown d k [] n lt h = refl
none_shown d k (e ∷ es) zero lt h =
    let le = not_later k e.0 (ap is_gt h.0) in
    ap (λ b. cond b (Some (e.0.1, e.1)) None) (apart d e.0.0 (omega arith))
none_shown d k (e ∷ es) (suc n) lt h = none_shown d k es n lt h.1

-- the row at a place of those from a directory on is that directory's name at the place, or a later directory's
pub shown_at : (d : ℕ) (es : List NameEntry) (n : ℕ) → Rises key_cmp es → AllFrom d es
    → slice_get (run_of d es) n ≡ shown_of d (slice_get es n)
shown_at d [] n r from = refl
shown_at d (e ∷ es) n r from = elim (nat_eq e.0.0 d) as (λ b. nat_eq e.0.0 d ≡ b
    → slice_get (run_of d (e ∷ es)) n ≡ shown_of d (slice_get (e ∷ es) n)) [
      | true ↦ λ is. own is (λ m. shown_at d es m r.1 from.1) n
      | false ↦ λ is. other is n
    ] refl
  where
    own : nat_eq e.0.0 d ≡ true → ((m : ℕ) → slice_get (run_of d es) m ≡ shown_of d (slice_get es m)) → (n : ℕ)
        → slice_get (run_of d (e ∷ es)) n ≡ shown_of d (slice_get (e ∷ es) n)
    own is later n = ap (λ xs. slice_get xs n) (run_own d e es is) ∙ by n
      where
        by : (n : ℕ) → slice_get ((e.0.1, e.1) ∷ run_of d es) n ≡ shown_of d (slice_get (e ∷ es) n)
        by zero = sym (ap (λ b. cond b (Some (e.0.1, e.1)) None) is)
        by (suc n) = later n

    other : nat_eq e.0.0 d ≡ false → (n : ℕ) → slice_get (run_of d (e ∷ es)) n ≡ shown_of d (slice_get (e ∷ es) n)
    other is n = ap (λ xs. slice_get xs n) (run_past d e es r from.0 is) ∙ sym (by n)
      where
        by : (n : ℕ) → shown_of d (slice_get (e ∷ es) n) ≡ None
        by zero = ap (λ b. cond b (Some (e.0.1, e.1)) None) is
        by (suc n) = none_shown d e.0 es n (later_of d e.0.0 from.0 is) r.0

module _ {Y : Type 0} (rows : List DirEntryKey) (behind : List (Vec DirEntryKey Y)) (n : ℕ) where
  -- there is no row past the last one
  pub none_past : length rows ≤ n → length behind ≡ 0 → slice_get (entries_from rows behind) n ≡ None
  none_past le none =
      ap (λ bs. slice_get (entries_from rows bs) n) (nil_from_length behind none)
      ∙ get_behind (map row_entry rows) [] n (subst (λ k. k ≤ n) (sym (length-map rows row_entry)) le)

  -- past the first rows, it is one of those after them
  pub goes_on : (block : Vec DirEntryKey Y) (blocks : List (Vec DirEntryKey Y)) → length rows ≤ n → behind ≡ block ∷ blocks
      → slice_get (entries_from rows behind) n ≡ slice_get (entries_from block.items blocks) (n - length rows)
  goes_on block blocks le is =
      ap (λ bs. slice_get (entries_from rows bs) n) is
      ∙ get_behind (map row_entry rows) (entries_from block.items blocks) n (subst (λ k. k ≤ n) (sym (length-map rows row_entry)) le)
      ∙ ap (λ k. slice_get (entries_from block.items blocks) (n - k)) (length-map rows row_entry)

  -- and else one of them
  pub is_here : n < length rows → slice_get (entries_from rows behind) n ≡ option_map row_entry (slice_get rows n)
  is_here lt =
      get_within (map row_entry rows) (all_entries behind) n (subst (λ k. n < k) (sym (length-map rows row_entry)) lt)
      ∙ slice_get-map row_entry rows n

-- a row that is lent shows its entry
pub shows_entry : (o : Option (Bor DirEntryKey)) (rows : List DirEntryKey) (n : ℕ) → IsSome o
    → IfSome o (λ row. row.now ≡ get_or rows n row.now) → n < length rows
    → option_map (λ (row : Bor DirEntryKey). row_entry row.now) o ≡ option_map row_entry (slice_get rows n)
shows_entry None rows n some read lt = absurd (cc)
shows_entry (Some row) rows n some read lt =
    ap (option_map row_entry) (sym (slice_get_read rows (length rows) n row.now refl lt read))

module _ {Y : Type 0} {d : ℕ} {here : List DirEntryKey} {rest : List (Vec DirEntryKey Y)} (run : IsRun d here rest) (n : ℕ) where
  shown_run : (o : Option NameEntry) → o ≡ slice_get (entries_from here rest) n
      → slice_get (run_of d (entries_from here rest)) n ≡ shown_of d o
  shown_run o is = shown_at d (entries_from here rest) n (rises key_cmp _ run.rises) run.from ∙ ap (shown_of d) (sym is)

  -- there is no name at a place without a row
  pub no_name_at : None ≡ slice_get (entries_from here rest) n → None ≡ slice_get (run_of d (entries_from here rest)) n
  no_name_at is = sym (shown_run None is)

  -- nor at that of another directory's row
  pub other_at : (e : NameEntry) → Some e ≡ slice_get (entries_from here rest) n → (e.0.0 ≡ d → ⊥)
      → None ≡ slice_get (run_of d (entries_from here rest)) n
  other_at e is not =
      ap (λ b. cond b (Some (e.0.1, e.1)) None) (sym (differ e.0.0 d not)) ∙ sym (shown_run (Some e) is)

  -- that of the directory's own is the name
  pub own_at : (e : NameEntry) → Some e ≡ slice_get (entries_from here rest) n → e.0.0 ≡ d
      → Some (e.0.1, e.1) ≡ slice_get (run_of d (entries_from here rest)) n
  own_at e is same =
      ap (λ b. cond b (Some (e.0.1, e.1)) None) (sym (equal e.0.0 d same)) ∙ sym (shown_run (Some e) is)
