-- That the names of a directory's entries are distinct, as a test finds it name by name.
use Rattle.std.proofs.Common.{◌≡◌, ℕ, ◌+◌, ◌<◌, ◌≤◌, Bool, true, false, not, cond, ◌&&◌, ◌||◌, List, [], ◌∷◌, ◌++◌, map, take, drop, length, slice_index_or, refl, sym, ap, ◌∙◌, subst, arith}
use Rattle.std.specs.BTreeSet.{BTreeSet, contains, contains_by, UpdatesBy}
use Rattle.std.specs.Cmp.Lexicographic.{slice_cmp}
use Rattle.std.specs.Ordering.{nat_cmp, is_eq}
use Rattle.std.specs.List.{list_any}
use Rattle.std.specs.Str.{bytes_eq}
use Rattle.std.specs.String.{string_bytes}
use Rattle.std.proofs.Math.Bool.{and_assoc}
use Rattle.std.proofs.lemmas.List.{drop_more, drop_all, take_more, map_push}
use Rattle.std.proofs.lemmas.List.Folds.{list_any-append}
use Rattle.std.proofs.lemmas.Map.Text.{is_eq-slice_cmp}
use denote.Ref.{Bor}
use Rattle.wasi_tree.specs.declared.node.NewEntry.{NewEntry}
use Rattle.wasi_tree.specs.NodeData.{pair_of}
use Rattle.wasi_tree.specs.NodeDataTests.{are_distinct}

-- the names of entries
abbrev pub names : List NewEntry → List (List ℕ)
names entries = map (λ e. e.0) (map pair_of entries)

-- none of these texts is among those that were seen
abbrev pub are_new : List (List ℕ) → List (List ℕ) → Bool
are_new seen [] = true
are_new seen (x ∷ xs) = not (list_any (bytes_eq x) seen) && are_new seen xs

abbrev pub distinct_from : List (List ℕ) → List (List ℕ) → Bool
distinct_from seen xs = are_new seen xs && are_distinct xs

are_new-none : (xs : List (List ℕ)) → are_new [] xs ≡ true
are_new-none [] = refl
are_new-none (x ∷ xs) = are_new-none xs

bytes_eq-comm : (xs ys : List ℕ) → bytes_eq xs ys ≡ bytes_eq ys xs
bytes_eq-comm [] [] = refl
bytes_eq-comm [] (y ∷ ys) = refl
bytes_eq-comm (x ∷ xs) [] = refl
bytes_eq-comm (x ∷ xs) (y ∷ ys) = grind (arith, bytes_eq-comm xs ys)

shuffle : (a b c d : Bool) → (not (a || (b || false)) && (c && not d)) ≡ ((not a && c) && not (b || d))
shuffle true b c d = refl
shuffle false true true d = refl
shuffle false true false d = refl
shuffle false false c d = refl

are_new-push : (seen : List (List ℕ)) (x : List ℕ) (xs : List (List ℕ))
    → are_new (seen ++ x ∷ []) xs ≡ (are_new seen xs && not (list_any (bytes_eq x) xs))
are_new-push seen x [] = refl
are_new-push seen x (y ∷ ys) =
    rw (list_any-append (bytes_eq y) seen (x ∷ []), are_new-push seen x ys, bytes_eq-comm x y)
    (shuffle (list_any (bytes_eq y) seen) (bytes_eq y x) (are_new seen ys) (list_any (bytes_eq x) ys))

distinct_from-new : (seen : List (List ℕ)) (x : List ℕ) (xs : List (List ℕ)) → list_any (bytes_eq x) seen ≡ false
    → distinct_from seen (x ∷ xs) ≡ distinct_from (seen ++ x ∷ []) xs
distinct_from-new seen x xs is =
    rw (is, are_new-push seen x xs) (sym (and_assoc (are_new seen xs) (not (list_any (bytes_eq x) xs)) (are_distinct xs)))

distinct_from-again : (seen : List (List ℕ)) (x : List ℕ) (xs : List (List ℕ)) → list_any (bytes_eq x) seen ≡ true
    → distinct_from seen (x ∷ xs) ≡ false
distinct_from-again seen x xs is = rw is refl

or_last : (a b : Bool) → cond b true a ≡ (a || (b || false))
or_last true true = refl
or_last true false = refl
or_last false true = refl
or_last false false = refl

-- the set has the names of the first i entries, and what is left of the test is the whole test
pub record IsSeen (seen : BTreeSet (Bor (List ℕ))) (entries : List NewEntry) (i : ℕ) : Type 0 where
  pub held : (q : List ℕ)
      → contains_by (λ k. slice_cmp nat_cmp q k.now) seen ≡ list_any (bytes_eq q) (names (take i entries))
  pub rest : distinct_from (names (take i entries)) (names (drop i entries)) ≡ are_distinct (names entries)

pub seen_none : (seen : BTreeSet (Bor (List ℕ))) (entries : List NewEntry) → seen.keys ≡ [] → IsSeen seen entries 0
seen_none seen entries is = record {
  held = λ q. rw is refl;
  rest = rw (are_new-none (names entries)) refl;
}

names-take : (entries : List NewEntry) (i : ℕ) (e : NewEntry) → i < length entries
    → names (take (i + 1) entries) ≡ names (take i entries) ++ string_bytes (slice_index_or entries i e).name ∷ []
names-take entries i e h =
    rw (take_more entries i e h, map_push pair_of (take i entries) (slice_index_or entries i e), map_push {Y = List ℕ} (λ (p : List ℕ × ℕ). p.0) (map pair_of (take i entries)) (pair_of (slice_index_or entries i e))) refl

names-drop : (entries : List NewEntry) (i : ℕ) (e : NewEntry) → i < length entries
    → names (drop i entries) ≡ string_bytes (slice_index_or entries i e).name ∷ names (drop (i + 1) entries)
names-drop entries i e h = rw (drop_more entries i e h) refl

pub seen_again : (seen : BTreeSet (Bor (List ℕ))) (entries : List NewEntry) (i : ℕ) (e : NewEntry) (x : Bor (List ℕ))
    → IsSeen seen entries i → i < length entries
    → x.now ≡ string_bytes (slice_index_or entries i e).name
    → contains (λ a b. slice_cmp nat_cmp a.now b.now) seen x ≡ true → are_distinct (names entries) ≡ false
seen_again seen entries i e x is h same found =
    let again : list_any (bytes_eq (string_bytes (slice_index_or entries i e).name)) (names (take i entries)) ≡ true =
    subst (λ q. list_any (bytes_eq q) (names (take i entries)) ≡ true) same (sym (is.held x.now) ∙ found) in
    sym is.rest ∙ ap (distinct_from (names (take i entries))) (names-drop entries i e h)
    ∙ distinct_from-again (names (take i entries)) (string_bytes (slice_index_or entries i e).name) (names (drop (i + 1) entries)) again

pub seen_more : (seen new : BTreeSet (Bor (List ℕ))) (entries : List NewEntry) (i : ℕ) (e : NewEntry) (x : Bor (List ℕ))
    → IsSeen seen entries i → i < length entries
    → x.now ≡ string_bytes (slice_index_or entries i e).name
    → contains (λ a b. slice_cmp nat_cmp a.now b.now) seen x ≡ false
    → UpdatesBy (λ a b. slice_cmp nat_cmp a.now b.now) (λ k. slice_cmp nat_cmp x.now k.now) seen new true
    → IsSeen new entries (i + 1)
seen_more seen new entries i e x is h same found update =
    let fresh : list_any (bytes_eq x.now) (names (take i entries)) ≡ false = sym (is.held x.now) ∙ found in
    let taken : names (take (i + 1) entries) ≡ names (take i entries) ++ x.now ∷ [] = rw same (names-take entries i e h) in
    let dropped : names (drop i entries) ≡ x.now ∷ names (drop (i + 1) entries) = rw same (names-drop entries i e h) in
    record {
      held = λ q.
          let updated : contains_by (λ k. slice_cmp nat_cmp q k.now) new ≡ cond (is_eq (slice_cmp nat_cmp x.now q)) true (contains_by (λ k. slice_cmp nat_cmp q k.now) seen) =
          update.0 (record { ref_ptr = (0, 0); now = q }) in
          rw (updated, is_eq-slice_cmp x.now q, is.held q, taken, list_any-append (bytes_eq q) (names (take i entries)) (x.now ∷ []), bytes_eq-comm q x.now)
          (or_last (list_any (bytes_eq q) (names (take i entries))) (bytes_eq x.now q));
      rest =
          rw taken (sym (distinct_from-new (names (take i entries)) x.now (names (drop (i + 1) entries)) fresh) ∙ ap (distinct_from (names (take i entries))) (sym dropped) ∙ is.rest);
    }

pub seen_all : (seen : BTreeSet (Bor (List ℕ))) (entries : List NewEntry) (i : ℕ) → IsSeen seen entries i
    → length entries ≤ i → are_distinct (names entries) ≡ true
seen_all seen entries i is h = sym is.rest ∙ ap (λ es. distinct_from (names (take i entries)) (names es)) (drop_all i entries h)

pub ruleset seen_rules = (seen_none, seen_again, seen_more, seen_all)
