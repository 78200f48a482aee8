-- Which nodes the lists of an audit have, call by call.
use Rattle.std.proofs.Common.{ℕ, String, Global, zero, suc, ◌+◌, ◌<◌, ◌≡◌, ◌⊎◌, ◌↔◌, inl, inr, true, List, [], ◌∷◌, ◌++◌, append-nil, get_or, length, map, replicate, take, refl, ap, sym, ◌∙◌, subst, arith, slice_get, Option, Some, None, nat_eq}
use Rattle.std.specs.Prelude.{All, Contains, option_map}
use Rattle.std.specs.FinSet.{contains, from_list}
use Rattle.std.specs.List.{dedup, flat_map}
use Rattle.std.specs.List.Sorted.{IsPermutation, IsSorted, IsStrictlyIncreasing}
use Rattle.std.specs.Ordering.{nat_cmp}
use Rattle.std.specs.String.{string_bytes}
use Rattle.std.proofs.lemmas.List.{map-append, take-map, take_more}
use Rattle.std.proofs.lemmas.List.Concat.{flat_map-append}
use Rattle.std.proofs.lemmas.List.Elements.{All-contains, All-contains_itself, Contains-append_cases, Contains-append_left, Contains-append_right}
use Rattle.std.proofs.lemmas.List.Filters.{All-dedup}
use Rattle.std.proofs.lemmas.List.Kept.{Contains-dedup_nat}
use Rattle.std.proofs.lemmas.List.Sorted.{Contains-permutation, IsPermutation-sym}
use Rattle.std.proofs.lemmas.Map.Keys.{IsStrictlyIncreasing-dedup}
use Rattle.std.proofs.lemmas.Option.{get_or_from_slice_get, slice_get-get_or, slice_get-map, slice_get_within}
use Rattle.wasi_host.specs.Tree.{Nodes}
use Rattle.wasi_audit.specs.Audits.{Stems, is_named_from, noted_list, noted_lists}
use Rattle.wasi_audit.proofs.Membership.{IsNoted, Contains-noted, get-noted_lists}
use Rattle.wasi_report.specs.Audit.{audited_preopen}
use Rattle.wasi_report.specs.declared.audit.PreopenNodes.{PreopenNodes}
use Rattle.wasi_setup.proofs.ListedNodes.{in_list, in_listed}
use Rattle.wasi_script.specs.Audited.{listed_preopens}
use Rattle.wasi_script.specs.Through.{IsListed}

-- ---- the nodes of all lists

abbrev pub all_listed : List (List ℕ) → List ℕ
all_listed lists = flat_map (λ list. list) lists

abbrev pub listed_set : List (List ℕ) → Nodes
listed_set lists = from_list (all_listed lists)

in_one : (lists : List (List ℕ)) (n : ℕ) → Contains (all_listed lists) n → IsListed lists n
in_one [] n has = absurd (omega (arith, has.1))
in_one (x ∷ lists) n has = elim (Contains-append_cases x (all_listed lists) n has) [
  | inl here ↦ record { place = 0; list = x; at = refl; has = here }
  | inr later ↦ let rest = in_one lists n later in
      record { place = suc rest.place; list = rest.list; at = rest.at; has = rest.has }
]

in_all : (lists : List (List ℕ)) (i n : ℕ) {list : List ℕ} → slice_get lists i ≡ Some list → Contains list n
    → Contains (all_listed lists) n
in_all [] i n at has = absurd (cc)
in_all (x ∷ lists) zero n {list} at has = let same : x ≡ list = (cc) in
    Contains-append_left x (all_listed lists) n (subst (λ l. Contains l n) (sym same) has)
in_all (x ∷ lists) (suc i) n at has = Contains-append_right x (all_listed lists) n (in_all lists i n at has)

pub set_has : (lists : List (List ℕ)) (n : ℕ) → (contains (listed_set lists) n ≡ true) ↔ IsListed lists n
set_has lists n = (
  (λ has. in_one lists n (in_listed (all_listed lists) n has)),
  (λ is. in_list (all_listed lists) n (in_all lists is.place n is.at is.has)),
)

-- at the start they have none
pub none_at : (k i : ℕ) {list : List ℕ} → slice_get (replicate k []) i ≡ Some list → list ≡ []
none_at zero i at = absurd (cc)
none_at (suc k) zero at = cc
none_at (suc k) (suc i) at = none_at k i at

pub starts_empty : (k i : ℕ) {list : List ℕ} → slice_get (replicate k []) i ≡ Some list → (n : ℕ) → Contains list n → ⊥
starts_empty k i at n has = let none = none_at k i at in
    let empty : Contains [] n = subst (λ l. Contains l n) none has in omega (arith, empty.1)

-- ---- the lists after a call

pub list_at : (stems : Stems) (named touched : List ℕ) (lists : List (List ℕ)) (i : ℕ) {list : List ℕ}
    → slice_get (noted_lists stems named touched lists) i ≡ Some list
    → (was : List ℕ) × IsNoted stems named touched lists i was list
list_at stems named touched lists i {list} at =
    by (slice_get lists i) refl (sym (get-noted_lists stems named touched lists i) ∙ at)
  where
    by : (o : Option (List ℕ)) → slice_get lists i ≡ o
        → option_map (noted_list (is_named_from stems named i) touched) o ≡ Some list
        → (was : List ℕ) × IsNoted stems named touched lists i was list
    by None is found = absurd (cc)
    by (Some was) is found = (was, record { before = is; after = at })

list_then : (stems : Stems) (named touched : List ℕ) (lists : List (List ℕ)) (i : ℕ) {was : List ℕ}
    → slice_get lists i ≡ Some was
    → IsNoted stems named touched lists i was (noted_list (is_named_from stems named i) touched was)
list_then stems named touched lists i is = record {
  before = is;
  after = get-noted_lists stems named touched lists i ∙ ap (option_map (noted_list (is_named_from stems named i) touched)) is;
}

-- what a list has stays, and with it all that are listed
pub still_listed : (stems : Stems) (named touched : List ℕ) (lists : List (List ℕ)) (n : ℕ) → IsListed lists n
    → IsListed (noted_lists stems named touched lists) n
still_listed stems named touched lists n is =
    let noted = list_then stems named touched lists is.place is.at in record {
      place = is.place;
      list = noted_list (is_named_from stems named is.place) touched is.list;
      at = noted.after;
      has = (Contains-noted noted n).1 (inl is.has);
    }

pub newly_listed : (stems : Stems) (named touched : List ℕ) (lists : List (List ℕ)) (i n : ℕ)
    → is_named_from stems named i ≡ true → i < length lists → Contains touched n
    → IsListed (noted_lists stems named touched lists) n
newly_listed stems named touched lists i n is within has =
    let (list, at) = found lists i within in
    let noted = list_then stems named touched lists i at in record {
      place = i;
      list = noted_list (is_named_from stems named i) touched list;
      at = noted.after;
      has = (Contains-noted noted n).1 (inr (is, has));
    }
  where
    found : (lists : List (List ℕ)) (i : ℕ) → i < length lists → (list : List ℕ) × (slice_get lists i ≡ Some list)
    found [] i within = absurd (omega arith)
    found (x ∷ xs) zero within = (x, refl)
    found (x ∷ xs) (suc i) within = found xs i (omega arith)

pub listed_from : (stems : Stems) (named touched : List ℕ) (lists : List (List ℕ)) (n : ℕ)
    → IsListed (noted_lists stems named touched lists) n → IsListed lists n ⊎ Contains touched n
listed_from stems named touched lists n is =
    let (was, noted) = list_at stems named touched lists is.place is.at in
    elim ((Contains-noted noted n).0 is.has) [
      | inl before ↦ inl (record { place = is.place; list = was; at = noted.before; has = before })
      | inr (through, new) ↦ inr new
    ]

-- ---- all lists in one

-- one list more
take_one : {A : Type 0} (xs : List A) (i : ℕ) (x : A) → slice_get xs i ≡ Some x → take (i + 1) xs ≡ take i xs ++ x ∷ []
take_one xs i x at = take_more xs i x (slice_get_within xs i x at)
    ∙ ap (λ y. take i xs ++ y ∷ []) (get_or_from_slice_get xs i x x at)

pub one_list_more : (lists : List (List ℕ)) (i : ℕ) (list : List ℕ) → slice_get lists i ≡ Some list
    → all_listed (take (i + 1) lists) ≡ all_listed (take i lists) ++ list
one_list_more lists i list at = ap all_listed (take_one lists i list at)
    ∙ flat_map-append (λ l. l) (take i lists) (list ∷ []) ∙ ap (λ l. all_listed (take i lists) ++ l) (append-nil list)

-- in order, and each once
pub joined_rises : (sorted joined : List ℕ) → IsSorted nat_cmp sorted → joined ≡ dedup nat_eq sorted → IsStrictlyIncreasing joined
joined_rises sorted joined order is = subst IsStrictlyIncreasing (sym is) (IsStrictlyIncreasing-dedup sorted order)

pub joined_has : (lists : List (List ℕ)) (all sorted joined : List ℕ) → all ≡ all_listed lists → IsPermutation all sorted
    → joined ≡ dedup nat_eq sorted → (n : ℕ) → Contains joined n ↔ IsListed lists n
joined_has lists all sorted joined whole moved is n = (
  (λ has. in_one lists n (subst (λ l. Contains l n) whole (Contains-permutation sorted all n (IsPermutation-sym all sorted moved)
      (All-contains (Contains sorted) joined n (subst (All (Contains sorted)) (sym is) (All-dedup nat_eq (Contains sorted) sorted
      (All-contains_itself sorted))) has)))),
  (λ listed. subst (λ l. Contains l n) (sym is) (Contains-dedup_nat sorted n (Contains-permutation all sorted n moved
      (subst (λ l. Contains l n) (sym whole) (in_all lists listed.place n listed.at listed.has))))),
)

-- ---- names beside lists

one_name : (names lists : List (List ℕ)) (i : ℕ) (name list : List ℕ) → slice_get names i ≡ Some name
    → slice_get lists i ≡ Some list
    → listed_preopens (take (suc i) names) (take (suc i) lists)
    ≡ listed_preopens (take i names) (take i lists) ++ record { name = name; nodes = list } ∷ []
one_name [] lists i name list at there = absurd (cc)
one_name (x ∷ names) [] i name list at there = absurd (cc)
one_name (x ∷ names) (y ∷ lists) zero name list at there =
    let one : x ≡ name = (cc) in let other : y ≡ list = (cc) in λ j. record { name = one j; nodes = other j } ∷ []
one_name (x ∷ names) (y ∷ lists) (suc i) name list at there =
    ap (λ l. record { name = x; nodes = y } ∷ l) (one_name names lists i name list at there)

-- one name more is put beside its list
pub name_pushed : {i : ℕ} {new : List PreopenNodes} (names : List (String Global)) (lists : List (List ℕ)) (old : List PreopenNodes)
    (item : PreopenNodes) (name : String Global) → i < length names → name ≡ get_or names i name
    → item.name.now ≡ string_bytes name → slice_get lists i ≡ Some item.nodes.now → new ≡ old ++ item ∷ []
    → map audited_preopen old ≡ listed_preopens (map string_bytes (take i names)) (take i lists)
    → map audited_preopen new ≡ listed_preopens (map string_bytes (take (i + 1) names)) (take (i + 1) lists)
name_pushed {i} {new} names lists old item name within is named at pushed so =
    let on : i + 1 ≡ suc i = omega arith in
    let here = slice_get-map string_bytes names i
    ∙ ap (option_map string_bytes) (slice_get-get_or names i name within ∙ ap Some (sym is)) in
    let list = item.nodes.now in
    ap (map audited_preopen) pushed ∙ map-append audited_preopen old (item ∷ [])
    ∙ ap (λ l. l ++ audited_preopen item ∷ []) (so ∙ ap (λ l. listed_preopens l (take i lists)) (sym (take-map string_bytes i names)))
    ∙ ap (λ n. listed_preopens (take i (map string_bytes names)) (take i lists) ++ record { name = n; nodes = list } ∷ []) named
    ∙ sym (one_name (map string_bytes names) lists i (string_bytes name) list here at)
    ∙ ap (λ l. listed_preopens l (take (suc i) lists)) (take-map string_bytes (suc i) names)
    ∙ ap (λ k. listed_preopens (map string_bytes (take k names)) (take k lists)) (sym on)
