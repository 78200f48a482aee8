-- A list of entries beside the map of names that is made of it.
use Rattle.std.proofs.Common.{◌≡◌, ℕ, zero, suc, ◌+◌, true, false, not, cond, ◌||◌, List, [], ◌∷◌, map, nat_eq, Some, None, refl, sym, ap, ◌∙◌, subst, arith}
use Rattle.std.specs.List.{All, Contains, list_any}
use Rattle.std.specs.Cmp.Lexicographic.{nat_list_cmp_total}
use Rattle.std.specs.FinMap as maps
use Rattle.std.specs.Str.{bytes_eq}
use Rattle.std.proofs.lemmas.Bool.{and_parts, not-true}
use Rattle.std.proofs.lemmas.Map.Text.{is_eq-slice_cmp}
use Rattle.std.proofs.lemmas.Slice.Eq.{bytes_eq-Decides}
use Rattle.wasi_host.specs.Tree.{Names}
use Rattle.wasi_tree.specs.NodeDataTests.{are_distinct}
use Rattle.wasi_host.proofs.EntryLemmas.{times, once, times-cons, numbers, find_in, put_in, times-put, All-put_in, entries-no_names, entries-inserted}

abbrev pub texts : List (List ℕ × ℕ) → List (List ℕ)
texts es = map (λ e. e.0) es

-- a text that is missing is not found
missing : (name : List ℕ) (es : List (List ℕ × ℕ)) → list_any (bytes_eq name) (texts es) ≡ false
    → find_in name es ≡ None
missing name [] is = refl
missing name (e ∷ es) is =
    rw (is_eq-slice_cmp name e.0) (elim (bytes_eq name e.0) as (λ b. (b || list_any (bytes_eq name) (texts es)) ≡ false → cond b (Some e.1) (find_in name es) ≡ None) [
      | true ↦ λ h. cc
      | false ↦ λ h. missing name es h
    ] is)

abbrev pub names_from : List (List ℕ × ℕ) → Names
names_from es = maps.from_entries es

entries-more : (e : List ℕ × ℕ) (es : List (List ℕ × ℕ))
    → maps.entries (names_from (e ∷ es)) ≡ put_in e.0 e.1 (maps.entries (names_from es))
entries-more e es = entries-inserted (names_from es) e.0 e.1

new_name : (e : List ℕ × ℕ) (es : List (List ℕ × ℕ)) → list_any (bytes_eq e.0) (texts es) ≡ false
    → find_in e.0 (maps.entries (names_from es)) ≡ None
new_name e es new = sym (maps.get-entries (names_from es) e.0) ∙ maps.get-from_entries nat_list_cmp_total es e.0 ∙ missing e.0 es new

distinct-parts : (e : List ℕ × ℕ) (es : List (List ℕ × ℕ)) → are_distinct (texts (e ∷ es)) ≡ true
    → (list_any (bytes_eq e.0) (texts es) ≡ false) × (are_distinct (texts es) ≡ true)
distinct-parts e es is =
    let parts = and_parts (not (list_any (bytes_eq e.0) (texts es))) (are_distinct (texts es)) is in
    (not-true (list_any (bytes_eq e.0) (texts es)) parts.0, parts.1)

-- distinct names: the map holds a node as often as the list
pub times-from : (n : ℕ) (es : List (List ℕ × ℕ)) → are_distinct (texts es) ≡ true
    → times n (numbers (maps.entries (names_from es))) ≡ times n (numbers es)
times-from n [] is = ap (λ fs. times n (numbers fs)) entries-no_names
times-from n (e ∷ es) is =
    let parts = distinct-parts e es is in
    ap (λ fs. times n (numbers fs)) (entries-more e es)
    ∙ times-put n e.0 e.1 (maps.entries (names_from es)) (new_name e es parts.0)
    ∙ ap (λ k. once (nat_eq e.1 n) + k) (times-from n es parts.1)
    ∙ sym (times-cons n e.1 (numbers es))

pub All-from : (P : List ℕ × ℕ → Type 0) (es : List (List ℕ × ℕ)) → are_distinct (texts es) ≡ true → All P es
    → All P (maps.entries (names_from es))
All-from P [] is all = subst (All P) (sym entries-no_names) all
All-from P (e ∷ es) is all =
    let parts = distinct-parts e es is in
    let rest : All P es = λ i d h. all (suc i) d (omega arith) in
    subst (All P) (sym (entries-more e es)) (All-put_in P e.0 e.1 (maps.entries (names_from es)) (new_name e es parts.0) (all 0 e (omega arith)) (All-from P es parts.1 rest))

find_more : (e : List ℕ × ℕ) (es : List (List ℕ × ℕ)) (name : List ℕ) (n : ℕ)
    → list_any (bytes_eq e.0) (texts es) ≡ false → find_in name es ≡ Some n → find_in name (e ∷ es) ≡ Some n
find_more e es name n new found =
    rw (is_eq-slice_cmp name e.0) (elim (bytes_eq name e.0) as (λ b. bytes_eq name e.0 ≡ b → cond b (Some e.1) (find_in name es) ≡ Some n) [
      | true ↦ λ is.
          let same : name ≡ e.0 = (bytes_eq-Decides name e.0).0 is in
          let none : find_in name es ≡ None = subst (λ q. find_in q es ≡ None) (sym same) (missing e.0 es new) in
          cc
      | false ↦ λ is. found
    ] refl)

-- distinct names: a name finds the number that stands beside it
pub find_held : (es : List (List ℕ × ℕ)) (entry : List ℕ × ℕ) → are_distinct (texts es) ≡ true → Contains es entry
    → find_in entry.0 es ≡ Some entry.1
find_held [] entry is at = absurd (omega (arith, at.1))
find_held (e ∷ es) entry is (zero, h, same) =
    subst (λ (f : List ℕ × ℕ). find_in f.0 (e ∷ es) ≡ Some f.1) same (rw (is_eq-slice_cmp e.0 e.0, (bytes_eq-Decides e.0 e.0).1 refl) refl)
find_held (e ∷ es) entry is (suc k, h, same) =
    let parts = distinct-parts e es is in
    find_more e es entry.0 entry.1 parts.0 (find_held es entry parts.1 (k, omega (arith, h), same))
