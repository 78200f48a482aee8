-- The names of a directory as a map of texts.
use Rattle.std.proofs.Common.{◌≡◌, ℕ, true, false, cond, List, [], ◌∷◌, Option, None, Some, length, refl, sym, ap, ◌∙◌}
use Rattle.std.specs.Prelude.{is_some}
use Rattle.std.specs.Option.{option_or}
use Rattle.std.specs.Ordering.{nat_cmp, eq_by_cmp}
use Rattle.std.specs.Cmp.Lexicographic.{slice_cmp, nat_list_cmp_total}
use Rattle.std.specs.FinMap.Entries.{find}
use Rattle.std.specs.FinMap.{entries, from_sorted, empty_of_len, len-entries, entries-from_sorted, get, empty, insert, from_entries, get-from_entries, get-empty, get-insert}
use Rattle.wasi_host.specs.Tree.{Names, Content, File, Directory, Link, names_of, is_directory}
use Rattle.wasi_tree.specs.StoredTree.{with_first}
use Rattle.wasi_tree.proofs.TextEntries.{same_name}
use Rattle.wasi_tree_index.proofs.NamesLemmas.{same_names}

pub get-no_names : (name : List ℕ) → get {X = ℕ} (from_entries {R = slice_cmp nat_cmp} []) name ≡ None
get-no_names name = get-empty (slice_cmp nat_cmp) name

-- no names are no entries
pub no_entries : entries (empty {K = List ℕ} {X = ℕ} {R = slice_cmp nat_cmp}) ≡ []
no_entries =
    ap entries (sym (empty_of_len (from_sorted {X = ℕ} {R = slice_cmp nat_cmp} [])
    (len-entries _ ∙ ap length (entries-from_sorted (slice_cmp nat_cmp) [] tt))))
    ∙ entries-from_sorted (slice_cmp nat_cmp) [] tt

-- what is no directory has no names
pub no_names_of : (c : Content) → is_directory c ≡ false → names_of c ≡ empty
no_names_of (File bytes links) other = refl
no_names_of (Directory names gone) other = absurd (cc)
no_names_of (Link text links) other = refl

-- names with some entries more, one after another, unless one of its name is there
abbrev pub with_firsts : Names → List (List ℕ × ℕ) → Names
with_firsts names [] = names
with_firsts names (e ∷ es) = with_firsts (with_first names e) es

-- what is found once an entry is there, and else is found elsewhere
get-with_first : (names : Names) (e : List ℕ × ℕ) (rest : Option ℕ) (q : List ℕ)
    → option_or (get (with_first names e) q) rest
    ≡ option_or (get names q) (cond (eq_by_cmp (slice_cmp nat_cmp) q e.0) (Some e.1) rest)
get-with_first names e rest q = elim (get names e.0) as (λ o. get names e.0 ≡ o
    → option_or (get (cond (is_some o) names (insert names e.0 e.1)) q) rest
    ≡ option_or (get names q) (cond (eq_by_cmp (slice_cmp nat_cmp) q e.0) (Some e.1) rest)) [
      | None ↦ λ none. ap (λ o. option_or o rest) (get-insert nat_list_cmp_total names e.0 e.1 q)
          ∙ elim (eq_by_cmp (slice_cmp nat_cmp) q e.0) as (λ b. eq_by_cmp (slice_cmp nat_cmp) q e.0 ≡ b
          → option_or (cond b (Some e.1) (get names q)) rest ≡ option_or (get names q) (cond b (Some e.1) rest)) [
            | true ↦ λ tie. sym (ap (λ o. option_or o (Some e.1)) (ap (get names) (same_name q e.0 tie) ∙ none))
            | false ↦ λ _. refl
          ] refl
      | Some v ↦ λ there. elim (eq_by_cmp (slice_cmp nat_cmp) q e.0) as (λ b. eq_by_cmp (slice_cmp nat_cmp) q e.0 ≡ b
          → option_or (get names q) rest ≡ option_or (get names q) (cond b (Some e.1) rest)) [
            | true ↦ λ tie. let found : get names q ≡ Some v = ap (get names) (same_name q e.0 tie) ∙ there in
                ap (λ o. option_or o rest) found ∙ sym (ap (λ o. option_or o (Some e.1)) found)
            | false ↦ λ _. refl
          ] refl
    ] refl

get-with_firsts : (names : Names) (es : List (List ℕ × ℕ)) (q : List ℕ)
    → get (with_firsts names es) q ≡ option_or (get names q) (find (slice_cmp nat_cmp) q es)
get-with_firsts names [] q = by (get names q)
  where
    by : (o : Option ℕ) → o ≡ option_or o None
    by None = refl
    by (Some n) = refl
get-with_firsts names (e ∷ es) q =
    get-with_firsts (with_first names e) es q ∙ get-with_first names e (find (slice_cmp nat_cmp) q es) q

-- of two entries of one name the first one stays
pub firsts_of : (es : List (List ℕ × ℕ)) → with_firsts empty es ≡ from_entries es
firsts_of es = same_names _ _ (λ q.
    get-with_firsts empty es q
    ∙ ap (λ o. option_or o (find (slice_cmp nat_cmp) q es)) (get-empty (slice_cmp nat_cmp) q)
    ∙ sym (get-from_entries nat_list_cmp_total es q))
