-- The names among the components are plain.
use Rattle.std.proofs.Common.{ℕ, ◌≡◌, Bool, true, false, List, [], ◌∷◌, refl, sym, subst, cond, get_or}
use Rattle.std.specs.Prelude.{not, codes, ◌&&◌, ◌||◌, IsTrue}
use Rattle.std.specs.Str.{bytes_eq}
use Rattle.std.specs.List.{All, filter, onto_first}
use Rattle.std.proofs.lemmas.Bool.{and_parts, not-true}
use Rattle.std.proofs.lemmas.List.Elements.{All-nil, All-cons, All-head, All-tail, All-filter, filter_passes}
use Rattle.wasi_paths.specs.Text.{has_slash, is_dot_text, is_plain, is_name_text}
use Rattle.wasi_paths.specs.Parts.{ParentDir, Normal, is_slash, is_empty, segments, is_kept, component_of}
use Rattle.wasi_paths.specs.TextLaws.{HasPlainName, HasPlainNames}
use Rattle.wasi_paths.proofs.Segments.{HasFirst, first_of, IsOne, tail_is_one}
use Rattle.wasi_paths.proofs.ComponentLemmas.{components_all}

-- the text of a name is plain, but where it is `.`
pub plain_unless_dot : (text : List ℕ) → IsTrue (is_name_text text) → is_plain text ≡ not (is_dot_text text)
plain_unless_dot text named =
    by (not (bytes_eq text [])) (is_dot_text text) (not (bytes_eq text (codes ".."))) (not (has_slash text)) named
  where
    by : (some dot up segment : Bool) → IsTrue (dot || (some && not dot && up && segment))
        → (some && not dot && up && segment) ≡ not dot
    by true true up segment is = refl
    by false true up segment is = refl
    by some false up segment is = is

pub one_lacks : (text : List ℕ) → IsOne text → has_slash text ≡ false
one_lacks [] k = refl
one_lacks (b ∷ text) k = let t = tail_is_one b text k in rw t.0 (one_lacks text t.1)

abbrev Lacks : List ℕ → Type 0
Lacks segment = has_slash segment ≡ false

segments_lack : (text : List ℕ) → All Lacks (segments text)
segments_lack [] = All-cons Lacks [] [] refl (All-nil Lacks)
segments_lack (b ∷ text) = by (is_slash b) refl (first_of text) (segments_lack text)
  where
    by : (slash : Bool) → is_slash b ≡ slash → HasFirst (segments text) → All Lacks (segments text)
        → All Lacks (cond slash ([] ∷ segments text) (onto_first b (segments text)))
    by true is k rest = All-cons Lacks [] (segments text) refl rest
    by false is k rest =
        let both : All Lacks (k.first ∷ k.rest) = subst (All Lacks) k.is rest in
        let first : Lacks (b ∷ k.first) = rw is (All-head Lacks k.first k.rest both) in
        let all = All-cons Lacks (b ∷ k.first) k.rest first (All-tail Lacks k.first k.rest both) in
        subst (λ pieces. All Lacks (onto_first b pieces)) (sym k.is) all

pub plain_segment : (segment : List ℕ) → has_slash segment ≡ false → is_kept segment ≡ true
    → HasPlainName (component_of segment)
plain_segment segment lacks kept = by (bytes_eq segment (codes "..")) refl
  where
    by : (up : Bool) → bytes_eq segment (codes "..") ≡ up → HasPlainName (cond up ParentDir (Normal segment))
    by true is = tt
    by false is =
        let parts = and_parts (not (is_empty segment)) (not (is_dot_text segment)) kept in
        let some : is_empty segment ≡ false = not-true _ parts.0 in
        let named : is_dot_text segment ≡ false = not-true _ parts.1 in
        rw (some, named, is, lacks) refl

pub names_plain : (text : List ℕ) → HasPlainNames text
names_plain text = components_all HasPlainName tt tt text (λ k d below.
    plain_segment (get_or (filter is_kept (segments text)) k d)
    (All-filter is_kept Lacks (segments text) (segments_lack text) k d below)
    (filter_passes is_kept (segments text) k d below))
