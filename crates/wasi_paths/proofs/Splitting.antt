-- The components of a text with their ends, and the split.
use Rattle.std.proofs.Common.{ℕ, ◌+◌, ◌-◌, ◌≡◌, ◌≤◌, ◌<◌, Bool, true, false, List, [], ◌∷◌, ◌++◌, map, refl, ap, sym, ◌∙◌, cond, inl, inr, length, length-append, take, get_or, zero-add, lit<, arith}
use Rattle.std.specs.Prelude.{not, nat_eq, codes, reverse, Some, None}
use Rattle.std.specs.Str.{bytes_eq, IsCharBoundary}
use Rattle.std.specs.List.{filter, onto_first}
use Rattle.std.proofs.lemmas.Bool.{or_cases, not-false}
use Rattle.std.proofs.lemmas.List.{map-append, reverse-append, append_assoc, append-nil, length-take, length-take-le, take-take, take_at, take-append-le, get_or_at}
use Rattle.std.proofs.lemmas.List.Elements.{filter-append}
use Rattle.std.proofs.lemmas.Slice.Eq.{bytes_eq-Decides}
use Rattle.std.proofs.lemmas.Str.{IsCharBoundary-before_ascii}
use Rattle.wasi_paths.specs.Text.{is_dot_text}
use Rattle.wasi_paths.specs.Parts.{Component, CurDir, Normal, has_root, is_slash, is_empty, segments, first_segment, with_ends, lead, is_kept, component_of, components_with_ends, trailing_slash, requires_dir, end_of_first, split_before, split}
use Rattle.wasi_paths.specs.Cut.{IsCut}
use Rattle.wasi_paths.proofs.Segments.{HasFirst, first_of, IsOne, empty_is_one, HasLast, last_of, slash_last, segments_joined, tail_is_one, nothing_of, empty_by_length}
use Rattle.wasi_paths.proofs.ComponentLemmas.{as_component}
use Rattle.wasi_paths.proofs.Tails.{one_slash, last_slash, one_requires, last_requires, last_kept}

-- ---- where segments end

span : List (List ℕ) → ℕ
span [] = 0
span (piece ∷ pieces) = length piece + 1 + span pieces

span_segments : (text : List ℕ) → span (segments text) ≡ length text + 1
unfolding span
span_segments [] = refl
span_segments (b ∷ text) = by (is_slash b) (first_of text) (span_segments text)
  where
    by : (slash : Bool) → HasFirst (segments text) → span (segments text) ≡ length text + 1
        → span (cond slash ([] ∷ segments text) (onto_first b (segments text))) ≡ length (b ∷ text) + 1
    by true k same = omega (arith, same)
    by false k same =
        let whole : length k.first + 1 + span k.rest ≡ length text + 1 = rw k.is at same in
        rw k.is (omega (arith, whole))

with_ends_append : (start : ℕ) (xs ys : List (List ℕ))
    → with_ends start (xs ++ ys) ≡ with_ends start xs ++ with_ends (start + span xs) ys
unfolding span
with_ends_append start [] ys = let same : start ≡ start + 0 = omega arith in ap (λ n. with_ends n ys) same
with_ends_append start (x ∷ xs) ys =
    let next = start + length x + 1 in
    let same : next + span xs ≡ start + (length x + 1 + span xs) = omega arith in
    let rest = with_ends_append next xs ys ∙ ap (λ n. with_ends next xs ++ with_ends n ys) same in
    ap (λ pieces. (x, start + length x) ∷ pieces) rest

ends_joined : (front rest : List ℕ) → with_ends 0 (segments (front ++ 47 ∷ rest))
    ≡ with_ends 0 (segments front) ++ with_ends (length front + 1) (segments rest)
ends_joined front rest =
    let end : 0 + span (segments front) ≡ length front + 1 = omega (arith, span_segments front) in
    ap (with_ends 0) (segments_joined front rest) ∙ with_ends_append 0 (segments front) (segments rest)
    ∙ ap (λ n. with_ends 0 (segments front) ++ with_ends n (segments rest)) end

-- ---- components with their ends

unfoldable pub kept_ends : List (List ℕ × ℕ) → List (Component × ℕ)
kept_ends pieces = map as_component (filter (λ piece. is_kept piece.0) pieces)

pub kept_cons : (piece : List ℕ) (end : ℕ) (rest : List (List ℕ × ℕ)) → kept_ends ((piece, end) ∷ rest)
    ≡ cond (is_kept piece) ((component_of piece, end) ∷ kept_ends rest) (kept_ends rest)
unfolding kept_ends
kept_cons piece end rest = by (is_kept piece) (filter (λ p. is_kept p.0) rest)
  where
    by : (kept : Bool) (pieces : List (List ℕ × ℕ)) → map as_component (cond kept ((piece, end) ∷ pieces) pieces)
        ≡ cond kept ((component_of piece, end) ∷ map as_component pieces) (map as_component pieces)
    by true pieces = refl
    by false pieces = refl

kept_append : (xs ys : List (List ℕ × ℕ)) → kept_ends (xs ++ ys) ≡ kept_ends xs ++ kept_ends ys
unfolding kept_ends
kept_append xs ys = ap (map as_component) (filter-append _ xs ys) ∙ map-append as_component (filter _ xs) (filter _ ys)

pub components_joined : (front rest : List ℕ) → components_with_ends (front ++ 47 ∷ rest)
    ≡ (lead (front ++ 47 ∷ rest) ++ kept_ends (with_ends 0 (segments front)))
    ++ kept_ends (with_ends (length front + 1) (segments rest))
unfolding kept_ends
components_joined front rest =
    let before = with_ends 0 (segments front) in
    let behind = with_ends (length front + 1) (segments rest) in
    ap (λ ends. lead (front ++ 47 ∷ rest) ++ kept_ends ends) (ends_joined front rest)
    ∙ ap (λ ends. lead (front ++ 47 ∷ rest) ++ ends) (kept_append before behind)
    ∙ sym (append_assoc (lead (front ++ 47 ∷ rest)) (kept_ends before) (kept_ends behind))

-- a segment as a component with its end, where it is kept
abbrev pub one_end : List ℕ → ℕ → List (Component × ℕ)
one_end piece end = cond (is_kept piece) ((component_of piece, end) ∷ []) []

-- the components of what stands before the last slash
before_last : {text : List ℕ} → HasLast text → List (Component × ℕ)
before_last {text} k = lead text ++ kept_ends (with_ends 0 (segments k.front))

components_of_last : {text : List ℕ} (k : HasLast text)
    → components_with_ends text ≡ before_last k ++ one_end k.last (length text)
unfolding before_last kept_ends
components_of_last {text} k =
    let start = length k.front + 1 in
    let long = ap length k.joined ∙ length-append k.front (47 ∷ k.last) in
    let end : start + length k.last ≡ length text = omega arith in
    let before = kept_ends (with_ends 0 (segments k.front)) in
    let behind = λ (pieces : List (List ℕ)). kept_ends (with_ends start pieces) in
    let one = ap behind k.one.one ∙ kept_cons k.last (start + length k.last) [] in
    ap components_with_ends k.joined ∙ components_joined k.front k.last
    ∙ ap (λ t. (lead t ++ before) ++ behind (segments k.last)) (sym k.joined)
    ∙ ap (λ ends. before_last k ++ ends) (one ∙ ap (one_end k.last) end)

-- ---- what a text begins with

same_lead : (text other : List ℕ) → has_root text ≡ has_root other
    → first_segment (segments text) ≡ first_segment (segments other) → lead text ≡ lead other
same_lead text other roots firsts = rw (roots, firsts) refl

first_joined : (front rest : List ℕ) → first_segment (segments (front ++ 47 ∷ rest)) ≡ first_segment (segments front)
first_joined front rest = ap first_segment (segments_joined front rest) ∙ by (segments front) (first_of front)
  where
    by : (pieces : List (List ℕ)) → HasFirst pieces → first_segment (pieces ++ segments rest) ≡ first_segment pieces
    by pieces k = rw k.is refl

-- it isn't changed by what stands after a slash
pub lead_behind : (front text other : List ℕ) → lead (front ++ 47 ∷ text) ≡ lead (front ++ 47 ∷ other)
unfolding has_root
lead_behind front text other =
    same_lead (front ++ 47 ∷ text) (front ++ 47 ∷ other) (roots front)
    (first_joined front text ∙ sym (first_joined front other))
  where
    roots : (f : List ℕ) → has_root (f ++ 47 ∷ text) ≡ has_root (f ++ 47 ∷ other)
    roots [] = refl
    roots (b ∷ f) = refl

lead_before : (b : ℕ) (front rest : List ℕ) → lead ((b ∷ front) ++ 47 ∷ rest) ≡ lead (b ∷ front)
unfolding has_root
lead_before b front rest = same_lead ((b ∷ front) ++ 47 ∷ rest) (b ∷ front) refl (first_joined (b ∷ front) rest)

-- ---- a byte less at the end

without_slash : (b : ℕ) (front : List ℕ)
    → components_with_ends ((b ∷ front) ++ 47 ∷ []) ≡ components_with_ends (b ∷ front)
unfolding before_last kept_ends
without_slash b front =
    components_of_last (slash_last (b ∷ front)) ∙ append-nil _
    ∙ ap (λ pieces. pieces ++ kept_ends (with_ends 0 (segments (b ∷ front)))) (lead_before b front [])

without_dot : (front : List ℕ)
    → components_with_ends (front ++ 47 ∷ codes ".") ≡ components_with_ends (front ++ 47 ∷ [])
unfolding before_last kept_ends
without_dot front =
    let dot : HasLast (front ++ 47 ∷ codes ".") =
    record { front = front; last = codes "."; joined = refl; one = record { one = refl } }
    in
    components_of_last dot
    ∙ ap (λ pieces. (pieces ++ kept_ends (with_ends 0 (segments front))) ++ []) (lead_behind front (codes ".") [])
    ∙ sym (components_of_last (slash_last front))

-- a text has a byte at its end that adds nothing to its components
pub record HasSpare (text : List ℕ) : Type 0 where
  pub front : List ℕ
  pub byte : ℕ
  pub joined : text ≡ front ++ byte ∷ []
  pub ascii : byte < 128
  pub same : components_with_ends front ≡ components_with_ends text

-- so does one that requires a directory, unless it is one byte
pub spare : (text : List ℕ) → requires_dir text ≡ true → 1 < length text → HasSpare text
spare text requires long = elim (last_of text) [
  | inl k ↦ absurd (cc (one_requires k))
  | inr k ↦ elim (or_cases _ _ (sym (last_requires k) ∙ requires)) [
    | inl is ↦ slash k.front (k.joined ∙ ap (λ t. k.front ++ 47 ∷ t) (nothing_of k.last is))
    | inr is ↦ dot k.front (k.joined ∙ ap (λ t. k.front ++ 47 ∷ t) ((bytes_eq-Decides k.last (codes ".")).0 is))
  ]
]
  where
    slash : (front : List ℕ) → text ≡ front ++ 47 ∷ [] → HasSpare text
    slash [] joined = let one = ap length joined in absurd (omega arith)
    slash (b ∷ front) joined = record {
      front = b ∷ front;
      byte = 47;
      joined = joined;
      ascii = lit< tt;
      same = sym (without_slash b front) ∙ ap components_with_ends (sym joined);
    }

    dot : (front : List ℕ) → text ≡ front ++ 47 ∷ codes "." → HasSpare text
    dot front joined = record {
      front = front ++ 47 ∷ [];
      byte = 46;
      joined = joined ∙ sym (append_assoc front (47 ∷ []) (codes "."));
      ascii = lit< tt;
      same = sym (without_dot front) ∙ ap components_with_ends (sym joined);
    }

-- the text can be cut before that byte, and has the same components there
pub record IsShorter (text : List ℕ) : Type 0 where
  pub boundary : IsCharBoundary text (length text - 1)
  pub same : components_with_ends (take (length text - 1) text) ≡ components_with_ends text

pub shorter : (text : List ℕ) → requires_dir text ≡ true → 1 < length text → IsShorter text
shorter text requires long =
    let h = spare text requires long in
    let long = ap length h.joined ∙ length-append h.front (h.byte ∷ []) in
    let end : length h.front ≡ length text - 1 = omega arith in
    let byte = ap (λ t. get_or t (length text - 1) 0) h.joined ∙ get_or_at h.front h.byte [] 0 (length text - 1) end in
    let cut = ap (take (length text - 1)) h.joined ∙ take_at h.front (h.byte ∷ []) (length text - 1) end in
    record {
      boundary = IsCharBoundary-before_ascii text (length text - 1) (omega arith) (omega (arith, byte, h.ascii));
      same = ap components_with_ends cut ∙ h.same;
    }

-- what is cut from the front of a text that is cut from the front of another
pub shorter_prefix : (path text cut : List ℕ) (n : ℕ) → n ≤ length text → take (length text) path ≡ text
    → cut ≡ take n text → take (length cut) path ≡ cut
shorter_prefix path text cut n within prefix is =
    let long : length cut ≡ n = ap length is ∙ length-take-le n text within in
    ap (λ m. take m path) long ∙ sym (take-take n (length text) path within) ∙ ap (take n) prefix ∙ sym is

-- ---- the end of the last component

-- a text without a slash is one component, or none where it is empty
pub one_component : (text : List ℕ) → IsOne text → components_with_ends text
    ≡ cond (is_dot_text text) ((CurDir, 1) ∷ []) (cond (is_empty text) [] ((component_of text, length text) ∷ []))
unfolding has_root
one_component [] k = refl
one_component (b ∷ text) k = let t = tail_is_one b text k in rw (k.one, t.0, zero-add) (by (is_dot_text (b ∷ text)))
  where
    by : (dot : Bool)
        → cond dot ((CurDir, 1) ∷ []) [] ++ map as_component (cond (not dot) ((b ∷ text, length (b ∷ text)) ∷ []) [])
        ≡ cond dot ((CurDir, 1) ∷ []) ((component_of (b ∷ text), length (b ∷ text)) ∷ [])
    by true = refl
    by false = refl

one_ends_at_end : (text : List ℕ) → IsOne text → end_of_first (reverse (components_with_ends text)) ≡ length text
one_ends_at_end [] k = rw (one_component [] k) refl
one_ends_at_end (b ∷ text) k = rw (one_component (b ∷ text) k) (by (is_dot_text (b ∷ text)) refl)
  where
    by : (dot : Bool) → is_dot_text (b ∷ text) ≡ dot
        → end_of_first (reverse (cond dot ((CurDir, 1) ∷ []) ((component_of (b ∷ text), length (b ∷ text)) ∷ [])))
        ≡ length (b ∷ text)
    by true is = sym (ap length ((bytes_eq-Decides (b ∷ text) (codes ".")).0 is))
    by false is = refl

root_ends_at_end : (text : List ℕ) → HasLast text → length text ≤ 1
    → end_of_first (reverse (components_with_ends text)) ≡ length text
unfolding has_root
root_ends_at_end text k small = let root : text ≡ codes "/" = by k.front k.last k.joined in rw root refl
  where
    by : (front last : List ℕ) → text ≡ front ++ 47 ∷ last → text ≡ codes "/"
    by [] [] joined = joined
    by [] (c ∷ last) joined = let long = ap length joined in absurd (omega arith)
    by (b ∷ front) last joined =
        let long = ap length joined in absurd (omega (arith, length-append front (47 ∷ last)))

-- the last component ends where the text does, if the text has no byte too many
pub ends_at_end : (text : List ℕ) → (requires_dir text ≡ true → length text ≤ 1)
    → end_of_first (reverse (components_with_ends text)) ≡ length text
ends_at_end text short = elim (last_of text) [ inl k ↦ one_ends_at_end text k | inr k ↦ by k (is_kept k.last) refl ]
  where
    by : (k : HasLast text) (kept : Bool) → is_kept k.last ≡ kept
        → end_of_first (reverse (components_with_ends text)) ≡ length text
    by k true is = rw (components_of_last k, is, reverse-append) refl
    by k false is = root_ends_at_end text k (short (not-false _ (sym (last_kept k) ∙ is)))

-- ---- the split

-- a text that ends in a slash
record EndsInSlash (text : List ℕ) : Type 0 where
  before : List ℕ
  joined : text ≡ before ++ 47 ∷ []

ends_in_slash : (text : List ℕ) → trailing_slash text ≡ true → EndsInSlash text
ends_in_slash text slash = elim (last_of text) [
  | inl k ↦ absurd (cc (one_slash k))
  | inr k ↦
      let none = nothing_of k.last (sym (last_slash k) ∙ slash) in
      record { before = k.front; joined = k.joined ∙ ap (λ t. k.front ++ 47 ∷ t) none }
]

-- a text that isn't empty, requires no directory, and isn't `.`
pub record EndsInName (text : List ℕ) : Type 0 where
  pub some : is_empty text ≡ false
  pub free : requires_dir text ≡ false
  pub named : is_dot_text text ≡ false

pub in_name : {text : List ℕ} {empty requires dot : Bool} → empty ≡ nat_eq (length text) 0 → empty ≡ false
    → requires ≡ requires_dir text → requires ≡ false → dot ≡ is_dot_text text → dot ≡ false → EndsInName text
in_name {text} empty some requires free dot named =
    record { some = sym (empty_by_length text) ∙ sym empty ∙ some; free = sym requires ∙ free; named = sym dot ∙ named }

-- what stands after its last slash is then a component
pub record IsLastOf (text front last : List ℕ) : Type 0 where
  pub kept : is_kept last ≡ true
  pub ends : components_with_ends text ≡ components_with_ends front ++ (component_of last, length text) ∷ []

pub last_component : {text front last : List ℕ} → IsCut text front last → EndsInName text → IsLastOf text front last
unfolding has_root before_last kept_ends
last_component {text} {front} {last} k e = elim k.slash [
  | inl none ↦ alone (k.joined ∙ ap (λ f. f ++ last) none) none
  | inr slash ↦ behind (ends_in_slash front slash)
]
  where
    one : IsOne last
    one = record { one = k.one }

    alone : text ≡ last → front ≡ [] → IsLastOf text front last
    alone same none =
        let some : is_empty last ≡ false = rw same at e.some in
        let named : is_dot_text last ≡ false = rw same at e.named in
        record {
          kept = rw (some, named) refl;
          ends = ap components_with_ends same ∙ one_component last one ∙ rw (none, same, named, some) refl;
        }

    behind : EndsInSlash front → IsLastOf text front last
    behind slash =
        let joined = k.joined ∙ ap (λ f. f ++ last) slash.joined ∙ append_assoc slash.before (47 ∷ []) last in
        let h : HasLast text = record { front = slash.before; last = last; joined = joined; one = one } in
        let f : HasLast front = record { front = slash.before; last = []; joined = slash.joined; one = empty_is_one } in
        let kept : is_kept last ≡ true = last_kept h ∙ ap not e.free in
        let leads : lead text ≡ lead front =
        ap lead joined ∙ lead_behind slash.before last [] ∙ ap lead (sym slash.joined)
        in
        let before : before_last h ≡ components_with_ends front =
        ap (λ pieces. pieces ++ kept_ends (with_ends 0 (segments slash.before))) leads ∙ sym (append-nil _)
        ∙ sym (components_of_last f)
        in
        record {
          kept = kept;
          ends =
              components_of_last h ∙ ap (λ b. before_last h ++ cond b ((component_of last, length text) ∷ []) []) kept
              ∙ ap (λ pieces. pieces ++ (component_of last, length text) ∷ []) before;
        }

pub split_at_last : {text front last : List ℕ} → IsCut text front last → EndsInName text
    → split text ≡ Some (split_before text ((component_of last, length text) ∷ reverse (components_with_ends front)))
unfolding split
split_at_last {text} {front} {last} k e =
    let pieces = ap reverse (last_component k e).ends ∙ reverse-append (components_with_ends front) _ in
    rw (e.some, e.free) (ap (λ p. Some (split_before text p)) pieces)

pub split_of_up : {text front last : List ℕ} → IsCut text front last → EndsInName text
    → bytes_eq last (codes "..") ≡ true → Some (text, CurDir) ≡ split text
split_of_up k e up = sym (split_at_last k e ∙ rw up refl)

pub split_of_name : {text front last : List ℕ} (parent : List ℕ) → IsCut text front last → EndsInName text
    → bytes_eq last (codes "..") ≡ false → take (length parent) front ≡ parent
    → end_of_first (reverse (components_with_ends front)) ≡ length parent → Some (parent, Normal last) ≡ split text
split_of_name {text} {front} {last} parent k e name prefix end =
    let within : length parent ≤ length front = omega (arith, ap length prefix, length-take (length parent) front) in
    let cut : take (length parent) text ≡ parent = rw (k.joined, take-append-le) prefix in
    sym (split_at_last k e ∙ rw name (ap (λ t. Some (t, Normal last)) (ap (λ n. take n text) end ∙ cut)))

pub split_of_none : (text : List ℕ) → is_empty text ≡ true → None ≡ split text
unfolding split
split_of_none text none = rw none refl

pub split_of_whole : (text : List ℕ) → is_empty text ≡ false → requires_dir text ≡ true
    → Some (text, CurDir) ≡ split text
unfolding split
split_of_whole text some requires = rw (some, requires) refl

pub split_of_dot : (text : List ℕ) → is_dot_text text ≡ true → Some ([], CurDir) ≡ split text
unfolding split requires_dir has_root
split_of_dot text is = let dot = (bytes_eq-Decides text (codes ".")).0 is in rw dot refl
