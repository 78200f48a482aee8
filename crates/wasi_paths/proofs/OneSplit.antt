-- Each text has one split, but the empty one has none.
use Rattle.std.proofs.Common.{ℕ, ◌≡◌, ◌≤◌, ◌<◌, Bool, true, false, List, [], ◌∷◌, ◌++◌, map, refl, ap, sym, ◌∙◌, subst, cond, inl, inr, length, length-append, take, drop, zero, suc, arith}
use Rattle.std.specs.Prelude.{◌||◌, codes, reverse, Some, None, IfSome}
use Rattle.std.specs.Str.{bytes_eq}
use Rattle.std.proofs.lemmas.Bool.{cases_Bool, cases_lt}
use Rattle.std.proofs.lemmas.List.{map-append, reverse-append, take-append-drop, take_all, take-append-le, append_assoc}
use Rattle.std.proofs.lemmas.Slice.Eq.{bytes_eq-Decides}
use Rattle.wasi_paths.specs.Text.{is_dot_text}
use Rattle.wasi_paths.specs.Parts.{Component, CurDir, ParentDir, Normal, is_empty, component_of, components, components_with_ends, requires_dir, end_of_first, ends_with_parent, begins_with_parent, split_before, split, has_root}
use Rattle.wasi_paths.specs.Cut.{IsCut}
use Rattle.wasi_paths.specs.TextLaws.{HasPlainName, IsLastPart, IsBefore, IsSplit, HasOneSplit}
use Rattle.wasi_paths.proofs.Segments.{slash_last, last_of}
use Rattle.wasi_paths.proofs.ComponentLemmas.{alone}
use Rattle.wasi_paths.proofs.Tails.{last_slash}
use Rattle.wasi_paths.proofs.PlainNames.{plain_segment, one_lacks}
use Rattle.wasi_paths.proofs.OnlySplit.{only_split}
use Rattle.wasi_paths.proofs.Splitting.{HasSpare, spare, ends_at_end, EndsInName, last_component, split_at_last, split_of_none, split_of_whole}

-- ---- the text up to the end of its last component

end_of : List ℕ → ℕ
end_of text = end_of_first (reverse (components_with_ends text))

record IsTrimmed (text : List ℕ) : Type 0 where
  within : end_of text ≤ length text
  same : components_with_ends (take (end_of text) text) ≡ components_with_ends text
  bare : requires_dir (take (end_of text) text) ≡ true → length (take (end_of text) text) ≤ 1

whole_trimmed : (text : List ℕ) → (requires_dir text ≡ true → length text ≤ 1) → IsTrimmed text
unfolding end_of
whole_trimmed text short =
    let end = ends_at_end text short in
    let all = ap (λ n. take n text) end ∙ take_all (length text) text (omega arith) in
    record {
      within = omega (arith, end);
      same = ap components_with_ends all;
      bare = subst (λ t. requires_dir t ≡ true → length t ≤ 1) (sym all) short;
    }

shorter_trimmed : {text : List ℕ} (h : HasSpare text) → IsTrimmed h.front → IsTrimmed text
unfolding end_of
shorter_trimmed {text} h trimmed =
    let end : end_of h.front ≡ end_of text = ap (λ pieces. end_of_first (reverse pieces)) h.same in
    let long = ap length h.joined ∙ length-append h.front (h.byte ∷ []) in
    let cut : take (end_of text) text ≡ take (end_of h.front) h.front =
    rw (← end, h.joined) (take-append-le (end_of h.front) h.front (h.byte ∷ []) trimmed.within)
    in
    record {
      within = omega (arith, end, trimmed.within);
      same = ap components_with_ends cut ∙ trimmed.same ∙ h.same;
      bare = subst (λ t. requires_dir t ≡ true → length t ≤ 1) (sym cut) trimmed.bare;
    }

trimmed_within : (n : ℕ) (text : List ℕ) → length text < n → IsTrimmed text
trimmed_within zero text below = absurd (omega arith)
trimmed_within (suc n) text below = elim (cases_Bool (requires_dir text)) [
  | inl is ↦ elim (cases_lt 1 (length text)) [
    | inl long ↦
        let h = spare text is long in
        let shorter = ap length h.joined ∙ length-append h.front (h.byte ∷ []) in
        shorter_trimmed h (trimmed_within n h.front (omega arith))
    | inr short ↦ whole_trimmed text (λ _. short)
  ]
  | inr free ↦ whole_trimmed text (λ requires. absurd (cc))
]

trimmed : (text : List ℕ) → IsTrimmed text
trimmed text = trimmed_within (suc (length text)) text (omega arith)

-- ---- a split before the last component

HasSplit : List ℕ → Type 0
HasSplit text = IfSome (split text) (λ s. IsSplit text s.0 s.1)

module _ {text front last : List ℕ} (k : IsCut text front last) (e : EndsInName text) where
  components_end : components text ≡ components front ++ component_of last ∷ []
  unfolding components
  components_end = ap (map alone) (last_component k e).ends ∙ map-append alone (components_with_ends front) _

  tail_by_last : (requires_dir text || ends_with_parent text) ≡ bytes_eq last (codes "..")
  unfolding ends_with_parent
  tail_by_last = rw (e.free, components_end, reverse-append) (by (bytes_eq last (codes "..")))
    where
      by : (up : Bool) → begins_with_parent (cond up ParentDir (Normal last) ∷ reverse (components front)) ≡ up
      by true = refl
      by false = refl

  last_plain : bytes_eq last (codes "..") ≡ false → IsLastPart (Normal last)
  last_plain name =
      let plain = plain_segment last (one_lacks last (record { one = k.one })) (last_component k e).kept in
      subst (λ up. HasPlainName (cond up ParentDir (Normal last))) name plain

  before_last : bytes_eq last (codes "..") ≡ false → IsBefore text (take (end_of front) text) (Normal last)
  unfolding components
  before_last name =
      let t = trimmed front in
      let cut : take (end_of front) text ≡ take (end_of front) front =
      rw k.joined (take-append-le (end_of front) front last t.within)
      in
      let same : components (take (end_of front) text) ≡ components front =
      ap (map alone) (ap components_with_ends cut ∙ t.same)
      in
      record {
        rest = drop (end_of front) text;
        joined = sym (take-append-drop (end_of front) text);
        all =
            components_end ∙ ap (λ up. components front ++ cond up ParentDir (Normal last) ∷ []) name
            ∙ ap (λ pieces. pieces ++ Normal last ∷ []) (sym same);
        bare = subst (λ t. requires_dir t ≡ true → length t ≤ 1) (sym cut) t.bare;
      }

  split_named : HasSplit text
  unfolding HasSplit end_of
  split_named =
      subst (λ o. IfSome o (λ s. IsSplit text s.0 s.1)) (sym (split_at_last k e)) (by (bytes_eq last (codes "..")) refl)
    where
      by : (up : Bool) → bytes_eq last (codes "..") ≡ up
          → let pieces = (cond up ParentDir (Normal last), length text) ∷ reverse (components_with_ends front) in
          IfSome (Some (split_before text pieces)) (λ s. IsSplit text s.0 s.1)
      by true is = record { last_part = tt; whole = λ yes. (refl, refl); cut = λ no. absurd (cc (tail_by_last ∙ is)) }
      by false is = record {
        last_part = last_plain is;
        whole = λ yes. absurd (cc (tail_by_last ∙ is));
        cut = λ no. before_last is;
      }

-- ---- all texts

none_of_empty : (text : List ℕ) → split text ≡ None → text ≡ []
unfolding split
none_of_empty [] none = refl
none_of_empty (b ∷ text) none = by (requires_dir (b ∷ text)) _ none
  where
    by : (r : Bool) (s : List ℕ × Component) → cond r (Some (b ∷ text, CurDir)) (Some s) ≡ None → b ∷ text ≡ []
    by true s none = absurd (cc)
    by false s none = absurd (cc)

split_whole : (text : List ℕ) → is_empty text ≡ false → requires_dir text ≡ true → HasSplit text
unfolding HasSplit
split_whole text some requires =
    subst (λ o. IfSome o (λ s. IsSplit text s.0 s.1)) (split_of_whole text some requires) whole
  where
    whole : IsSplit text text CurDir
    whole = record {
      last_part = tt;
      whole = λ yes. (refl, refl);
      cut = λ free. let ends : (requires_dir text || ends_with_parent text) ≡ true = rw requires refl in absurd (cc);
    }

split_dot : HasSplit (codes ".")
unfolding HasSplit split requires_dir has_root components ends_with_parent
split_dot = record {
  last_part = tt;
  whole = λ yes. absurd (cc);
  cut = λ no. record { rest = codes "."; joined = refl; all = refl; bare = λ yes. absurd (cc) };
}

split_name : (text : List ℕ) → EndsInName text → HasSplit text
split_name text e = elim (last_of text) [
  | inl k ↦ split_named {front = []} {last = text} (record { joined = refl; one = k.one; slash = inl refl }) e
  | inr k ↦
      let joined = k.joined ∙ sym (append_assoc k.front (47 ∷ []) k.last) in
      split_named (record { joined = joined; one = k.one.one; slash = inr (last_slash (slash_last k.front)) }) e
]

has_split : (text : List ℕ) → HasSplit text
unfolding HasSplit
has_split text = elim (cases_Bool (is_empty text)) [
  | inl none ↦ subst (λ o. IfSome o (λ s. IsSplit text s.0 s.1)) (split_of_none text none) tt
  | inr some ↦ elim (cases_Bool (requires_dir text)) [
    | inl requires ↦ split_whole text some requires
    | inr free ↦ elim (cases_Bool (is_dot_text text)) [
      | inl dot ↦ subst HasSplit (sym ((bytes_eq-Decides text (codes ".")).0 dot)) split_dot
      | inr named ↦ split_name text (record { some = some; free = free; named = named })
    ]
  ]
]

pub texts_have_one_split : (text : List ℕ) → HasOneSplit text
unfolding HasSplit
texts_have_one_split text = record {
  none = (none_of_empty text, λ none. rw none (sym (split_of_none [] refl)));
  one = has_split text;
  only = only_split text (none_of_empty text) (has_split text);
}
