-- Parts that are put before those that are left.
use Rattle.std.proofs.Common.{◌≡◌, ℕ, List, [], ◌∷◌, ◌++◌, map, length, cond, Some, sym, ap, ◌∙◌, append_assoc}
use Rattle.std.specs.Prelude.{All, reverse}
use Rattle.std.proofs.lemmas.List.Elements.{All-pop}
use Rattle.std.proofs.lemmas.List.{append-nil, reverse-append, length-reverse, length-map}
use Rattle.wasi_paths.specs.Parts.{Component, CurDir, components, trailing_dot, parts}
use Rattle.wasi_paths.specs.TextLaws.{HasPlainName}
use Rattle.wasi_resolve.specs.Left.{component_left, parts_left}
use Rattle.wasi_resolve.specs.declared.parts_left.PartLeft.{PartLeft}

pub pushed_parts : (items : List PartLeft) (part : PartLeft)
    → parts_left (items ++ part ∷ []) ≡ component_left part ∷ parts_left items
pushed_parts items part = ap (map component_left) (reverse-append items (part ∷ []))

pub popped_parts : {old : List PartLeft} (new : List PartLeft) (part : PartLeft) → old ≡ new ++ part ∷ []
    → parts_left old ≡ component_left part ∷ parts_left new
popped_parts new part is = ap parts_left is ∙ pushed_parts new part

pub length-parts : (items : List PartLeft) → length (parts_left items) ≡ length items
length-parts items = length-map (reverse items) component_left ∙ length-reverse items

-- so far: the rest of a text's parts is still to be put before those that are left, which makes them all
pub record IsPut (all rest : List Component) (items : List PartLeft) : Type 0 where
  pub so_far : rest ++ parts_left items ≡ all
  pub plain : All HasPlainName rest

-- the last one of the rest is put
pub put_one : {all rest : List Component} (items : List PartLeft) (rest' : List Component) (part : PartLeft)
    (piece : Component)
    → IsPut all rest items → rest ≡ rest' ++ piece ∷ [] → component_left part ≡ piece
    → IsPut all rest' (items ++ part ∷ [])
put_one {all} {rest} items rest' part piece put is at = record {
  so_far = ap (λ l. rest' ++ l) (pushed_parts items part ∙ ap (λ p. p ∷ parts_left items) at)
      ∙ sym (append_assoc rest' (piece ∷ []) (parts_left items)) ∙ ap (λ l. l ++ parts_left items) (sym is) ∙ put.so_far;
  plain = (All-pop HasPlainName rest rest' (Some piece) is put.plain).0;
}

-- all are put
pub put_all : (text : List ℕ) {rest all : List Component} (items : List PartLeft) (before : List Component) → rest ≡ []
    → rest ++ parts_left items ≡ components text ++ all → all ≡ cond (trailing_dot text) (CurDir ∷ []) [] ++ before
    → parts_left items ≡ parts text ++ before
unfolding parts
put_all text {rest} {all} items before none so_far dot =
    ap (λ l. l ++ parts_left items) (sym none) ∙ so_far ∙ ap (λ l. components text ++ l) dot
    ∙ sym (append_assoc (components text) (cond (trailing_dot text) (CurDir ∷ []) []) before)

-- where none was left, they are the parts of the text
pub put_first : (items now : List PartLeft) (text : List ℕ) → items ≡ []
    → parts_left now ≡ parts text ++ parts_left items
    → parts_left now ≡ parts text
put_first items now text none put = put ∙ ap (λ l. parts text ++ parts_left l) none ∙ append-nil (parts text)
