-- The members of an object after one was put in.
use Rattle.std.proofs.Common.{◌≡◌, ℕ, List, [], ◌∷◌, Bool, true, false, ◌&&◌, Ordering, Less, Equal, Greater, Some, refl, sym, ap, subst, inl, inr, ◌∙◌}
use Rattle.std.specs.Prelude.{if◌then◌else◌, unwrap_or}
use Rattle.std.specs.Ordering.{nat_cmp, match_ordering, is_eq}
use Rattle.std.specs.Cmp.Lexicographic.{slice_cmp}
use Rattle.std.specs.Str.{bytes_eq}
use Rattle.std.proofs.lemmas.Bool.{cases_Bool}
use Rattle.std.proofs.lemmas.Map.Text.{is_eq-slice_cmp}
use Rattle.std.proofs.lemmas.Slice.Eq.{bytes_eq-Decides}
use Rattle.serde_json.specs.Data.{Data, Members, member, no_members, put}
use Rattle.serde_json.specs.Find.{get_member}
use Rattle.serde_json.proofs.Views.{get_member-put, get_member-put_other}
use Rattle.wasi_form.specs.Lists.{names, at_name}
use Rattle.wasi_form.specs.Shapes.{has_key, all_keys}

pub same_texts : (a b : List ℕ) → bytes_eq a b ≡ true → a ≡ b
same_texts a b is = (bytes_eq-Decides a b).0 is

other_texts : (a b : List ℕ) → bytes_eq a b ≡ false → a ≡ b → ⊥
other_texts a b other same = let is : bytes_eq a b ≡ true = (bytes_eq-Decides a b).1 same in absurd (cc)

-- ---- the keys of an object

equal_keys : (k l : List ℕ) → slice_cmp nat_cmp k l ≡ Equal → k ≡ l
equal_keys k l same = same_texts k l (sym (is_eq-slice_cmp k l) ∙ ap is_eq same)

both_ways : (a b c : Bool) → a && (b && c) ≡ b && (a && c)
both_ways true true c = refl
both_ways true false c = refl
both_ways false true c = refl
both_ways false false c = refl

twice_once : (a b : Bool) → a && b ≡ a && (a && b)
twice_once true b = refl
twice_once false b = refl

keys_ordered : (keys : List (List ℕ)) (o : Ordering) (k l : List ℕ) (d e : Data) (ms more : Members)
    → (o ≡ Equal → k ≡ l) → all_keys keys more ≡ has_key keys k && all_keys keys ms
    → all_keys keys (match_ordering o (member k d (member l e ms)) (member l d ms) (member l e more))
    ≡ has_key keys k && (has_key keys l && all_keys keys ms)
keys_ordered keys Less k l d e ms more equal here = refl
keys_ordered keys Equal k l d e ms more equal here = rw (equal refl) (twice_once (has_key keys l) (all_keys keys ms))
keys_ordered keys Greater k l d e ms more equal here =
    rw here (both_ways (has_key keys l) (has_key keys k) (all_keys keys ms))

-- a member that is put in adds its key
pub all_keys-put : (keys : List (List ℕ)) (k : List ℕ) (d : Data) (ms : Members)
    → all_keys keys (put k d ms) ≡ has_key keys k && all_keys keys ms
all_keys-put keys k d no_members = refl
all_keys-put keys k d (member l e ms) =
    keys_ordered keys (slice_cmp nat_cmp k l) k l d e ms (put k d ms) (equal_keys k l) (all_keys-put keys k d ms)

-- ---- what stands at a key

at_itself : (name k : List ℕ) (d : Data) (ms : Members) → bytes_eq k name ≡ true → get_member name (put k d ms) ≡ Some d
at_itself name k d ms is =
    subst (λ (key : List ℕ). get_member name (put key d ms) ≡ Some d) (sym (same_texts k name is))
    (get_member-put name d ms)

at_other : (name k : List ℕ) (d : Data) (ms : Members) → bytes_eq k name ≡ false
    → get_member name (put k d ms) ≡ get_member name ms
at_other name k d ms other = get_member-put_other name k d ms (λ same. other_texts k name other (sym same))

pub get_put : (name k : List ℕ) (d : Data) (ms : Members)
    → get_member name (put k d ms) ≡ (if bytes_eq k name then Some d else get_member name ms)
get_put name k d ms =
    elim (cases_Bool (bytes_eq k name)) [
      | inl is ↦ rw is (at_itself name k d ms is)
      | inr other ↦ rw other (at_other name k d ms other)
    ]

-- what is rewritten after a member was put in
pub ruleset puts = (get_put, all_keys-put)

-- what holds at a name holds at a key that equals it
pub at_key : (P : List ℕ → Type 0) (key name : List ℕ) → bytes_eq key name ≡ true → P name → P key
at_key P key name is here = subst P (sym (same_texts key name is)) here

-- a key that isn't among others is none of them
differs : (keys : List (List ℕ)) (k name : List ℕ) → has_key keys k ≡ false → has_key keys name ≡ true → bytes_eq k name ≡ false
differs keys k name none has =
    elim (cases_Bool (bytes_eq k name)) [
      | inl is ↦ let here : has_key keys name ≡ false = rw (← same_texts k name is) none in absurd (cc)
      | inr other ↦ other
    ]

-- a member at another key leaves what stands at these
pub stays : (keys : List (List ℕ)) (k : List ℕ) (d : Data) (ms : Members) → has_key keys k ≡ false
    → (name : List ℕ) → has_key keys name ≡ true → get_member name (put k d ms) ≡ get_member name ms
stays keys k d ms none name has = at_other name k d ms (differs keys k name none has)

-- ---- a table of keys, each with what a member adds there

-- what is made of a key is what the row of the key adds
abbrev pub AreAdded : {S : Type 0} → (List ℕ → S) → Data → S → List (List ℕ × (Data → S → S)) → Type 0
AreAdded make d found [] = Unit {0}
AreAdded make d found (row ∷ rows) = (make row.0 ≡ row.1 d found) × AreAdded make d found rows

pub by_members : {S : Type 0} (make : List ℕ → S) (rows : List (List ℕ × (Data → S → S))) (other : Data → S → S) (d : Data)
    (found : S) (key : List ℕ) → AreAdded make d found rows
    → (has_key (names rows) key ≡ false → make key ≡ other d found)
    → make key ≡ unwrap_or (at_name rows key) other d found
by_members make [] other d found key added none = none refl
by_members make (row ∷ rows) other d found key added none =
    elim (cases_Bool (bytes_eq key row.0)) [
      | inl is ↦ rw is (at_key (λ k. make k ≡ row.1 d found) key row.0 is added.0)
      | inr differ ↦ rw differ (by_members make rows other d found key added.1 (λ absent. none (rw differ absent)))
    ]
