-- The names of a directory in order, and the items and members that are left to be told.
use Rattle.std.proofs.Common.{ℕ, zero, suc, List, [], ◌∷◌, ◌++◌, ◌≡◌, ◌<◌, ◌+◌, ◌^◌, All, refl, sym, ap, ◌∙◌, subst, map, drop, length, get_or, append_assoc, arith}
use Rattle.std.proofs.lemmas.List.{drop_more, length-map, append-nil}
use Rattle.std.proofs.lemmas.List.Elements.{All-nil, All-cons, All-head, All-tail, All-push}
use Rattle.json.specs.Token.{Token}
use Rattle.json.specs.Tree.{items_tokens, members_tokens}
use Rattle.serde_json.specs.Data.{Data, array, item, Members, no_members}
use Rattle.serde_json.specs.View.{items_of}
use Rattle.serde_json.specs.Written.{items_outline, members_outline}
use Rattle.wasi_tree.specs.NodeData.{ContentData, file, directory, link}
use Rattle.wasi_guest.specs.declared.answer.Answer.{Answer}
use Rattle.wasi_report.specs.Report.{put_all, list_value, content_member, outcome_members}
use Rattle.wasi_report.specs.ReadBack.{FitsContent, FitsEntry, IsRising}
use Rattle.wasi_report.specs.Encoded.{tokens_of, member_tokens, content_tokens, outcome_tokens}
use Rattle.wasi_report.proofs.ReadBack.{Entries, in_order, put_rising}

-- ---- the names of a directory

-- names in byte order are told in their order
pub names_in_order : (es : Entries) → IsRising es → in_order es ≡ put_all es no_members
names_in_order es rising = sym (put_rising es rising)

-- these names are told, whose numbers are in range, and the others are left
pub record AreEncoded (all left : Entries) : Type 0 where
  pub done : Entries
  pub whole : all ≡ done ++ left
  pub fits : All FitsEntry done

pub encoded_none : (all : Entries) → AreEncoded all all
encoded_none all = record { done = []; whole = refl; fits = All-nil _ }

pub encoded_one : {all left rest : Entries} (name : List ℕ) (n : ℕ) → n < 2 ^ 64 → left ≡ (name, n) ∷ rest → AreEncoded all left
    → AreEncoded all rest
encoded_one {all} {left} {rest} name n fits next so = record {
  done = so.done ++ (name, n) ∷ [];
  whole = so.whole ∙ ap (λ es. so.done ++ es) next ∙ sym (append_assoc so.done ((name, n) ∷ []) rest);
  fits = All-push FitsEntry so.done (name, n) so.fits fits;
}

-- names that are told in byte order fit
pub names_fit : {all left : Entries} → IsRising all → left ≡ [] → AreEncoded all left → FitsContent (directory all)
names_fit {all} rising none so =
    let encoded_all : all ≡ so.done = so.whole ∙ ap (λ es. so.done ++ es) none ∙ append-nil so.done in
    (rising, subst (λ es. All FitsEntry es) (sym encoded_all) so.fits)

-- ---- what is left

-- the tokens of these items and of the array's end
abbrev pub item_tokens : {A : Type 0} → (A → Data) → List A → List Token
item_tokens value_of items = items_tokens (items_outline (items_of (map value_of items)))

-- the tokens of these members and of the object's end
abbrev pub number_tokens : Entries → List Token
number_tokens es = members_tokens (members_outline (in_order es))

pub item_next : {A : Type 0} (value_of : A → Data) (items : List A) (i : ℕ) (a : A) (now next all : List Token)
    → now ++ item_tokens value_of (drop i items) ≡ all → i < length items → a ≡ get_or items i a → next ≡ now ++ tokens_of (value_of a)
    → next ++ item_tokens value_of (drop (i + 1) items) ≡ all
item_next value_of items i a now next all so within here encoded_now =
    rw (encoded_now, append_assoc) (sym (ap (λ rest. now ++ item_tokens value_of rest) (drop_more items i a within ∙ ap (λ x. x ∷ drop (i + 1) items) (sym here))) ∙ so)

seen_at : {A B : Type 0} (see : A → B) (items : List A) (n : ℕ) (d : A) (b : B) → n < length items → b ≡ see (get_or items n d)
    → b ≡ get_or (map see items) n b
seen_at see [] n d b within is = absurd (omega arith)
seen_at see (first ∷ items) zero d b within is = is
seen_at see (first ∷ items) (suc n) d b within is = seen_at see items n d b (omega arith) is

-- what is seen of the next item is told
pub seen_next : {A B : Type 0} (value_of : B → Data) (see : A → B) (items : List A) (i : ℕ) (d : A) (b : B) (now next all : List Token)
    → now ++ item_tokens value_of (drop i (map see items)) ≡ all → i < length items → b ≡ see (get_or items i d)
    → next ≡ now ++ tokens_of (value_of b) → next ++ item_tokens value_of (drop (i + 1) (map see items)) ≡ all
seen_next value_of see items i d b now next all so within is encoded_now =
    item_next value_of (map see items) i b now next all so (omega (arith, length-map items see)) (seen_at see items i d b within is) encoded_now

-- ---- one part after another

pub content_is : (content : ContentData) (others : Members)
    → members_tokens (members_outline (content_member content others)) ≡ content_tokens content ++ members_tokens (members_outline others)
content_is (file bytes) others = refl
content_is (directory entries) others = refl
content_is (link text) others = refl

pub outcome_is : (answers : List Answer) (memory : List (List ℕ)) (stderr stdout : List ℕ) (others : Members)
    → members_tokens (members_outline (outcome_members answers memory stderr stdout others))
    ≡ outcome_tokens answers memory stderr stdout ++ members_tokens (members_outline others)
outcome_is answers memory stderr stdout others = simp append_assoc refl

mapped : {A B : Type 0} (value_of : B → Data) (see : A → B) (items : List A) → items_of (map (λ a. value_of (see a)) items) ≡ items_of (map value_of (map see items))
mapped value_of see [] = refl
mapped value_of see (a ∷ items) = ap (item (value_of (see a))) (mapped value_of see items)

-- a list told by what is seen of its items
pub encoded_seen : {A B : Type 0} (value_of : B → Data) (see : A → B) (items : List A) (name : List ℕ) (old new : List Token)
    → new ≡ old ++ member_tokens name (list_value (λ a. value_of (see a)) items) → new ≡ old ++ member_tokens name (list_value value_of (map see items))
encoded_seen value_of see items name old new added = added ∙ ap (λ ds. old ++ member_tokens name (array ds)) (mapped value_of see items)

-- what holds of all that is seen of some items
pub all_seen : {A B : Type 0} (P : B → Type 0) (see : A → B) (items : List A) → All P (map see items) → All (λ a. P (see a)) items
all_seen P see [] all = All-nil _
all_seen P see (a ∷ items) all =
    All-cons (λ a. P (see a)) a items (All-head P (see a) (map see items) all)
    (all_seen P see items (All-tail P (see a) (map see items) all))

-- four parts one after another
pub four : (s t u v all a b c d : List Token) → t ≡ s ++ a → u ≡ t ++ b → v ≡ u ++ c → all ≡ v ++ d
    → all ≡ s ++ (a ++ (b ++ (c ++ d)))
four s t u v all a b c d p q r i = rw (i, r, q, p) (simp append_assoc)

-- five parts one after another
pub five : (s t u v w all a b c d e : List Token) → t ≡ s ++ a → u ≡ t ++ b → v ≡ u ++ c → w ≡ v ++ d → all ≡ w ++ e
    → all ≡ s ++ (a ++ (b ++ (c ++ (d ++ e))))
five s t u v w all a b c d e p q r i j = rw (j, i, r, q, p) (simp append_assoc)
