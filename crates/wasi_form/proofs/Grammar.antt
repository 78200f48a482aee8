-- The grammar of JSON, a token at a time, with each value as datum.
use Rattle.std.proofs.Common.{◌≡◌, ℕ, zero, suc, ◌-◌, ◌<◌, ◌≤◌, List, [], ◌∷◌, ◌++◌, length, map, Option, Some, None, refl, ap, ◌∙◌, sym, arith}
use Rattle.std.specs.Prelude.{Bool, option_map}
use Rattle.json.specs.Token.{Token}
use Rattle.json.specs.Json as json
use Rattle.json.specs.Json.{parse_map, after_end_array, read_key}
use Rattle.json.proofs.Grammar.{left, value_is, value-begin_array, value-begin_object, skip_value-shorter, read_key-shorter, items_end, items_fail, items_more, members_end, members_no_key, members_fail, members_more}
use Rattle.serde_json.specs.Data as datum
use Rattle.serde_json.specs.Data.{Num, Data, Items, Members, no_items, item, no_members, put}
use Rattle.serde_json.specs.Read.{number_of, of_json, of_items, of_members, converted}
use Rattle.serde_json.specs.View.{items_of}
use Rattle.wasi_form.specs.Tokens.{next_value, next_items, next_members}

-- ---- what was read, as data

abbrev pick : {A : Type 0} → A → Option A → A
pick d None = d
pick d (Some a) = a

unmapped_some : {A B : Type 0} (a : A) (r s : List Token) (o : Option B) (b : B)
    → option_map {U = B × List Token} (λ x. (x, r)) o ≡ Some (b, s) → (r ≡ s) × (o ≡ Some b)
unmapped_some a r s None b e = absurd (cc)
unmapped_some a r s (Some x) b e = let same = ap (pick (x, r)) e in (ap (λ p. p.1) same, ap (λ p. Some p.0) same)

unmapped_none : {B : Type 0} (r : List Token) (o : Option B) → option_map {U = B × List Token} (λ x. (x, r)) o ≡ None → o ≡ None
unmapped_none r None e = refl
unmapped_none r (Some x) e = absurd (cc)

read_some : {A B : Type 0} (f : A → Option B) (o : Option (A × List Token)) (b : B) (r : List Token) → converted f o ≡ Some (b, r)
    → (a : A) × (o ≡ Some (a, r)) × (f a ≡ Some b)
read_some f None b r e = absurd (cc)
read_some f (Some (a, s)) b r e = let both = unmapped_some a s r (f a) b e in (a, ap (λ rest. Some (a, rest)) both.0, both.1)

mapped : {A B : Type 0} (g : A → B) (r : List Token) (o : Option A)
    → option_map (λ b. (b, r)) (option_map g o) ≡ parse_map g (option_map (λ a. (a, r)) o)
mapped g r None = refl
mapped g r (Some a) = refl

-- what was made of a value that was read
pub made_of : {A B : Type 0} (f : A → B) (o : Option (A × List Token)) (b : B) (r : List Token) → parse_map f o ≡ Some (b, r)
    → (a : A) × (o ≡ Some (a, r)) × (f a ≡ b)
made_of f None b r e = absurd (cc)
made_of f (Some (a, s)) b r e = let same = ap (pick (f a, s)) e in (a, ap (λ p. Some (a, p.1)) same, ap (λ p. p.0) same)

pub none_made : {A B : Type 0} (f : A → B) (o : Option (A × List Token)) → parse_map f o ≡ None → o ≡ None
none_made f None e = refl
none_made f (Some p) e = absurd (cc)

-- ---- values

pub next_value-shorter : (depth : ℕ) (ts r : List Token) (d : Data) → next_value depth ts ≡ Some (d, r) → length r < length ts
next_value-shorter depth ts r d e = let j = read_some of_json (json.value depth ts) d r e in skip_value-shorter depth ts r (ap left j.1)

pub next_null : (depth : ℕ) (ts : List Token) → next_value depth (Token.null ∷ ts) ≡ Some (datum.null, ts)
next_null depth ts = ap (converted of_json) (value_is depth (Token.null ∷ ts))

pub next_boolean : (depth : ℕ) (b : Bool) (ts : List Token) → next_value depth (Token.boolean b ∷ ts) ≡ Some (datum.boolean b, ts)
next_boolean depth b ts = ap (converted of_json) (value_is depth (Token.boolean b ∷ ts))

pub next_string : (depth : ℕ) (s : List ℕ) (ts : List Token) → next_value depth (Token.string s ∷ ts) ≡ Some (datum.string s, ts)
next_string depth s ts = ap (converted of_json) (value_is depth (Token.string s ∷ ts))

pub next_number : (depth : ℕ) (s : List ℕ) (n : Option Num) (ts : List Token) → number_of s ≡ n
    → next_value depth (Token.number s ∷ ts) ≡ option_map (λ x. (datum.number x, ts)) n
next_number depth s None ts e = ap (converted of_json) (value_is depth (Token.number s ∷ ts)) ∙ rw e refl
next_number depth s (Some n) ts e = ap (converted of_json) (value_is depth (Token.number s ∷ ts)) ∙ rw e refl

pub next_array : (depth : ℕ) (ts : List Token) → 0 < depth → next_value depth (Token.begin_array ∷ ts) ≡ parse_map datum.array (next_items (depth - 1) ts)
next_array depth ts some =
    ap (converted of_json) (value-begin_array depth ts some) ∙ array_read (json.items (json.value (depth - 1)) (length ts) ts)
  where
    array_read : (o : Option (json.Items × List Token)) → converted of_json (parse_map json.array o) ≡ parse_map datum.array (converted of_items o)
    array_read None = refl
    array_read (Some p) = mapped datum.array p.1 (of_items p.0)

pub next_object : (depth : ℕ) (ts : List Token) → 0 < depth → next_value depth (Token.begin_object ∷ ts) ≡ parse_map datum.object (next_members (depth - 1) no_members ts)
next_object depth ts some =
    ap (converted of_json) (value-begin_object depth ts some) ∙ object_read (json.members (json.value (depth - 1)) (length ts) ts)
  where
    object_read : (o : Option (json.Members × List Token)) → converted of_json (parse_map json.object o) ≡ parse_map datum.object (converted (λ ms. of_members ms no_members) o)
    object_read None = refl
    object_read (Some p) = mapped datum.object p.1 (of_members p.0 no_members)

pub next_deep_array : (depth : ℕ) (ts : List Token) → depth ≡ 0 → next_value depth (Token.begin_array ∷ ts) ≡ None
next_deep_array zero ts none = ap (converted of_json) (value_is zero (Token.begin_array ∷ ts))
next_deep_array (suc depth) ts none = absurd (omega (arith, none))

pub next_deep_object : (depth : ℕ) (ts : List Token) → depth ≡ 0 → next_value depth (Token.begin_object ∷ ts) ≡ None
next_deep_object zero ts none = ap (converted of_json) (value_is zero (Token.begin_object ∷ ts))
next_deep_object (suc depth) ts none = absurd (omega (arith, none))

pub no_value : (depth : ℕ) → next_value depth [] ≡ None
no_value depth = ap (converted of_json) (value_is depth [])

-- ---- a list, item by item

-- the items that are left, read in at most so many turns
abbrev items_left : ℕ → ℕ → List Token → Option (Items × List Token)
items_left depth turns ts = converted of_items (json.items (json.value depth) turns ts)

item_read : (j : json.Json) (d : Data) (o : Option (json.Items × List Token)) → of_json j ≡ Some d
    → converted of_items (parse_map (json.item j) o) ≡ parse_map (item d) (converted of_items o)
item_read j d None e = refl
item_read j d (Some p) e = rw e (mapped (item d) p.1 (of_items p.0))

item_unread : (j : json.Json) (o : Option (json.Items × List Token)) → of_json j ≡ None
    → converted of_items (parse_map (json.item j) o) ≡ None
item_unread j None e = refl
item_unread j (Some p) e = rw e refl

items_next : (depth turns : ℕ) (ts r : List Token) (d : Data) → length ts ≤ turns → after_end_array ts ≡ None
    → next_value depth ts ≡ Some (d, r)
    → items_left depth turns ts ≡ parse_map (item d) (items_left depth (turns - 1) r)
items_next depth turns ts r d enough goes_on is =
    let j = read_some of_json (json.value depth ts) d r is in
    let some : 0 < turns = omega (arith, enough, next_value-shorter depth ts r d is) in
    ap (converted of_items) (items_more (json.value depth) turns ts r j.0 some goes_on j.1) ∙ item_read j.0 d _ j.2

items_unread : (depth turns : ℕ) (ts : List Token) (o : Option (json.Json × List Token)) → length ts ≤ turns → after_end_array ts ≡ None
    → json.value depth ts ≡ o → converted of_json o ≡ None
    → items_left depth turns ts ≡ None
items_unread depth turns ts None enough goes_on is none = ap (converted of_items) (items_fail (json.value depth) turns ts goes_on is)
items_unread depth turns ts (Some (j, r)) enough goes_on is none =
    let some : 0 < turns = omega (arith, enough, skip_value-shorter depth ts r (ap left is)) in
    ap (converted of_items) (items_more (json.value depth) turns ts r j some goes_on is) ∙ item_unread j _ (unmapped_none r (of_json j) none)

-- what is made of all items is what is made after some of them of those that are left
pub record ItemsLeft {B : Type 0} (depth : ℕ) (of_all of_left : Items → B) (all ts : List Token) : Type 0 where
  pub turns : ℕ
  pub enough : length ts ≤ turns
  pub so : parse_map of_all (next_items depth all) ≡ parse_map of_left (items_left depth turns ts)

pub twice : {A B C : Type 0} (f : A → B) (g : B → C) (h : A → C) (o : Option (A × List Token)) → ((a : A) → g (f a) ≡ h a)
    → parse_map g (parse_map f o) ≡ parse_map h o
twice f g h None same = refl
twice f g h (Some p) same = ap (λ b. Some (b, p.1)) (same p.0)

pub all_left : {B : Type 0} {depth : ℕ} {of_all of_left : Items → B} {all : List Token} → ((ds : Items) → of_all ds ≡ of_left ds)
    → ItemsLeft depth of_all of_left all all
all_left {depth = depth} {of_all = of_all} {of_left = of_left} {all = all} same = record {
  turns = length all;
  enough = omega arith;
  so = sym (twice (λ ds. ds) of_all of_all (next_items depth all) (λ ds. refl)) ∙ twice (λ ds. ds) of_all of_left (next_items depth all) same;
}

pub one_less : {B : Type 0} {depth : ℕ} {of_all of_left of_rest : Items → B} {all ts r : List Token} {d : Data}
    → ItemsLeft depth of_all of_left all ts
    → after_end_array ts ≡ None → next_value depth ts ≡ Some (d, r) → ((ds : Items) → of_left (item d ds) ≡ of_rest ds) → ItemsLeft depth of_all of_rest all r
one_less {depth = depth} {of_left = of_left} {of_rest = of_rest} {ts = ts} {r = r} {d = d} left goes_on is same = record {
  turns = left.turns - 1;
  enough = omega (arith, left.enough, next_value-shorter depth ts r d is);
  so = left.so ∙ ap (parse_map of_left) (items_next depth left.turns ts r d left.enough goes_on is) ∙ twice (item d) of_left of_rest _ same;
}

pub none_left : {B : Type 0} {depth : ℕ} {of_all of_left : Items → B} {all ts r : List Token} → ItemsLeft depth of_all of_left all ts
    → after_end_array ts ≡ Some r → parse_map of_all (next_items depth all) ≡ Some (of_left no_items, r)
none_left {depth = depth} {of_left = of_left} {ts = ts} {r = r} left ends =
    left.so ∙ ap (λ o. parse_map of_left (converted of_items o)) (items_end (json.value depth) left.turns ts r left.enough ends)

pub left_unread : {B : Type 0} {depth : ℕ} {of_all of_left : Items → B} {all ts : List Token} → ItemsLeft depth of_all of_left all ts
    → after_end_array ts ≡ None → next_value depth ts ≡ None → parse_map of_all (next_items depth all) ≡ None
left_unread {depth = depth} {of_left = of_left} {ts = ts} left goes_on none =
    left.so ∙ ap (parse_map of_left) (items_unread depth left.turns ts _ left.enough goes_on refl none)

-- ---- an object, member by member

-- the members that are left, read in at most so many turns and put into those before
abbrev members_left : ℕ → ℕ → Members → List Token → Option (Members × List Token)
members_left depth turns before ts = converted (λ ms. of_members ms before) (json.members (json.value depth) turns ts)

member_read : (k : List ℕ) (j : json.Json) (d : Data) (before : Members) (o : Option (json.Members × List Token)) → of_json j ≡ Some d
    → converted (λ ms. of_members ms before) (parse_map (json.member k j) o) ≡ converted (λ ms. of_members ms (put k d before)) o
member_read k j d before None e = refl
member_read k j d before (Some p) e = rw e refl

member_unread : (k : List ℕ) (j : json.Json) (before : Members) (o : Option (json.Members × List Token)) → of_json j ≡ None
    → converted (λ ms. of_members ms before) (parse_map (json.member k j) o) ≡ None
member_unread k j before None e = refl
member_unread k j before (Some p) e = rw e refl

-- reading all members is reading those that are left into those that were found
pub record MembersLeft (depth : ℕ) (all : List Token) (found : Members) (ts : List Token) : Type 0 where
  pub turns : ℕ
  pub enough : length ts ≤ turns
  pub so : next_members depth no_members all ≡ members_left depth turns found ts

pub all_members : (depth : ℕ) (all : List Token) → MembersLeft depth all no_members all
all_members depth all = record { turns = length all; enough = omega arith; so = refl }

pub member_less : {depth : ℕ} {all ts s r : List Token} {found : Members} {k : List ℕ} {d : Data} → MembersLeft depth all found ts
    → read_key ts ≡ Some (Some k, s) → next_value depth s ≡ Some (d, r) → MembersLeft depth all (put k d found) r
member_less {depth = depth} {ts = ts} {s = s} {r = r} {found = found} {k = k} {d = d} left key is =
    let j = read_some of_json (json.value depth s) d r is in
    let shorter = read_key-shorter ts (Some k) s key in
    let lesser = next_value-shorter depth s r d is in
    let some : 0 < left.turns = omega (arith, left.enough) in record {
      turns = left.turns - 1;
      enough = omega (arith, left.enough);
      so = left.so ∙ ap (converted (λ ms. of_members ms found)) (members_more (json.value depth) left.turns k ts s r j.0 some key j.1)
          ∙ member_read k j.0 d found _ j.2;
    }

pub no_members_left : {depth : ℕ} {all ts r : List Token} {found : Members} → MembersLeft depth all found ts
    → read_key ts ≡ Some (None, r) → next_members depth no_members all ≡ Some (found, r)
no_members_left {depth = depth} {ts = ts} {r = r} {found = found} left key =
    left.so ∙ ap (converted (λ ms. of_members ms found)) (members_end (json.value depth) left.turns ts r left.enough key)

pub no_key_left : {depth : ℕ} {all ts : List Token} {found : Members} → MembersLeft depth all found ts
    → read_key ts ≡ None → next_members depth no_members all ≡ None
no_key_left {depth = depth} {ts = ts} {found = found} left key =
    left.so ∙ ap (converted (λ ms. of_members ms found)) (members_no_key (json.value depth) left.turns ts key)

members_unread : (depth turns : ℕ) (ts s : List Token) (k : List ℕ) (found : Members) (o : Option (json.Json × List Token))
    → length ts ≤ turns → read_key ts ≡ Some (Some k, s)
    → json.value depth s ≡ o → converted of_json o ≡ None → members_left depth turns found ts ≡ None
members_unread depth turns ts s k found None enough key is none =
    ap (converted (λ ms. of_members ms found)) (members_fail (json.value depth) turns k ts s key is)
members_unread depth turns ts s k found (Some (j, r)) enough key is none =
    let some : 0 < turns = omega (arith, enough, read_key-shorter ts (Some k) s key) in
    ap (converted (λ ms. of_members ms found)) (members_more (json.value depth) turns k ts s r j some key is) ∙ member_unread k j found _ (unmapped_none r (of_json j) none)

pub member_unread_left : {depth : ℕ} {all ts s : List Token} {found : Members} {k : List ℕ} → MembersLeft depth all found ts
    → read_key ts ≡ Some (Some k, s) → next_value depth s ≡ None → next_members depth no_members all ≡ None
member_unread_left {depth = depth} {ts = ts} {s = s} {found = found} {k = k} left key none =
    left.so ∙ members_unread depth left.turns ts s k found _ left.enough key refl none

-- the members that are left, and what those before came to
pub record FoundLeft {S : Type 0} (of : Members → S) (depth : ℕ) (all : List Token) (found : S) (ts : List Token) : Type 0 where
  pub before : Members
  pub is : found ≡ of before
  pub left : MembersLeft depth all before ts

-- ---- the items of a list, as they are found

abbrev pub items_before : {T : Type 0} → (T → Data) → List T → Items → Items
items_before see [] rest = rest
items_before see (x ∷ xs) rest = item (see x) (items_before see xs rest)

pub items_before-push : {T : Type 0} (see : T → Data) (xs : List T) (x : T) (rest : Items)
    → items_before see xs (item (see x) rest) ≡ items_before see (xs ++ x ∷ []) rest
items_before-push see [] x rest = refl
items_before-push see (y ∷ xs) x rest = ap (item (see y)) (items_before-push see xs x rest)

pub items_before-no_items : {T : Type 0} (see : T → Data) (xs : List T)
    → items_before see xs no_items ≡ items_of (map see xs)
items_before-no_items see [] = refl
items_before-no_items see (x ∷ xs) = ap (item (see x)) (items_before-no_items see xs)

-- what else is made of it
pub remade : {A B C : Type 0} (f : A → B) (g : A → C) (h : B → C) (o : Option (A × List Token)) (b : B) (r : List Token)
    → ((a : A) → h (f a) ≡ g a)
    → parse_map f o ≡ Some (b, r) → parse_map g o ≡ Some (h b, r)
remade f g h o b r same e = sym (twice f h g o same) ∙ ap (parse_map h) e
