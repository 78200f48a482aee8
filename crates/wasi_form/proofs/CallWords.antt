-- A call that is made of values is the one that the table makes of their words.
use Rattle.std.proofs.Common.{◌≡◌, ◌≢◌, ℕ, zero, suc, ◌+◌, ◌<◌, List, [], ◌∷◌, ◌++◌, map, length, get_or, Bool, true, false, Option, Some, None, refl, sym, ap, ◌∙◌, subst, arith, append_assoc}
use Rattle.std.specs.Prelude.{slice_get, slice_index, slice_set, option_map, option_and_then, if◌then◌else◌}
use Rattle.std.specs.List.{position, position_from}
use Rattle.std.specs.Str.{bytes_eq}
use Rattle.std.proofs.lemmas.Iterator.Adapters.{position_from-zero}
use Rattle.std.proofs.lemmas.List.{get_or-set_other}
use Rattle.std.proofs.lemmas.Grind.{get_or-set_at}
use Rattle.std.proofs.lemmas.Option.{slice_get-map}
use Rattle.serde_json.specs.Data.{Data, Items}
use Rattle.wasi_call_table.specs.CallTable.{Number, Maker, CallRow, Takes, kinds_of, call_rows, number_of_word, made_of, made_by, call_number, call_kinds, call_of_words}
use Rattle.wasi_guest.specs.declared.call.Call.{Call}
use Rattle.wasi_call_table.specs.declared.call_table.Kind.{Kind}
use Rattle.wasi_call_table.specs.declared.call_table.Kind.TheVariants.{U32}
use Rattle.wasi_form.specs.Lists.{◌>>=◌, at_name}
use Rattle.wasi_form.specs.CallForm.{number_of, first_value, first_number, call_made, call_by, call_with}

-- ---- the row of a name is that of its number

-- what stands after a list
behind : {A : Type 0} (before : List A) (x : A) (rest : List A) → slice_get (before ++ x ∷ rest) (length before) ≡ Some x
behind [] x rest = refl
behind (y ∷ before) x rest = behind before x rest

one_more : {A : Type 0} (before : List A) (x : A) → length (before ++ x ∷ []) ≡ length before + 1
one_more [] x = refl
one_more (y ∷ before) x = let rest = one_more before x in omega (arith, rest)

found_from : {A : Type 0} (name : List ℕ) (before rows : List (List ℕ × A))
    → at_name rows name
    ≡ option_and_then {T = ℕ} (λ n. option_map (λ row. row.1) (slice_get (before ++ rows) n))
    (position_from (λ row. bytes_eq name row.0) (length before) rows)
found_from name before [] = refl
found_from name before (row ∷ rows) = by (bytes_eq name row.0) (found_from name (before ++ row ∷ []) rows)
  where
    by : (b : Bool)
        → at_name rows name
        ≡ option_and_then {T = ℕ} (λ n. option_map (λ row. row.1) (slice_get ((before ++ row ∷ []) ++ rows) n))
        (position_from (λ row. bytes_eq name row.0) (length (before ++ row ∷ [])) rows)
        → (if b then Some row.1 else at_name rows name)
        ≡ option_and_then {T = ℕ} (λ n. option_map (λ row. row.1) (slice_get (before ++ row ∷ rows) n))
        (if b then Some (length before) else position_from (λ row. bytes_eq name row.0) (length before + 1) rows)
    by true later = ap (option_map (λ row. row.1)) (sym (behind before row rows))
    by false later = rw (one_more before row, append_assoc before (row ∷ []) rows) at later

-- the place of a name
abbrev place_of : {A : Type 0} → List ℕ → List (List ℕ × A) → Option ℕ
place_of name rows = position (λ row. bytes_eq name row.0) rows

-- what stands at a name is what stands at its place
found_at : {A : Type 0} (name : List ℕ) (rows : List (List ℕ × A))
    → at_name rows name ≡ option_and_then {T = ℕ} (λ n. option_map (λ row. row.1) (slice_get rows n)) (place_of name rows)
found_at name rows =
    found_from name [] rows
    ∙ ap (option_and_then {T = ℕ} (λ n. option_map (λ row. row.1) (slice_get rows n)))
    (sym (position_from-zero (λ row. bytes_eq name row.0) rows))

-- ---- the call of a row

made_by_row : (row : CallRow) (kinds : List Kind) (found : Option (List ℕ)) (ds : Items) → kinds ≡ kinds_of row
    → ((make : Maker kinds) → option_map (λ words. made_of kinds make 0 words) found ≡ call_made kinds make ds)
    → option_map (λ words. made_by row words) found ≡ call_by row ds
made_by_row (Takes ks make shape) kinds found ds is same =
    let P : List Kind → Type 0 =
    λ k. ((m : Maker k) → option_map (λ words. made_of k m 0 words) found ≡ call_made k m ds) in
    subst P is same make

some_last : (f : List ℕ → Call) (found : Option (List ℕ)) → option_and_then {T = List ℕ} (λ words. Some (f words)) found ≡ option_map f found
some_last f None = refl
some_last f (Some words) = refl

made_at : {N : Type 0} (row : Option (N × CallRow)) (kinds : List Kind) (found : Option (List ℕ)) (ds : Items)
    → Some kinds ≡ option_map (λ r. kinds_of r.1) row
    → ((make : Maker kinds) → option_map (λ words. made_of kinds make 0 words) found ≡ call_made kinds make ds)
    → option_and_then {T = List ℕ} (λ words. option_map (λ r. made_by r.1 words) row) found
    ≡ (option_map (λ r. r.1) row >>= (λ r. call_by r ds))
made_at None kinds found ds is same = absurd (cc)
made_at (Some row) kinds found ds is same =
    let kinds_are : kinds ≡ kinds_of row.1 = (cc) in
    some_last (λ words. made_by row.1 words) found ∙ made_by_row row.1 kinds found ds kinds_are same

-- a name that has no place is no row's
none_placed : (rows : List (List ℕ × CallRow)) (name : List ℕ) (ds : Items) → None ≡ place_of name rows
    → None ≡ (at_name rows name >>= (λ row. call_by row ds))
none_placed rows name ds is = rw (found_at name rows, ← is) refl

unmade : (row : Option (List ℕ × CallRow)) (ds : Items) → None ≡ option_map (λ r. kinds_of r.1) row
    → None ≡ (option_map (λ r. r.1) row >>= (λ r. call_by r ds))
unmade None ds at = refl
unmade (Some row) ds at = absurd (cc)

-- nor is one where no row stands at its place
none_there : (rows : List (List ℕ × CallRow)) (name : List ℕ) (ds : Items) (number : ℕ) → Some number ≡ place_of name rows
    → None ≡ slice_get (map (λ row. kinds_of row.1) rows) number → None ≡ (at_name rows name >>= (λ row. call_by row ds))
none_there rows name ds number is none =
    rw (found_at name rows, ← is)
    (unmade (slice_get rows number) ds (none ∙ slice_get-map (λ row. kinds_of row.1) rows number))

-- the row's call of the words is that of the values
made_there : (rows : List (List ℕ × CallRow)) (name : List ℕ) (ds : Items) (number : ℕ) (kinds : List Kind)
    (found : Option (List ℕ)) → Some number ≡ place_of name rows
    → Some kinds ≡ slice_get (map (λ row. kinds_of row.1) rows) number
    → ((make : Maker kinds) → option_map (λ words. made_of kinds make 0 words) found ≡ call_made kinds make ds)
    → option_and_then {T = List ℕ} (λ words. option_map (λ row. made_by row.1 words) (slice_get rows number)) found
    ≡ (at_name rows name >>= (λ row. call_by row ds))
made_there rows name ds number kinds found is at same =
    rw (found_at name rows, ← is)
    (made_at (slice_get rows number) kinds found ds (at ∙ slice_get-map (λ row. kinds_of row.1) rows number) same)

-- a name that has no number is no call's
pub no_number : (name : List ℕ) (ds : Items) → None ≡ call_number name → None ≡ call_with name ds
unfolding call_number call_with
no_number name ds is = none_placed call_rows name ds is

-- nor is one whose number has no kinds
pub no_kinds : (name : List ℕ) (ds : Items) (number : ℕ) → Some number ≡ call_number name → None ≡ call_kinds number
    → None ≡ call_with name ds
unfolding call_number call_kinds call_with
no_kinds name ds number is none = none_there call_rows name ds number is none

-- the call of the words is that of the name with the values
pub as_words : (name : List ℕ) (ds : Items) (number : ℕ) (kinds : List Kind) (found : Option (List ℕ))
    → Some number ≡ call_number name → Some kinds ≡ call_kinds number
    → ((make : Maker kinds) → option_map (λ words. made_of kinds make 0 words) found ≡ call_made kinds make ds)
    → option_and_then {T = List ℕ} (λ words. call_of_words number words) found ≡ call_with name ds
unfolding call_number call_kinds call_of_words call_with
as_words name ds number kinds found is at same = made_there call_rows name ds number kinds found is at same

-- there is none where the values aren't of its kinds
pub no_words : (name : List ℕ) (ds : Items) (number : ℕ) (kinds : List Kind)
    → Some number ≡ call_number name → Some kinds ≡ call_kinds number
    → ((make : Maker kinds) → None ≡ call_made kinds make ds) → None ≡ call_with name ds
no_words name ds number kinds is at none = as_words name ds number kinds None is at none

-- ---- the word of a value

abbrev number_before : (kind : Kind) → Items → Number kind → Number kind × Items
number_before kind es n = (n, es)

abbrev word_before : (kind : Kind) → Items → ℕ → Number kind × Items
word_before kind es word = (number_of_word kind word, es)

-- of a value of a kind, by the kind's name
pub as_kind : (kind k : Kind) → kind ≡ k → (d : Data) (found : Option ℕ)
    → option_map (number_of_word k) found ≡ number_of k d → option_map (number_of_word kind) found ≡ number_of kind d
as_kind kind k is d found same =
    let P : Kind → Type 0 = λ k. option_map (number_of_word k) found ≡ number_of k d in subst P (sym is) same

pub as_it_is : (found : Option ℕ) → option_map (λ n. n) found ≡ found
as_it_is None = refl
as_it_is (Some n) = refl

-- the word of the first value, beside those after it
pub first_word : (kind : Kind) (ds es : Items) (d : Data) (found : Option ℕ) → Some (d, es) ≡ first_value ds
    → option_map (number_of_word kind) found ≡ number_of kind d
    → option_map (word_before kind es) found ≡ first_number kind ds
unfolding first_number
first_word kind ds es d found first is = rw (← first, ← is) (joined found)
  where
    joined : (o : Option ℕ) → option_map (word_before kind es) o ≡ option_map (number_before kind es) (option_map (number_of_word kind) o)
    joined None = refl
    joined (Some n) = refl

-- ---- the words are read one after another

-- the kind at a place of a list
pub kind_at : (kinds : List Kind) (n : ℕ) → n < length kinds → slice_get kinds n ≡ Some (get_or kinds n U32)
kind_at [] n within = absurd (omega (arith, within))
kind_at (kind ∷ kinds) zero within = refl
kind_at (kind ∷ kinds) (suc n) within = kind_at kinds n (omega (arith, within))

-- The call that is made where so many values were read, whose words stand from a place on, and these values are left
abbrev pub read_then : ℕ → (kinds : List Kind) → Maker kinds → ℕ → List ℕ → Items → Option Call
read_then zero kinds make place words ds = call_made kinds make ds
read_then (suc n) [] call place words ds = call_made [] call ds
read_then (suc n) (kind ∷ kinds) make place words ds =
    read_then n kinds (make (number_of_word kind (slice_index words place))) (place + 1) words ds

-- one value more
read_more : (n : ℕ) (kinds : List Kind) (make : Maker kinds) (place at : ℕ) (words : List ℕ) (word : ℕ) (ds es : Items)
    (kind : Kind) → slice_get kinds n ≡ Some kind → at ≡ place + n → at < length words
    → Some (number_of_word kind word, es) ≡ first_number kind ds
    → read_then (suc n) kinds make place (slice_set words at word) es ≡ read_then n kinds make place words ds
unfolding call_made
read_more n [] call place at words word ds es kind is there fits first = absurd (cc)
read_more zero (k ∷ kinds) make place at words word ds es kind is there fits first = at_once
  where
    same : kind ≡ k
    same = (cc)

    of_k : Some (number_of_word k word, es) ≡ first_number k ds
    of_k = let P : Kind → Type 0 = λ k. Some (number_of_word k word, es) ≡ first_number k ds in subst P same first

    at_once : call_made kinds (make (number_of_word k (slice_index (slice_set words at word) place))) es
        ≡ call_made (k ∷ kinds) make ds
    at_once = rw (get_or-set_at words at place word 0 (omega (arith, there)) fits, ← of_k) refl
read_more (suc n) (k ∷ kinds) make place at words word ds es kind is there fits first =
    let other : place ≢ at = λ e. omega (arith, e, there) in
    let further : at ≡ (place + 1) + n = omega (arith, there) in
    rw (get_or-set_other words at place word 0 other)
    (read_more n kinds (make (number_of_word k (slice_index words place))) (place + 1) at words word ds es kind is further fits first)

-- one that is of another kind, or isn't there
read_none : (n : ℕ) (kinds : List Kind) (make : Maker kinds) (place : ℕ) (words : List ℕ) (ds : Items) (kind : Kind)
    → slice_get kinds n ≡ Some kind → None ≡ first_number kind ds → read_then n kinds make place words ds ≡ None
unfolding call_made
read_none n [] call place words ds kind is none = absurd (cc)
read_none zero (k ∷ kinds) make place words ds kind is none = at_once
  where
    same : kind ≡ k
    same = (cc)

    of_k : None ≡ first_number k ds
    of_k = let P : Kind → Type 0 = λ k. None ≡ first_number k ds in subst P same none

    at_once : call_made (k ∷ kinds) make ds ≡ None
    at_once = rw (← of_k) refl
read_none (suc n) (k ∷ kinds) make place words ds kind is none =
    read_none n kinds (make (number_of_word k (slice_index words place))) (place + 1) words ds kind is none

-- all are read
read_all : (kinds : List Kind) (make : Maker kinds) (place : ℕ) (words : List ℕ) (ds : Items)
    → read_then (length kinds) kinds make place words ds ≡ call_made [] (made_of kinds make place words) ds
read_all [] call place words ds = refl
read_all (kind ∷ kinds) make place words ds =
    read_all kinds (make (number_of_word kind (slice_index words place))) (place + 1) words ds

-- the first value that is left is of the next kind
pub reads_one : (n more : ℕ) (kinds : List Kind) (make : Maker kinds) (words : List ℕ) (word : ℕ) (ds es : Items) (kind : Kind)
    → more ≡ n + 1 → slice_get kinds n ≡ Some kind → n < length words
    → Some (number_of_word kind word, es) ≡ first_number kind ds
    → read_then more kinds make 0 (slice_set words n word) es ≡ read_then n kinds make 0 words ds
reads_one n more kinds make words word ds es kind is_more is fits first =
    let next : more ≡ suc n = omega (arith, is_more) in
    rw next (read_more n kinds make 0 n words word ds es kind is (omega arith) fits first)

-- it isn't
pub reads_none : (n : ℕ) (kinds : List Kind) (make : Maker kinds) (words : List ℕ) (ds : Items) (kind : Kind)
    → slice_get kinds n ≡ Some kind → None ≡ first_number kind ds → None ≡ read_then n kinds make 0 words ds
reads_none n kinds make words ds kind is none = sym (read_none n kinds make 0 words ds kind is none)

-- no value is left after the last kind
pub reads_all : (n : ℕ) (kinds : List Kind) (make : Maker kinds) (words : List ℕ) (ds : Items) → n ≡ length kinds
    → None ≡ first_value ds → Some (made_of kinds make 0 words) ≡ read_then n kinds make 0 words ds
unfolding call_made
reads_all n kinds make words ds is none = rw (is, read_all kinds make 0 words ds, ← none) refl

-- one is
pub reads_more : (n : ℕ) (kinds : List Kind) (make : Maker kinds) (words : List ℕ) (ds : Items) (first : Data × Items)
    → n ≡ length kinds → Some first ≡ first_value ds → None ≡ read_then n kinds make 0 words ds
unfolding call_made
reads_more n kinds make words ds first is one = rw (is, read_all kinds make 0 words ds, ← one) refl
