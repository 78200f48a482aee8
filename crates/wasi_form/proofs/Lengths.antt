-- Lists of another length than a form has.
use Rattle.std.proofs.Common.{List, [], ◌∷◌, ◌≡◌, ◌<◌, None, refl, arith, length, map}
use Rattle.serde_json.specs.Data.{Data}
use Rattle.serde_json.specs.View.{items_of}
use Rattle.wasi_form.specs.Lists.{three_of}
use Rattle.wasi_form.specs.Shapes.{two_in, three_in}

pub short_is_no_two : {T : Type 0} (see : T → Data) (xs : List T) → length xs < 2 → two_in (items_of (map see xs)) ≡ None
short_is_no_two see [] short = refl
short_is_no_two see (x ∷ []) short = refl
short_is_no_two see (x ∷ y ∷ xs) short = absurd (omega arith)

pub long_is_no_two : {T : Type 0} (see : T → Data) (xs : List T) → 2 < length xs → two_in (items_of (map see xs)) ≡ None
long_is_no_two see [] long = absurd (omega arith)
long_is_no_two see (x ∷ []) long = absurd (omega arith)
long_is_no_two see (x ∷ y ∷ []) long = absurd (omega arith)
long_is_no_two see (x ∷ y ∷ z ∷ xs) long = refl

pub short_is_no_three : {T : Type 0} (see : T → Data) (xs : List T) → length xs < 3 → three_in (items_of (map see xs)) ≡ None
short_is_no_three see [] short = refl
short_is_no_three see (x ∷ []) short = refl
short_is_no_three see (x ∷ y ∷ []) short = refl
short_is_no_three see (x ∷ y ∷ z ∷ xs) short = absurd (omega arith)

pub long_is_no_three : {T : Type 0} (see : T → Data) (xs : List T) → 3 < length xs → three_in (items_of (map see xs)) ≡ None
long_is_no_three see [] long = absurd (omega arith)
long_is_no_three see (x ∷ []) long = absurd (omega arith)
long_is_no_three see (x ∷ y ∷ []) long = absurd (omega arith)
long_is_no_three see (x ∷ y ∷ z ∷ []) long = absurd (omega arith)
long_is_no_three see (x ∷ y ∷ z ∷ u ∷ xs) long = refl

pub short_is_no_three_of : {A : Type 0} (xs : List A) → length xs < 3 → three_of xs ≡ None
short_is_no_three_of [] short = refl
short_is_no_three_of (x ∷ []) short = refl
short_is_no_three_of (x ∷ y ∷ []) short = refl
short_is_no_three_of (x ∷ y ∷ z ∷ xs) short = absurd (omega arith)

pub long_is_no_three_of : {A : Type 0} (xs : List A) → 3 < length xs → three_of xs ≡ None
long_is_no_three_of [] long = absurd (omega arith)
long_is_no_three_of (x ∷ []) long = absurd (omega arith)
long_is_no_three_of (x ∷ y ∷ []) long = absurd (omega arith)
long_is_no_three_of (x ∷ y ∷ z ∷ []) long = absurd (omega arith)
long_is_no_three_of (x ∷ y ∷ z ∷ u ∷ xs) long = refl
