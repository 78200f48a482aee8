-- Reading the items of a list, one after another.
use Rattle.std.proofs.Common.{List, [], ◌∷◌, ◌++◌, ◌≡◌, Option, Some, None, refl, ap, map, append_assoc, append-nil}
use Rattle.std.specs.Prelude.{option_map}
use Rattle.std.proofs.lemmas.List.{map-append}
use Rattle.serde_json.specs.Data.{Data, Items, no_items, item}
use Rattle.wasi_form.specs.Lists.{items_all, pushed, same, ◌>>=◌}

-- what was read so far, before what is read of the rest
abbrev pub before : {A : Type 0} → List A → Option (List A) → Option (List A)
before done rest = option_map (λ xs. done ++ xs) rest

pub then_cons : {A : Type 0} (x : A) (rest : Option (List A)) (done : List A)
    → before done (rest >>= (λ xs. Some (x ∷ xs))) ≡ before (done ++ x ∷ []) rest
then_cons x None done = refl
then_cons x (Some xs) done = rw append_assoc refl

pub map_same : {A : Type 0} (xs : List A) → map same xs ≡ xs
map_same [] = refl
map_same (x ∷ xs) = ap (λ ys. x ∷ ys) (map_same xs)

-- the same, if all that was read so far is of its shape
abbrev pub after : {A : Type 0} → Option (List A) → Option (List A) → Option (List A)
after None rest = None
after (Some done) rest = before done rest

pub after-nil : {A : Type 0} (rest : Option (List A)) → rest ≡ after (Some []) rest
after-nil None = refl
after-nil (Some xs) = refl

pub after-no_items : {A : Type 0} (of : Data → Option A) (found : Option (List A)) → after found (items_all of no_items) ≡ found
unfolding items_all
after-no_items of None = refl
after-no_items of (Some done) = rw append-nil refl

-- what is seen of a list
abbrev pub seen_by : {V T A : Type 0} → (V → List T) → (T → A) → Option V → Option (List A)
seen_by items see list = option_map (λ v. map see (items v)) list

pub after-item : {V T A : Type 0} (items : V → List T) (see : T → A) (of : Data → Option A)
    (found all : Option V) (x : Option T) (d : Data) (ds : Items)
    → option_map items all ≡ pushed (option_map items found) x
    → of d ≡ option_map see x
    → after (seen_by items see found) (items_all of (item d ds)) ≡ after (seen_by items see all) (items_all of ds)
unfolding items_all
after-item items see of None None x d ds is read = refl
after-item items see of None (Some all) x d ds is read = absurd (cc)
after-item items see of (Some done) None None d ds is read = rw read refl
after-item items see of (Some done) None (Some x) d ds is read = absurd (cc)
after-item items see of (Some done) (Some all) None d ds is read = absurd (cc)
after-item items see of (Some done) (Some all) (Some x) d ds is read =
    let added : items all ≡ items done ++ x ∷ [] = cc in
    rw (read, added, map-append) (then_cons (see x) (items_all of ds) (map see (items done)))
