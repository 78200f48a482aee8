-- Why the forms of lists see no more of their items than numbers and texts: the law that `Listed` asks for. No clause
-- cites it.
use Rattle.std.proofs.Common.{◌≡◌, ℕ, List, [], ◌∷◌, Bool, Option, Some, None, refl, ap, ◌∙◌}
use Rattle.std.specs.Prelude.{option_map, option_and_then}
use Rattle.serde_json.specs.Data.{Data, null, boolean, number, string, array, object, Items, no_items, item, Members}
use Rattle.serde_json.specs.Find as find
use Rattle.wasi_call_table.specs.CallTable.{Maker, CallRow, Takes, call_rows}
use Rattle.wasi_guest.specs.declared.call.Call.{Call}
use Rattle.wasi_call_table.specs.declared.call_table.Kind.{Kind}
use Rattle.wasi_call_table.specs.declared.call_table.Kind.TheVariants.{U32, U64, I64}
use Rattle.wasi_form.specs.Atoms.{flat, flat_items, SeesAtoms}
use Rattle.wasi_form.specs.CallForm.{number_of, first_number, call_made, call_by, call_with, call_in}
use Rattle.wasi_form.specs.Lists.{◌>>=◌, at_name}
use Rattle.wasi_form.specs.MemoryForm.{piece_bytes, piece_of_items, shown_of_items}
use Rattle.wasi_form.specs.FaultsForm.{is_after, fault_of_items}
use Rattle.wasi_form.specs.NodeForm.{moment_of_items}
use Rattle.wasi_form.specs.ServicesForm.{env_pair_of_items, wall_of_items}
use Rattle.wasi_form.specs.Shapes.{u64_of, i64_of, u32_of, is_text, two_in}

-- ---- numbers and texts are seen as they are

-- what sees the same of any value that is neither
seen_flat : {A : Type 0} (see : Data → A) → ((b : Bool) → see null ≡ see (boolean b))
    → ((ds : Items) → see null ≡ see (array ds)) → ((ms : Members) → see null ≡ see (object ms))
    → (d : Data) → see (flat d) ≡ see d
seen_flat see booleans arrays objects null = refl
seen_flat see booleans arrays objects (boolean b) = booleans b
seen_flat see booleans arrays objects (number n) = refl
seen_flat see booleans arrays objects (string s) = refl
seen_flat see booleans arrays objects (array ds) = arrays ds
seen_flat see booleans arrays objects (object ms) = objects ms

number_flat : (kind : Kind) (d : Data) → number_of kind (flat d) ≡ number_of kind d
number_flat U32 d = seen_flat u32_of (λ b. refl) (λ ds. refl) (λ ms. refl) d
number_flat U64 d = seen_flat u64_of (λ b. refl) (λ ds. refl) (λ ms. refl) d
number_flat I64 d = seen_flat i64_of (λ b. refl) (λ ds. refl) (λ ms. refl) d

str_flat : (d : Data) → find.as_str (flat d) ≡ find.as_str d
str_flat d = seen_flat find.as_str (λ b. refl) (λ ds. refl) (λ ms. refl) d

is_text_flat : (text : List ℕ) (d : Data) → is_text text (flat d) ≡ is_text text d
is_text_flat text d = seen_flat (is_text text) (λ b. refl) (λ ds. refl) (λ ms. refl) d

-- ---- forms that see no more

bytes_flat : (kind d : Data) → piece_bytes (flat kind) (flat d) ≡ piece_bytes kind d
bytes_flat kind d = rw (is_text_flat _ kind, is_text_flat _ kind, str_flat d) refl

pub piece_sees : SeesAtoms piece_of_items
piece_sees no_items = refl
piece_sees (item d no_items) = refl
piece_sees (item d (item e no_items)) = refl
piece_sees (item d (item e (item f no_items))) = rw (number_flat U32 d, bytes_flat e f) refl
piece_sees (item d (item e (item f (item g ds)))) = refl

-- a form of two items sees no more, where what it makes of the two does not
two_sees : {A : Type 0} (of : Data × Data → Option A) → ((d e : Data) → of (flat d, flat e) ≡ of (d, e)) → (ds : Items)
    → option_and_then {T = Data × Data} of (two_in (flat_items ds)) ≡ option_and_then {T = Data × Data} of (two_in ds)
two_sees of same no_items = refl
two_sees of same (item d no_items) = refl
two_sees of same (item d (item e no_items)) = same d e
two_sees of same (item d (item e (item f ds))) = refl

pub shown_sees : SeesAtoms shown_of_items
shown_sees ds = two_sees _ (λ d e. rw (number_flat U32 d, number_flat U32 e) refl) ds

pub env_pair_sees : SeesAtoms env_pair_of_items
env_pair_sees ds = two_sees _ (λ d e. rw (str_flat d, str_flat e) refl) ds

after_flat : (d : Data) → is_after (flat d) ≡ is_after d
after_flat d = rw (is_text_flat _ d, is_text_flat _ d) refl

pub fault_sees : SeesAtoms fault_of_items
fault_sees ds = two_sees _ (λ d e. rw (number_flat U64 d, after_flat e) refl) ds

pub wall_sees : SeesAtoms wall_of_items
wall_sees ds = two_sees _ (λ d e. rw (number_flat U64 d, number_flat U32 e) refl) ds

pub moment_sees : SeesAtoms moment_of_items
moment_sees ds = two_sees _ (λ d e. rw (number_flat I64 d, number_flat U64 e) refl) ds

before_same : {A : Type 0} (o : Option A) (ds es : Items) (make : A → Items → Option Call) → ((x : A) → make x ds ≡ make x es)
    → option_and_then {T = A × Items} (λ first. make first.0 first.1) (option_map (λ x. (x, ds)) o)
    ≡ option_and_then {T = A × Items} (λ first. make first.0 first.1) (option_map (λ x. (x, es)) o)
before_same None ds es make same = refl
before_same (Some x) ds es make same = same x

made_flat : (kinds : List Kind) (make : Maker kinds) (ds : Items) → call_made kinds make (flat_items ds) ≡ call_made kinds make ds
unfolding call_made first_number
made_flat [] call no_items = refl
made_flat [] call (item d ds) = refl
made_flat (kind ∷ kinds) make no_items = refl
made_flat (kind ∷ kinds) make (item d ds) =
    rw (number_flat kind d)
    (before_same (number_of kind d) (flat_items ds) ds (λ n es. call_made kinds (make n) es) (λ n. made_flat kinds (make n) ds))

row_flat : (row : CallRow) (ds : Items) → call_by row (flat_items ds) ≡ call_by row ds
row_flat (Takes kinds make shape) ds = made_flat kinds make ds

found_flat : (row : Option CallRow) (ds : Items)
    → (row >>= (λ r. call_by r (flat_items ds))) ≡ (row >>= (λ r. call_by r ds))
found_flat None ds = refl
found_flat (Some row) ds = row_flat row ds

with_flat : (name : List ℕ) (ds : Items) → call_with name (flat_items ds) ≡ call_with name ds
unfolding call_with
with_flat name ds = found_flat (at_name call_rows name) ds

called : (name : Option (List ℕ)) (ds : Items)
    → (name >>= (λ n. call_with n (flat_items ds))) ≡ (name >>= (λ n. call_with n ds))
called None ds = refl
called (Some name) ds = with_flat name ds

pub call_sees : SeesAtoms call_in
call_sees no_items = refl
call_sees (item d ds) = ap (λ name. name >>= (λ n. call_with n (flat_items ds))) (str_flat d) ∙ called (find.as_str d) ds
