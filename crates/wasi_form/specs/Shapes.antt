-- The shapes of numbers and texts, of short lists, and of an object's keys.
use Rattle.std.specs.Prelude.{ℕ, ℤ, ◌^◌, List, Bool, true, false, ◌&&◌, Option, Some, None, Result, Ok, Err, nat_lt, if◌then◌else◌}
use Rattle.std.specs.List.{list_any}
use Rattle.std.specs.Str.{bytes_eq}
use Rattle.serde_json.specs.Data.{Data, null, boolean, number, string, array, object, Items, no_items, item, Members, no_members, member}
use Rattle.serde_json.specs.Find as find
use Rattle.hex.specs.Hex.{decode_of}
use Rattle.wasi_form.specs.Lists.{◌>>=◌}

-- a whole number of 64 bits
abbrev pub u64_of : Data → Option ℕ
u64_of d = find.as_number d >>= find.as_u64

-- a whole number of 64 bits with a sign
abbrev pub i64_of : Data → Option ℤ
i64_of d = find.as_number d >>= find.as_i64

-- a number below a limit
abbrev pub below : ℕ → ℕ → Option ℕ
below limit n = if nat_lt n limit then Some n else None

-- a whole number of 32 bits
abbrev pub u32_of : Data → Option ℕ
u32_of d = u64_of d >>= below (2 ^ 32)

-- the value, and nothing of an error
abbrev pub ok_of : {A E : Type 0} → Result A E → Option A
ok_of (Ok x) = Some x
ok_of (Err e) = None

-- the bytes of a hex text
abbrev pub hex_in : List ℕ → Option (List ℕ)
hex_in text = ok_of (decode_of text)

abbrev pub hex_of : Data → Option (List ℕ)
hex_of d = find.as_str d >>= hex_in

-- it is this text
abbrev pub is_text : List ℕ → Data → Bool
is_text text null = false
is_text text (boolean b) = false
is_text text (number n) = false
is_text text (string s) = bytes_eq s text
is_text text (array ds) = false
is_text text (object ms) = false

-- the items of a list of two
abbrev pub two_in : Items → Option (Data × Data)
two_in no_items = None
two_in (item d no_items) = None
two_in (item d (item e no_items)) = Some (d, e)
two_in (item d (item e (item more ds))) = None

-- the items of a list of three
abbrev pub three_in : Items → Option (Data × Data × Data)
three_in no_items = None
three_in (item d no_items) = None
three_in (item d (item e no_items)) = None
three_in (item d (item e (item f no_items))) = Some (d, e, f)
three_in (item d (item e (item f (item more ds)))) = None

-- the key is one of these
abbrev pub has_key : List (List ℕ) → List ℕ → Bool
has_key keys key = list_any (bytes_eq key) keys

abbrev pub all_keys : List (List ℕ) → Members → Bool
all_keys keys no_members = true
all_keys keys (member k d ms) = has_key keys k && all_keys keys ms
