-- The forms of calls. Which calls there are, and the kinds of their arguments, is the table of `wasi_call_table`.
use Rattle.std.specs.Prelude.{ℕ, List, [], ◌∷◌, if◌then◌else◌, Option, Some, None, option_map, is_some}
use Rattle.serde_json.specs.Data.{Data, Items, no_items, item}
use Rattle.serde_json.specs.Find as find
use Rattle.wasi_call_table.specs.CallTable.{Number, Maker, CallRow, Takes, call_rows}
use Rattle.wasi_guest.specs.declared.call.Call.{Call}
use Rattle.wasi_call_table.specs.declared.call_table.Kind.{Kind}
use Rattle.wasi_call_table.specs.declared.call_table.Kind.TheVariants.{U32, U64, I64}
use Rattle.wasi_form.specs.Lists.{◌>>=◌, at_name}
use Rattle.wasi_form.specs.Shapes.{u64_of, i64_of, u32_of}

-- the number of a kind that a value is
abbrev pub number_of : (kind : Kind) → Data → Option (Number kind)
number_of U32 d = u32_of d
number_of U64 d = u64_of d
number_of I64 d = i64_of d

-- the first of some values, and those after it
abbrev pub first_value : Items → Option (Data × Items)
first_value no_items = None
first_value (item d ds) = Some (d, ds)

-- the same, where the first is a number of a kind
unfoldable pub first_number : (kind : Kind) → Items → Option (Number kind × Items)
first_number kind ds = first_value ds >>= (λ first. option_map (λ n. (n, first.1)) (number_of kind first.0))

-- the call that is made of values, where they are as many as the kinds, and each is a number of its kind
unfoldable pub call_made : (kinds : List Kind) → Maker kinds → Items → Option Call
call_made [] call ds = if is_some (first_value ds) then None else Some call
call_made (kind ∷ kinds) make ds = first_number kind ds >>= (λ first. call_made kinds (make first.0) first.1)

-- the call of a row with these arguments
abbrev pub call_by : CallRow → Items → Option Call
call_by (Takes kinds make shape) ds = call_made kinds make ds

-- the call of a name with these arguments
unfoldable pub call_with : List ℕ → Items → Option Call
call_with name ds = at_name call_rows name >>= (λ row. call_by row ds)

-- `[NAME, ARGUMENT ..]`
abbrev pub call_in : Items → Option Call
call_in no_items = None
call_in (item d ds) = do
  name ← find.as_str d
  call_with name ds

abbrev pub call_of : Data → Option Call
call_of d = find.as_array d >>= call_in
