-- The forms of the guest's memory, of what stands in it, and of what is shown of it.
use Rattle.std.specs.Prelude.{ℕ, List, [], ◌∷◌, Bool, codes, if◌then◌else◌, Option, Some, None}
use Rattle.serde_json.specs.Data.{Data, Items, Members}
use Rattle.serde_json.specs.Find as find
use Rattle.serde_json.specs.Find.{get_member}
use Rattle.wasi_form.specs.declared.script.Shown.{Shown}
use Rattle.wasi_form.specs.Lists.{◌>>=◌, names, only_if, needed, list_of}
use Rattle.wasi_form.specs.Shapes.{u32_of, hex_of, is_text, two_in, three_in, all_keys}
use Rattle.wasi_form.specs.Plan.{PlannedPiece, PlannedMemory}

-- the bytes of a text that is of the kind named before it
abbrev pub piece_bytes : Data → Data → Option (List ℕ)
piece_bytes kind d =
    if is_text (codes "hex") kind then hex_of d else (if is_text (codes "text") kind then find.as_str d else None)

-- `[OFFSET, "hex", HEX]` or `[OFFSET, "text", TEXT]`
abbrev pub piece_of_items : Items → Option PlannedPiece
piece_of_items ds = do
  three ← three_in ds
  offset ← u32_of three.0
  bytes ← piece_bytes three.1 three.2
  Some (record { offset = offset; bytes = bytes })

abbrev pub piece_of : Data → Option PlannedPiece
piece_of d = find.as_array d >>= piece_of_items

-- where nothing is said of the memory
abbrev pub no_memory : PlannedMemory
no_memory = record { size = 0; pieces = [] }

-- whether all keys are those of a memory, and what stands at them: `None` where it is missing or of another shape
pub record MemoryFound : Type 0 where
  pub known : Bool
  pub size : Option ℕ
  pub pieces : Option (List PlannedPiece)

-- the keys, each with what a member adds there
abbrev pub memory_members : List (List ℕ × (Data → MemoryFound → MemoryFound))
memory_members =
    (codes "size", λ d found. record found { size = u32_of d })
    ∷ (codes "pieces", λ d found. record found { pieces = list_of piece_of d })
    ∷ []

-- of all members
abbrev pub memory_in : Members → MemoryFound
memory_in ms = record {
  known = all_keys (names memory_members) ms;
  size = needed u32_of (get_member (codes "size") ms);
  pieces = needed (list_of piece_of) (get_member (codes "pieces") ms);
}

-- the memory of what was found
unfoldable pub memory_found : MemoryFound → Option PlannedMemory
memory_found found = do
  _ ← only_if found.known
  size ← found.size
  pieces ← found.pieces
  Some (record { size = size; pieces = pieces })

-- `{"size": BYTES, "pieces": [PIECE ..]}`
abbrev pub memory_of : Data → Option PlannedMemory
memory_of d = find.as_object d >>= (λ ms. memory_found (memory_in ms))

-- `[PTR, LEN]`
abbrev pub shown_of_items : Items → Option Shown
shown_of_items ds = do
  two ← two_in ds
  ptr ← u32_of two.0
  len ← u32_of two.1
  Some (record { ptr = ptr; len = len })

abbrev pub shown_of : Data → Option Shown
shown_of d = find.as_array d >>= shown_of_items
