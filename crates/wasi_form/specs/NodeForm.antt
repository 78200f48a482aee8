-- The form of a node: an object with one of `"dir": {NAME: NODE ..}`, `"file": HEX` and `"link": TEXT`, and with
-- `"bits": "rwx"` and `"times": [TIME, TIME, TIME]` where they are wanted.
use Rattle.std.specs.Prelude.{◌≡◌, refl, ℕ, ℤ, List, [], ◌∷◌, Bool, true, false, nat_eq, nat_lt, codes, if◌then◌else◌, Option, Some, None, option_map}
use Rattle.std.proofs.lemmas.Bool.{ltb-true}
use Rattle.serde_json.specs.Data.{Data, Items, Members, no_members, member}
use Rattle.serde_json.specs.Find as find
use Rattle.serde_json.specs.Find.{get_member}
use Rattle.wasi_host.specs.Time.{zero_time}
use Rattle.wasi_host.specs.declared.bits.Bits.{Bits}
use Rattle.wasi_host.specs.declared.system_time.SystemTime.{SystemTime}
use Rattle.wasi_tree.specs.NodeData.{NodeData, ContentData, file, directory, link, new_node_data}
use Rattle.wasi_form.specs.declared.nodes.NodeTimes.{NodeTimes}
use Rattle.wasi_form.specs.Lists.{◌>>=◌, only_if, names, list_of, three_of}
use Rattle.wasi_form.specs.Shapes.{u64_of, i64_of, hex_of, two_in, all_keys}

-- names with the numbers of their nodes
unfoldable pub entries_all : Members → Option (List (List ℕ × ℕ))
entries_all no_members = Some []
entries_all (member name d ms) = do
  node ← u64_of d
  entries ← entries_all ms
  Some ((name, node) ∷ entries)

-- an object from names to numbers
abbrev pub script_entries : Data → Option (List (List ℕ × ℕ))
script_entries d = find.as_object d >>= entries_all

-- a bit is set by its letter, and not by a dash
abbrev pub bit_of : ℕ → ℕ → Option Bool
bit_of letter c = if nat_eq c letter then Some true else (if nat_eq c 45 then Some false else None)

-- `r`, `w` and `x`, each of them or a dash
abbrev pub bits_in : List ℕ → Option Bits
bits_in text = do
  three ← three_of text
  read ← bit_of 114 three.0
  write ← bit_of 119 three.1
  search ← bit_of 120 three.2
  Some (record { r = read; w = write; x = search })

abbrev pub bits_of : Data → Option Bits
bits_of d = find.as_str d >>= bits_in

-- the moment of so many seconds and nanoseconds, by the test that the nanoseconds make no second
abbrev pub moment_by : ℤ → (nanoseconds : ℕ) → (test : Bool) → nat_lt nanoseconds 1000000000 ≡ test → Option SystemTime
moment_by seconds nanoseconds true below =
    Some (record { seconds = seconds; nanoseconds = nanoseconds; is_time = ltb-true nanoseconds 1000000000 below })
moment_by seconds nanoseconds false below = None

-- none where the nanoseconds make a second
unfoldable pub moment_at : ℤ → ℕ → Option SystemTime
moment_at seconds nanoseconds = moment_by seconds nanoseconds (nat_lt nanoseconds 1000000000) refl

-- `[SECONDS, NANOSECONDS]`, the seconds with a sign
abbrev pub moment_of_items : Items → Option SystemTime
moment_of_items ds = do
  two ← two_in ds
  seconds ← i64_of two.0
  nanoseconds ← u64_of two.1
  moment_at seconds nanoseconds

abbrev pub moment_in : Data → Option SystemTime
moment_in d = find.as_array d >>= moment_of_items

-- when it was accessed, modified and created
abbrev pub three_times : List SystemTime → Option NodeTimes
three_times times = do
  three ← three_of times
  Some (record { accessed = three.0; modified = three.1; created = three.2 })

-- a list of these three
abbrev pub times_of : Data → Option NodeTimes
times_of d = list_of moment_in d >>= three_times

-- where nothing is said of its times
abbrev pub no_times : NodeTimes
no_times = record { accessed = zero_time; modified = zero_time; created = zero_time }

-- a node of this content, with its bits and times
abbrev pub node_data_at : ContentData → Bits → NodeTimes → NodeData
node_data_at content bits times = record {
  content = content;
  bits = bits;
  atime = times.accessed;
  mtime = times.modified;
  btime = times.created;
}

-- Whether all keys are those of a node, and what stands at them: nothing, or what it is read as, which is `None` where
-- it is of another shape.
pub record NodeFound : Type 0 where
  pub known : Bool
  pub dir : Option (Option (List (List ℕ × ℕ)))
  pub file : Option (Option (List ℕ))
  pub link : Option (Option (List ℕ))
  pub bits : Option (Option Bits)
  pub times : Option (Option NodeTimes)

-- the keys, each with what a member adds there
abbrev pub node_members : List (List ℕ × (Data → NodeFound → NodeFound))
node_members =
    (codes "dir", λ d found. record found { dir = Some (script_entries d) })
    ∷ (codes "file", λ d found. record found { file = Some (hex_of d) })
    ∷ (codes "link", λ d found. record found { link = Some (find.as_str d) })
    ∷ (codes "bits", λ d found. record found { bits = Some (bits_of d) })
    ∷ (codes "times", λ d found. record found { times = Some (times_of d) })
    ∷ []

-- exactly one of the three is there
abbrev pub content_found : Option (Option (List (List ℕ × ℕ))) → Option (Option (List ℕ)) → Option (Option (List ℕ))
    → Option ContentData
content_found None None None = None
content_found (Some entries) None None = option_map directory entries
content_found None (Some bytes) None = option_map file bytes
content_found None None (Some text) = option_map link text
content_found (Some entries) (Some bytes) other = None
content_found (Some entries) None (Some text) = None
content_found None (Some bytes) (Some text) = None

-- a part that may be left out
abbrev pub or_absent : {A : Type 0} → A → Option (Option A) → Option A
or_absent absent None = Some absent
or_absent absent (Some part) = part

-- the node of what was found: its bits and times are those of a new node where none are given
unfoldable pub node_found : NodeFound → Option NodeData
node_found found = do
  _ ← only_if found.known
  content ← content_found found.dir found.file found.link
  bits ← or_absent (new_node_data content).bits found.bits
  times ← or_absent no_times found.times
  Some (node_data_at content bits times)

-- what stands at the keys, of all members
abbrev pub node_parts_in : Members → NodeFound
node_parts_in ms = record {
  known = all_keys (names node_members) ms;
  dir = option_map script_entries (get_member (codes "dir") ms);
  file = option_map hex_of (get_member (codes "file") ms);
  link = option_map find.as_str (get_member (codes "link") ms);
  bits = option_map bits_of (get_member (codes "bits") ms);
  times = option_map times_of (get_member (codes "times") ms);
}

-- an object with one of `"dir"`, `"file"` and `"link"`, and no other keys than `"bits"` and `"times"`
abbrev pub script_node : Data → Option NodeData
script_node d = find.as_object d >>= (λ ms. node_found (node_parts_in ms))
