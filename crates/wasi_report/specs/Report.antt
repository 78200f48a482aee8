-- The value and the text of a report.
use Rattle.std.specs.Prelude.{ℕ, Bool, List, [], ◌∷◌, ◌++◌, codes, map, if◌then◌else◌}
use Rattle.hex.specs.Hex.{encode_lower}
use Rattle.serde_json.specs.Data.{unsigned, Data, null, number, string, array, object, no_items, item, Members, member, no_members, put}
use Rattle.serde_json.specs.Find.{of_integer}
use Rattle.serde_json.specs.View.{items_of}
use Rattle.serde_json.specs.Written.{compact_text}
use Rattle.wasi_host.specs.Tree.{Node}
use Rattle.wasi_host.specs.declared.system_time.SystemTime.{SystemTime}
use Rattle.wasi_host.specs.declared.bits.Bits.{Bits}
use Rattle.wasi_tree.specs.NodeData.{NodeData, data_of_node, ContentData, file, directory, link}
use Rattle.wasi_guest.specs.Errnos.{errno_name}
use Rattle.wasi_guest.specs.declared.answer.Answer.{Answer}
use Rattle.wasi_guest.specs.declared.answer.Answer.TheVariants as answers
use Rattle.wasi_guest.specs.declared.answer.TrapKind.{TrapKind}
use Rattle.wasi_guest.specs.declared.answer.TrapKind.TheVariants.{Pointer, TableFull, ExitStatus}
use Rattle.wasi_guest.specs.declared.answer.Value.{Value}
use Rattle.wasi_guest.specs.declared.answer.Value.TheVariants as values
use Rattle.wasi_guest.specs.declared.fdstat.Fdstat.{Fdstat}
use Rattle.wasi_guest.specs.declared.filestat.Filestat.{Filestat}
use Rattle.wasi_report.specs.declared.outcome.Outcome.{Outcome}

pub record Report : Type 0 where
  pub answers : List Answer
  -- the bytes of each range that is shown
  pub memory : List (List ℕ)
  pub stderr : List ℕ
  pub stdout : List ℕ
  -- the numbers of the nodes that were touched
  pub touched : List ℕ
  pub tree : List NodeData

-- what a run came to and the nodes of the tree that it left, as plain data
abbrev pub reported : Outcome → List Node → Report
reported o nodes = record {
  answers = o.answers.answers;
  memory = map (λ bytes. bytes.items) o.shown.items;
  stderr = o.stderr.items;
  stdout = o.stdout.items;
  touched = o.touched.items;
  tree = map data_of_node nodes;
}

-- an object with one member
abbrev pub only : List ℕ → Data → Data
only key value = object (member key value no_members)

abbrev pub number_value : ℕ → Data
number_value n = number (unsigned n)

abbrev pub list_value : {A : Type 0} → (A → Data) → List A → Data
list_value value_of items = array (items_of (map value_of items))

-- the fields in preview1's order
abbrev pub fdstat_numbers : Fdstat → List ℕ
fdstat_numbers stat = stat.filetype ∷ stat.flags ∷ stat.base ∷ stat.inheriting ∷ []

abbrev pub fdstat_value : Fdstat → Data
fdstat_value stat = list_value number_value (fdstat_numbers stat)

-- the fields in preview1's order
abbrev pub filestat_numbers : Filestat → List ℕ
filestat_numbers stat =
    stat.dev ∷ stat.ino ∷ stat.filetype ∷ stat.nlink ∷ stat.size ∷ stat.atim ∷ stat.mtim ∷ stat.ctim ∷ []

abbrev pub filestat_value : Filestat → Data
filestat_value stat = list_value number_value (filestat_numbers stat)

-- what stands under `ok`
abbrev pub success_value : Value → Data
success_value values.Unit = null
success_value (values.Number n) = number_value n
success_value (values.Pair first second) = list_value number_value (first ∷ second ∷ [])
success_value (values.Fdstat stat) = fdstat_value stat
success_value (values.Filestat stat) = filestat_value stat

abbrev pub trap_name : TrapKind → List ℕ
trap_name Pointer = codes "pointer"
trap_name TableFull = codes "table"
trap_name ExitStatus = codes "exit"

abbrev pub answer_value : Answer → Data
answer_value (answers.Ok value) = only (codes "ok") (success_value value)
answer_value (answers.Errno errno) = only (codes "errno") (string (errno_name errno))
answer_value (answers.Trap kind) = only (codes "trap") (string (trap_name kind))
answer_value (answers.Exit status) = only (codes "exit") (number_value status)

abbrev pub hex_value : List ℕ → Data
hex_value bytes = string (encode_lower bytes)

-- the letter of a bit that is set, or a dash
abbrev pub bit_letter : ℕ → Bool → ℕ
bit_letter letter set = if set then letter else 45

-- as in rw-
abbrev pub bits_text : Bits → List ℕ
bits_text bits = bit_letter 114 bits.r ∷ bit_letter 119 bits.w ∷ bit_letter 120 bits.x ∷ []

-- seconds and nanoseconds
abbrev pub time_value : SystemTime → Data
time_value time = array (item (number (of_integer time.seconds)) (item (number_value time.nanoseconds) no_items))

-- when it was accessed, modified and created
abbrev pub times_value : NodeData → Data
times_value node = array (item (time_value node.atime) (item (time_value node.mtime) (item (time_value node.btime) no_items)))

-- the members, with each name at its number, one after another
abbrev pub put_all : List (List ℕ × ℕ) → Members → Members
put_all [] members = members
put_all (entry ∷ entries) members = put_all entries (put entry.0 (number_value entry.1) members)

-- what a node is, before other members
abbrev pub content_member : ContentData → Members → Members
content_member (file bytes) others = member (codes "file") (hex_value bytes) others
content_member (directory entries) others = member (codes "dir") (object (put_all entries no_members)) others
content_member (link text) others = member (codes "link") (string text) others

abbrev pub node_value : NodeData → Data
node_value node =
    object (member (codes "bits") (string (bits_text node.bits)) (content_member node.content (member (codes "times") (times_value node) no_members)))

-- answers, shown ranges, standard error and standard output, before other members
abbrev pub outcome_members : List Answer → List (List ℕ) → List ℕ → List ℕ → Members → Members
outcome_members answers memory stderr stdout others =
    member (codes "answers") (list_value answer_value answers)
    (member (codes "memory") (list_value hex_value memory)
    (member (codes "stderr") (hex_value stderr)
    (member (codes "stdout") (hex_value stdout) others)))

-- the keys stand in byte order
abbrev pub report_value : Report → Data
report_value r =
    object (outcome_members r.answers r.memory r.stderr r.stdout
    (member (codes "touched") (list_value number_value r.touched)
    (member (codes "tree") (list_value node_value r.tree) no_members)))

-- the compact text of the value, and a newline
unfoldable pub report_text : Report → List ℕ
report_text r = compact_text (report_value r) ++ 10 ∷ []
