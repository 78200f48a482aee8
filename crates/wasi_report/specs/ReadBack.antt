-- A report's text tells the report.
use Rattle.std.specs.Prelude.{◌≡◌, ℕ, ◌^◌, ◌<◌, List, [], ◌∷◌, map, ⊤, All}
use Rattle.std.specs.Cmp.Lexicographic.{slice_cmp}
use Rattle.std.specs.Int.Signed.{mag}
use Rattle.std.specs.List.Sorted.{IsStrictlySortedBy}
use Rattle.std.specs.Ordering.{nat_cmp}
use Rattle.hex.specs.Hex.{IsBytes}
use Rattle.wasi_host.specs.declared.system_time.SystemTime.{SystemTime}
use Rattle.wasi_tree.specs.NodeData.{NodeData, ContentData, file, directory, link, data_entries}
use Rattle.wasi_report.specs.Report.{Report, fdstat_numbers, filestat_numbers, report_text}
use Rattle.wasi_guest.specs.declared.answer.Answer.{Answer}
use Rattle.wasi_guest.specs.declared.answer.Answer.TheVariants as answers
use Rattle.wasi_guest.specs.declared.answer.Value.{Value}
use Rattle.wasi_guest.specs.declared.answer.Value.TheVariants as values
use Rattle.wasi_guest.specs.declared.fdstat.Fdstat.{Fdstat}
use Rattle.wasi_guest.specs.declared.filestat.Filestat.{Filestat}

-- a number fits 64 bits
abbrev pub FitsNumber : ℕ → Type 0
FitsNumber n = n < 2 ^ 64

-- each field does
abbrev pub FitsFdstat : Fdstat → Type 0
FitsFdstat stat = All FitsNumber (fdstat_numbers stat)

-- each field does
abbrev pub FitsFilestat : Filestat → Type 0
FitsFilestat stat = All FitsNumber (filestat_numbers stat)

abbrev pub FitsValue : Value → Type 0
FitsValue values.Unit = ⊤
FitsValue (values.Number n) = FitsNumber n
FitsValue (values.Pair first second) = All FitsNumber (first ∷ second ∷ [])
FitsValue (values.Fdstat stat) = FitsFdstat stat
FitsValue (values.Filestat stat) = FitsFilestat stat

abbrev pub FitsAnswer : Answer → Type 0
FitsAnswer (answers.Ok value) = FitsValue value
FitsAnswer (answers.Errno errno) = ⊤
FitsAnswer (answers.Trap kind) = ⊤
FitsAnswer (answers.Exit status) = FitsNumber status

-- the number under a name
abbrev pub FitsEntry : {Name : Type 0} → Name × ℕ → Type 0
FitsEntry entry = FitsNumber entry.1

-- the names stand in strictly rising byte order, so that none stands twice
abbrev pub IsRising : List (List ℕ × ℕ) → Type 0
IsRising entries = IsStrictlySortedBy (slice_cmp nat_cmp) (map (λ e. e.0) entries)

-- where the node is a directory, its names do
abbrev pub HasRisingNames : NodeData → Type 0
HasRisingNames node = IsRising (data_entries node.content)

abbrev pub FitsContent : ContentData → Type 0
FitsContent (file bytes) = IsBytes bytes
FitsContent (directory entries) = IsRising entries × All FitsEntry entries
FitsContent (link text) = ⊤

-- the seconds fit 64 bits with a sign
pub record FitsTime (time : SystemTime) : Type 0 where
  pub seconds : mag time.seconds < 2 ^ 63
  pub nanoseconds : FitsNumber time.nanoseconds

pub record FitsTimes (node : NodeData) : Type 0 where
  pub atime : FitsTime node.atime
  pub mtime : FitsTime node.mtime
  pub btime : FitsTime node.btime

pub record FitsNode (node : NodeData) : Type 0 where
  pub content : FitsContent node.content
  pub times : FitsTimes node

-- numbers fit 64 bits and bytes are bytes, as in each run's report, and names stand in byte order
unfoldable pub IsOrdered : Report → Type 0
IsOrdered r =
    All FitsAnswer r.answers × All IsBytes r.memory × IsBytes r.stderr × IsBytes r.stdout
    × All FitsNumber r.touched × All FitsNode r.tree

-- two such reports with the same text are the same
abbrev pub ReportsAreDetermined : Type 0
ReportsAreDetermined = (a b : Report) → IsOrdered a → IsOrdered b → report_text a ≡ report_text b → a ≡ b
