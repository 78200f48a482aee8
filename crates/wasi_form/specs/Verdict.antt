-- Which bytes are scripts, of one guest or of several, or why they are refused. The refusals are tried in their order, from
-- the top to the bottom of this file: long, json, shape, tree, limit.
use Rattle.std.specs.Prelude.{◌≡◌, ℕ, List, length, Bool, nat_le, if◌then◌else◌, Option, Some, None, Result, Ok, Err}
use Rattle.std.specs.Bool.{Decides}
use Rattle.std.specs.Str.{is_utf8}
use Rattle.serde_json.specs.Data.{Data}
use Rattle.serde_json.specs.Read.{read}
use Rattle.wasi_host.specs.Steps.{◌>>=◌}
use Rattle.wasi_tree.specs.WellFormed.{AreFit}
use Rattle.wasi_tree.specs.WellFormedNodes.{NodeList}
use Rattle.wasi_io.specs.Ends.{most_bytes}
use Rattle.wasi_form.specs.declared.script.Draft.{Draft}
use Rattle.wasi_form.specs.declared.script.GuestScript.{GuestScript}
use Rattle.wasi_form.specs.declared.script.Script.{Script}
use Rattle.wasi_form.specs.declared.script_reader.Refusal.{Refusal}
use Rattle.wasi_form.specs.declared.script_reader.Refusal.TheVariants.{Long, Json, Shape, Tree, Limit}
use Rattle.wasi_form.specs.declared.script_reader.ScriptError.{ScriptError}
use Rattle.wasi_form.specs.declared.script_reader.ScriptError.TheVariants.{Refused, Memory}
use Rattle.wasi_form.specs.Plan.{Plan, plan, drafted, GuestsPlan, guests_plan}
use Rattle.wasi_form.specs.ScriptForm.{script_of}
use Rattle.wasi_form.specs.GuestsForm.{guests_of}
use Rattle.wasi_form.specs.Within.{is_within_limits, guests_within}

-- a step that refuses where the test fails
abbrev pub refused_unless : Refusal → Bool → Result (Unit {0}) Refusal
refused_unless refusal test = if test then Ok tt else Err refusal

-- a step that refuses where there is nothing
abbrev pub found : {A : Type 0} → Refusal → Option A → Result A Refusal
found refusal None = Err refusal
found refusal (Some x) = Ok x

-- how many bytes a script has at most
abbrev pub most_script : ℕ
most_script = most_bytes

-- the value that is read of bytes
unfoldable pub value_of : List ℕ → Option Data
value_of bytes = if is_utf8 bytes then read bytes else None

-- ---- in any form

-- what a value is read as
abbrev pub formed : {P : Type 0} → (Data → Option P) → Option Data → Result P Refusal
formed form value = do
  d ← found Json value
  found Shape (form d)

-- what bytes are read as, all that is known of them but for what their nodes and numbers are
unfoldable pub read_as : {P : Type 0} → (Data → Option P) → List ℕ → Result P Refusal
read_as form bytes = do
  _ ← refused_unless Long (nat_le (length bytes) most_script)
  formed form (value_of bytes)

-- a kind of script: the form that its value has, the nodes of its tree, and its limits
pub record Kind (P : Type 0) : Type 0 where
  pub form : Data → Option P
  pub tree : P → NodeList
  pub is_within : P → Bool

-- what was read, or why it is refused; by whether a tree can be made of its nodes
abbrev pub judged : {P : Type 0} → Kind P → Bool → P → Result P Refusal
judged kind fit p = do
  _ ← refused_unless Tree fit
  _ ← refused_unless Limit (kind.is_within p)
  Ok p

-- The plan of bytes that are a script of a kind, or why they are refused; by whether a tree can be made of the nodes.
unfoldable pub verdict_by : {P : Type 0} → Kind P → Bool → List ℕ → Result P Refusal
verdict_by kind fit bytes = do
  p ← read_as kind.form bytes
  judged kind fit p

-- a tree can be made of the nodes
abbrev pub IsFit : NodeList → Type 0
IsFit tree = AreFit tree.limits tree.nodes

abbrev pub IsFitFor : {P : Type 0} → Kind P → Bool → Result P Refusal → Type 0
IsFitFor kind fit (Ok p) = Decides fit (IsFit (kind.tree p))
IsFitFor kind fit (Err refusal) = Unit {0}

-- Whether a tree can be made of the nodes of the plan. Bytes that are refused before have none to ask of.
abbrev pub IsFitTest : {P : Type 0} → Kind P → Bool → List ℕ → Type 0
IsFitTest kind fit bytes = IsFitFor kind fit (read_as kind.form bytes)

-- the verdict on bytes as a script of a kind; the test of their nodes has one outcome, so there is one verdict
pub record IsVerdictBy {P : Type 0} (kind : Kind P) (bytes : List ℕ) (verdict : Result P Refusal) : Type 0 where
  pub fit : Bool
  pub is_test : IsFitTest kind fit bytes
  pub is : verdict_by kind fit bytes ≡ verdict

-- what wasn't read is refused as is said; out of memory is free
abbrev pub Refuses : {P : Type 0} → ScriptError → (Result P Refusal → Type 0) → Type 0
Refuses (Refused refusal) Is = Is (Err refusal)
Refuses Memory Is = Unit {0}

-- what was read, seen by see, is as is said, or is refused so
abbrev pub ReadsBy : {S P : Type 0} → (S → P) → Result S ScriptError → (Result P Refusal → Type 0) → Type 0
ReadsBy see (Ok s) Is = Is (Ok (see s))
ReadsBy see (Err error) Is = Refuses error Is

-- the test of nodes: whether a tree can be made of them
abbrev pub IsTestOf : NodeList → Result NodeList ScriptError → Type 0
IsTestOf tree (Ok tested) = (tested ≡ tree) × IsFit tree
IsTestOf tree (Err (Refused refusal)) = (refusal ≡ Tree) × (IsFit tree → ⊥)
IsTestOf tree (Err Memory) = Unit {0}

-- ---- of one guest

abbrev pub script_kind : Kind Plan
script_kind = record {
  form = script_of;
  tree = λ p. record { nodes = p.nodes; limits = p.limits };
  is_within = is_within_limits;
}

-- the plan of bytes, all that is known of them but for what their nodes and numbers are
abbrev pub read_plan : List ℕ → Result Plan Refusal
read_plan bytes = read_as script_of bytes

-- the verdict on bytes
abbrev pub IsVerdict : List ℕ → Result Plan Refusal → Type 0
IsVerdict bytes verdict = IsVerdictBy script_kind bytes verdict

abbrev pub Reads : Result Script ScriptError → (Result Plan Refusal → Type 0) → Type 0
Reads result Is = ReadsBy plan result Is

-- the same, before its nodes were tested
abbrev pub ReadsDraft : Result Draft ScriptError → (Result Plan Refusal → Type 0) → Type 0
ReadsDraft result Is = ReadsBy drafted result Is

-- ---- of several guests

abbrev pub guests_kind : Kind GuestsPlan
guests_kind = record {
  form = guests_of;
  tree = λ p. record { nodes = p.nodes; limits = p.limits };
  is_within = guests_within;
}

-- the verdict on bytes
abbrev pub IsGuestsVerdict : List ℕ → Result GuestsPlan Refusal → Type 0
IsGuestsVerdict bytes verdict = IsVerdictBy guests_kind bytes verdict

abbrev pub ReadsGuests : Result GuestScript ScriptError → (Result GuestsPlan Refusal → Type 0) → Type 0
ReadsGuests result Is = ReadsBy guests_plan result Is
