-- The value and the text of an audit.
use Rattle.std.specs.Prelude.{ℕ, List, [], ◌∷◌, ◌++◌, codes, map}
use Rattle.serde_json.specs.Data.{Data, string, object, member, no_members}
use Rattle.serde_json.specs.Written.{compact_text}
use Rattle.wasi_report.specs.Report.{list_value, number_value}
use Rattle.wasi_report.specs.declared.audit.PreopenNodes.{PreopenNodes}

-- a preopened directory
pub record AuditedPreopen : Type 0 where
  pub name : List ℕ
  -- the numbers of its nodes
  pub nodes : List ℕ

pub record AuditReport : Type 0 where
  pub preopens : List AuditedPreopen
  -- the numbers of the nodes that were touched
  pub touched : List ℕ

abbrev pub audited_preopen : PreopenNodes → AuditedPreopen
audited_preopen preopen = record { name = preopen.name.now; nodes = preopen.nodes.now }

-- preopened directories in order, and touched nodes, as plain data
abbrev pub audited : List PreopenNodes → List ℕ → AuditReport
audited preopens touched = record { preopens = map audited_preopen preopens; touched = touched }

abbrev pub preopen_value : AuditedPreopen → Data
preopen_value preopen =
    object (member (codes "name") (string preopen.name)
    (member (codes "nodes") (list_value number_value preopen.nodes) no_members))

-- the keys stand in byte order
abbrev pub audit_value : AuditReport → Data
audit_value a =
    object (member (codes "preopens") (list_value preopen_value a.preopens)
    (member (codes "touched") (list_value number_value a.touched) no_members))

-- the compact text of the value, and a newline
unfoldable pub audit_text : AuditReport → List ℕ
audit_text a = compact_text (audit_value a) ++ 10 ∷ []
