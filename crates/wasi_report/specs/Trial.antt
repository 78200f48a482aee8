-- The value and the text of a trial.
use Rattle.std.specs.Prelude.{ℕ, List, [], ◌∷◌, ◌++◌, codes, map}
use Rattle.serde_json.specs.Data.{Data, object, member, no_members}
use Rattle.serde_json.specs.Written.{compact_text}
use Rattle.wasi_host.specs.Tree.{Node}
use Rattle.wasi_tree.specs.NodeData.{NodeData, data_of_node}
use Rattle.wasi_report.specs.Report.{Report, list_value, node_value, number_value, report_value}

pub record Trial : Type 0 where
  -- the nodes of the tree that stays
  pub base : List NodeData
  -- the numbers of the nodes that were worked on
  pub kept : List ℕ
  pub report : Report

-- the nodes of a tree, numbers and a report, as plain data
abbrev pub trial_by : List Node → List ℕ → Report → Trial
trial_by nodes kept report = record { base = map data_of_node nodes; kept = kept; report = report }

-- the keys stand in byte order
abbrev pub trial_value : Trial → Data
trial_value t =
    object (member (codes "base") (list_value node_value t.base)
    (member (codes "kept") (list_value number_value t.kept)
    (member (codes "report") (report_value t.report) no_members)))

-- the compact text of the value, and a newline
unfoldable pub trial_text : Trial → List ℕ
trial_text t = compact_text (trial_value t) ++ 10 ∷ []
