-- The report that is told of a run.
use Rattle.std.specs.Prelude.{ℕ, ◌+◌, List, map, slice_range}
use Rattle.wasi_tree.specs.NodeData.{data_of_node}
use Rattle.wasi_report.specs.Report.{Report}
use Rattle.wasi_p1_model.specs.Trace.{TraceStep, answers_of}
use Rattle.wasi_p1_types.specs.Guest.{State}
use Rattle.wasi_form.specs.declared.script.Shown.{Shown}

-- the bytes of a range of memory
abbrev pub bytes_shown : List ℕ → Shown → List ℕ
bytes_shown memory range = slice_range memory range.ptr (range.ptr + range.len)

-- the answers of the turns, and of the state after them the ranges to be shown, what was written out, and the tree
abbrev pub report_after : List Shown → List TraceStep → State → List ℕ → Report
report_after show turns last touched = record {
  answers = answers_of turns;
  memory = map (bytes_shown last.guest.memory) show;
  stderr = last.guest.holdings.stderr;
  stdout = last.guest.holdings.stdout;
  touched = touched;
  tree = map data_of_node last.tree.nodes;
}
