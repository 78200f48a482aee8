use Rattle.std.proofs.Common.{rules, map}
use Rattle.wasi_tree.specs.NodeData.{node_data}
use Rattle.wasi_form.specs.ScriptForm.{session_found, script_found}
use Rattle.wasi_form.proofs.script_members.Parts.draft.Goals as goal

pub returns-in_err-session : goal.returns-in_err-session
unfolding script_found session_found
returns-in_err-session c =
    let none = c.in_err-session.ensures (map node_data c.in_ok-nodes.nodes.items) c.in_ok-limits.limits in search rules

pub returns : goal.returns
unfolding script_found session_found
returns c = let s = c.in_ok-session.ensures (map node_data c.in_ok-nodes.nodes.items) c.in_ok-limits.limits in search rules
