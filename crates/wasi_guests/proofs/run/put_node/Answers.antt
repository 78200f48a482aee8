use Rattle.std.proofs.Common.{◌∙◌, ap, sym, map, slice_set, arith}
use Rattle.std.proofs.lemmas.List.{length-map, map-set}
use Rattle.std.proofs.lemmas.List.Elements.{All-set}
use Rattle.wasi_report.specs.ReadBack.{HasRisingNames}
use Rattle.wasi_tree.specs.NodeData.{node_data}
use Rattle.wasi_guests.specs.Between.{joint_node_data}
use Rattle.wasi_guests.proofs.run.put_node.Goals as goal

pub returns-clause-put : goal.returns-clause-put
returns-clause-put c = record {
  within = λ below. map-set node_data c.args.nodes.now.items c.args.node c.in_ok-joint.joint
      ∙ ap (slice_set (map node_data c.args.nodes.now.items) c.args.node) (c.in_ok-joint.ensures.joint
      ∙ ap (λ start. joint_node_data start c.args.run.now c.args.node)
      (sym (length-map c.args.nodes.now.items node_data ∙ c.requires.start)));
  past = λ past. absurd (omega (arith, past, length-map c.args.nodes.now.items node_data, c.requires.start, c.if-node-start.false));
}

pub returns-clause-rises : goal.returns-clause-rises
returns-clause-rises c = λ was. rw (map-set node_data c.args.nodes.now.items c.args.node c.in_ok-joint.joint)
    (All-set HasRisingNames (map node_data c.args.nodes.now.items) c.args.node _ c.in_ok-joint.ensures.rises was)
