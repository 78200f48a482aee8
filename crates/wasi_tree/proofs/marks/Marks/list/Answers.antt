use Rattle.std.proofs.Common.{◌≡◌, ◌∙◌, sym, ap, rules}
use Rattle.wasi_tree.specs.Marks.{marks_in}
use Rattle.wasi_tree.proofs.MarkLemmas.{next_in, next_out, rounds_done, places_from, listed_set, listed_rising}
use Rattle.wasi_tree.proofs.marks.Marks.list.Goals as goal
use Rattle.wasi_tree.proofs.marks.Marks.list.Goals.{then-last-round+in_ok-push, else-last-round}

pub loop-node-preserved : goal.loop-node-preserved
loop-node-preserved c = elim c.if-last-round.branch [
  | then-last-round+in_ok-push w ↦ rw (w.nodes-is, w.in_ok-push.ensures.items)
      (next_in c.self.inside.round c.deref-last-items.result.now c.loop-node.node c.loop-node.nodes.items _ c.loop-node-test.true c.loop-node.invariant
      (search rules))
  | else-last-round w ↦ rw w.nodes-is
      (next_out c.self.inside.round c.deref-last-items.result.now c.loop-node.node c.loop-node.nodes.items _ c.loop-node-test.true c.loop-node.invariant
      (search rules))
]

all_listed : (c : goal.After-loop-node)
    → c.loop-node.nodes.items ≡ places_from 0 (marks_in c.self.inside.round c.self.inside.rounds.items)
all_listed c =
    sym (rounds_done c.self.inside.round c.deref-last-items.result.now c.loop-node.node c.loop-node.nodes.items c.loop-node-test.false)
    ∙ c.loop-node.invariant ∙ ap (λ rounds. places_from 0 (marks_in c.self.inside.round rounds)) c.deref-last-items.ensures.value

pub returns-clause-nodes : goal.returns-clause-nodes
returns-clause-nodes c = listed_set _ _ (all_listed c) ∙ ap (λ m. m.nodes) c.self.view_is

pub returns-clause-rising : goal.returns-clause-rising
returns-clause-rising c = listed_rising (marks_in c.self.inside.round c.self.inside.rounds.items) _ (all_listed c)
