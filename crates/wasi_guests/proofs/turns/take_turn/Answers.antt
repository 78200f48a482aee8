use Rattle.std.proofs.Common.{◌≡◌, ℕ, Global, ◌+◌, ◌-◌, ◌∷◌, ◌++◌, [], ◌∙◌, ap, sym, refl, arith, length, map, append-nil}
use Rattle.std.specs.Prelude.{Vec}
use Rattle.std.proofs.lemmas.List.{length-append, length-map, map-append}
use Rattle.wasi_host.specs.Tree.{next_of}
use Rattle.wasi_guests.specs.Between.{made_node, tree_of}
use Rattle.wasi_guests.specs.Joint.{MadeNode, numbers_from}
use Rattle.wasi_guests.specs.declared.guest_run.GuestRun.{GuestRun}
use Rattle.wasi_guests.proofs.MadeLemmas.{length-numbers_from, noted_joint, noted_made}
use Rattle.wasi_guests.proofs.TurnLemmas.{joint_stays}
use Rattle.wasi_guests.proofs.turns.take_turn.Goals as goal

pub loop-node-init : goal.loop-node-init
loop-node-init c =
    let none : c.next_node-first.result - c.next_node-first.result ≡ 0 = omega arith in
    record {
      turned = c.take_turn.new.self;
      turn = c.in_ok-take_turn.ensures;
      same = refl;
      first = c.next_node-first.ensures;
      end = c.next_node-node-end.ensures;
      low = omega arith;
      high = omega arith;
      made = rw (none, append-nil) refl;
      joint = rw (none, append-nil) (ap (λ (v : Vec ℕ Global). v.items) (joint_stays c.in_ok-take_turn.ensures));
    }

pub loop-node-preserved : goal.loop-node-preserved
loop-node-preserved c =
    let inv = c.loop-node.invariant in
    let pair : ℕ → MadeNode = λ n. (c.args.guest, n) in
    let first = c.next_node-first.result in
    let count : length c.loop-node.made.items ≡ length c.args.made.now.items + (c.loop-node.node - first) =
    sym (length-map c.loop-node.made.items made_node) ∙ ap length inv.made
    ∙ length-append (map made_node c.args.made.now.items) (map pair (numbers_from first (c.loop-node.node - first)))
    ∙ (λ i. length-map c.args.made.now.items made_node i
    + (length-map (numbers_from first (c.loop-node.node - first)) pair ∙ length-numbers_from first (c.loop-node.node - first)) i) in
    let number : c.args.start + c.len.result
    ≡ c.args.start + length c.args.made.now.items + (c.loop-node.node - first) = omega (arith, count, c.len.ensures) in
    record {
      turned = inv.turned;
      turn = inv.turn;
      same = c.note.ensures.same ∙ ap (λ (run : GuestRun). record run { joint = c.note.new.self.joint }) inv.same;
      first = inv.first;
      end = inv.end;
      low = omega (arith, inv.low);
      high = omega (arith, inv.low, inv.high, c.loop-node-test.true);
      made = ap (map made_node) c.in_ok-push.ensures.items
          ∙ map-append made_node c.loop-node.made.items _
          ∙ ap (λ l. l ++ (c.args.guest, c.loop-node.node) ∷ []) inv.made
          ∙ noted_made c.args.guest first c.loop-node.node (map made_node c.args.made.now.items) inv.low;
      joint = c.in_ok-note.ensures.noted
          ∙ (λ i. inv.joint i ++ number i ∷ [])
          ∙ noted_joint (c.args.start + length c.args.made.now.items) first c.loop-node.node c.args.run.now.joint.items inv.low;
    }

pub returns : goal.returns
returns c =
    let inv = c.loop-node.invariant in
    let first = c.next_node-first.result in
    let many : c.loop-node.node - first ≡ next_of (tree_of inv.turned) - next_of (tree_of c.args.run.now) =
    omega (arith, inv.first, inv.end, inv.low, inv.high, c.loop-node-test.false) in
    let long = length-numbers_from (next_of (tree_of c.args.run.now)) (next_of (tree_of inv.turned) - next_of (tree_of c.args.run.now)) in
    record {
      turned = inv.turned;
      turn = inv.turn;
      same = inv.same;
      made = inv.made ∙ (λ i. map made_node c.args.made.now.items ++ map (λ n. (c.args.guest, n)) (numbers_from (inv.first i) (many i)));
      joint = inv.joint ∙ (λ i. c.args.run.now.joint.items
          ++ numbers_from (c.args.start + sym (length-map c.args.made.now.items made_node) i) ((many ∙ sym long) i));
    }
