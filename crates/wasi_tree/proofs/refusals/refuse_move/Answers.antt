use Rattle.std.proofs.Common.{◌∙◌, Some, sym, ap}
use Rattle.wasi_host.specs.Refusal.{first_rule, access_rules, replacing_rules}
use Rattle.wasi_host.proofs.Refusals.{refused_before, left_behind}
use Rattle.wasi_tree.proofs.refusals.refuse_move.Goals as goal

pub returns-in-Some : goal.returns-in-Some
returns-in-Some g c =
    sym (refused_before (access_rules (g.S.NodeStore.seen c.args.store.now).tree c.args.old c.args.new (Some c.args.node))
    (replacing_rules (g.S.NodeStore.seen c.args.store.now).tree (Some c.args.node) c.args.there) (sym c.in-Some.ensures))

pub returns : goal.returns
returns g c =
    c.refuse_replace.ensures
    ∙ ap (λ there. first_rule (replacing_rules (g.S.NodeStore.seen c.args.store.now).tree (Some c.args.node) there)) (sym c.in-Some-there.is)
    ∙ sym (left_behind (access_rules (g.S.NodeStore.seen c.args.store.now).tree c.args.old c.args.new (Some c.args.node))
    (replacing_rules (g.S.NodeStore.seen c.args.store.now).tree (Some c.args.node) c.args.there) (sym c.in_default.ensures))
