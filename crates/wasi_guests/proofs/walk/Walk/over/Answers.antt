use Rattle.std.proofs.Common.{◌≡◌, ◌<◌, map, refl, sym, subst, arith}
use Rattle.std.specs.List.{All}
use Rattle.std.proofs.lemmas.List.{get_or_read}
use Rattle.wasi_host.specs.Tree.{next_of, node_at}
use Rattle.wasi_tree.specs.Sound.{IsSoundNode}
use Rattle.wasi_guests.specs.Walk.{AreFound, known_at}
use Rattle.wasi_guests.specs.declared.holders.Holders.TheVariants.{Nobody}
use Rattle.wasi_guests.specs.declared.walk.Walk.{Walk}
use Rattle.wasi_guests.proofs.WalkLemmas.{entries_within, last_within, spread_on, all_known}
use Rattle.wasi_guests.proofs.walk.Walk.over.Goals as goal

pub index-holders-requires : goal.index-holders-requires
index-holders-requires c = omega (arith, last_within _ _ c.loop-directory.invariant c.in-Some.ensures.items, c.loop-directory.walk.holders.ok.0)

pub find_names-requires : goal.find_names-requires
find_names-requires c =
    let t = c.args.tree.now.tree in
    let d = c.in-Some.directory in
    let sound = subst (λ t. IsSoundNode (next_of t) (node_at t d)) c.store.ensures.tree (c.laws.ensures.nodes d) in
    subst (λ count. All (λ e. e.1 < count) c.names.result) (sym c.loop-directory.invariant.count)
    (subst (All (λ e. e.1 < next_of t)) (sym c.names.ensures.names) (entries_within sound))

pub loop-directory-preserved : goal.loop-directory-preserved
loop-directory-preserved c =
    let mid : Walk = record { holders = c.loop-directory.walk.holders; left = c.pop.new.self } in
    let d = c.in-Some.directory in
    let read : c.index-holders.result.now ≡ known_at mid d =
    get_or_read mid.holders.items d c.index-holders.result.now (last_within _ _ c.loop-directory.invariant c.in-Some.ensures.items) c.index-holders.ensures Nobody in
    spread_on d c.loop-directory.invariant refl c.in-Some.ensures.items
    (subst (λ names. AreFound (map (λ e. e.1) names) (known_at mid d) mid c.find_names.new.self) c.names.ensures.names
    (subst (λ k. AreFound (map (λ e. e.1) c.names.result) k mid c.find_names.new.self) read c.in_ok-find_names.ensures))

pub returns : goal.returns
returns c = all_known c.loop-directory.invariant (omega (arith, c.in_default.ensures.cases)) refl
