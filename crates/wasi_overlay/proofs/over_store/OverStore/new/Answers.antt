use Rattle.std.proofs.Common.{◌∙◌, ap}
use Rattle.wasi_tree_index.specs.DirEntryKeys.{names_at}
use Rattle.wasi_overlay.specs.OverStore.{overlay_parts}
use Rattle.wasi_overlay.proofs.Beginning.{Begun, begun_over, begun_tree}
use Rattle.wasi_overlay.proofs.over_store.OverStore.new.Goals as goal
use Rattle.wasi_overlay.proofs.over_store.OverStore.new.Goals.{After-first}

begun : (c : After-first) → Begun c.args.base.now.tree c.args.base.now.parents
    (overlay_parts c.new.result c.new-2.result c.limits.result) c.new-3.result.parents
begun c = record {
  nodes = c.new.ensures.nodes;
  here = λ d directory. ap (λ names. names_at names d) c.new-2.ensures ∙ c.all_names.ensures.here d directory;
  past = λ d past. ap (λ names. names_at names d) c.new-2.ensures ∙ c.all_names.ensures.past d past;
  limits = c.limits.ensures;
  worked = c.new.ensures.worked;
  parents = c.new-3.ensures.parents;
  sound = c.laws.ensures.nodes;
  stand = c.laws.ensures.stand;
}

pub invariant_of-result : goal.invariant_of-result
invariant_of-result c = begun_over (begun c)

pub returns-clause-tree : goal.returns-clause-tree
returns-clause-tree c = begun_tree (begun c)
