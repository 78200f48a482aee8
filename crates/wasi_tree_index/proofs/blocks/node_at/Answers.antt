use Rattle.std.proofs.Common.{◌≡◌, ℕ, IfSome, Option, Some, None, drop, sym, arith}
use Rattle.std.specs.FinMap.{find}
use Rattle.wasi_tree_index.specs.Fronts.{list_at}
use Rattle.wasi_tree_index.specs.Places.{first_at}
use Rattle.wasi_tree_index.specs.DirEntryKeys.{key_cmp}
use Rattle.wasi_tree_index.specs.Blocks.{all_entries, block_entries}
use Rattle.wasi_tree_index.proofs.BlockLemmas.{find_there}
use Rattle.wasi_tree_index.proofs.blocks.node_at.Goals as goal

pub returns : goal.returns
returns c = by c.found_at.result c.found_at.ensures
  where
    by : (o : Option ℕ)
        → o ≡ first_at key_cmp c.args.key.now (drop c.args.at.row (list_at block_entries c.args.blocks.now.items c.args.at.block))
        → IfSome o (λ n. find key_cmp c.args.key.now (all_entries c.args.blocks.now.items) ≡ Some n)
    by None is = tt
    by (Some n) is = find_there c.args.key.now c.args.blocks.now.items c.args.at.block c.args.at.row n
        c.requires (omega arith) (sym is)
