use Rattle.std.proofs.Common.{◌∙◌, ap, map}
use Rattle.wasi_tree_index.specs.Places.{first_at}
use Rattle.wasi_tree_index.specs.DirEntryKeys.{key_cmp, row_entry}
use Rattle.wasi_tree_index.proofs.RowLemmas.{first_from}
use Rattle.wasi_tree_index.proofs.blocks.found_at.Goals as goal

pub returns : goal.returns
returns c = c.first_at.ensures
    ∙ ap (λ xs. first_at key_cmp c.args.key.now (map row_entry xs)) c.from.ensures
    ∙ first_from c.args.key.now c.rows_at.result.now _ c.args.at c.rows_at.ensures
