use Rattle.std.proofs.Common.{◌∙◌, sym, ap}
use Rattle.std.specs.Cmp.Lexicographic.{slice_cmp}
use Rattle.std.specs.Ordering.{nat_cmp}
use Rattle.std.specs.FinMap.{entries}
use Rattle.wasi_tree_index.specs.DirEntryKeys.{AllNames, names_at}
use Rattle.wasi_tree_index.specs.OverNames.{with_changes}
use Rattle.wasi_tree_index.proofs.OverLemmas.{entries-overlaid}
use Rattle.wasi_tree_index.proofs.over_index.OverNameIndex.names.Goals as goal

pub returns : goal.returns
returns c = (λ i. with_changes (slice_cmp nat_cmp) (c.names.ensures i) (c.names-2.ensures i))
    ∙ sym (entries-overlaid c.self.inside.base.now.names c.self.inside.changed.names c.args.directory)
    ∙ ap (λ (m : AllNames). entries (names_at m c.args.directory)) c.self.view_is
