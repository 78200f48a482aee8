use Rattle.std.proofs.Common.{◌∙◌, map, sym, ap}
use Rattle.std.specs.FinMap as maps
use Rattle.wasi_tree.proofs.NameLemmas.{no_entries, no_names_of}
use Rattle.wasi_tree.specs.NodeData.{pair_of}
use Rattle.wasi_overlay.proofs.over_store.OverStore.entries.Goals as goal

pub returns-then-not-is_directory : goal.returns-then-not-is_directory
returns-then-not-is_directory c =
    ap (map pair_of) c.new.ensures.items
    ∙ sym (ap maps.entries (no_names_of _ (sym c.is_directory.ensures ∙ c.if-not-is_directory.true)) ∙ no_entries)
