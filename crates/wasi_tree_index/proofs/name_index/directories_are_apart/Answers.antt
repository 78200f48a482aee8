use Rattle.wasi_tree_index.proofs.NamesLemmas.{get-names_at, entries-names_at, names_at-insert, names_at-remove, names_at-insert_other, names_at-remove_other}
use Rattle.wasi_tree_index.proofs.name_index.directories_are_apart.Goals as goal

pub returns : goal.returns
returns c = record {
  get = get-names_at;
  run = entries-names_at;
  inserted = names_at-insert;
  removed = names_at-remove;
  others_inserted = names_at-insert_other;
  others_removed = names_at-remove_other;
}
