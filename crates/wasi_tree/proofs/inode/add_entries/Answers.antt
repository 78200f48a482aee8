use Rattle.std.proofs.Common.{◌≡◌, ◌∙◌, map, refl, sym, ap, rules}
use Rattle.std.specs.Vec.Iter.{into_iter_items}
use Rattle.wasi_tree_index.specs.DirEntryKeys.{names_at}
use Rattle.wasi_tree.specs.NodeData.{pair_of}
use Rattle.wasi_tree.proofs.NameLemmas.{with_firsts, firsts_of}
use Rattle.wasi_tree.proofs.NamedLemmas.{others_same, others_then}
use Rattle.wasi_tree.proofs.inode.add_entries.Goals as goal

pub loop-entry-init : goal.loop-entry-init
loop-entry-init c =
    let all : into_iter_items c.into_iter-entry-iterator.result ≡ c.args.entries.items = search rules in
    record {
      added =
          ap (λ es. with_firsts (names_at c.args.names.now.names c.args.directory) (map pair_of es)) all
          ∙ ap (λ names. with_firsts names (map pair_of c.args.entries.items)) c.requires
          ∙ firsts_of (map pair_of c.args.entries.items);
      others = others_same c.args.directory c.args.names.now.names c.args.names.now.names refl;
    }

pub loop-entry-preserved : goal.loop-entry-preserved
loop-entry-preserved c = record {
  added =
      ap (λ names. with_firsts names (map pair_of (into_iter_items c.next.new.self))) c.in_ok-add_entry.ensures.added
      ∙ sym (ap (λ es. with_firsts (names_at c.loop-entry.names.names c.args.directory) (map pair_of es)) c.in-Some.ensures.steps.0)
      ∙ c.loop-entry.invariant.added;
  others = others_then c.loop-entry.invariant.others c.add_entry.ensures.others;
}
