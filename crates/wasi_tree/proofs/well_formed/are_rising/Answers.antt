use Rattle.std.proofs.Common.{◌≡◌, rules}
use Rattle.std.specs.String.{string_bytes}
use Rattle.std.proofs.lemmas.List.Sorted.{answers_always}
use Rattle.wasi_tree.specs.declared.node.NewEntry.{NewEntry}
use Rattle.wasi_tree.proofs.RisingLemmas.{is_below, entries_rise}
use Rattle.wasi_tree.proofs.well_formed.are_rising.Goals as goal

pub returns : goal.returns
returns c = record {
  test = entries_rise c.args.entries.now c.is_sorted_by.result
      (c.is_sorted_by.ensures.cases (is_below (λ (e : NewEntry). string_bytes e.name))
      (answers_always _ (λ a r. r ≡ is_below (λ (e : NewEntry). string_bytes e.name) a.0.now a.1.0.now) _ (λ f a r q k. search rules)));
}
