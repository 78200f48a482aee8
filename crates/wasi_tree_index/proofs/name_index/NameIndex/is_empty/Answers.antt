use Rattle.std.proofs.Common.{◌∙◌, sym, ap, length}
use Rattle.std.specs.Prelude.{nat_eq}
use Rattle.std.specs.FinMap.{len-entries}
use Rattle.wasi_tree_index.proofs.RunLemmas.{none_is}
use Rattle.wasi_tree_index.proofs.name_index.NameIndex.is_empty.Goals as goal

pub returns : goal.returns
returns c = none_is (λ f. (f.0.now, f.1)) c.is_none.result c.next.result c.names.result c.next.new.self c.is_none.ensures c.next.ensures
    ∙ ap (λ xs. nat_eq (length xs) 0) c.names.ensures ∙ ap (λ n. nat_eq n 0) (sym (len-entries _))
