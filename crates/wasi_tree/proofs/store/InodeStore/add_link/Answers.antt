use Rattle.std.proofs.Common.{◌∙◌, ap}
use Rattle.std.proofs.lemmas.Bool.{eqb-false}
use Rattle.wasi_paths.specs.Name.{name_bytes}
use Rattle.wasi_host.specs.Tree.{Tree}
use Rattle.wasi_host.specs.Step.{with_entry, content_changed, one_name_more}
use Rattle.wasi_host.proofs.Changes.{changed_apart, directory_within}
use Rattle.wasi_tree.proofs.store.InodeStore.add_link.Goals as goal

pub returns-clause-added : goal.returns-clause-added
returns-clause-added c =
    c.gain_name.ensures.gained
    ∙ ap (λ (t : Tree). content_changed t c.args.node one_name_more) c.in_ok-put_name.ensures.put
    ∙ changed_apart _ _ _ (with_entry (name_bytes c.args.name) c.args.node) one_name_more
    (directory_within _ _ c.requires.directory) (eqb-false _ _ c.requires.apart)
