use Rattle.std.proofs.Common.{◌∙◌, ap}
use Rattle.std.proofs.lemmas.Bool.{eqb-false}
use Rattle.wasi_paths.specs.Name.{name_bytes}
use Rattle.wasi_host.specs.Tree.{Tree}
use Rattle.wasi_host.specs.Step.{without_entry, content_changed, name_lost}
use Rattle.wasi_host.proofs.Changes.{changed_apart, directory_within}
use Rattle.wasi_tree.proofs.store.InodeStore.drop_name.Goals as goal

pub returns-clause-dropped : goal.returns-clause-dropped
returns-clause-dropped c =
    c.lose_name.ensures.lost ∙ ap (λ (t : Tree). content_changed t c.args.node name_lost) c.take_name.ensures.taken
    ∙ changed_apart _ _ _ (without_entry (name_bytes c.args.name)) name_lost
    (directory_within _ _ c.requires.directory) (eqb-false _ _ c.requires.apart)
