use Rattle.std.proofs.Common.{◌≡◌, ◌∙◌, ap}
use Rattle.wasi_paths.specs.Name.{name_bytes}
use Rattle.wasi_host.specs.Tree.{Tree, node_at, is_directory}
use Rattle.wasi_host.specs.Step.{with_entry, without_entry, content_changed}
use Rattle.wasi_tree.specs.Move.{found_lost}
use Rattle.wasi_tree.proofs.MoveLemmas.{moved_as, put_from}
use Rattle.wasi_tree.proofs.store.InodeStore.move_name.Goals as goal
use Rattle.wasi_tree.proofs.store.InodeStore.move_name.Goals.{After-lose_found}

lost : (c : After-lose_found)
    → c.lose_found.new.self
    ≡ found_lost
    (content_changed c.args.self.now c.args.new (with_entry (name_bytes c.args.new_name) c.args.node)) c.args.there
lost c = c.lose_found.ensures.lost ∙ ap (λ (u : Tree). found_lost u c.args.there) c.in_ok-put_name.ensures.put

pub take_name-requires : goal.take_name-requires
take_name-requires c =
    ap (λ (u : Tree). is_directory (node_at u c.args.old).content)
    (lost (goal.at.take_name-requires c).After-lose_found)
    ∙ put_from _ _ _ _ _ _ c.args.there c.requires

pub returns-clause-moved : goal.returns-clause-moved
returns-clause-moved c =
    c.take_name.ensures.taken
    ∙ ap (λ (u : Tree). content_changed u c.args.old (without_entry (name_bytes c.args.old_name)))
    (lost (goal.at.returns-clause-moved c).After-lose_found)
    ∙ moved_as _ _ _ _ _ _ c.args.there c.requires
