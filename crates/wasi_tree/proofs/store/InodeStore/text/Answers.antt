use Rattle.std.proofs.Common.{◌∙◌, refl, sym, subst, arith}
use Rattle.wasi_host.specs.Tree.{text_of}
use Rattle.wasi_tree.specs.Sound.{IsSoundText}
use Rattle.wasi_tree.proofs.InodeLemmas.{IsInodeAt, inode_says, sound_at, inode_within}
use Rattle.wasi_tree.proofs.store.InodeStore.text.Goals as goal

inode : (c : goal.After-text) → IsInodeAt c.self.inside.inodes.items c.self.inside.names.names c.self.inside.limits c.self.inside.worked.nodes
    c.args.self.now c.args.n c.index.result.now
inode c = record { stands = c.self.view_is; within = c.requires; read = c.index.ensures }

pub returns-clause-text : goal.returns-clause-text
returns-clause-text c = c.text.ensures ∙ sym (inode_says (inode c) text_of (λ _ _ _. refl))

pub returns-clause-sound : goal.returns-clause-sound
returns-clause-sound c = λ link.
    subst IsSoundText (inode_says (inode c) text_of (λ _ _ _. refl) ∙ sym c.text.ensures)
    (((sound_at c.self.view_is c.self.invariant).nodes c.args.n).text link)

pub index-requires : goal.index-requires
index-requires c = omega (arith, inode_within _ _ c.self.view_is c.requires)
