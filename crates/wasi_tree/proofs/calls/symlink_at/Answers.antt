use Rattle.std.proofs.Common.{◌≡◌, ◌∙◌, None, refl, sym, ap}
use Rattle.wasi_paths.specs.Name.{name_bytes}
use Rattle.wasi_host.specs.Answer.{unless}
use Rattle.wasi_host.specs.HostCall.{SymlinkAt}
use Rattle.wasi_host.specs.Refusal.{refusal}
use Rattle.wasi_host.proofs.ValidSteps.{can_make_link}
use Rattle.wasi_tree.proofs.GoodNames.{may_name}
use Rattle.wasi_tree.proofs.SoundLemmas.{sound_link}
use Rattle.wasi_tree.proofs.TouchedLemmas.{none_of, made_touched}
use Rattle.wasi_tree.proofs.calls.symlink_at.Goals as goal
use Rattle.wasi_tree.proofs.calls.symlink_at.Given.{Over}
use Rattle.wasi_tree.proofs.calls.symlink_at.Goals.{In_default}

free : (g : Over) (c : In_default g)
    → refusal (g.S.NodeStore.seen c.args.store.now).tree (SymlinkAt c.args.target.now c.args.directory (name_bytes c.args.name)) ≡ None
free g c =
    sym (rw (c.in_ok-looked.ensures.tree, c.in_ok-looked.ensures.looked) at c.refuse_symlink.ensures) ∙ none_of _ c.in_default.not-Some

pub make_node-requires-clause-may : goal.make_node-requires-clause-may
make_node-requires-clause-may g c =
    rw c.in_ok-looked.ensures.tree
    (may_name ((can_make_link _ _ _ _ (free g (goal.at.make_node-requires-clause-may g c).In_default)).0) c.args.name.is_name)

pub make_node-requires-clause-sound : goal.make_node-requires-clause-sound
make_node-requires-clause-sound g c =
    let fits = (can_make_link _ _ _ _ (free g (goal.at.make_node-requires-clause-sound g c).In_default)).1 in
    rw (c.new_link.ensures, c.in_ok-text.ensures.ok)
    (sound_link 0 c.args.target.now (record { some = fits.0; most = fits.1 }))

pub returns-clause-does : goal.returns-clause-does
returns-clause-does g c =
    rw (c.in_ok-make_node.ensures.made, c.new_link.ensures, c.in_ok-text.ensures.ok, c.in_ok-looked.ensures.tree) (record {
      meant = ap (λ r. unless r tt) (free g (goal.at.returns-clause-does g c).In_default);
      tree = refl;
      touched = made_touched _ _ _ _ c.in_ok-looked.ensures.touched refl;
    })
