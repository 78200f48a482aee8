use Rattle.std.proofs.Common.{◌≡◌, ◌∙◌, None, refl, sym, ap}
use Rattle.wasi_paths.specs.Name.{name_bytes}
use Rattle.wasi_host.specs.Answer.{unless}
use Rattle.wasi_host.specs.HostCall.{MakeDirAt}
use Rattle.wasi_host.specs.Refusal.{refusal}
use Rattle.wasi_host.specs.Step.{new_directory}
use Rattle.wasi_host.proofs.ValidSteps.{can_make_directory}
use Rattle.wasi_tree.proofs.GoodNames.{may_name}
use Rattle.wasi_tree.proofs.SoundLemmas.{bare}
use Rattle.wasi_tree.proofs.TouchedLemmas.{none_of, made_touched}
use Rattle.wasi_tree.proofs.calls.make_dir_at.Goals as goal
use Rattle.wasi_tree.proofs.calls.make_dir_at.Given.{Over}
use Rattle.wasi_tree.proofs.calls.make_dir_at.Goals.{In_default}

free : (g : Over) (c : In_default g) → refusal (g.S.NodeStore.seen c.args.store.now).tree (MakeDirAt c.args.directory (name_bytes c.args.name)) ≡ None
free g c =
    sym (rw (c.in_ok-looked.ensures.tree, c.in_ok-looked.ensures.looked) at c.refuse_make_dir.ensures)
    ∙ none_of _ c.in_default.not-Some

pub make_node-requires-clause-may : goal.make_node-requires-clause-may
make_node-requires-clause-may g c =
    rw c.in_ok-looked.ensures.tree
    (may_name (can_make_directory _ _ _ (free g (goal.at.make_node-requires-clause-may g c).In_default)) c.args.name.is_name)

pub make_node-requires-clause-sound : goal.make_node-requires-clause-sound
make_node-requires-clause-sound g c = rw c.new_directory.ensures (bare 0 new_directory refl refl)

pub returns-clause-does : goal.returns-clause-does
returns-clause-does g c = rw (c.in_ok-make_node.ensures.made, c.new_directory.ensures, c.in_ok-looked.ensures.tree) (record {
  meant = ap (λ r. unless r tt) (free g (goal.at.returns-clause-does g c).In_default);
  tree = refl;
  touched = made_touched _ _ _ _ c.in_ok-looked.ensures.touched refl;
})
