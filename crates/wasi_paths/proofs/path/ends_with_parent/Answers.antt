use Rattle.std.proofs.Common.{◌∙◌, refl}
use Rattle.wasi_paths.specs.declared.part.Part.TheVariants as part
use Rattle.wasi_paths.proofs.ComponentLemmas.{ends_in_parent}
use Rattle.wasi_paths.proofs.path.ends_with_parent.Goals as goal

pub returns : goal.returns
returns c = record {
  test =
      c.eq.ensures
      ∙ ends_in_parent _ (elim [ part.Root ↦ refl | part.CurDir ↦ refl | part.ParentDir ↦ refl | part.Normal name ↦ refl ])
      _ _ c.next_back.result c.parts.ensures.components c.next_back.ensures.steps;
}
