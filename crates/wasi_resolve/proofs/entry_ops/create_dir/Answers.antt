use Rattle.wasi_resolve.proofs.entry_ops.create_dir.Goals as goal

pub returns-clause-modelled : goal.returns-clause-modelled
returns-clause-modelled g c modelled = rw c.strip_dir_suffix.ensures.text at (c.change_at.ensures.modelled modelled)
