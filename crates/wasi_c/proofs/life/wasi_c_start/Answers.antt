use Rattle.wasi_c.specs.Told.{started, not_started}
use Rattle.wasi_sandbox.specs.declared.error.StartError.TheVariants as starts
use Rattle.wasi_c.proofs.life.wasi_c_start.Goals as goal

pub returns-in-Err-clause-told : goal.returns-in-Err-clause-told
returns-in-Err-clause-told c = rw (c.requires, c.start_code.ensures) (not_started _ c.in-Err.ensures.starts)

pub returns-in_default-clause-told : goal.returns-in_default-clause-told
returns-in_default-clause-told c = rw c.requires (not_started starts.Memory tt)

pub returns-clause-told : goal.returns-clause-told
returns-clause-told c = rw (c.put.ensures, c.in-Ok-new.ensures.ok) (started _ c.in-Ok.ensures.starts)
