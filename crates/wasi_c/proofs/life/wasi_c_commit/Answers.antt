use Rattle.wasi_c.specs.Told.{committed, not_committed}
use Rattle.wasi_c.proofs.life.wasi_c_commit.Goals as goal

pub returns-in_default-clause-told : goal.returns-in_default-clause-told
returns-in_default-clause-told c = rw (c.take-held.ensures.taken, c.requires.base) not_committed

pub returns-in_default-new-clause-told : goal.returns-in_default-new-clause-told
returns-in_default-new-clause-told c = rw (c.take-held.ensures.taken, c.requires.base) not_committed

pub returns-clause-told : goal.returns-clause-told
returns-clause-told c =
    rw (c.take-held.ensures.taken, c.of.ensures, c.leak.ensures.value, c.in-Ok-new.ensures.ok)
    (committed _ (rw c.deref.ensures at c.in-Ok.ensures))
