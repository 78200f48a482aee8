use Rattle.std.proofs.Common.{refl, sym, ◌∙◌}
use Rattle.wasi_fs.specs.OpenHow.{may_open}
use Rattle.wasi_p1_types.proofs.NamedFlags.{checked}
use Rattle.wasi_p1_types.proofs.open_with.OpenWith.check.Goals as goal

pub returns-then-is_synchronized-clause-specified : goal.returns-then-is_synchronized-clause-specified
unfolding may_open
returns-then-is_synchronized-clause-specified c =
    checked c.args.self.path_flags c.args.self.open_flags c.args.self.flags c.args.perms (rw (sym c.is_synchronized.ensures ∙ c.if-is_synchronized.true) refl)

pub returns-then-is_mixed-clause-specified : goal.returns-then-is_mixed-clause-specified
unfolding may_open
returns-then-is_mixed-clause-specified c = checked c.args.self.path_flags c.args.self.open_flags c.args.self.flags c.args.perms
    (rw (sym c.is_synchronized.ensures ∙ c.if-is_synchronized.false, sym c.is_mixed.ensures ∙ c.if-is_mixed.true) refl)

pub returns-then-is_unpermitted-clause-specified : goal.returns-then-is_unpermitted-clause-specified
unfolding may_open
returns-then-is_unpermitted-clause-specified c = checked c.args.self.path_flags c.args.self.open_flags c.args.self.flags c.args.perms
    (rw (
      sym c.is_synchronized.ensures ∙ c.if-is_synchronized.false,
      sym c.is_mixed.ensures ∙ c.if-is_mixed.false,
      sym c.is_unpermitted.ensures ∙ c.if-is_unpermitted.true,
    ) refl)

pub returns-clause-specified : goal.returns-clause-specified
unfolding may_open
returns-clause-specified c = checked c.args.self.path_flags c.args.self.open_flags c.args.self.flags c.args.perms
    (rw (
      sym c.is_synchronized.ensures ∙ c.if-is_synchronized.false,
      sym c.is_mixed.ensures ∙ c.if-is_mixed.false,
      sym c.is_unpermitted.ensures ∙ c.if-is_unpermitted.false,
    ) refl)
