use Rattle.std.proofs.Common.{◌+◌, ◌∙◌, ◌%◌, length, arith}
use Rattle.std.proofs.lemmas.Grind.{common_steps}
use Rattle.wasi_p1_types.specs.Services.{random_bytes}
use Rattle.wasi_p1_types.proofs.Cycling.{no_bytes}
use Rattle.wasi_p1_types.proofs.guest_env.GuestEnv.fill_random.Goals as goal

pub returns-then-is_empty-clause-bytes : goal.returns-then-is_empty-clause-bytes
unfolding random_bytes
returns-then-is_empty-clause-bytes c = rw (← c.self.view_is) (c.fill.ensures.after (λ y is. is)
    ∙ no_bytes c.self.inside.random.items (λ i. (c.self.inside.random_at + i) % length c.self.inside.random.items)
    (length c.args.part.now) (grind (arith, common_steps)))
