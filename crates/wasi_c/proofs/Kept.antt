-- What is told of the nodes that a sandbox keeps, by its kind.
use Rattle.std.proofs.Common.{◌≡◌, ◌<◌, ℕ, List, ◌++◌, length, drop, Some, None, refl}
use Rattle.std.specs.Prelude.{Vec}
use Rattle.std.specs.Global.{Global}
use Rattle.wasi_sandbox.specs.Any.{Keeps}
use Rattle.wasi_sandbox.specs.declared.any.AnySandbox.{AnySandbox}
use Rattle.wasi_sandbox.specs.declared.any.AnySandbox.TheVariants.{Alone, Over}
use Rattle.wasi_c.specs.Told.{KeptTold, all_kept, kept_short, alone}

pub tells_all : (s : AnySandbox) (kept : Vec ℕ Global) (before after : List ℕ) (len len' : ℕ) → Keeps s (Some kept)
    → len' ≡ length kept.items → after ≡ kept.items ++ drop len' before → KeptTold before after len len' s 0
tells_all (Alone s) kept before after len len' keeps len-is after-is = absurd keeps
tells_all (Over s) kept before after len len' keeps len-is after-is = all_kept s kept.items keeps.0 keeps.1 len-is after-is

pub tells_short : (s : AnySandbox) (kept : Vec ℕ Global) (before : List ℕ) (len len' : ℕ) → Keeps s (Some kept)
    → len' ≡ length kept.items → length before < len' → KeptTold before before len len' s 262
tells_short (Alone s) kept before len len' keeps len-is short = absurd keeps
tells_short (Over s) kept before len len' keeps len-is short = kept_short s kept.items keeps.0 keeps.1 len-is short refl

pub tells_alone : (s : AnySandbox) (before : List ℕ) (len : ℕ) → Keeps s None → KeptTold before before len len s 277
tells_alone (Alone s) before len keeps = alone s refl refl
tells_alone (Over s) before len keeps = absurd keeps
