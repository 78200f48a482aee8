-- The advice of preview2 as that of the crates below.
use Rattle.wasi_host.specs.declared.advice.Advice.{Advice as LowerAdvice}
use Rattle.wasi_host.specs.declared.advice.Advice.TheVariants as lower
use Rattle.wasi_p2_types.specs.declared.advice.Advice.{Advice}
use Rattle.wasi_p2_types.specs.declared.advice.Advice.TheVariants as advices

-- the advice of the same name
abbrev pub advice_named : Advice → LowerAdvice
advice_named advices.Normal = lower.Normal
advice_named advices.Sequential = lower.Sequential
advice_named advices.Random = lower.Random
advice_named advices.WillNeed = lower.WillNeed
advice_named advices.DontNeed = lower.DontNeed
advice_named advices.NoReuse = lower.NoReuse
