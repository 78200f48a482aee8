use Rattle.std.proofs.Common.{refl, arith, ◌∙◌}
use Rattle.wasi_host.proofs.Tracing.{traced_none}
use Rattle.wasi_resolve.proofs.Stacks.{popped_live, popped_stands}
use Rattle.wasi_resolve.proofs.Lookups.{among_less}
use Rattle.wasi_resolve.proofs.Ascending.{leaves_top, leaves_ok, leaves_err}
use Rattle.wasi_resolve.proofs.stack.leave.Goals as goal

pub returns-in_default-clause-modelled : goal.returns-in_default-clause-modelled
returns-in_default-clause-modelled g c modelled first w rest stands walked =
    leaves_top rest (omega (arith, c.args.stack.now.ok.0, c.in_default.ensures.cases.0)) walked

pub access-allowed-requires : goal.access-allowed-requires
access-allowed-requires g c = popped_live _ _ c.requires.1 c.in-Some.ensures.items refl

pub close-requires : goal.close-requires
close-requires g c = popped_live _ _ c.requires.1 c.in-Some.ensures.items c.access-allowed.ensures.live

pub returns-in-Ok-clause-stands : goal.returns-in-Ok-clause-stands
returns-in-Ok-clause-stands g c first stands =
    popped_stands _ _ stands c.in-Some.ensures.items c.access-allowed.ensures.live c.close.ensures.live

pub returns-in-Err-clause-stands : goal.returns-in-Err-clause-stands
returns-in-Err-clause-stands g c first stands =
    popped_stands _ _ stands c.in-Some.ensures.items c.access-allowed.ensures.live c.close.ensures.live

pub returns-in-Ok-clause-provenance : goal.returns-in-Ok-clause-provenance
returns-in-Ok-clause-provenance g c =
    traced_none _ _ _ _ _ (c.close.ensures.logged
    ∙ c.access-allowed.ensures.logged) (among_less _ _ c.in-Some.ensures.items)

pub returns-in-Err-clause-provenance : goal.returns-in-Err-clause-provenance
returns-in-Err-clause-provenance g c =
    traced_none _ _ _ _ _ (c.close.ensures.logged
    ∙ c.access-allowed.ensures.logged) (among_less _ _ c.in-Some.ensures.items)

pub returns-in-Ok-clause-modelled : goal.returns-in-Ok-clause-modelled
returns-in-Ok-clause-modelled g c modelled first w rest stands walked =
    leaves_ok _ _ rest stands c.in-Some.ensures.items c.access-allowed.ensures.live c.close.ensures.live walked
    (c.close.ensures.modelled modelled) (c.in-Ok.ensures.modelled modelled)

pub returns-in-Err-clause-modelled : goal.returns-in-Err-clause-modelled
returns-in-Err-clause-modelled g c modelled first w rest stands walked =
    leaves_err _ _ rest stands c.in-Some.ensures.items c.access-allowed.ensures.live c.close.ensures.live walked
    (c.close.ensures.modelled modelled) c.in-Err.code (c.in-Err.ensures.modelled modelled)
