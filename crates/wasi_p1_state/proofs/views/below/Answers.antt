use Rattle.std.proofs.Common.{rules}
use Rattle.wasi_p1_state.proofs.Viewing.{directory_stands, entry_under, kept_owned, lowered, open_under, traced_only}
use Rattle.wasi_p1_state.proofs.views.below.Goals as goal

pub resource_under-resource-requires : goal.resource_under-resource-requires
resource_under-resource-requires g c =
    record { live = open_under c.args.fd c.descriptors.invariant c.descriptors.view_is c.requires.stands }

pub made-requires : goal.made-requires
made-requires g c = record {
  fits = c.requires.fits;
  owned = kept_owned c.descriptors.invariant c.descriptors.view_is c.requires.holds;
}

pub returns-clause-provenance : goal.returns-clause-provenance
returns-clause-provenance g c =
    let entry = entry_under c.args.fd c.descriptors.invariant c.descriptors.view_is c.requires.stands _
    c.resource_under-resource.ensures.names in
    let looks = traced_only _ _ entry c.made.ensures.call.looks in
    search rules

pub returns-clause-did : goal.returns-clause-did
returns-clause-did g c =
    let entry = entry_under c.args.fd c.descriptors.invariant c.descriptors.view_is c.requires.stands _
    c.resource_under-resource.ensures.names in
    let did = lowered _ _ _ c.args.dir.now (directory_stands _ _ entry) c.made.ensures.call.did in
    search rules
