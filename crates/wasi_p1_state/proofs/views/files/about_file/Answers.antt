use Rattle.std.proofs.Common.{rules}
use Rattle.wasi_p1_state.proofs.Viewing.{entry_under, kept_owned, open_under}
use Rattle.wasi_p1_state.proofs.views.files.about_file.Goals as goal

pub resource_under-resource-requires : goal.resource_under-resource-requires
resource_under-resource-requires g c =
    record { live = open_under c.args.fd c.descriptors.invariant c.descriptors.view_is c.requires.stands }

pub made-requires : goal.made-requires
made-requires g c = record { owned = kept_owned c.descriptors.invariant c.descriptors.view_is c.requires.holds }

pub returns-clause-logged : goal.returns-clause-logged
returns-clause-logged g c =
    let entry = entry_under c.args.fd c.descriptors.invariant c.descriptors.view_is c.requires.stands _
    c.resource_under-resource.ensures.names in
    let logged = (c.made.ensures.call c.args.file.now entry).0 in
    search rules

pub returns-clause-did : goal.returns-clause-did
returns-clause-did g c =
    let entry = entry_under c.args.fd c.descriptors.invariant c.descriptors.view_is c.requires.stands _
    c.resource_under-resource.ensures.names in
    let did = (c.made.ensures.call c.args.file.now entry).1 in
    search rules
