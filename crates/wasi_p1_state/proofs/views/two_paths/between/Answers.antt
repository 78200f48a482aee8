use Rattle.std.proofs.Common.{ap, rules}
use Rattle.wasi_p2_calls.specs.Resources.{entry_handle}
use Rattle.wasi_p1_state.proofs.Viewing.{directories_stand, entry_under, kept_owned, lowered, open_under, traced_either}
use Rattle.wasi_p1_state.proofs.views.two_paths.between.Goals as goal

pub resource_under-resource-requires : goal.resource_under-resource-requires
resource_under-resource-requires g c =
    record { live = open_under c.args.fd c.descriptors.invariant c.descriptors.view_is c.requires.stands }

pub resource_under-new_resource-requires : goal.resource_under-new_resource-requires
resource_under-new_resource-requires g c =
    record { live = open_under c.args.new_fd c.descriptors.invariant c.descriptors.view_is c.requires.new_stands }

pub made-requires : goal.made-requires
made-requires g c = record { owned = kept_owned c.descriptors.invariant c.descriptors.view_is c.requires.holds }

pub returns-clause-provenance : goal.returns-clause-provenance
returns-clause-provenance g c =
    let entry = entry_under c.args.fd c.descriptors.invariant c.descriptors.view_is c.requires.stands _
    c.resource_under-resource.ensures.names in
    let new_entry = entry_under c.args.new_fd c.descriptors.invariant c.descriptors.view_is c.requires.new_stands _
    c.resource_under-new_resource.ensures.names in
    let looks = traced_either _ _ _ (ap entry_handle entry) (ap entry_handle new_entry) c.made.ensures.call.looks in
    search rules

pub returns-clause-did : goal.returns-clause-did
returns-clause-did g c =
    let entry = entry_under c.args.fd c.descriptors.invariant c.descriptors.view_is c.requires.stands _
    c.resource_under-resource.ensures.names in
    let new_entry = entry_under c.args.new_fd c.descriptors.invariant c.descriptors.view_is c.requires.new_stands _
    c.resource_under-new_resource.ensures.names in
    let did = lowered _ _ _ (c.args.dir.now, c.args.new_dir.now) (directories_stand _ _ _ entry new_entry) c.made.ensures.call.did in
    search rules
