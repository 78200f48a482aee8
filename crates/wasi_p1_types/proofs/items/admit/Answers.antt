use Rattle.std.proofs.Common.{refl, ap, ◌∙◌, Some}
use Rattle.wasi_p1_types.specs.Items.{directory_of_entry, file_of_entry}
use Rattle.wasi_p1_types.proofs.Admitting.{admitted_by}
use Rattle.wasi_p1_types.proofs.items.admit.Goals as goal

pub returns-in-Stream-clause-admitted : goal.returns-in-Stream-clause-admitted
returns-in-Stream-clause-admitted c = rw c.in-Stream.is (admitted_by c.put_entry.result _ refl c.put_entry.ensures.fresh
    c.put_entry.ensures.entries (λ at. (at ∙ ap Some c.entry_of.ensures, refl)))

pub returns-in-Directory-clause-admitted : goal.returns-in-Directory-clause-admitted
returns-in-Directory-clause-admitted c = rw c.in-Directory.is (admitted_by c.put_entry-resource.result _ refl
    c.put_entry-resource.ensures.fresh c.put_entry-resource.ensures.entries
    (λ at. ((c.in-Directory.field-0.dir, at), ap (λ o. directory_of_entry o c.in-Directory.field-0.preopen) at)))

pub returns-in-File-clause-admitted : goal.returns-in-File-clause-admitted
returns-in-File-clause-admitted c = rw c.in-File.is (admitted_by c.put_entry-resource-in-File.result _ refl
    c.put_entry-resource-in-File.ensures.fresh c.put_entry-resource-in-File.ensures.entries
    (λ at. ((c.in-File.field-0.file, at), ap (λ o. file_of_entry o c.in-File.field-0.position c.in-File.field-0.modes) at)))
