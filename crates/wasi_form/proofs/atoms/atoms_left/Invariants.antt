use Rattle.std.proofs.Common.{length}
use Rattle.wasi_form.specs.Atoms.{flat_items, atom_data}
use Rattle.wasi_form.proofs.Grammar.{ItemsLeft, items_before}
use Rattle.wasi_form.proofs.atoms.atoms_left.Given as goal

abbrev pub invariant-items : goal.invariant-items
invariant-items l =
    ItemsLeft l.depth flat_items (λ ds. items_before atom_data l.atoms.items (flat_items ds)) l.initial.reader l.reader

abbrev pub decreases-items : goal.decreases-items
decreases-items l = length l.reader
