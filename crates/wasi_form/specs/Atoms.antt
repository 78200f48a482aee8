-- Lists of numbers and texts, in which any other value is as good as another.
use Rattle.std.specs.Prelude.{◌≡◌, Bool, if◌then◌else◌, List, map, Option, Some, None}
use Rattle.serde_json.specs.Data.{Data, null, boolean, number, string, array, object, Items, no_items, item}
use Rattle.serde_json.specs.View.{number_view, items_of}
use Rattle.wasi_form.specs.declared.atoms.Atom.{Atom}
use Rattle.wasi_form.specs.declared.atoms.Atom.TheVariants as atoms
use Rattle.wasi_form.specs.declared.arguments.Arguments.{Arguments}

-- a number or a text; any other value is let go, and counts as null
abbrev pub flat : Data → Data
flat null = null
flat (boolean b) = null
flat (number n) = number n
flat (string s) = string s
flat (array ds) = null
flat (object ms) = null

abbrev pub flat_items : Items → Items
flat_items no_items = no_items
flat_items (item d ds) = item (flat d) (flat_items ds)

-- what is known of an item that was read
abbrev pub atom_data : Atom → Data
atom_data (atoms.Number n) = number (number_view n)
atom_data (atoms.Text text) = string text.now
atom_data atoms.Other = null

abbrev pub atoms_data : List Atom → Items
atoms_data list = items_of (map atom_data list)

-- what is known of a value of which the items were read where it is a list
abbrev pub atoms_if : Bool → List Atom → Option Items
atoms_if is_list list = if is_list then Some (atoms_data list) else None

-- what is known of the arguments of a call that weren't read yet
abbrev pub values_left : Arguments → Items
values_left arguments = atoms_data arguments.left.now

-- a form that sees no more of its items than numbers and texts
abbrev pub SeesAtoms : {A : Type 0} → (Items → A) → Type 0
SeesAtoms of = (ds : Items) → of (flat_items ds) ≡ of ds
