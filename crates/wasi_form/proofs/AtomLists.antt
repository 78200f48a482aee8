-- Lists of numbers and texts, read item by item.
use Rattle.std.proofs.Common.{◌≡◌, List, [], ◌∷◌, ◌++◌, sym, ap, ◌∙◌}
use Rattle.serde_json.specs.Data.{Data, Items, item}
use Rattle.wasi_form.specs.Atoms.{flat, flat_items, atom_data}
use Rattle.wasi_form.proofs.Grammar.{items_before, items_before-push}
use Rattle.wasi_form.specs.declared.atoms.Atom.{Atom}

-- one item more
pub atom_more : (list now : List Atom) (a : Atom) (d : Data) → now ≡ list ++ a ∷ [] → flat d ≡ atom_data a
    → (ds : Items) → items_before atom_data list (flat_items (item d ds)) ≡ items_before atom_data now (flat_items ds)
atom_more list now a d pushed is ds =
    ap (λ e. items_before atom_data list (item e (flat_items ds))) is ∙ items_before-push atom_data list a (flat_items ds)
    ∙ ap (λ all. items_before atom_data all (flat_items ds)) (sym pushed)
