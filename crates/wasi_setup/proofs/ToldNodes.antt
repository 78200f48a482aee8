-- The nodes of a tree as they are told, by their numbers.
use Rattle.std.proofs.Common.{ℕ, ◌<◌, ◌≤◌, ◌≡◌, Some, None, map, ap, ◌∙◌, slice_get}
use Rattle.std.specs.Prelude.{option_map}
use Rattle.std.proofs.lemmas.Option.{slice_get-get_or, slice_get-map, slice_get_past}
use Rattle.wasi_host.specs.Tree.{Tree, next_of, node_at, stray}
use Rattle.wasi_tree.specs.NodeData.{data_of_node}

pub told_at : (t : Tree) (n : ℕ) → n < next_of t → slice_get (map data_of_node t.nodes) n ≡ Some (data_of_node (node_at t n))
unfolding node_at
told_at t n within =
    slice_get-map data_of_node t.nodes n ∙ ap (λ o. option_map data_of_node o) (slice_get-get_or t.nodes n stray within)

pub none_told : (t : Tree) (n : ℕ) → next_of t ≤ n → slice_get (map data_of_node t.nodes) n ≡ None
none_told t n past = slice_get-map data_of_node t.nodes n ∙ ap (λ o. option_map data_of_node o) (slice_get_past t.nodes n past)
