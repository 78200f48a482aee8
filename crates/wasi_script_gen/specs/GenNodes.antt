-- The tree of files of `gen n`, as a list of its nodes: node 0, and then n directories, n files and n links.
use Rattle.std.specs.Prelude.{ℕ, ◌+◌, ◌*◌, ◌%◌, List, [], ◌∷◌, ◌++◌, map, codes, decimal}
use Rattle.std.specs.List.{range_with_len}
use Rattle.wasi_tree.specs.NodeData.{NodeData, ContentData, file, directory, link, new_node_data}
use Rattle.wasi_script_gen.specs.declared.nodes.Kind.{Kind}
use Rattle.wasi_script_gen.specs.declared.nodes.Kind.TheVariants as kinds

-- the numbers 0 to n - 1
abbrev pub numbers : ℕ → List ℕ
numbers n = range_with_len 0 n

abbrev pub directory_name : ℕ → List ℕ
directory_name i = codes "d" ++ decimal i

-- node 0 is a directory with the names d0 to d(n-1), di being node 1+i
abbrev pub root_entry : ℕ → List ℕ × ℕ
root_entry i = (directory_name i, 1 + i)

abbrev pub root_entries : ℕ → List (List ℕ × ℕ)
root_entries n = map root_entry (numbers n)

-- node 1+i is a directory with f, node 1+n+i, and up, node 1+2n+i
abbrev pub directory_entries : ℕ → ℕ → List (List ℕ × ℕ)
directory_entries n i = (codes "f", 1 + n + i) ∷ (codes "up", 1 + 2 * n + i) ∷ []

-- node 1+n+i is a file with the decimal digits of i
abbrev pub digits : ℕ → List ℕ
digits i = decimal i

-- node 1+2n+i is a link to `../dj/f`, j being (i+1) mod n
abbrev pub target_of : ℕ → ℕ → List ℕ
target_of n i = codes "../" ++ directory_name ((i + 1) % n) ++ codes "/f"

-- the i-th node of a kind
abbrev pub content_of : ℕ → Kind → ℕ → ContentData
content_of n kinds.Directory i = directory (directory_entries n i)
content_of n kinds.File i = file (digits i)
content_of n kinds.Link i = link (target_of n i)

-- all nodes of a kind, with the bits and times of new ones
abbrev pub nodes_of_kind : ℕ → Kind → List NodeData
nodes_of_kind n kind = map (λ i. new_node_data (content_of n kind i)) (numbers n)

unfoldable pub gen_nodes : ℕ → List NodeData
gen_nodes n = new_node_data (directory (root_entries n)) ∷ [] ++ nodes_of_kind n kinds.Directory
    ++ nodes_of_kind n kinds.File ++ nodes_of_kind n kinds.Link
