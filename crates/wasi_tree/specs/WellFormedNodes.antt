-- Nodes of which a tree can be made, as contracts see them.
use Rattle.std.specs.Prelude.{◌≡◌, ◌⊎◌, ℕ, List, refl}
use Rattle.std.proofs.Common.{inl, inr}
use Rattle.std.specs.Coded.{Coded, code_by, coded×, coded⊎, coded_ℕ, coded_list}
use Rattle.wasi_host.specs.TreeCode.{NodeParts, node_parts_code}
use Rattle.wasi_host.specs.contracts.limits.Limits as limits
use Rattle.wasi_host.specs.declared.limits.Limits.{Limits}
use Rattle.wasi_tree.specs.NodeData.{NodeData, ContentData, file, directory, link}
use Rattle.wasi_tree.specs.WellFormed.{AreFit, name_counts}

-- nodes, whose numbers are their places in the list, with the limits of their tree
pub record NodeList : Type 0 where
  pub nodes : List NodeData
  pub limits : Limits

-- a tree can be made of these nodes, and so many entries give each of them
pub record AreTested (limits : Limits) (nodes : List NodeData) (counts : List ℕ) : Type 0 where
  pub fit : AreFit limits nodes
  pub counted : counts ≡ name_counts nodes

abbrev pub ContentDataParts : Type 0
ContentDataParts = List ℕ ⊎ (List (List ℕ × ℕ) ⊎ List ℕ)

abbrev pub content_data_parts : ContentData → ContentDataParts
content_data_parts (file bytes) = inl bytes
content_data_parts (directory entries) = inr (inl entries)
content_data_parts (link text) = inr (inr text)

abbrev pub of_content_data_parts : ContentDataParts → ContentData
of_content_data_parts (inl bytes) = file bytes
of_content_data_parts (inr (inl entries)) = directory entries
of_content_data_parts (inr (inr text)) = link text

abbrev pub content_data_parts_back : (content : ContentData) → of_content_data_parts (content_data_parts content) ≡ content
content_data_parts_back (file bytes) = refl
content_data_parts_back (directory entries) = refl
content_data_parts_back (link text) = refl

abbrev pub content_data_code : Coded ContentData
content_data_code =
    code_by ContentDataParts
    (coded⊎ (coded_list coded_ℕ) (coded⊎ (coded_list (coded× (coded_list coded_ℕ) coded_ℕ)) (coded_list coded_ℕ)))
    content_data_parts of_content_data_parts content_data_parts_back

abbrev pub node_data_code : Coded NodeData
node_data_code =
    code_by (NodeParts ContentData) (node_parts_code content_data_code) (λ g. (g.content, (g.bits, (g.atime, (g.mtime, g.btime)))))
    (λ p. record { content = p.0; bits = p.1.0; atime = p.1.1.0; mtime = p.1.1.1.0; btime = p.1.1.1.1 })
    (λ _. refl)

abbrev pub node_list_code : Coded NodeList
node_list_code =
    code_by (List NodeData × Limits) (coded× (coded_list node_data_code) limits.the_row.coded)
    (λ l. (l.nodes, l.limits)) (λ p. record { nodes = p.0; limits = p.1 }) (λ _. refl)
