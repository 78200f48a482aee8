-- The names of a directory stand in byte order, whatever numbers they hold.
use Rattle.std.proofs.Common.{ℕ, ◌≡◌, List, [], ◌∷◌, map, ap, sym, subst, get_or}
use Rattle.std.specs.Prelude.{All}
use Rattle.std.specs.Cmp.Lexicographic.{slice_cmp}
use Rattle.std.specs.FinMap.{entries, entries_sorted}
use Rattle.std.specs.List.Sorted.{IsStrictlySortedBy}
use Rattle.std.specs.Ordering.{nat_cmp}
use Rattle.std.proofs.lemmas.List.Elements.{All-map}
use Rattle.wasi_host.specs.Tree.{Node, Content, File, Directory, Link}
use Rattle.wasi_tree_index.proofs.EntryLemmas.{rises, true_of}
use Rattle.wasi_tree_index.proofs.RunLemmas.{names_rise}
use Rattle.wasi_report.specs.ReadBack.{HasRisingNames, IsRising}
use Rattle.wasi_tree.specs.NodeData.{ContentData, file, directory, link, data_of_content, data_entries, data_of_node}
use Rattle.wasi_guests.specs.Joint.{content_renumbered, renumbered}

content_rises : (content : Content) → IsRising (data_entries (data_of_content content))
content_rises (File bytes links) = names_rise [] tt
content_rises (Directory names gone) =
    names_rise (entries names) (rises (slice_cmp nat_cmp) (entries names) (true_of _ (entries_sorted names)))
content_rises (Link text links) = names_rise [] tt

-- as a node is told
pub given_rises : (node : Node) → HasRisingNames (data_of_node node)
given_rises node = content_rises node.content

pub all_rise : (nodes : List Node) → All HasRisingNames (map data_of_node nodes)
all_rise nodes = All-map HasRisingNames data_of_node nodes (λ k node within. given_rises (get_or nodes k node))

names_same : (number : ℕ → ℕ) (es : List (List ℕ × ℕ)) → map (λ (e : List ℕ × ℕ). e.0) (map (λ e. (e.0, number e.1)) es) ≡ map (λ e. e.0) es
names_same number [] = λ k. []
names_same number (e ∷ es) = ap (λ l. e.0 ∷ l) (names_same number es)

-- and with other numbers
pub rises_again : (number : ℕ → ℕ) (content : ContentData) → IsRising (data_entries content)
    → IsRising (data_entries (content_renumbered number content))
rises_again number (file bytes) rise = rise
rises_again number (directory es) rise = subst (IsStrictlySortedBy (slice_cmp nat_cmp)) (sym (names_same number es)) rise
rises_again number (link text) rise = rise

pub joint_rises : (number : ℕ → ℕ) (node : Node) → HasRisingNames (renumbered number (data_of_node node))
joint_rises number node = rises_again number (data_of_content node.content) (given_rises node)
