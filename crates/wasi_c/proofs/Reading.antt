-- What is read of a lent node, of names, and of a listing.
use Rattle.std.proofs.Common.{◌≡◌, ℕ, List, ◌++◌, ◌∷◌, map, None, refl, sym, ap, ◌∙◌, append_assoc}
use Rattle.std.specs.FinMap as maps
use Rattle.std.specs.Prelude.{IsUtf8}
use Rattle.std.proofs.lemmas.Str.{is_utf8-from_IsUtf8}
use Rattle.wasi_guest.proofs.Utf8.{is_utf8_false}
use Rattle.wasi_host.specs.Tree.{Tree, Node, node_at, names_of}
use Rattle.wasi_tree.specs.NodeData.{NodeData, data_of_content, pair_of}
use Rattle.wasi_tree.specs.Viewed.{Views, viewed, viewed_content}
use Rattle.wasi_tree.specs.declared.node.NewEntry.{NewEntry}
use Rattle.wasi_tree.specs.declared.node.NodeView.{NodeView}
use Rattle.wasi_c.specs.ResultsTold.{entry_bytes, entry_in, listing_bytes, node_record, readable, record_of}

-- what is made of a lent node is that of the node
pub record_seen : {node : Node} {view : NodeView} → Views node view
    → node_record (viewed (maps.entries (names_of node.content)) view) view.links view.gone ≡ record_of node
record_seen shows = λ i. node_record (shows.node_data i) (shows.links i) (shows.gone i)

pub read_seen : {node : Node} {view : NodeView} → Views node view
    → readable (viewed_content (maps.entries (names_of node.content)) view.content) ≡ readable (data_of_content node.content)
read_seen shows = ap (λ (node : NodeData). readable node.content) shows.node_data

-- ---- names

pub of_text : (t : Tree) (d : ℕ) (name : List ℕ) → IsUtf8 name → maps.get (names_of (node_at t d).content) name ≡ entry_in t d name
of_text t d name utf8 = rw (is_utf8-from_IsUtf8 name utf8) refl

pub of_no_text : (t : Tree) (d : ℕ) (name : List ℕ) → ¬ (IsUtf8 name) → entry_in t d name ≡ None
of_no_text t d name other = rw (is_utf8_false name other) refl

-- ---- a listing

-- an entry is added, and the others are still to come
pub more_listed : (listing now all : List ℕ) (entry : NewEntry) (entries rest : List NewEntry)
    → listing ++ listing_bytes (map pair_of entries) ≡ all → entries ≡ entry ∷ rest
    → now ≡ listing ++ entry_bytes (pair_of entry) → now ++ listing_bytes (map pair_of rest) ≡ all
more_listed listing now all entry entries rest so is added =
    ap (λ bytes. bytes ++ listing_bytes (map pair_of rest)) added
    ∙ append_assoc listing (entry_bytes (pair_of entry)) (listing_bytes (map pair_of rest))
    ∙ sym (ap (λ es. listing ++ listing_bytes (map pair_of es)) is) ∙ so
