-- What is put among nodes, by what was done to one of them.
use Rattle.std.proofs.Common.{◌≡◌, ◌<◌, ℕ, zero, suc, List, [], ◌∷◌, ◌++◌, length, map, slice_get, slice_set, get_or, Some, None, Ok, Err, refl, sym, ap, ◌∙◌, arith}
use Rattle.std.specs.Prelude.{Vec, Result}
use Rattle.std.specs.Global.{Global}
use Rattle.std.proofs.lemmas.List.{map-set, map_push, set-get_or}
use Rattle.wasi_tree.specs.NodeData.{NodeData, ContentData, content_data, directory, new_node_data, node_data, node_data_with, pair_of}
use Rattle.wasi_tree.specs.declared.node.NewContent.{NewContent}
use Rattle.wasi_tree.specs.declared.node.NewContent.TheVariants as new
use Rattle.wasi_tree.specs.declared.node.NewEntry.{NewEntry}
use Rattle.wasi_tree.specs.declared.node.NewNode.{NewNode}
use Rattle.wasi_sandbox.specs.Building.{content_with, entered, node_with, put_below, TakesEntry, GetsEntry, PutsNode}
use Rattle.wasi_sandbox.specs.declared.tree_builder.BuildError.{BuildError}
use Rattle.wasi_sandbox.specs.declared.tree_builder.BuildError.TheVariants.{NotDirectory, NotNameable, Memory}

node_at : (nodes : List NewNode) (k : ℕ) (old : NewNode) → k < length nodes → old ≡ get_or nodes k old
    → slice_get (map node_data nodes) k ≡ Some (node_data old)
node_at [] k old within read = absurd (omega (arith, within))
node_at (node ∷ nodes) zero old within read = ap (λ n. Some (node_data n)) (sym read)
node_at (node ∷ nodes) (suc k) old within read = node_at nodes k old (grind arith) read

stays : (nodes : List NewNode) (k : ℕ) (old now : NewNode) → old ≡ get_or nodes k old → node_data now ≡ node_data old
    → map node_data (slice_set nodes k now) ≡ map node_data nodes
stays nodes k old now read same =
    map-set node_data nodes k now ∙ ap (slice_set (map node_data nodes) k) same ∙ sym (map-set node_data nodes k old)
    ∙ ap (map node_data) (ap (slice_set nodes k) read ∙ set-get_or nodes k old)

-- what is done to the node of a number is done to the nodes
pub enters : (nodes : List NewNode) (k : ℕ) (old now : NewNode) (entry : List ℕ × ℕ) (result : Result (Unit {0}) BuildError)
    → k < length nodes → old ≡ get_or nodes k old → GetsEntry (node_data old) (node_data now) entry result
    → TakesEntry (map node_data nodes) (map node_data (slice_set nodes k now)) k entry result
enters nodes k old now entry (Ok tt) within read gets =
    rw (node_at nodes k old within read, gets) (ap Some (sym (map-set node_data nodes k now)))
enters nodes k old now entry (Err NotDirectory) within read gets =
    (rw (node_at nodes k old within read, gets.0) refl, stays nodes k old now read gets.1)
enters nodes k old now entry (Err NotNameable) within read gets = absurd gets
enters nodes k old now entry (Err Memory) within read gets = stays nodes k old now read gets

pub no_directory : (content : NewContent) (entry : List ℕ × ℕ)
    → ((entries : Vec NewEntry Global) → content ≡ new.Dir entries → ⊥) → content_with entry (content_data content) ≡ None
no_directory (new.File bytes) entry other = refl
no_directory (new.Dir entries) entry other = absurd (other entries refl)
no_directory (new.Link text) entry other = refl

-- a directory gets the entry that is pushed
pub entry_added : (node : NewNode) (entries now : Vec NewEntry Global) (entry : NewEntry) → node.content ≡ new.Dir entries
    → now.items ≡ entries.items ++ entry ∷ []
    → node_with (pair_of entry) (node_data node) ≡ Some (node_data (record node { content = new.Dir now }))
entry_added node entries now entry is pushed =
    rw is (ap (λ es. Some (node_data_with (directory es) node.bits node.atime node.mtime node.btime))
    (sym (ap (map pair_of) pushed ∙ map_push pair_of entries.items entry)))

-- a node is put once its entry is
pub put_of : (old mid : List NodeData) (number : ℕ) (name : List ℕ) (content : ContentData)
    → entered old number (name, length old) ≡ Some mid → put_below old number name content ≡ Some (mid ++ new_node_data content ∷ [])
put_of old mid number name content is = rw is refl

pub put_refused : (old now mid : List NodeData) (number : ℕ) (text name : List ℕ) (k : ℕ) (content : ContentData)
    (error : BuildError) → old ≡ now → text ≡ name → k ≡ length now → TakesEntry old mid number (text, k) (Err error)
    → PutsNode now mid (put_below now number name content) (Err error)
put_refused old now mid number text name k content NotDirectory same named next is =
    (rw (rw (same, named, next) at is.0) refl, is.1 ∙ same)
put_refused old now mid number text name k content NotNameable same named next is = absurd is
put_refused old now mid number text name k content Memory same named next is = is ∙ same
