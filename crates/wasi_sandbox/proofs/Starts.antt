-- How a sandbox is begun, by what was read of a script.
use Rattle.std.proofs.Common.{◌≡◌, ◌<◌, ◌≤◌, ℕ, zero, suc, List, [], ◌∷◌, Bool, true, false, map, slice_get, slice_index_or, get_or, Ok, Err, refl, sym, ap, ◌∙◌, arith}
use Rattle.std.specs.Prelude.{All}
use Rattle.std.specs.FinMap as maps
use Rattle.std.specs.FinSet.{empty}
use Rattle.std.specs.List.{list_all}
use Rattle.std.proofs.lemmas.List.{length-map}
use Rattle.std.proofs.lemmas.List.Folds.{list_all-map}
use Rattle.wasi_host.specs.Tree.{Tree, Node, Content, File, Directory, Link, node_at, names_of, next_of, is_directory, stray}
use Rattle.wasi_host.specs.declared.limits.Limits.{Limits}
use Rattle.wasi_tree.specs.NodeData.{NodeData, data_of_content, data_of_node, tree_of}
use Rattle.wasi_tree.specs.NodeDataTests.{is_dir_content}
use Rattle.wasi_tree.specs.MemState.{MemState}
use Rattle.wasi_tree.specs.WellFormed.{AreFit, IsTreeCause}
use Rattle.wasi_tree.specs.declared.errors.TreeError.{TreeError}
use Rattle.wasi_tree.specs.declared.errors.TreeError.TheVariants as trees
use Rattle.wasi_tree.specs.Viewed.{viewed_content, Views}
use Rattle.wasi_tree.specs.declared.node.ContentView.{ContentView}
use Rattle.wasi_tree.specs.declared.node.ContentView.TheVariants as views
use Rattle.wasi_tree.specs.declared.node.NodeView.{NodeView}
use Rattle.wasi_form.specs.LimitsForm.{default_limits}
use Rattle.wasi_form.specs.Plan.{Plan, PlannedPreopen, drafted, planned, planned_preopen}
use Rattle.wasi_form.specs.Verdict.{IsVerdict, Reads, ReadsDraft, read_plan}
use Rattle.wasi_form.specs.Within.{are_preopens_directories, is_directory_data, is_session_within, is_within_limits}
use Rattle.wasi_form.specs.declared.script.Draft.{Draft}
use Rattle.wasi_form.specs.declared.script.ScriptPreopen.{ScriptPreopen}
use Rattle.wasi_form.specs.declared.script.Session.{Session}
use Rattle.wasi_form.specs.declared.script_reader.Refusal.TheVariants.{Limit}
use Rattle.wasi_form.specs.declared.script_reader.ScriptError.{ScriptError}
use Rattle.wasi_form.specs.declared.script_reader.ScriptError.TheVariants as scripts
use Rattle.wasi_form.proofs.Accepted.{limits_kept}
use Rattle.wasi_setup.proofs.ToldNodes.{none_told, told_at}
use Rattle.wasi_setup.specs.Start.{IsWithinOn}
use Rattle.wasi_setup.proofs.Starts.{passes_at}
use Rattle.wasi_sandbox.specs.Starting.{has_no_guest, has_no_tree, start_error, tree_start_error, verdict_over, IsBegunBy, JudgesOver, StartsBy, StartsOn}
use Rattle.wasi_sandbox.specs.declared.error.StartError.TheVariants.{Refused, Guest, OwnTree}
use Rattle.wasi_sandbox.specs.declared.sandbox.Sandbox.{Sandbox}

-- bytes that are no script
pub unbegun : {T : Type 0} (seen : T → MemState) (bytes : List ℕ) (error : ScriptError) → Reads (Err error) (IsVerdict bytes)
    → StartsBy seen bytes (Err (start_error error))
unbegun seen bytes (scripts.Refused refusal) reads = reads
unbegun seen bytes scripts.Memory reads = tt

-- ---- over a tree

pub unread_over : (tree : Tree) (bytes : List ℕ) (error : ScriptError)
    → ReadsDraft (Err error) (λ verdict. read_plan bytes ≡ verdict) → JudgesOver tree bytes (Err (start_error error))
unread_over tree bytes (scripts.Refused refusal) reads = rw reads refl
unread_over tree bytes scripts.Memory reads = tt

-- a script that has a tree of its own
pub own_tree : (tree : Tree) (bytes : List ℕ) (p : Plan) → read_plan bytes ≡ Ok p → has_no_tree p ≡ false
    → verdict_over tree bytes ≡ Err OwnTree
own_tree tree bytes p is own = rw (is, own) refl

-- the rest of it is within the limits over a tree, or isn't
pub within_over : (tree : Tree) (session : Session) (b : Bool)
    → is_session_within (list_all (λ preopen. is_directory_data
    (slice_get (map data_of_node tree.nodes) (planned_preopen preopen).node)) session.preopens.items)
    (planned [] default_limits session) ≡ b
    → is_within_limits (planned (map data_of_node tree.nodes) tree.limits session) ≡ b
unfolding is_within_limits
within_over tree session b is =
    ap (λ d. is_session_within d (planned (map data_of_node tree.nodes) tree.limits session))
    (list_all-map (λ (preopen : PlannedPreopen). is_directory_data (slice_get (map data_of_node tree.nodes) preopen.node))
    planned_preopen session.preopens.items) ∙ is

pub past_limit_over : (tree : Tree) (bytes : List ℕ) (d : Draft) → read_plan bytes ≡ Ok (drafted d)
    → has_no_tree (drafted d) ≡ true → is_within_limits (planned (map data_of_node tree.nodes) tree.limits d.session) ≡ false
    → verdict_over tree bytes ≡ Err (Refused Limit)
past_limit_over tree bytes d is bare past = rw (is, bare, past) refl

pub guest_over : (tree : Tree) (bytes : List ℕ) (d : Draft) → read_plan bytes ≡ Ok (drafted d)
    → has_no_tree (drafted d) ≡ true → is_within_limits (planned (map data_of_node tree.nodes) tree.limits d.session) ≡ true
    → has_no_guest (planned [] default_limits d.session) ≡ false → verdict_over tree bytes ≡ Err Guest
guest_over tree bytes d is bare within guest = rw (is, bare, within, guest) refl

pub taken_over : (tree : Tree) (bytes : List ℕ) (d : Draft) → read_plan bytes ≡ Ok (drafted d)
    → has_no_tree (drafted d) ≡ true → is_within_limits (planned (map data_of_node tree.nodes) tree.limits d.session) ≡ true
    → has_no_guest (planned [] default_limits d.session) ≡ true
    → verdict_over tree bytes ≡ Ok (planned (map data_of_node tree.nodes) tree.limits d.session)
taken_over tree bytes d is bare within alone = rw (is, bare, within, alone) refl

-- ---- on nodes that are given

pub no_tree_of : {T : Type 0} (seen : T → MemState) (limits : Limits) (nodes : List NodeData) (bytes : List ℕ)
    (error : TreeError) → IsTreeCause limits nodes error → StartsOn seen limits nodes bytes (Err (tree_start_error error))
no_tree_of seen limits nodes bytes (trees.Invalid n) cause = cause
no_tree_of seen limits nodes bytes trees.Memory cause = tt

-- no step has worked on a tree of nodes
pub unworked : (tree : Tree) (nodes : List NodeData) (limits : Limits) → tree ≡ tree_of nodes limits
    → record tree { worked = empty } ≡ tree
unfolding tree_of
unworked tree nodes limits is = rw is refl

pub begun_on : {T : Type 0} (seen : T → MemState) (limits : Limits) (nodes : List NodeData) (bytes : List ℕ) (plan : Plan)
    (s : Sandbox T) → AreFit limits nodes → verdict_over (tree_of nodes limits) bytes ≡ Ok plan
    → IsBegunBy seen (tree_of nodes limits) plan s → StartsOn seen limits nodes bytes (Ok s)
unfolding tree_of
begun_on seen limits nodes bytes plan s fit is begun = (fit, (plan, is, begun))

-- ---- its directories

directory_of_given : (content : Content) → is_dir_content (data_of_content content) ≡ true → is_directory content ≡ true
directory_of_given (File bytes links) is = absurd (cc)
directory_of_given (Directory names gone) is = refl
directory_of_given (Link text links) is = absurd (cc)

directory_at : (nodes : List Node) (n : ℕ) → is_directory_data (slice_get (map data_of_node nodes) n) ≡ true
    → is_directory (slice_index_or nodes n stray).content ≡ true
directory_at [] n is = absurd (cc)
directory_at (node ∷ nodes) zero is = directory_of_given node.content is
directory_at (node ∷ nodes) (suc n) is = directory_at nodes n is

-- directories of the list that tells a tree are directories of the tree, also where no step has worked on it
directories_over : (tree : Tree) (preopens : List ScriptPreopen)
    → are_preopens_directories (map data_of_node tree.nodes) (map planned_preopen preopens) ≡ true
    → All (λ preopen. is_directory (node_at (record tree { worked = empty }) preopen.node).content ≡ true) preopens
unfolding node_at
directories_over tree preopens are k d within =
    directory_at tree.nodes (get_or preopens k d).node
    (passes_at (λ preopen. is_directory_data (slice_get (map data_of_node tree.nodes) (planned_preopen preopen).node)) preopens k d within
    (sym (list_all-map (λ (preopen : PlannedPreopen). is_directory_data (slice_get (map data_of_node tree.nodes) preopen.node))
    planned_preopen preopens) ∙ are))

-- so what is within the limits over a tree can begin on it
pub begins_over : (tree : Tree) (session : Session)
    → is_within_limits (planned (map data_of_node tree.nodes) tree.limits session) ≡ true
    → IsWithinOn (record tree { worked = empty }) session
begins_over tree session within =
    let kept = limits_kept (planned (map data_of_node tree.nodes) tree.limits session) within in
    record {
      directories = directories_over tree session.preopens.items kept.preopens;
      table = omega (arith, kept.table, length-map session.preopens.items planned_preopen);
      pieces = kept.pieces;
    }

-- whether a number is a directory's is told by the node that the tree lends
pub lent_directory : (tree : Tree) (n : ℕ) (view : NodeView) → n < next_of tree → Views (node_at tree n) view
    → is_dir_content (viewed_content (maps.entries (names_of (node_at tree n).content)) view.content)
    ≡ is_directory_data (slice_get (map data_of_node tree.nodes) n)
unfolding node_at
lent_directory tree n view within shows =
    ap (λ (g : NodeData). is_dir_content g.content) shows.node_data ∙ ap is_directory_data (sym (told_at tree n within))

pub another_kind : (names : List (List ℕ × ℕ)) (content : ContentView) → (content ≡ views.Dir → ⊥)
    → false ≡ is_dir_content (viewed_content names content)
another_kind names (views.File bytes) other = refl
another_kind names views.Dir other = absurd (other refl)
another_kind names (views.Link text) other = refl

pub no_directory : (tree : Tree) (n : ℕ) → next_of tree ≤ n
    → false ≡ is_directory_data (slice_get (map data_of_node tree.nodes) n)
no_directory tree n past = ap is_directory_data (sym (none_told tree n past))
