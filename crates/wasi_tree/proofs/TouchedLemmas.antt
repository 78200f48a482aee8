-- Lemmas on a tree with its touched nodes.
use Rattle.std.proofs.Common.{◌≡◌, ◌<◌, ℕ, Bool, true, false, cond, List, [], ◌∷◌, ◌++◌, Option, Some, None, Ok, refl, sym, ap, ◌∙◌, arith}
use Rattle.std.specs.Prelude.{is_none, option_to_list}
use Rattle.std.specs.FinSet.{insert}
use Rattle.wasi_host.specs.Options.{Options, is_path_only}
use Rattle.wasi_host.specs.Tree.{Tree, Nodes, Content, File, Directory, Link, node_at, next_of, child, is_file, is_directory, is_link}
use Rattle.wasi_host.specs.HostCall.{OpenAt, Stat, SetTimes}
use Rattle.wasi_host.specs.Refusal.{refusal, can_write}
use Rattle.wasi_host.specs.Step.{new_file, is_cut, file_cut, file_made, opened_step, open_step, found_under, with_nodes, times_set}
use Rattle.wasi_host.specs.Answer.{access_of, unless, reached, or_next, metadata_of}
use Rattle.wasi_host.specs.HostLaws.{IsHeld}
use Rattle.wasi_host.specs.declared.open_handle.AccessMode.TheVariants.{Read, Write, ReadWrite, PathOnly}
use Rattle.wasi_host.specs.declared.open_handle.OpenHandle.{OpenHandle}
use Rattle.wasi_host.specs.declared.metadata.Metadata.{Metadata}
use Rattle.wasi_host.specs.declared.system_time.SystemTime.{SystemTime}
use Rattle.wasi_host.proofs.Changes.{node_at-made, next_of-made, directory_within}
use Rattle.wasi_host.proofs.ValidSteps.{can_open}
use Rattle.wasi_tree.specs.Sound.{NodesStay}
use Rattle.wasi_tree.proofs.LinkLemmas.{with_nodes-append}
use Rattle.wasi_tree.specs.TouchedTree.{Touched, AnsweredByRules}

-- what is held stays held
pub held_stays : {t u : Tree} {held : OpenHandle} → NodesStay t u → IsHeld t held → IsHeld u held
held_stays {held = held} stays is = record {
  within = omega (arith, is.within, stays.next);
  writes_file = λ writes. stays.files held.node is.within ∙ is.writes_file writes;
}

-- ---- an open that no rule refuses

pub record IsFree (t : Tree) (d : ℕ) (name : List ℕ) (o : Options) : Type 0 where
  pub none : refusal t (OpenAt d name o) ≡ None

only_file : (content : Content) → is_link content ≡ false → is_directory content ≡ false → is_file content ≡ true
only_file (File bytes links) no_link no_directory = refl
only_file (Directory names gone) no_link no_directory = absurd (cc)
only_file (Link text links) no_link no_directory = absurd (cc)

asks_write : (path write read : Bool)
    → can_write (cond path PathOnly (cond write (cond read ReadWrite Write) Read)) ≡ true → write ≡ true
asks_write true write read is = absurd (cc)
asks_write false true read is = refl
asks_write false false read is = absurd (cc)

no_link : (t : Tree) (d n : ℕ) (name : List ℕ) (o : Options) → refusal t (OpenAt d name o) ≡ None
    → child t d name ≡ Some n → is_link (node_at t n).content ≡ false
unfolding refusal
no_link t d n name o none found = grind arith

no_directory : (t : Tree) (d n : ℕ) (name : List ℕ) (o : Options) → refusal t (OpenAt d name o) ≡ None
    → child t d name ≡ Some n → o.write ≡ true → is_directory (node_at t n).content ≡ false
unfolding refusal
no_directory t d n name o none found writes = grind arith

module _ {t : Tree} {d : ℕ} {name : List ℕ} {o : Options} (free : IsFree t d name o) where
  pub free_directory : is_directory (node_at t d).content ≡ true
  free_directory = (can_open t d name o free.none).directory

  pub found_held : (n : ℕ) → child t d name ≡ Some n → n < next_of t
      → IsHeld t (record { node = n; mode = access_of o })
  found_held n found within = record {
    within = within;
    writes_file = λ writes.
        only_file (node_at t n).content (no_link t d n name o free.none found)
        (no_directory t d n name o free.none found (asks_write (is_path_only o) o.write o.read writes));
  }

  -- a file is made, and its handle may write it
  pub made_held : IsHeld (file_made t d name) (record { node = next_of t; mode = access_of o })
  made_held =
      let within : d < next_of t = directory_within t d free_directory in
      let next = next_of-made t d name new_file within in
      record {
        within = omega (arith, next);
        writes_file = λ writes. ap (λ node. is_file node.content) (node_at-made t d name new_file within);
      }

-- what the handle of an open stands for, by the node that the name holds
handle_of : Tree → Options → Option ℕ → OpenHandle
handle_of t o found = record { node = or_next found (next_of t); mode = access_of o }

-- the nodes that an open comes to or makes, by the node that the name holds
comes_to : Tree → ℕ → Option ℕ → List ℕ
comes_to t d found = (d ∷ option_to_list found) ++ cond (is_none found) (next_of t ∷ []) []

module _ {s u : Touched} {d : ℕ} {name : List ℕ} {o : Options} (free : IsFree s.tree d name o) where
  opens : (found : Option ℕ) → child s.tree d name ≡ found → u.tree ≡ opened_step s.tree d name o found
      → u.touched ≡ with_nodes s.touched (comes_to s.tree d found)
      → AnsweredByRules s u (OpenAt d name o) (handle_of s.tree o found)
  unfolding reached open_step handle_of comes_to
  opens found is tree touched = record {
    meant =
        ap (λ r. unless r (handle_of s.tree o (child s.tree d name))) free.none
        ∙ ap (λ f. Ok (handle_of s.tree o f)) is;
    tree = tree ∙ ap (opened_step s.tree d name o) (sym is);
    touched = touched ∙ ap (λ f. with_nodes s.touched (comes_to s.tree d f)) (sym is);
  }

  pub opens_found : (n : ℕ) → child s.tree d name ≡ Some n
      → u.tree ≡ cond (is_cut o (node_at s.tree n).content) (file_cut s.tree n) s.tree
      → u.touched ≡ with_nodes s.touched (d ∷ n ∷ [])
      → AnsweredByRules s u (OpenAt d name o) (record { node = n; mode = access_of o })
  unfolding handle_of comes_to
  opens_found n is tree touched = opens (Some n) is tree touched

  pub opens_made : child s.tree d name ≡ None → u.tree ≡ file_made s.tree d name
      → u.touched ≡ with_nodes s.touched (d ∷ next_of s.tree ∷ [])
      → AnsweredByRules s u (OpenAt d name o) (record { node = next_of s.tree; mode = access_of o })
  unfolding handle_of comes_to
  opens_made is tree touched = opens None is tree touched

-- nothing, where it is never something
pub none_of : {A : Type 0} (o : Option A) → ((x : A) → o ≡ Some x → ⊥) → o ≡ None
none_of None never = refl
none_of (Some x) never = absurd (never x refl)

-- ---- a look at a node

pub stats : (s u : Touched) (n : ℕ) (metadata : Metadata) → metadata ≡ metadata_of s.tree n → u.tree ≡ s.tree
    → u.touched ≡ insert s.touched n → AnsweredByRules s u (Stat n) metadata
unfolding refusal
stats s u n metadata is tree touched = record { meant = ap Ok (sym is); tree = tree; touched = touched }

pub sets_times : (s u : Touched) (n : ℕ) (atime mtime : Option SystemTime) → u.tree ≡ times_set s.tree n atime mtime
    → u.touched ≡ insert s.touched n → AnsweredByRules s u (SetTimes n atime mtime) tt
unfolding refusal
sets_times s u n atime mtime tree touched = record { meant = refl; tree = tree; touched = touched }

-- ---- a new node

-- what a name comes to is touched, and then the node that is made
pub made_touched : {marked now : Nodes} (before : Nodes) (t : Tree) (d : ℕ) (name : List ℕ)
    → marked ≡ with_nodes before (found_under t d name) → now ≡ insert marked (next_of t)
    → now ≡ with_nodes before (found_under t d name ++ next_of t ∷ [])
made_touched before t d name first last =
    last ∙ ap (λ nodes. insert nodes (next_of t)) first
    ∙ sym (with_nodes-append before (found_under t d name) (next_of t ∷ []))

pub ruleset touched_rules = (stats, sets_times)
