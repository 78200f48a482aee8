-- What a step keeps of a tree and of its noted parents.
use Rattle.std.proofs.Common.{◌≡◌, ◌<◌, ◌+◌, ℕ, true, false, List, [], ◌∷◌, ◌++◌, slice_set, Option, Some, None, refl, sym, ap, ◌∙◌, subst, arith}
use Rattle.std.proofs.lemmas.Bool.{eqb-false}
use Rattle.std.specs.FinSet.{insert}
use Rattle.wasi_paths.specs.Text.{is_entry_name}
use Rattle.wasi_host.specs.Tree.{Tree, Node, Nodes, Content, File, Directory, Link, node_at, next_of, is_directory, is_file}
use Rattle.wasi_host.specs.Step.{with_content, with_entry, without_entry, content_changed, node_made, name_added, name_dropped, name_lost, name_moved_onto, one_name_more}
use Rattle.wasi_host.proofs.Changes.{changed, changed_apart, directory_within, next_of-changed, next_of-made}
use Rattle.wasi_tree.specs.Move.{HasName, IsMove, MayGain, MayName, found_lost}
use Rattle.wasi_tree.specs.ParentOf.{IsKept, without_parent}
use Rattle.wasi_tree.specs.Sound.{IsSound, IsSoundNode, NodesStay}
use Rattle.wasi_tree.proofs.KeptLemmas.{IsGrown, kept_same, kept_grown, kept_linked, kept_dropped, names_seen}
use Rattle.wasi_tree.proofs.MoveLemmas.{moved_as, put_from}
use Rattle.wasi_tree.proofs.RenameKept.{kept_moved}
use Rattle.wasi_tree.proofs.SoundLemmas.{seen, seen-name_lost, seen-one_name_more, sound_put, sound_changed, sound_named, sound_taken, sound_made, stays_changed, stays_seen, stays_made, no_file, no_names}

-- each node is sound, and the parents are the tree's
pub record Fits (t : Tree) (parents : List (Option ℕ)) : Type 0 where
  pub sound : IsSound t (next_of t)
  pub kept : IsKept t (next_of t) parents

-- the same of the tree after a step, and its nodes stay
pub record Keeps (t u : Tree) (parents : List (Option ℕ)) : Type 0 where
  pub fits : Fits u parents
  pub stays : NodesStay t u

stays_then : {t u v : Tree} → NodesStay t u → NodesStay u v → NodesStay t v
stays_then first later = record {
  next = omega (arith, first.next, later.next);
  files = λ n within. later.files n (omega (arith, within, first.next)) ∙ first.files n within;
}

-- sound nodes, as many as before
sound_on : {u : Tree} {count : ℕ} → next_of u ≡ count → IsSound u count → IsSound u (next_of u)
sound_on {u = u} next sound = subst (IsSound u) (sym next) sound

-- a node is another one with the same names and kind
pub keeps_seen : {t : Tree} {parents : List (Option ℕ)} (n : ℕ) (node : Node) (worked : Nodes) → n < next_of t
    → seen node.content ≡ seen (node_at t n).content → Fits t parents → Keeps t (changed t n node worked) parents
keeps_seen {t} n node worked within same fits =
    let next = next_of-changed t n node worked in
    record {
      fits = record {
        sound = sound_on next (sound_changed t (next_of t) n node worked fits.sound within same);
        kept = kept_same fits.kept next (names_seen t n node worked within same);
      };
      stays = stays_seen t n node worked within same;
    }

pub keeps_content : {t : Tree} {parents : List (Option ℕ)} (f : Content → Content)
    → ((c : Content) → seen (f c) ≡ seen c) → (n : ℕ) → n < next_of t → Fits t parents
    → Keeps t (content_changed t n f) parents
keeps_content {t} f same n within fits =
    keeps_seen n (with_content (node_at t n) f) (content_changed t n f).worked within (same (node_at t n).content) fits

-- ---- a name more, or less, in a directory

module _ {t : Tree} (sound : IsSound t (next_of t)) (d : ℕ) (directory : is_directory (node_at t d).content ≡ true) where
  within : d < next_of t
  within = directory_within t d directory

  pub sound_put_name : (name : List ℕ) (v : ℕ) → is_entry_name name ≡ true → v < next_of t
      → IsSound (content_changed t d (with_entry name v)) (next_of t)
  sound_put_name name v good there =
      sound_put t (next_of t) d (with_content (node_at t d) (with_entry name v)) (insert t.worked d) sound within
      (sound_named (next_of t) (next_of t) (node_at t d) name v (omega arith) there good (sound.nodes d))

  pub sound_take_name : (name : List ℕ) → IsSound (content_changed t d (without_entry name)) (next_of t)
  sound_take_name name =
      sound_put t (next_of t) d (with_content (node_at t d) (without_entry name)) (insert t.worked d) sound within
      (sound_taken (next_of t) (node_at t d) name (sound.nodes d))

  stays_named : (names : Content → Content) → is_file (names (node_at t d).content) ≡ false
      → NodesStay t (content_changed t d names)
  stays_named names other = stays_changed t d (with_content (node_at t d) names) (insert t.worked d) within
      (other ∙ sym (no_file (node_at t d).content directory))

  pub stays_put_name : (name : List ℕ) (v : ℕ) → NodesStay t (content_changed t d (with_entry name v))
  stays_put_name name v = stays_named (with_entry name v) (no_file_named (node_at t d).content directory)
    where
      no_file_named : (c : Content) → is_directory c ≡ true → is_file (with_entry name v c) ≡ false
      no_file_named (File bytes links) is = absurd (cc)
      no_file_named (Directory names gone) is = refl
      no_file_named (Link text links) is = absurd (cc)

  pub stays_take_name : (name : List ℕ) → NodesStay t (content_changed t d (without_entry name))
  stays_take_name name = stays_named (without_entry name) (no_file_named (node_at t d).content directory)
    where
      no_file_named : (c : Content) → is_directory c ≡ true → is_file (without_entry name c) ≡ false
      no_file_named (File bytes links) is = absurd (cc)
      no_file_named (Directory names gone) is = refl
      no_file_named (Link text links) is = absurd (cc)

-- ---- the steps

-- another content with the same names and kind
module _ {t : Tree} (f : Content → Content) (same : (c : Content) → seen (f c) ≡ seen c) (n : ℕ) (inside : n < next_of t) where
  sound_content : IsSound t (next_of t) → IsSound (content_changed t n f) (next_of t)
  sound_content sound =
      sound_changed t (next_of t) n (with_content (node_at t n) f) (content_changed t n f).worked sound inside
      (same (node_at t n).content)

  stays_content : NodesStay t (content_changed t n f)
  stays_content = stays_seen t n (with_content (node_at t n) f) (content_changed t n f).worked inside (same (node_at t n).content)

next_content : (t : Tree) (n : ℕ) (f : Content → Content) → next_of (content_changed t n f) ≡ next_of t
next_content t n f = next_of-changed t n (with_content (node_at t n) f) (content_changed t n f).worked

-- a file or link gets a name more
pub keeps_linked : {t : Tree} {d n : ℕ} {name : List ℕ} {parents : List (Option ℕ)} → MayGain t d name n
    → Fits t parents → Keeps t (name_added t d name n) parents
keeps_linked {t} {d} {n} {name} {parents} gains fits =
    let directory = gains.may.directory in
    let half : Tree = content_changed t d (with_entry name n) in
    let halved : next_of half ≡ next_of t = next_content t d (with_entry name n) in
    let inside : n < next_of half = omega (arith, gains.within, halved) in
    let whole : content_changed half n one_name_more ≡ name_added t d name n =
    changed_apart t d n (with_entry name n) one_name_more (directory_within t d directory) (eqb-false n d gains.apart) in
    let count : next_of (name_added t d name n) ≡ next_of t =
    sym (ap next_of whole) ∙ next_content half n one_name_more ∙ halved in
    record {
      fits = record {
        sound = subst (λ u. IsSound u (next_of u)) whole
            (sound_on (next_content half n one_name_more)
            (sound_content one_name_more seen-one_name_more n inside
            (sound_on halved (sound_put_name fits.sound d directory name n gains.may.good gains.within))));
        kept = kept_linked gains refl fits.kept count count;
      };
      stays = subst (NodesStay t) whole
          (stays_then (stays_put_name fits.sound d directory name n) (stays_content one_name_more seen-one_name_more n inside));
    }

-- a name goes, and what held it has one fewer
pub keeps_dropped : {t : Tree} {d n : ℕ} {name : List ℕ} {parents : List (Option ℕ)} → HasName t d name n
    → Fits t parents → Keeps t (name_dropped t d name name_lost n) (slice_set parents n None)
keeps_dropped {t} {d} {n} {name} {parents} has fits =
    let directory = has.directory in
    let half : Tree = content_changed t d (without_entry name) in
    let halved : next_of half ≡ next_of t = next_content t d (without_entry name) in
    let inside : n < next_of half = omega (arith, has.within, halved) in
    let whole : content_changed half n name_lost ≡ name_dropped t d name name_lost n =
    changed_apart t d n (without_entry name) name_lost (directory_within t d directory) (eqb-false n d has.apart) in
    let count : next_of (name_dropped t d name name_lost n) ≡ next_of t =
    sym (ap next_of whole) ∙ next_content half n name_lost ∙ halved in
    record {
      fits = record {
        sound = subst (λ u. IsSound u (next_of u)) whole
            (sound_on (next_content half n name_lost)
            (sound_content name_lost seen-name_lost n inside
            (sound_on halved (sound_take_name fits.sound d directory name))));
        kept = kept_dropped has refl fits.kept count count refl;
      };
      stays = subst (NodesStay t) whole
          (stays_then (stays_take_name fits.sound d directory name) (stays_content name_lost seen-name_lost n inside));
    }

-- a node is made
pub keeps_made : {t : Tree} {d : ℕ} {name : List ℕ} {node : Node} {parents : List (Option ℕ)} → MayName t d name
    → IsSoundNode 0 node → Fits t parents → Keeps t (node_made t d name node) (parents ++ Some d ∷ [])
keeps_made {t} {d} {name} {node} may bears fits =
    let more : next_of (node_made t d name node) ≡ next_of t + 1 =
    next_of-made t d name node (directory_within t d may.directory) in
    let grown : IsGrown t (node_made t d name node) d name node =
    record { may = may; bare = no_names node bears; made = refl } in
    record {
      fits = record {
        sound = subst (IsSound (node_made t d name node)) (sym more)
            (sound_made t d name node may.directory may.good (next_of t) fits.sound bears);
        kept = kept_grown grown fits.kept more refl;
      };
      stays = stays_made t d name node may.directory;
    }

-- what a name held, if it held something, has one fewer
record Loses (u : Tree) (there : Option ℕ) : Type 0 where
  sound : IsSound (found_lost u there) (next_of (found_lost u there))
  stays : NodesStay u (found_lost u there)
  next : next_of (found_lost u there) ≡ next_of u

-- a name moves, and what held the new one loses it
pub keeps_moved : {t : Tree} {old new n : ℕ} {old_name new_name : List ℕ} {there : Option ℕ} {parents : List (Option ℕ)}
    → IsMove t old old_name new new_name n there → Fits t parents
    → Keeps t (name_moved_onto t old old_name new new_name n there) (slice_set (without_parent parents there) n (Some new))
keeps_moved {t} {old} {new} {n} {old_name} {new_name} {there} {parents} is fits =
    let half : Tree = content_changed t new (with_entry new_name n) in
    let halved : next_of half ≡ next_of t = next_content t new (with_entry new_name n) in
    let first : IsSound half (next_of half) =
    sound_on halved (sound_put_name fits.sound new is.to new_name n is.good is.within) in
    let lost = loses half there (λ m here. omega (arith, (is.lost m here).0, halved)) first in
    let directory : is_directory (node_at (found_lost half there) old).content ≡ true = put_from _ _ _ _ _ _ there is in
    let whole : content_changed (found_lost half there) old (without_entry old_name)
    ≡ name_moved_onto t old old_name new new_name n there =
    moved_as _ _ _ _ _ _ there is in
    let count : next_of (name_moved_onto t old old_name new new_name n there) ≡ next_of t =
    sym (ap next_of whole) ∙ next_content (found_lost half there) old (without_entry old_name) ∙ lost.next ∙ halved in
    record {
      fits = record {
        sound = subst (λ u. IsSound u (next_of u)) whole
            (sound_on (next_content (found_lost half there) old (without_entry old_name))
            (sound_take_name lost.sound old directory old_name));
        kept = kept_moved is refl fits.kept count count refl;
      };
      stays = subst (NodesStay t) whole
          (stays_then (stays_put_name fits.sound new is.to new_name n)
          (stays_then lost.stays (stays_take_name lost.sound old directory old_name)));
    }
  where
    loses : (u : Tree) (there : Option ℕ) → ((m : ℕ) → there ≡ Some m → m < next_of u) → IsSound u (next_of u) → Loses u there
    loses u None inside sound = record { sound = sound; stays = record { next = omega arith; files = λ n h. refl }; next = refl }
    loses u (Some m) inside sound = record {
      sound = sound_on (next_content u m name_lost) (sound_content name_lost seen-name_lost m (inside m refl) sound);
      stays = stays_content name_lost seen-name_lost m (inside m refl);
      next = next_content u m name_lost;
    }
