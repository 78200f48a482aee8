-- Lemmas on names that are dropped.
use Rattle.std.proofs.Common.{◌≡◌, ℕ, Bool, true, false, not, nat_eq, List, [], ◌∷◌, Some, None, refl, sym, ap, ◌∙◌, arith}
use Rattle.std.proofs.lemmas.Bool.{ne_eqb, eqb-true}
use Rattle.std.specs.FinMap.{get, empty_of_len}
use Rattle.wasi_host.specs.Tree.{Tree, Content, File, Directory, Link, node_at, child, names_of, is_directory}
use Rattle.wasi_host.specs.HostCall.{UnlinkAt, RemoveDirAt}
use Rattle.wasi_host.specs.Refusal.{refusal, first_rule, dropping_rules, unlinking_rule, removing_rules, is_bare}
use Rattle.wasi_host.specs.Step.{without_entry, entry_changed, one_name_less, made_gone, name_lost, name_dropped, dropped_step, unlink_step, remove_step}
use Rattle.wasi_host.specs.declared.errors.ErrorCode.{ErrorCode}
use Rattle.wasi_host.specs.declared.errors.ErrorCode.TheVariants as codes
use Rattle.wasi_host.proofs.Refusals.{refused_before, left_behind}
use Rattle.wasi_tree.proofs.NameLemmas.{get-no_names}
use Rattle.wasi_tree.proofs.StoreLemmas.{child_is}

-- ---- the rules of a name that is to be dropped

pub unlink_refused : (t : Tree) (d : ℕ) (name : List ℕ) {code : ErrorCode}
    → first_rule (dropping_rules t d name codes.IsDirectory) ≡ Some code → refusal t (UnlinkAt d name) ≡ Some code
unfolding refusal
unlink_refused t d name is =
    refused_before (dropping_rules t d name codes.IsDirectory) (unlinking_rule t (child t d name)) is

pub remove_refused : (t : Tree) (d : ℕ) (name : List ℕ) {code : ErrorCode}
    → first_rule (dropping_rules t d name codes.Invalid) ≡ Some code → refusal t (RemoveDirAt d name) ≡ Some code
unfolding refusal
remove_refused t d name is =
    refused_before (dropping_rules t d name codes.Invalid) (removing_rules t (child t d name)) is

-- none of them holds, and the name holds a node
pub record MayDrop (t : Tree) (d : ℕ) (name : List ℕ) (dot : ErrorCode) (n : ℕ) : Type 0 where
  pub free : first_rule (dropping_rules t d name dot) ≡ None
  pub found : child t d name ≡ Some n

module _ {t : Tree} {d n : ℕ} {name : List ℕ} {dot : ErrorCode} (may : MayDrop t d name dot n) where
  pub drops_in_directory : is_directory (node_at t d).content ≡ true
  drops_in_directory = let free = may.free in grind (arith)

  named : get (names_of (node_at t d).content) name ≡ Some n
  named = let free = may.free in sym (child_is t d name (grind (arith))) ∙ may.found

  pub drops_bare : is_bare (node_at t n) ≡ true → nat_eq n d ≡ false
  drops_bare bare = ne_eqb n d (λ same.
      let none = eqb-true _ 0 (ap (λ k. is_bare (node_at t k)) (sym same) ∙ bare) in
      let gone : get (names_of (node_at t d).content) name ≡ None =
      ap (λ m. get m name) (empty_of_len (names_of (node_at t d).content) none) ∙ get-no_names name in
      let there = named in
      absurd (cc))

  dropped_as : (f g : Content → Content) → f (node_at t n).content ≡ g (node_at t n).content
      → name_dropped t d name f n ≡ dropped_step t d name g (child t d name)
  dropped_as f g same =
      ap (λ (content : Content). entry_changed t d (without_entry name) n (λ _. content)) same
      ∙ ap (dropped_step t d name g) (sym may.found)

-- ---- the calls

-- by what the node is
pub unlink_by : {t : Tree} {d n : ℕ} {name : List ℕ} (directory : Bool) → MayDrop t d name codes.IsDirectory n
    → is_directory (node_at t n).content ≡ directory
    → refusal t (UnlinkAt d name) ≡ first_rule ((directory, codes.IsDirectory) ∷ [])
unfolding refusal
unlink_by {t} {d} {n} {name} directory may is =
    left_behind (dropping_rules t d name codes.IsDirectory) (unlinking_rule t (child t d name)) may.free
    ∙ ap (λ found. first_rule (unlinking_rule t found)) may.found
    ∙ ap (λ b. first_rule ((b, codes.IsDirectory) ∷ [])) is

pub remove_by : {t : Tree} {d n : ℕ} {name : List ℕ} (directory bare : Bool) → MayDrop t d name codes.Invalid n
    → is_directory (node_at t n).content ≡ directory → is_bare (node_at t n) ≡ bare
    → refusal t (RemoveDirAt d name)
    ≡ first_rule ((not directory, codes.NotDirectory) ∷ (not bare, codes.NotEmpty) ∷ [])
unfolding refusal
remove_by {t} {d} {n} {name} directory bare may is empty =
    left_behind (dropping_rules t d name codes.Invalid) (removing_rules t (child t d name)) may.free
    ∙ ap (λ found. first_rule (removing_rules t found)) may.found
    ∙ (λ i. first_rule ((not (is i), codes.NotDirectory) ∷ (not (empty i), codes.NotEmpty) ∷ []))

lost_file : (content : Content) → is_directory content ≡ false → name_lost content ≡ one_name_less content
lost_file (File bytes links) is = refl
lost_file (Directory names gone) is = absurd (cc)
lost_file (Link text links) is = refl

lost_directory : (content : Content) → is_directory content ≡ true → name_lost content ≡ made_gone content
lost_directory (File bytes links) is = absurd (cc)
lost_directory (Directory names gone) is = refl
lost_directory (Link text links) is = absurd (cc)

pub unlinks : {t : Tree} {d n : ℕ} {name : List ℕ} {dot : ErrorCode} → MayDrop t d name dot n
    → is_directory (node_at t n).content ≡ false → name_dropped t d name name_lost n ≡ unlink_step t d name
unfolding unlink_step
unlinks {t} {n = n} may is = dropped_as may name_lost one_name_less (lost_file (node_at t n).content is)

pub removes : {t : Tree} {d n : ℕ} {name : List ℕ} {dot : ErrorCode} → MayDrop t d name dot n
    → is_directory (node_at t n).content ≡ true → name_dropped t d name name_lost n ≡ remove_step t d name
unfolding remove_step
removes {t} {n = n} may is = dropped_as may name_lost made_gone (lost_directory (node_at t n).content is)
