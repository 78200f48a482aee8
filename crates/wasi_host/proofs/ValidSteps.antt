-- The step of a call that isn't refused keeps a valid tree valid.
use Rattle.std.proofs.Common.{◌≡◌, ◌≢◌, nat_eq, ◌⊎◌, ℕ, ◌+◌, ◌<◌, ◌≤◌, Bool, true, false, cond, List, [], ◌∷◌, ◌++◌, length, Option, Some, None, inl, inr, refl, sym, ap, ◌∙◌, subst, arith}
use Rattle.std.specs.Prelude.{IsTrue, is_some}
use Rattle.std.specs.FinMap as maps
use Rattle.std.specs.Str.{IsUtf8}
use Rattle.std.proofs.lemmas.Bool.{true≢false, cases_eq, cases_lt}
use Rattle.std.proofs.lemmas.List.{set_past}
use Rattle.std.proofs.lemmas.List.Sums.{sum_by-set}
use Rattle.wasi_paths.specs.Text.{is_dot_text, is_name_text, is_long, IsName}
use Rattle.wasi_host.specs.Tree.{Tree, Node, Nodes, Content, File, Directory, Link, node_at, next_of, names_of, bytes_of, is_file, is_directory, is_gone, links_of, stray, child, hold_one}
use Rattle.wasi_host.specs.Below.{is_below}
use Rattle.wasi_host.specs.ValidTree.{are_bytes, has_nul, is_entry_name, names_for, name_count, Reached, IsValidContent, IsValidTree}
use Rattle.wasi_host.specs.Options.{Options}
use Rattle.wasi_host.specs.HostCall.{HostCall, OpenAt, StatAt, ReadLinkAt, MakeDirAt, SymlinkAt, LinkAt, RenameAt, UnlinkAt, RemoveDirAt, TimesAt, Access, Stat, SetTimes, Pread, Pwrite, Append, SetSize, Sync, Advise, Flags, ListDir, Dup, Close, CanBeAsked}
use Rattle.wasi_host.specs.Refusal.{refusal, first_rule, is_too_large, directory_rule, name_rules, both_rules, growing_rules, making_rules, linking_rules, source_rules, naming_rules, loop_rules, moving_rules, renaming_rules, text_rules}
use Rattle.wasi_host.specs.Step.{with_nodes, directory_made, link_made, with_content, content_changed, other_bytes, with_size, size_set, is_cut, file_cut, opened_step, open_step, bytes_put, write_step, one_name_less, made_gone, dropped_step, unlink_step, remove_step, rename_step, moved_step, name_lost, name_moved, link_step, added_step, with_times, times_set, times_set_if, times_step, step, with_piece}
use Rattle.wasi_host.specs.declared.errors.ErrorCode.{ErrorCode}
use Rattle.wasi_host.specs.declared.errors.ErrorCode.TheVariants.{Exist}
use Rattle.wasi_host.specs.declared.open_handle.OpenHandle.{OpenHandle}
use Rattle.wasi_host.specs.declared.system_time.SystemTime.{SystemTime}
use Rattle.wasi_host.specs.Numbers.{largest_file, longest_link}
use Rattle.wasi_host.proofs.Changes as changes
use Rattle.wasi_host.proofs.Changes.{changed, next_of-changed, directory_within}
use Rattle.wasi_host.proofs.Pieces.{length-with_piece, are_bytes-with_piece, length-with_size, are_bytes-with_size}
use Rattle.wasi_host.proofs.EntryLemmas.{times, nat_eq-refl}
use Rattle.wasi_host.proofs.Carrying.{Carries, content_still, valid_still, reached_still, named_within}
use Rattle.wasi_host.proofs.Making.{Lacks, valid-file, valid-directory, valid-link}
use Rattle.wasi_host.proofs.Linking.{valid-added}
use Rattle.wasi_host.proofs.BelowLemmas.{is_below-Decides}
use Rattle.wasi_host.proofs.Moving.{valid-moved, valid-replaced}
use Rattle.wasi_host.proofs.Dropping.{Drops, valid-unlinked, valid-removed}
use Rattle.wasi_host.proofs.Refusals.{none_refuses}

-- ---- a file with other bytes

-- other bytes of a file, and all else as it was
pub record HasBytes (old new : Content) : Type 0 where
  pub names : names_of new ≡ names_of old
  pub file : is_file new ≡ is_file old
  pub directory : is_directory new ≡ is_directory old
  pub gone : is_gone new ≡ is_gone old

pub has_bytes : (change : List ℕ → List ℕ) (content : Content) → HasBytes content (other_bytes change content)
has_bytes change (File bytes links) = record { names = refl; file = refl; directory = refl; gone = refl }
has_bytes change (Directory names gone) = record { names = refl; file = refl; directory = refl; gone = refl }
has_bytes change (Link text links) = record { names = refl; file = refl; directory = refl; gone = refl }

-- a change that makes of a file's bytes a file's bytes
FitsFile : (List ℕ → List ℕ) → Type 0
FitsFile change = (bytes : List ℕ) → are_bytes bytes ≡ true → length bytes ≤ largest_file
    → (are_bytes (change bytes) ≡ true) × (length (change bytes) ≤ largest_file)

valid-bytes : (t : Tree) (n : ℕ) (content : Content) (change : List ℕ → List ℕ) → FitsFile change
    → IsValidContent t n content → IsValidContent t n (other_bytes change content)
unfolding FitsFile
valid-bytes t n (File bytes links) change fits v = let now = fits bytes v.0 v.1 in (now.0, now.1, v.2, v.3)
valid-bytes t n (Directory names gone) change fits v = v
valid-bytes t n (Link text links) change fits v = v

-- validity doesn't look at what was worked on
valid-worked : (t : Tree) (worked : Nodes) → IsValidTree t → IsValidTree (record t { worked = worked })
unfolding node_at
valid-worked t worked valid =
    let u : Tree = record t { worked = worked } in
    let carries : (k : ℕ) → Carries t u k = λ k. record {
      limits = refl;
      next = omega arith;
      count = refl;
      reached = reached_still t u (λ d m name is. is) k;
      directory = refl;
      gone = refl;
      emptied = λ gone. refl;
    } in
    valid_still t u (carries 0) valid valid.numbers (λ k h.
    content_still (carries k) (node_at t k).content (valid.nodes k h))

-- a node in place of one that has the same names
module _ (t : Tree) (n : ℕ) (other : Node) (worked : Nodes)
    (same : HasBytes (node_at t n).content other.content) where
  abbrev written : Tree
  written = changed t n other worked

  module _ (within : n < next_of t) where
    same_at : {B : Type 0} (f : Node → B) → f other ≡ f (node_at t n) → (k : ℕ)
        → f (node_at written k) ≡ f (node_at t k)
    same_at f is k = changes.node_at-same t n other worked within f is k

    names_of-written : (k : ℕ) → names_of (node_at written k).content ≡ names_of (node_at t k).content
    names_of-written k = same_at (λ node. names_of node.content) same.names k

    name_count-written : (k : ℕ) → name_count written k ≡ name_count t k
    unfolding node_at
    name_count-written k =
        let is : names_for k other ≡ names_for k (node_at t n) =
        ap (λ names. times k (maps.values names)) same.names in
        omega (arith, sum_by-set (names_for k) t.nodes n other stray within, is)

    carries-written : (k : ℕ) → Carries t written k
    carries-written k = record {
      limits = refl;
      next = omega (arith, next_of-changed t n other worked);
      count = name_count-written k;
      reached = reached_still t written (λ d m name is. ap (λ names. maps.get names name) (names_of-written d) ∙ is) k;
      directory = same_at (λ node. is_directory node.content) same.directory k;
      gone = same_at (λ node. is_gone node.content) same.gone k;
      emptied = λ gone. names_of-written k;
    }

    valid-within : IsValidTree t → IsValidContent t n other.content → IsValidTree written
    valid-within valid fits =
        let next : next_of written ≡ next_of t = next_of-changed t n other worked in
        valid_still t written (carries-written 0) valid (omega (arith, next, valid.numbers)) (λ k h.
        let before : k < next_of t = omega (arith, next, h) in
        elim (cases_eq k n) [
          | inl here ↦
              rw (here, changes.node_at-changed t n other worked within)
              (content_still (carries-written n) other.content fits)
          | inr apart ↦
              rw (changes.node_at-other t n other worked within k apart)
              (content_still (carries-written k) (node_at t k).content (valid.nodes k before))
        ])

  -- nothing changes at a number that is out of range
  valid-written : IsValidTree t → (n < next_of t → IsValidContent t n other.content) → IsValidTree written
  valid-written valid fits = elim (cases_lt n (next_of t)) [
    | inl within ↦ valid-within within valid (fits within)
    | inr past ↦
        subst (λ nodes. IsValidTree (record t { nodes = nodes; worked = worked })) (sym (set_past t.nodes n other past))
        (valid-worked t worked valid)
  ]

valid-rewritten : (t : Tree) (n : ℕ) (change : List ℕ → List ℕ) → FitsFile change → IsValidTree t
    → IsValidTree (content_changed t n (other_bytes change))
valid-rewritten t n change fits valid =
    let node : Node = node_at t n in
    valid-written t n (with_content node (other_bytes change)) (with_nodes t.worked (n ∷ []))
    (has_bytes change node.content) valid (λ within. valid-bytes t n node.content change fits (valid.nodes n within))

valid-sized : (t : Tree) (n size : ℕ) → size ≤ largest_file → IsValidTree t → IsValidTree (size_set t n size)
unfolding FitsFile
valid-sized t n size fits valid =
    valid-rewritten t n (with_size size)
    (λ bytes are short. (are_bytes-with_size size bytes are, omega (arith, length-with_size size bytes, fits))) valid

valid-put : (t : Tree) (n offset : ℕ) (piece : List ℕ) → IsTrue (are_bytes piece) → offset + length piece ≤ largest_file
    → IsValidTree t → IsValidTree (bytes_put t n offset piece)
unfolding FitsFile
valid-put t n offset piece are fits valid =
    valid-rewritten t n (λ bytes. with_piece bytes offset piece)
    (λ bytes old short. (
      are_bytes-with_piece bytes offset piece old are,
      omega (arith, length-with_piece bytes offset piece, short, fits),
    )) valid

valid-times : (t : Tree) (n : ℕ) (atime mtime : Option SystemTime) → IsValidTree t
    → IsValidTree (times_set t n atime mtime)
valid-times t n atime mtime valid =
    valid-written t n (with_times (node_at t n) atime mtime) (with_nodes t.worked (n ∷ []))
    (record { names = refl; file = refl; directory = refl; gone = refl }) valid (λ within. valid.nodes n within)

-- ---- what the rules leave

-- of a name that is to be looked up
pub record CanLook (t : Tree) (d : ℕ) (name : List ℕ) : Type 0 where
  pub directory : is_directory (node_at t d).content ≡ true
  pub no_nul : has_nul name ≡ false
  pub short : is_long name ≡ false

is_directory_rule : (t : Tree) (d : ℕ) → first_rule (directory_rule t d) ≡ None → is_directory (node_at t d).content ≡ true
is_directory_rule t d none = grind arith

can_look : (t : Tree) (d : ℕ) (name : List ℕ) → first_rule (directory_rule t d) ≡ None
    → first_rule (name_rules t d name) ≡ None → CanLook t d name
can_look t d name first none = record {
  directory = is_directory_rule t d first;
  no_nul = grind arith;
  short = grind arith;
}

-- of two names
can_look_both : (t : Tree) (old : ℕ) (old_name : List ℕ) (new : ℕ) (new_name : List ℕ)
    → first_rule (both_rules t old old_name new new_name) ≡ None
    → (is_directory (node_at t old).content ≡ true) × CanLook t new new_name
can_look_both t old old_name new new_name none =
    let names : List (Bool × ErrorCode) = name_rules t old old_name ++ name_rules t new new_name in
    let first = none_refuses (directory_rule t old) (directory_rule t new ++ names) none in
    let second = none_refuses (directory_rule t new) names first.1 in
    let third = none_refuses (name_rules t old old_name) (name_rules t new new_name) second.1 in
    (is_directory_rule t old first.0, can_look t new new_name second.0 third.1)

pub can_open : (t : Tree) (d : ℕ) (name : List ℕ) (o : Options) → refusal t (OpenAt d name o) ≡ None
    → CanLook t d name
unfolding refusal
can_open t d name o none = record { directory = grind arith; no_nul = grind arith; short = grind arith }

-- of a name that is to hold a new node
pub record CanMake (t : Tree) (d : ℕ) (name : List ℕ) : Type 0 where
  pub looks : CanLook t d name
  pub missing : child t d name ≡ None
  pub stays : is_gone (node_at t d).content ≡ false
  pub room : next_of t < t.limits.nodes

pub can_make_file : (t : Tree) (d : ℕ) (name : List ℕ) (o : Options) → refusal t (OpenAt d name o) ≡ None
    → child t d name ≡ None → CanMake t d name
unfolding refusal
can_make_file t d name o none missing = record {
  looks = can_open t d name o none;
  missing = missing;
  stays = grind arith;
  room = grind arith;
}

-- with these rules before those of the name
making : (t : Tree) (d : ℕ) (name : List ℕ) (before : List (Bool × ErrorCode))
    → first_rule (directory_rule t d ++ (before ++ making_rules t d name)) ≡ None
    → (first_rule before ≡ None) × CanMake t d name
making t d name before none =
    let made : List (Bool × ErrorCode) = (is_some (child t d name), Exist) ∷ growing_rules t d in
    let first = none_refuses (directory_rule t d) (before ++ making_rules t d name) none in
    let second = none_refuses before (making_rules t d name) first.1 in
    let third = none_refuses (name_rules t d name) made second.1 in
    let free = third.1 in (
      second.0,
      record {
        looks = can_look t d name first.0 third.0;
        missing = grind arith;
        stays = grind arith;
        room = grind arith;
      },
    )

pub can_make_directory : (t : Tree) (d : ℕ) (name : List ℕ) → refusal t (MakeDirAt d name) ≡ None → CanMake t d name
unfolding refusal
can_make_directory t d name none = (making t d name [] none).1

-- of the text of a link
text_fits : (text : List ℕ) → first_rule (text_rules text) ≡ None
    → (0 < length text) × (length text ≤ longest_link) × (has_nul text ≡ false)
text_fits [] none = absurd (cc)
text_fits (byte ∷ text) none = (omega arith, grind arith, grind arith)

pub can_make_link : (t : Tree) (d : ℕ) (name text : List ℕ) → refusal t (SymlinkAt text d name) ≡ None
    → CanMake t d name × ((0 < length text) × (length text ≤ longest_link) × (has_nul text ≡ false))
unfolding refusal
can_make_link t d name text none =
    let rows = making t d name (text_rules text) none in
    (rows.1, text_fits text rows.0)

-- of a name that is to go
pub can_unlink : (t : Tree) (d n : ℕ) (name : List ℕ) → refusal t (UnlinkAt d name) ≡ None → child t d name ≡ Some n
    → (is_directory (node_at t d).content ≡ true) × (is_dot_text name ≡ false)
    × (is_directory (node_at t n).content ≡ false)
unfolding refusal
can_unlink t d n name none found = (grind arith, grind arith, grind arith)

pub can_remove : (t : Tree) (d n : ℕ) (name : List ℕ) → refusal t (RemoveDirAt d name) ≡ None → child t d name ≡ Some n
    → (is_directory (node_at t d).content ≡ true) × (is_dot_text name ≡ false)
    × (is_directory (node_at t n).content ≡ true) × (maps.len (names_of (node_at t n).content) ≡ 0)
unfolding refusal
can_remove t d n name none found = (grind arith, grind arith, grind arith, grind arith)

-- of a name that is to be added to the node of another
pub record CanAdd (t : Tree) (old new n : ℕ) (new_name : List ℕ) : Type 0 where
  pub old_directory : is_directory (node_at t old).content ≡ true
  pub looks : CanLook t new new_name
  pub missing : child t new new_name ≡ None
  pub stays : is_gone (node_at t new).content ≡ false
  pub leaf : is_directory (node_at t n).content ≡ false
  pub room : links_of (node_at t n).content < t.limits.links

linking : (t : Tree) (new n : ℕ) (there : Option ℕ) → first_rule (linking_rules t new (Some n) there) ≡ None
    → (there ≡ None) × (is_gone (node_at t new).content ≡ false) × (is_directory (node_at t n).content ≡ false)
    × (links_of (node_at t n).content < t.limits.links)
linking t new n there none = (grind arith, grind arith, grind arith, grind arith)

pub can_add : (t : Tree) (old new n : ℕ) (old_name new_name : List ℕ) → refusal t (LinkAt old old_name new new_name) ≡ None
    → child t old old_name ≡ Some n → CanAdd t old new n new_name
unfolding refusal
can_add t old new n old_name new_name none found =
    let there : Option ℕ = child t new new_name in
    let parts = none_refuses (both_rules t old old_name new new_name) (linking_rules t new (child t old old_name) there) none in
    let both = can_look_both t old old_name new new_name parts.0 in
    let free = linking t new n there
    (subst (λ named. first_rule (linking_rules t new named there) ≡ None) found parts.1) in
    record {
      old_directory = both.0;
      looks = both.1;
      missing = free.0;
      stays = free.1;
      leaf = free.2;
      room = free.3;
    }

-- of two names, of which one is to come in place of the other
pub record CanRename (t : Tree) (old : ℕ) (old_name : List ℕ) (new : ℕ) (new_name : List ℕ) : Type 0 where
  pub old_directory : is_directory (node_at t old).content ≡ true
  pub looks : CanLook t new new_name
  pub old_plain : is_dot_text old_name ≡ false
  pub plain : is_dot_text new_name ≡ false

source : (t : Tree) (old_name new_name : List ℕ) (requires_dir : Bool) (found : Option ℕ)
    → first_rule (source_rules t old_name new_name requires_dir found) ≡ None
    → (is_dot_text old_name ≡ false) × (is_dot_text new_name ≡ false)
source t old_name new_name requires_dir found none = (grind arith, grind arith)

pub can_rename : (t : Tree) (old : ℕ) (old_name : List ℕ) (new : ℕ) (new_name : List ℕ) (requires_dir : Bool)
    → first_rule (naming_rules t old old_name new new_name requires_dir) ≡ None
    → CanRename t old old_name new new_name
can_rename t old old_name new new_name requires_dir none =
    let found : Option ℕ = child t old old_name in
    let parts = none_refuses (both_rules t old old_name new new_name)
    (source_rules t old_name new_name requires_dir found) none in
    let both = can_look_both t old old_name new new_name parts.0 in
    let plain = source t old_name new_name requires_dir found parts.1 in
    record { old_directory = both.0; looks = both.1; old_plain = plain.0; plain = plain.1 }

-- a node doesn't come below itself
pub not_below : (t : Tree) (old new n : ℕ) (there : Option ℕ) → first_rule (loop_rules t old new (Some n) there) ≡ None
    → is_below t n new ≡ false
not_below t old new n there none = grind arith

-- what it replaces has no names
pub replaces : (t : Tree) (old new n m : ℕ) → first_rule (moving_rules t old new (Some n) (Some m)) ≡ None
    → is_directory (node_at t m).content ≡ true → maps.len (names_of (node_at t m).content) ≡ 0
replaces t old new n m none directory = grind arith

gets_names : (t : Tree) (old new n : ℕ) (there : Option ℕ) → first_rule (moving_rules t old new (Some n) there) ≡ None
    → is_gone (node_at t new).content ≡ false
gets_names t old new n there none = grind arith

-- of a name that is to move
record MayMove (t : Tree) (old : ℕ) (old_name : List ℕ) (new : ℕ) (new_name : List ℕ) (n : ℕ) : Type 0 where
  pub names : CanRename t old old_name new new_name
  pub below : is_below t n new ≡ false
  pub stays : is_gone (node_at t new).content ≡ false
  pub bare : (m : ℕ) → child t new new_name ≡ Some m → is_directory (node_at t m).content ≡ true
      → maps.len (names_of (node_at t m).content) ≡ 0

may_move : (t : Tree) (old : ℕ) (old_name : List ℕ) (new : ℕ) (new_name : List ℕ) (requires_dir : Bool) (n : ℕ)
    → refusal t (RenameAt old old_name new new_name requires_dir) ≡ None → child t old old_name ≡ Some n
    → hold_one (child t old old_name) (child t new new_name) ≡ false → MayMove t old old_name new new_name n
unfolding refusal
may_move t old old_name new new_name requires_dir n none found two =
    let there : Option ℕ = child t new new_name in
    let moving : List (Bool × ErrorCode) = moving_rules t old new (Some n) there in
    let parts = none_refuses (naming_rules t old old_name new new_name requires_dir)
    (renaming_rules t old new (child t old old_name) there) none in
    let later : first_rule (renaming_rules t old new (Some n) there) ≡ None =
    subst (λ named. first_rule (renaming_rules t old new named there) ≡ None) found parts.1 in
    let free = none_refuses (loop_rules t old new (Some n) there) (cond (hold_one (Some n) there) [] moving) later in
    let moves : first_rule moving ≡ None =
    subst (λ b. first_rule (cond b [] moving) ≡ None) (ap (λ named. hold_one named there) (sym found) ∙ two) free.1 in
    record {
      names = can_rename t old old_name new new_name requires_dir parts.0;
      below = not_below t old new n there free.0;
      stays = gets_names t old new n there moves;
      bare = λ m holds. replaces t old new n m
          (subst (λ named. first_rule (moving_rules t old new (Some n) named) ≡ None) holds moves);
    }

-- ---- the names of the calls

pub is_named : (name : List ℕ) → is_dot_text name ≡ false → IsTrue (is_name_text name) → has_nul name ≡ false
    → is_long name ≡ false → is_entry_name name ≡ true
is_named name not_dot text no_nul short = grind arith

abbrev child_by : Bool → ℕ → Option ℕ → Option ℕ
child_by dot d there = cond dot (Some d) there

missing_by : (dot : Bool) (d : ℕ) (there : Option ℕ) → child_by dot d there ≡ None → (dot ≡ false) × (there ≡ None)
missing_by true d there is = absurd (cc)
missing_by false d there is = (refl, is)

found_by_name : (dot : Bool) (d n : ℕ) (there : Option ℕ) → child_by dot d there ≡ Some n → (d ≡ n) ⊎ (there ≡ Some n)
found_by_name true d n there is = inl (cc)
found_by_name false d n there is = inr is

-- a name that is missing isn't `.`, and its directory lacks it
pub missing_name : (t : Tree) (d : ℕ) (name : List ℕ) → child t d name ≡ None
    → (is_dot_text name ≡ false) × (maps.get (names_of (node_at t d).content) name ≡ None)
unfolding child
missing_name t d name is = missing_by (is_dot_text name) d (maps.get (names_of (node_at t d).content) name) is

bare_unless_directory : (content : Content) → is_directory content ≡ false → names_of content ≡ maps.empty
bare_unless_directory (File bytes links) is = refl
bare_unless_directory (Directory names gone) is = absurd (cc)
bare_unless_directory (Link text links) is = refl

-- a name that isn't `.`, and its directory has it
pub found_name : (t : Tree) (d n : ℕ) (name : List ℕ) → is_dot_text name ≡ false → child t d name ≡ Some n
    → maps.get (names_of (node_at t d).content) name ≡ Some n
unfolding child
found_name t d n name not_dot is =
    ap (λ b. child_by b d (maps.get (names_of (node_at t d).content) name)) (sym not_dot) ∙ is

-- a name that may be given
lacks_this : (t : Tree) (d : ℕ) (name : List ℕ) → IsName name → CanLook t d name → child t d name ≡ None
    → is_gone (node_at t d).content ≡ false → Lacks t d name
lacks_this t d name is looks missing stays =
    let lacks = missing_name t d name missing in
    record {
      directory = looks.directory;
      stays = stays;
      missing = lacks.1;
      good = is_named name lacks.0 is.name looks.no_nul looks.short;
      utf8 = is.utf8;
    }

lacks_name : (t : Tree) (d : ℕ) (name : List ℕ) → IsName name → CanMake t d name → Lacks t d name
lacks_name t d name is may = lacks_this t d name is may.looks may.missing may.stays

-- the node of a name is in the tree
pub child_within : (t : Tree) (d n : ℕ) (name : List ℕ) → IsValidTree t → is_directory (node_at t d).content ≡ true
    → child t d name ≡ Some n → n < next_of t
unfolding child
child_within t d n name valid directory is =
    elim (found_by_name (is_dot_text name) d n (maps.get (names_of (node_at t d).content) name) is) [
      | inl same ↦ subst (λ k. k < next_of t) same (directory_within t d directory)
      | inr found ↦ named_within t d valid directory name n found
    ]

-- ---- the calls

valid-opened : (t : Tree) (d : ℕ) (name : List ℕ) (o : Options) → IsValidTree t → IsName name
    → refusal t (OpenAt d name o) ≡ None
    → (found : Option ℕ) → child t d name ≡ found → IsValidTree (opened_step t d name o found)
valid-opened t d name o valid is none None missing =
    let may = can_make_file t d name o none missing in
    valid-file (lacks_name t d name is may) valid may.room
valid-opened t d name o valid is none (Some n) found =
    elim (is_cut o (node_at t n).content) as (λ b. IsValidTree (cond b (file_cut t n) t)) [
      | true ↦ valid-sized t n 0 (omega arith) valid
      | false ↦ valid
    ]

valid-dir_made : (t : Tree) (d : ℕ) (name : List ℕ) → IsValidTree t → IsName name
    → refusal t (MakeDirAt d name) ≡ None → IsValidTree (directory_made t d name)
valid-dir_made t d name valid is none =
    let may = can_make_directory t d name none in
    valid-directory (lacks_name t d name is may) valid may.room

valid-symlink : (t : Tree) (d : ℕ) (name text : List ℕ) → IsValidTree t → IsUtf8 text → IsName name
    → refusal t (SymlinkAt text d name) ≡ None → IsValidTree (link_made t d name text)
valid-symlink t d name text valid utf8 is none =
    let rows = can_make_link t d name text none in
    let may = rows.0 in
    let fits = rows.1 in
    valid-link (lacks_name t d name is may) valid may.room text fits.0 fits.1 utf8 fits.2

valid-link_at : (t : Tree) (old new : ℕ) (old_name new_name : List ℕ) → IsValidTree t → IsName new_name
    → refusal t (LinkAt old old_name new new_name) ≡ None
    → (found : Option ℕ) → child t old old_name ≡ found → IsValidTree (added_step t new new_name found)
valid-link_at t old new old_name new_name valid is none None missing = valid
valid-link_at t old new old_name new_name valid is none (Some n) found =
    let can = can_add t old new n old_name new_name none found in
    valid-added (lacks_this t new new_name is can.looks can.missing can.stays) valid
    (record {
      within = child_within t old n old_name valid can.old_directory found;
      leaf = can.leaf;
      room = can.room;
    })

-- what has no names of its own
bare_if : (content : Content) → (is_directory content ≡ true → maps.len (names_of content) ≡ 0)
    → names_of content ≡ maps.empty
bare_if (File bytes links) bare = refl
bare_if (Directory names gone) bare = maps.empty_of_len names (bare refl)
bare_if (Link text links) bare = refl

-- a name that is to be dropped
drops_name : (t : Tree) (d n : ℕ) (name : List ℕ) → is_directory (node_at t d).content ≡ true
    → is_dot_text name ≡ false → child t d name ≡ Some n → names_of (node_at t n).content ≡ maps.empty
    → Drops t d name n
drops_name t d n name directory plain found bare = record {
  directory = directory;
  named = found_name t d n name plain found;
  bare = bare;
}

-- two names that hold two nodes
two_nodes : (n m : ℕ) → nat_eq n m ≡ false → n ≢ m
two_nodes n m two same = true≢false (sym (ap (nat_eq n) (sym same) ∙ nat_eq-refl n) ∙ two)

module _ (t : Tree) (old : ℕ) (old_name : List ℕ) (new : ℕ) (new_name : List ℕ) (requires_dir : Bool)
    (valid : IsValidTree t) (is : IsName new_name)
    (none : refusal t (RenameAt old old_name new new_name requires_dir) ≡ None)
    (two : hold_one (child t old old_name) (child t new new_name) ≡ false) where
  module _ (n : ℕ) (found : child t old old_name ≡ Some n) where
    may : MayMove t old old_name new new_name n
    may = may_move t old old_name new new_name requires_dir n none found two

    named : maps.get (names_of (node_at t old).content) old_name ≡ Some n
    named = found_name t old n old_name may.names.old_plain found

    apart : Reached t (n ∷ []) new → ⊥
    apart below =
        let within = child_within t old n old_name valid may.names.old_directory found in
        true≢false (sym ((is_below-Decides t n new valid within).1 below) ∙ may.below)

    valid-moves : (there : Option ℕ) → child t new new_name ≡ there
        → IsValidTree (name_moved (dropped_step t new new_name name_lost there) old old_name new new_name n)
    valid-moves None missing =
        valid-moved (record {
          directory = may.names.old_directory;
          named = named;
          lacks = lacks_this t new new_name is may.names.looks missing may.stays;
          apart = apart;
        }) valid
    valid-moves (Some m) holds =
        let looks = may.names.looks in
        valid-replaced (record {
          directory = may.names.old_directory;
          named = named;
          drops = drops_name t new m new_name looks.directory may.names.plain holds
              (bare_if (node_at t m).content (may.bare m holds));
          good = is_named new_name may.names.plain is.name looks.no_nul looks.short;
          utf8 = is.utf8;
          stays = may.stays;
          below = apart;
          other = two_nodes n m (ap (λ c. hold_one c (Some m)) (sym found)
              ∙ ap (hold_one (child t old old_name)) (sym holds) ∙ two);
        }) valid

  valid-moves_if : (found : Option ℕ) → child t old old_name ≡ found
      → IsValidTree (moved_step t old old_name new new_name found)
  valid-moves_if None missing = valid
  valid-moves_if (Some n) found = valid-moves n found (child t new new_name) refl

valid-rename : (t : Tree) (old : ℕ) (old_name : List ℕ) (new : ℕ) (new_name : List ℕ) (requires_dir : Bool)
    → IsValidTree t → IsName new_name → refusal t (RenameAt old old_name new new_name requires_dir) ≡ None
    → IsValidTree (rename_step t old old_name new new_name)
unfolding rename_step
valid-rename t old old_name new new_name requires_dir valid is none =
    by (hold_one (child t old old_name) (child t new new_name)) refl
  where
    by : (b : Bool) → hold_one (child t old old_name) (child t new new_name) ≡ b
        → IsValidTree (cond b t (moved_step t old old_name new new_name (child t old old_name)))
    by true one = valid
    by false two = valid-moves_if t old old_name new new_name requires_dir valid is none two (child t old old_name) refl

valid-unlink : (t : Tree) (d : ℕ) (name : List ℕ) → IsValidTree t → refusal t (UnlinkAt d name) ≡ None
    → (found : Option ℕ) → child t d name ≡ found → IsValidTree (dropped_step t d name one_name_less found)
valid-unlink t d name valid none None missing = valid
valid-unlink t d name valid none (Some n) found =
    let can = can_unlink t d n name none found in
    valid-unlinked (drops_name t d n name can.0 can.1 found (bare_unless_directory (node_at t n).content can.2)) valid
    can.2

valid-remove : (t : Tree) (d : ℕ) (name : List ℕ) → IsValidTree t → refusal t (RemoveDirAt d name) ≡ None
    → (found : Option ℕ) → child t d name ≡ found → IsValidTree (dropped_step t d name made_gone found)
valid-remove t d name valid none None missing = valid
valid-remove t d name valid none (Some n) found =
    let can = can_remove t d n name none found in
    valid-removed
    (drops_name t d n name can.0 can.1 found (maps.empty_of_len (names_of (node_at t n).content) can.3)) valid can.2

valid-times_if : (t : Tree) (atime mtime : Option SystemTime) (found : Option ℕ) → IsValidTree t
    → IsValidTree (times_set_if t atime mtime found)
valid-times_if t atime mtime None valid = valid
valid-times_if t atime mtime (Some n) valid = valid-times t n atime mtime valid

-- a write that isn't refused doesn't make a file too large
write_fits : (t : Tree) (file : OpenHandle) (offset : ℕ) (piece : List ℕ) → refusal t (Pwrite file offset piece) ≡ None
    → is_too_large offset piece ≡ false
unfolding refusal
write_fits t file offset piece none = grind arith

append_fits : (t : Tree) (file : OpenHandle) (piece : List ℕ) → refusal t (Append file piece) ≡ None
    → is_too_large (length (bytes_of (node_at t file.node).content)) piece ≡ false
unfolding refusal
append_fits t file piece none = grind arith

size_fits : (t : Tree) (file : OpenHandle) (size : ℕ) → refusal t (SetSize file size) ≡ None → size ≤ largest_file
unfolding refusal
size_fits t file size none = grind arith

ends_within : (offset byte : ℕ) (bytes : List ℕ) → is_too_large offset (byte ∷ bytes) ≡ false
    → offset + length (byte ∷ bytes) ≤ largest_file
ends_within offset byte bytes fits = grind arith

valid-write : (t : Tree) (n offset : ℕ) (piece : List ℕ) → IsValidTree t → IsTrue (are_bytes piece)
    → is_too_large offset piece ≡ false → IsValidTree (write_step t n offset piece)
unfolding write_step
valid-write t n offset [] valid are fits = valid
valid-write t n offset (byte ∷ bytes) valid are fits =
    valid-put t n offset (byte ∷ bytes) are (ends_within offset byte bytes fits) valid

pub valid-step : (t : Tree) (call : HostCall) → IsValidTree t → CanBeAsked call → refusal t call ≡ None
    → IsValidTree (step t call)
unfolding open_step unlink_step remove_step link_step times_step
valid-step t (OpenAt d name o) valid asked none = valid-opened t d name o valid asked none (child t d name) refl
valid-step t (StatAt d name) valid asked none = valid
valid-step t (ReadLinkAt d name) valid asked none = valid
valid-step t (MakeDirAt d name) valid asked none = valid-dir_made t d name valid asked none
valid-step t (SymlinkAt text d name) valid asked none = valid-symlink t d name text valid asked.0 asked.1 none
valid-step t (LinkAt old old_name new new_name) valid asked none =
    valid-link_at t old new old_name new_name valid asked.1 none (child t old old_name) refl
valid-step t (RenameAt old old_name new new_name requires_dir) valid asked none =
    valid-rename t old old_name new new_name requires_dir valid asked.1 none
valid-step t (UnlinkAt d name) valid asked none = valid-unlink t d name valid none (child t d name) refl
valid-step t (RemoveDirAt d name) valid asked none = valid-remove t d name valid none (child t d name) refl
valid-step t (TimesAt d name atime mtime) valid asked none = valid-times_if t atime mtime (child t d name) valid
valid-step t (Access d) valid asked none = valid
valid-step t (Stat n) valid asked none = valid
valid-step t (SetTimes n atime mtime) valid asked none = valid-times t n atime mtime valid
valid-step t (Pread file offset n) valid asked none = valid
valid-step t (Pwrite file offset piece) valid asked none =
    valid-write t file.node offset piece valid asked (write_fits t file offset piece none)
valid-step t (Append file piece) valid asked none =
    valid-write t file.node (length (bytes_of (node_at t file.node).content)) piece valid asked (append_fits t file piece none)
valid-step t (SetSize file size) valid asked none = valid-sized t file.node size (size_fits t file size none) valid
valid-step t (Sync n) valid asked none = valid
valid-step t (Advise n offset length advice) valid asked none = valid
valid-step t (Flags n) valid asked none = valid
valid-step t (ListDir directory) valid asked none = valid
valid-step t (Dup handle) valid asked none = valid
valid-step t Close valid asked none = valid
