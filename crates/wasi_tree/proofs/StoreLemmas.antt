-- Lemmas on the nodes of a store.
use Rattle.std.proofs.Common.{◌≡◌, ◌<◌, ◌≤◌, ℕ, true, false, cond, List, [], ◌∷◌, Option, Some, None, IfSome, Ok, Err, length, refl, sym, ap, ◌∙◌, arith}
use Rattle.std.proofs.lemmas.List.{get_or_past}
use Rattle.std.specs.FinMap.{get}
use Rattle.wasi_paths.specs.Text.{is_dot_text}
use Rattle.wasi_host.specs.Options.{Options, are_refused}
use Rattle.wasi_host.specs.Tree.{Tree, Node, Content, File, Directory, Link, node_at, next_of, stray, child, names_of, text_of, is_file, is_directory, is_link}
use Rattle.wasi_host.specs.HostCall.{OpenAt, StatAt, ReadLinkAt}
use Rattle.wasi_host.specs.Refusal.{refusal, first_rule, name_rules}
use Rattle.wasi_host.specs.Step.{is_cut, bytes_put, write_step, times_set, times_set_if, times_step}
use Rattle.wasi_host.specs.declared.errors.ErrorCode.{ErrorCode}
use Rattle.wasi_host.specs.declared.errors.ErrorCode.TheVariants as codes
use Rattle.wasi_host.specs.declared.metadata.Metadata.{Metadata}
use Rattle.wasi_host.specs.declared.system_time.SystemTime.{SystemTime}
use Rattle.wasi_host.specs.Answer.{metadata_of, metadata_from, unless, reached, or_next, stat_at_answer, text_held, link_text, link_answer}
use Rattle.wasi_tree.specs.Sound.{IsSoundNode}
use Rattle.wasi_tree.proofs.NameLemmas.{get-no_names}
use Rattle.wasi_tree.proofs.NamedLemmas.{length-named}
use Rattle.wasi_tree.proofs.InodeLemmas.{next-inodes}

-- a number out of range is no directory's
pub node-past : (t : Tree) (n : ℕ) → next_of t ≤ n
    → (node_at t n ≡ node_at t n) × (is_directory (node_at t n).content ≡ false)
unfolding node_at
node-past t n past = (refl, ap (λ k. is_directory k.content) (get_or_past t.nodes n stray past))

pub child_is : (t : Tree) (d : ℕ) (name : List ℕ) → is_dot_text name ≡ false
    → child t d name ≡ get (names_of (node_at t d).content) name
unfolding child
child_is t d name not_dot = ap (λ b. cond b (Some d) (get (names_of (node_at t d).content) name)) not_dot

pub child_dot : (t : Tree) (d : ℕ) (name : List ℕ) → is_dot_text name ≡ true → child t d name ≡ Some d
unfolding child
child_dot t d name dot = ap (λ b. cond b (Some d) (get (names_of (node_at t d).content) name)) dot

-- what is no directory has no names
pub no_child : (t : Tree) (d : ℕ) (name : List ℕ) → is_dot_text name ≡ false
    → is_directory (node_at t d).content ≡ false → child t d name ≡ None
no_child t d name not_dot other = child_is t d name not_dot ∙ by (node_at t d).content other
  where
    by : (c : Content) → is_directory c ≡ false → get (names_of c) name ≡ None
    by (File bytes links) _ = get-no_names name
    by (Directory names gone) is = absurd (cc)
    by (Link text links) _ = get-no_names name

-- a name of a sound node holds a node that is there
pub child_below : (count : ℕ) (node : Node) (name : List ℕ) → IsSoundNode count node
    → IfSome (get (names_of node.content) name) (λ n. n < count)
child_below count node name sound = if_some (get (names_of node.content) name) (sound.below name)
  where
    if_some : (o : Option ℕ) → ((n : ℕ) → o ≡ Some n → n < count) → IfSome o (λ n. n < count)
    if_some None below = tt
    if_some (Some n) below = below n refl

-- a rule for the name refuses an open
pub open_refused : (t : Tree) (d : ℕ) (name : List ℕ) (o : Options) (code : ErrorCode)
    → is_directory (node_at t d).content ≡ true → are_refused o ≡ false → first_rule (name_rules t d name) ≡ Some code
    → refusal t (OpenAt d name o) ≡ Some code
unfolding refusal
open_refused t d name o code directory accepted name_refused = grind (arith)

-- ---- a look at a name

-- the metadata of what is found
pub stat_at_is : (t : Tree) (d n : ℕ) (name : List ℕ) (metadata : Metadata) → refusal t (StatAt d name) ≡ None
    → child t d name ≡ Some n → metadata ≡ metadata_of t n → stat_at_answer t d name ≡ Ok metadata
unfolding reached
stat_at_is t d n name metadata free found is =
    ap (λ r. unless r (metadata_of t (or_next (child t d name) (next_of t)))) free
    ∙ ap (λ f. Ok (metadata_of t (or_next f (next_of t)))) found ∙ ap Ok (sym is)

-- what refuses a look at a name's metadata refuses to read it as a link
refused_link : (t : Tree) (d : ℕ) (name : List ℕ) (code : ErrorCode) → refusal t (StatAt d name) ≡ Some code
    → refusal t (ReadLinkAt d name) ≡ Some code
unfolding refusal
refused_link t d name code refused = grind (arith)

invalid_link : (t : Tree) (d n : ℕ) (name : List ℕ) → refusal t (StatAt d name) ≡ None → child t d name ≡ Some n
    → is_link (node_at t n).content ≡ false → refusal t (ReadLinkAt d name) ≡ Some codes.Invalid
unfolding refusal
invalid_link t d n name free found no_link = grind (arith)

free_link : (t : Tree) (d n : ℕ) (name : List ℕ) → refusal t (StatAt d name) ≡ None → child t d name ≡ Some n
    → is_link (node_at t n).content ≡ true → refusal t (ReadLinkAt d name) ≡ None
unfolding refusal
free_link t d n name free found link = grind (arith)

pub link_refused : (t : Tree) (d : ℕ) (name : List ℕ) (code : ErrorCode) → refusal t (StatAt d name) ≡ Some code
    → link_answer t d name ≡ Err code
link_refused t d name code refused = ap (λ r. unless r (link_text t d name)) (refused_link t d name code refused)

pub no_link_refused : (t : Tree) (d n : ℕ) (name : List ℕ) → refusal t (StatAt d name) ≡ None
    → child t d name ≡ Some n → is_link (node_at t n).content ≡ false → link_answer t d name ≡ Err codes.Invalid
no_link_refused t d n name free found no_link =
    ap (λ r. unless r (link_text t d name)) (invalid_link t d n name free found no_link)

pub link_is : (t : Tree) (d n : ℕ) (name text : List ℕ) → refusal t (StatAt d name) ≡ None
    → child t d name ≡ Some n → is_link (node_at t n).content ≡ true → text ≡ text_of (node_at t n).content
    → link_answer t d name ≡ Ok text
unfolding link_text
link_is t d n name text free found link is =
    ap (λ r. unless r (text_held t (child t d name))) (free_link t d n name free found link)
    ∙ ap (λ f. Ok (text_held t f)) found ∙ ap Ok (sym is)

pub metadata_is : (t : Tree) (n : ℕ) (node : Node) → node_at t n ≡ node → metadata_of t n ≡ metadata_from n node
unfolding metadata_of
metadata_is t n node is = ap (metadata_from n) is

pub times_at_is : (t : Tree) (d n : ℕ) (name : List ℕ) (atime mtime : Option SystemTime) → child t d name ≡ Some n
    → times_set t n atime mtime ≡ times_step t d name atime mtime
unfolding times_step
times_at_is t d n name atime mtime found = ap (times_set_if t atime mtime) (sym found)

-- ---- whether a step is made

pub cut_asked : (o : Options) (content : Content) → o.truncate ≡ true → is_file content ≡ true → is_cut o content ≡ true
cut_asked o (File bytes links) asked is = asked
cut_asked o (Directory names gone) asked is = absurd (cc)
cut_asked o (Link text links) asked is = absurd (cc)

pub write_none : (t : Tree) (n offset : ℕ) (piece : List ℕ) → length piece ≡ 0 → write_step t n offset piece ≡ t
unfolding write_step
write_none t n offset [] none = refl
write_none t n offset (byte ∷ bytes) none = absurd (omega arith)

pub write_some : (t : Tree) (n offset : ℕ) (piece : List ℕ) → 0 < length piece
    → write_step t n offset piece ≡ bytes_put t n offset piece
unfolding write_step
write_some t n offset [] some = absurd (omega arith)
write_some t n offset (byte ∷ bytes) some = refl

pub ruleset store_rules = (next-inodes, length-named, node-past, child_is, child_dot, no_child, child_below, open_refused, metadata_is)
