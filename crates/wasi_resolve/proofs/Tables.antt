-- What the host's table says of a name: whether it holds a link, and what an open, a look and a read of it say
-- together.
use Rattle.std.proofs.Common.{◌≡◌, ◌≢◌, ◌⊎◌, inl, inr, ℕ, Bool, true, false, cond, not, ◌&&◌, ◌||◌, List, [], ◌∷◌, Option, Some, None, Ok, IsTrue, refl, sym, ap, ◌∙◌, arith}
use Rattle.std.specs.Prelude.{is_none}
use Rattle.std.specs.FinMap as map
use Rattle.wasi_paths.specs.Text.{is_dot_text, is_plain}
use Rattle.wasi_host.specs.Options.{Options, creates}
use Rattle.wasi_host.specs.Tree.{Tree, Content, File, Directory, Link, node_at, next_of, names_of, child, is_link, is_directory}
use Rattle.wasi_host.specs.ValidTree.{Reached}
use Rattle.wasi_host.specs.HostCall.{OpenAt, StatAt, ReadLinkAt}
use Rattle.wasi_host.specs.Refusal.{refusal, holds, passes}
use Rattle.wasi_host.specs.Answer.{unless, reached, or_next, metadata_of, kind_of, stat_at_answer}
use Rattle.wasi_host.specs.Step.{open_step, opened_step, file_cut, is_cut}
use Rattle.wasi_host.proofs.Chain.{free}
use Rattle.wasi_host.specs.declared.errors.ErrorCode.{ErrorCode}
use Rattle.wasi_host.specs.declared.errors.ErrorCode.TheVariants.{Loop, NotDirectory}
use Rattle.wasi_host.specs.declared.metadata.Metadata.{Metadata}
use Rattle.wasi_resolve.specs.Walk.{Aim, Open, Look, is_to_be_read, is_link_code, is_look, refused, middle_options, last_options}
use Rattle.wasi_resolve.specs.Finding.{is_link_kind, is_directory_kind}
use Rattle.wasi_resolve.specs.WalkSteps.{is_met_link}
use Rattle.wasi_host.proofs.Touching.{child_reached}
use Rattle.std.proofs.lemmas.Bool.{and_parts}

pub kind_says : (content : Content) → is_link_kind (kind_of content) ≡ is_link content
kind_says (File bytes links) = refl
kind_says (Directory names gone) = refl
kind_says (Link text links) = refl

pub directory_says : (content : Content) → is_directory_kind (kind_of content) ≡ is_directory content
directory_says (File bytes links) = refl
directory_says (Directory names gone) = refl
directory_says (Link text links) = refl

-- ---- names

plain_no_dot : (name : List ℕ) → IsTrue (is_plain name) → is_dot_text name ≡ false
plain_no_dot name plain = grind (arith)

no_names : (content : Content) (name : List ℕ) → is_directory content ≡ false → map.get (names_of content) name ≡ None
no_names (File bytes links) name is = map.get-empty _ name
no_names (Directory names gone) name is = absurd (cc)
no_names (Link text links) name is = map.get-empty _ name

-- a plain name holds nothing but in a directory
no_child : (t : Tree) (d : ℕ) (name : List ℕ) → IsTrue (is_plain name) → is_directory (node_at t d).content ≡ false
    → child t d name ≡ None
unfolding child
no_child t d name plain is =
    ap (λ b. cond b (Some d) (map.get (names_of (node_at t d).content) name)) (plain_no_dot name plain)
    ∙ no_names (node_at t d).content name is

no_link : (t : Tree) (d : ℕ) (name : List ℕ) → IsTrue (is_plain name) → is_directory (node_at t d).content ≡ false
    → holds t d name (λ n. is_link n.content) ≡ false
no_link t d name plain is = let none : child t d name ≡ None = no_child t d name plain is in grind (arith)

-- ---- a look beside an open

-- Where an open is refused as that of a link may be and a look is refused too, both say that there is no directory.
met_some : (t : Tree) (d : ℕ) (name : List ℕ) (o : Options) → is_directory (node_at t d).content ≡ true
    → is_link_code (refusal t (OpenAt d name o)) ≡ true
    → is_none (child t d name) ≡ false
unfolding refusal
met_some t d name o directory may = grind (arith)

met_looks : (t : Tree) (d : ℕ) (name : List ℕ) (o : Options) → is_directory (node_at t d).content ≡ true
    → is_none (child t d name) ≡ false → is_link_code (refusal t (OpenAt d name o)) ≡ true
    → refusal t (StatAt d name) ≡ None
unfolding refusal
met_looks t d name o directory some may = grind (arith)

no_directory : (t : Tree) (d : ℕ) (name : List ℕ) (o : Options) → is_directory (node_at t d).content ≡ false
    → (refusal t (OpenAt d name o) ≡ Some NotDirectory) × (refusal t (StatAt d name) ≡ Some NotDirectory)
unfolding refusal
no_directory t d name o is = (rw is refl, rw is refl)

refused_alike : (t : Tree) (d : ℕ) (name : List ℕ) (o : Options) (one other : ErrorCode)
    → refusal t (OpenAt d name o) ≡ Some one → is_link_code (Some one) ≡ true → refusal t (StatAt d name) ≡ Some other
    → (is_directory (node_at t d).content ≡ false) × (other ≡ one)
refused_alike t d name o one other opens may looks = by (is_directory (node_at t d).content) refl
  where
    code : is_link_code (refusal t (OpenAt d name o)) ≡ true
    code = ap is_link_code opens ∙ may

    by : (b : Bool) → is_directory (node_at t d).content ≡ b
        → (is_directory (node_at t d).content ≡ false) × (other ≡ one)
    by true is =
        absurd (let none : refusal t (StatAt d name) ≡ None = met_looks t d name o is
        (met_some t d name o is code) code in cc)
    by false is = let both = no_directory t d name o is in
        let first : refusal t (OpenAt d name o) ≡ Some NotDirectory = both.0 in
        let second : refusal t (StatAt d name) ≡ Some NotDirectory = both.1 in (is, cc)

some_of : {A : Type 0} (c : Option A) → is_none c ≡ false → (a : A) × (c ≡ Some a)
some_of None is = absurd (cc)
some_of (Some a) is = (a, refl)

passes_at : (P : ℕ → Bool) (c : Option ℕ) (n next : ℕ) → c ≡ Some n → passes P c ≡ P (or_next c next)
passes_at P None n next is = absurd (cc)
passes_at P (Some k) n next is = refl

-- a look that isn't refused finds a node
looked_some : (t : Tree) (d : ℕ) (name : List ℕ) → refusal t (StatAt d name) ≡ None → is_none (child t d name) ≡ false
unfolding refusal
looked_some t d name none = grind (arith)

pub looked_child : (t : Tree) (d : ℕ) (name : List ℕ) → refusal t (StatAt d name) ≡ None
    → (n : ℕ) × (child t d name ≡ Some n)
looked_child t d name none = some_of (child t d name) (looked_some t d name none)

module _ (t : Tree) (d : ℕ) (name : List ℕ) (m : Metadata) (looks : stat_at_answer t d name ≡ Ok m) where
  pub looked_free : refusal t (StatAt d name) ≡ None
  looked_free = free (refusal t (StatAt d name)) (metadata_of t (reached t d name)) m looks

  looked_kind : m.kind ≡ kind_of (node_at t (reached t d name)).content
  unfolding metadata_of
  looked_kind =
      let at : unless None (metadata_of t (reached t d name)) ≡ Ok m =
      ap (λ r. unless r (metadata_of t (reached t d name))) (sym looked_free) ∙ looks in
      let same : metadata_of t (reached t d name) ≡ m = (cc) in sym (ap (λ x. x.kind) same)

  pub looked_is : metadata_of t (reached t d name) ≡ m
  looked_is =
      let at : unless None (metadata_of t (reached t d name)) ≡ Ok m =
      ap (λ r. unless r (metadata_of t (reached t d name))) (sym looked_free) ∙ looks in (cc)

  -- and says whether it is a link
  pub looked_link : holds t d name (λ n. is_link n.content) ≡ is_link_kind m.kind
  unfolding reached
  looked_link =
      let found = looked_child t d name looked_free in
      passes_at (λ k. is_link (node_at t k).content) (child t d name) found.0 (next_of t) found.1
      ∙ sym (kind_says (node_at t (reached t d name)).content) ∙ ap is_link_kind (sym looked_kind)

  pub looked_directory : is_directory (node_at t (reached t d name)).content ≡ is_directory_kind m.kind
  looked_directory =
      sym (directory_says (node_at t (reached t d name)).content) ∙ ap is_directory_kind (sym looked_kind)

-- ---- what a refused open says of a link

-- Loop is a link's alone
no_loop : (t : Tree) (d : ℕ) (name : List ℕ) (o : Options) → holds t d name (λ n. is_link n.content) ≡ false
    → refusal t (OpenAt d name o) ≢ Some Loop
unfolding refusal
no_loop t d name o none is = grind (arith)

pub loop_link : (t : Tree) (d : ℕ) (name : List ℕ) (o : Options) → refusal t (OpenAt d name o) ≡ Some Loop
    → holds t d name (λ n. is_link n.content) ≡ true
loop_link t d name o is = by (holds t d name (λ n. is_link n.content)) refl
  where
    by : (b : Bool) → holds t d name (λ n. is_link n.content) ≡ b → holds t d name (λ n. is_link n.content) ≡ true
    by true link = link
    by false none = absurd (no_loop t d name o none is)

-- without a directory required, NotDirectory is no link's
no_link_in : (t : Tree) (d : ℕ) (name : List ℕ) (o : Options) → is_directory (node_at t d).content ≡ true
    → o.dir_required ≡ false → refusal t (OpenAt d name o) ≡ Some NotDirectory
    → holds t d name (λ n. is_link n.content) ≡ false
unfolding refusal
no_link_in t d name o directory none is = grind (arith)

pub unrequired_link : (t : Tree) (d : ℕ) (name : List ℕ) (o : Options) → IsTrue (is_plain name)
    → o.dir_required ≡ false → refusal t (OpenAt d name o) ≡ Some NotDirectory
    → holds t d name (λ n. is_link n.content) ≡ false
unrequired_link t d name o plain none is = by (is_directory (node_at t d).content) refl
  where
    by : (b : Bool) → is_directory (node_at t d).content ≡ b → holds t d name (λ n. is_link n.content) ≡ false
    by true directory = no_link_in t d name o directory none is
    by false directory = no_link t d name plain directory

-- ---- a link that is met may be read

held_reads : (t : Tree) (d : ℕ) (name : List ℕ) (o : Options) → is_directory (node_at t d).content ≡ true
    → holds t d name (λ n. is_link n.content) ≡ true → is_link_code (refusal t (OpenAt d name o)) ≡ true
    → refusal t (ReadLinkAt d name) ≡ None
unfolding refusal
held_reads t d name o directory held may = grind (arith)

looked_reads : (t : Tree) (d : ℕ) (name : List ℕ) → holds t d name (λ n. is_link n.content) ≡ true
    → refusal t (StatAt d name) ≡ None
    → refusal t (ReadLinkAt d name) ≡ None
unfolding refusal
looked_reads t d name held none = grind (arith)

pub met_reads : (t : Tree) (d : ℕ) (name : List ℕ) (o : Options) (may_read : Bool) → IsTrue (is_plain name)
    → is_met_link t d name o may_read ≡ true
    → refusal t (ReadLinkAt d name) ≡ None
met_reads t d name o may_read plain met =
    let parts =
    and_parts (holds t d name (λ n. is_link n.content)) (may_read && is_link_code (refusal t (OpenAt d name o))) met in
    let tests = and_parts may_read (is_link_code (refusal t (OpenAt d name o))) parts.1 in
    by (is_directory (node_at t d).content) refl parts.0 tests.1
  where
    by : (b : Bool) → is_directory (node_at t d).content ≡ b → holds t d name (λ n. is_link n.content) ≡ true
        → is_link_code (refusal t (OpenAt d name o)) ≡ true → refusal t (ReadLinkAt d name) ≡ None
    by true is held may = held_reads t d name o is held may
    by false is held may =
        absurd (let none : holds t d name (λ n. is_link n.content) ≡ false = no_link t d name plain is in cc)

-- ---- what is to be read, as the code finds it

middle_is : (t : Tree) (aim : Aim) (follow slash : Bool) (d : ℕ) (name : List ℕ)
    → is_to_be_read t aim follow slash false d name ≡ is_met_link t d name middle_options true
unfolding is_to_be_read
middle_is t aim follow slash d name =
    by (holds t d name (λ n. is_link n.content)) (is_link_code (refusal t (OpenAt d name middle_options)))
  where
    by : (a b : Bool)
        → (a && (not false || follow || slash) && (b || (false && is_look aim && is_none
        (refused t aim slash false d name))))
        ≡ (a && (true && b))
    by true true = refl
    by true false = refl
    by false b = refl

pub middle_to_read : (t : Tree) (aim : Aim) (follow slash : Bool) (d : ℕ) (name : List ℕ) (b : Bool)
    → is_met_link t d name middle_options true ≡ b → is_to_be_read t aim follow slash false d name ≡ b
middle_to_read t aim follow slash d name b is = middle_is t aim follow slash d name ∙ is

pub open_to_read : (t : Tree) (o : Options) (follow slash : Bool) (d : ℕ) (name : List ℕ)
    → is_to_be_read t (Open o) follow slash true d name ≡ is_met_link t d name (last_options o slash) (follow || slash)
unfolding is_to_be_read
open_to_read t o follow slash d name =
    by (holds t d name (λ n. is_link n.content)) follow slash (is_link_code (refusal t (OpenAt d name
    (last_options o slash))))
    (is_none (refusal t (OpenAt d name (last_options o slash))))
  where
    by : (a f s b r : Bool) → (a && (not true || f || s) && (b || (true && false && r))) ≡ (a && ((f || s) && b))
    by false f s b r = refl
    by true true s true r = refl
    by true true s false r = refl
    by true false true true r = refl
    by true false true false r = refl
    by true false false b r = refl

-- a look that isn't refused reads a link where links are followed
pub look_to_read : (t : Tree) (follow slash : Bool) (d : ℕ) (name : List ℕ) → refusal t (StatAt d name) ≡ None
    → is_to_be_read t Look follow slash true d name ≡ (holds t d name (λ n. is_link n.content) && (follow || slash))
unfolding is_to_be_read
look_to_read t follow slash d name none =
    ap (λ r. holds t d name (λ n. is_link n.content) && (not true || follow || slash) && (is_link_code r ||
    (true && true && is_none r))) none
    ∙ by (holds t d name (λ n. is_link n.content)) follow slash
  where
    by : (a f s : Bool) → (a && (not true || f || s) && (is_link_code None || (true && true && is_none
        (let r : Option ErrorCode = None in r)))) ≡ (a && (f || s))
    by false f s = refl
    by true true s = refl
    by true false true = refl
    by true false false = refl

pub look_reads : (t : Tree) (d : ℕ) (name : List ℕ) → holds t d name (λ n. is_link n.content) ≡ true
    → refusal t (StatAt d name) ≡ None → refusal t (ReadLinkAt d name) ≡ None
look_reads t d name held none = looked_reads t d name held none

-- a look that is refused reads none
refused_code : (t : Tree) (d : ℕ) (name : List ℕ) (code : ErrorCode) → refusal t (StatAt d name) ≡ Some code
    → is_directory (node_at t d).content ≡ true → is_link_code (Some code) ≡ false
unfolding refusal
refused_code t d name code is directory = grind (arith)

pub look_unread : (t : Tree) (follow slash : Bool) (d : ℕ) (name : List ℕ) (code : ErrorCode) → IsTrue (is_plain name)
    → refusal t (StatAt d name) ≡ Some code
    → is_to_be_read t Look follow slash true d name ≡ false
unfolding is_to_be_read
look_unread t follow slash d name code plain is =
    ap (λ r. holds t d name (λ n. is_link n.content) && (not true || follow || slash) && (is_link_code r ||
    (true && true && is_none r))) is
    ∙ by (is_directory (node_at t d).content) refl
  where
    tests : (a f s b : Bool) → (a ≡ false) ⊎ (b ≡ false)
        → (a && (not true || f || s) && (b || (true && true && false))) ≡ false
    tests false f s b either = refl
    tests true true s false either = refl
    tests true false true false either = refl
    tests true false false b either = refl
    tests true true s true either = absurd (elim either [ inl x ↦ cc | inr x ↦ cc ])
    tests true false true true either = absurd (elim either [ inl x ↦ cc | inr x ↦ cc ])

    by : (b : Bool) → is_directory (node_at t d).content ≡ b
        → (holds t d name (λ n. is_link n.content) && (not true || follow || slash) && (is_link_code (Some code) ||
        (true && true && false))) ≡ false
    by true directory = tests _ follow slash _ (inr (refused_code t d name code is directory))
    by false directory = tests _ follow slash _ (inl (no_link t d name plain directory))

-- ---- an open that meets no link, though it is refused as that of a link may be

-- the look is refused
pub unmet_unlooked : (t : Tree) (d : ℕ) (name : List ℕ) (o : Options) (may_read : Bool) (one other : ErrorCode)
    → IsTrue (is_plain name) → refusal t (OpenAt d name o) ≡ Some one → is_link_code (Some one) ≡ true
    → refusal t (StatAt d name) ≡ Some other
    → (is_met_link t d name o may_read ≡ false) × (other ≡ one)
unmet_unlooked t d name o may_read one other plain opens may looks =
    let alike = refused_alike t d name o one other opens may looks in (
      ap (λ b. b && (may_read && is_link_code (refusal t (OpenAt d name o)))) (no_link t d name plain alike.0),
      alike.1,
    )

-- it has another code
pub unmet_code : (t : Tree) (d : ℕ) (name : List ℕ) (o : Options) (may_read : Bool) (r : Option ErrorCode)
    → refusal t (OpenAt d name o) ≡ r → is_link_code r ≡ false
    → is_met_link t d name o may_read ≡ false
unmet_code t d name o may_read r is other =
    ap (λ x. holds t d name (λ n. is_link n.content) && (may_read && is_link_code x)) is
    ∙ ap (λ b. holds t d name (λ n. is_link n.content) && (may_read && b)) other
    ∙ tests (holds t d name (λ n. is_link n.content)) may_read
  where
    tests : (a b : Bool) → (a && (b && false)) ≡ false
    tests true true = refl
    tests true false = refl
    tests false b = refl

-- no link is to be read
pub unmet_rule : (t : Tree) (d : ℕ) (name : List ℕ) (o : Options) (may_read : Bool) → may_read ≡ false
    → is_met_link t d name o may_read ≡ false
unmet_rule t d name o may_read rule =
    ap (λ b. holds t d name (λ n. is_link n.content) && (b && is_link_code (refusal t (OpenAt d name o)))) rule
    ∙ tests (holds t d name (λ n. is_link n.content))
  where
    tests : (a : Bool) → (a && (false && is_link_code (refusal t (OpenAt d name o)))) ≡ false
    tests true = refl
    tests false = refl

-- ---- an open that makes nothing and cuts nothing

open_some : (t : Tree) (d : ℕ) (name : List ℕ) (o : Options) → refusal t (OpenAt d name o) ≡ None → creates o ≡ false
    → is_none (child t d name) ≡ false
unfolding refusal
open_some t d name o none not_made = grind (arith)

pub open_child : (t : Tree) (d : ℕ) (name : List ℕ) (o : Options) → refusal t (OpenAt d name o) ≡ None
    → creates o ≡ false
    → (n : ℕ) × (child t d name ≡ Some n)
open_child t d name o none not_made = some_of (child t d name) (open_some t d name o none not_made)

uncut : (o : Options) (content : Content) → o.truncate ≡ false → is_cut o content ≡ false
uncut o (File bytes links) is = is
uncut o (Directory names gone) is = refl
uncut o (Link text links) is = refl

pub open_leaves : (t : Tree) (d : ℕ) (name : List ℕ) (o : Options) → refusal t (OpenAt d name o) ≡ None
    → creates o ≡ false → o.truncate ≡ false
    → open_step t d name o ≡ t
unfolding open_step
open_leaves t d name o none not_made not_cut =
    let found = open_child t d name o none not_made in
    ap (opened_step t d name o) found.1
    ∙ ap (λ b. cond b (file_cut t found.0) t) (uncut o (node_at t found.0).content not_cut)

-- the node that it comes to is reached
pub open_near : (t : Tree) (d : ℕ) (name : List ℕ) (o : Options) → refusal t (OpenAt d name o) ≡ None
    → creates o ≡ false
    → Reached t (d ∷ []) (reached t d name)
unfolding reached
open_near t d name o none not_made =
    let found = open_child t d name o none not_made in
    child_reached t d (or_next (child t d name) (next_of t)) name
    (found.1 ∙ ap (λ c. Some (or_next c (next_of t))) (sym found.1))
