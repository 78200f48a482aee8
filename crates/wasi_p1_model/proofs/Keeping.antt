-- Opens that leave the tree.
use Rattle.std.proofs.Common.{ℕ, ◌≡◌, true, false, cond, Bool, List, refl, ◌∙◌, subst, arith, Result, Ok, Err}
use Rattle.wasi_fs.specs.declared.perms.Act.{Act}
use Rattle.wasi_fs.specs.declared.perms.FsPerms.TheVariants.{ReadOnly}
use Rattle.wasi_fs.specs.declared.perms.FsPerms.{FsPerms}
use Rattle.wasi_host.specs.Options.{Options, creates}
use Rattle.wasi_host.specs.Tree.{Tree}
use Rattle.wasi_host.proofs.Chain.{free}
use Rattle.std.specs.Prelude.{codes}
use Rattle.wasi_host.specs.declared.errors.ErrorCode.{ErrorCode}
use Rattle.wasi_host.specs.declared.errors.ErrorCode.TheVariants.{IsDirectory}
use Rattle.wasi_host.specs.Steps.{◌>>=◌}
use Rattle.wasi_fs.specs.Calls.{may_do, may_link, may_add_name, may_rename, opens}
use Rattle.wasi_fs.specs.OpenHow.{OpenHow, may_open, options_of}
use Rattle.wasi_resolve.specs.Walk.{Open, Outcome, Stop, Name, Dot, walk, last_options}
use Rattle.wasi_resolve.specs.EntryOps.{ReadLink, place_for, step_in}
use Rattle.wasi_resolve.specs.Paths.{Opening, Place, opening_of, opening, step_of}
use Rattle.wasi_resolve.specs.PathRequest.{AtEntry, Opened, answer_at, as_asked}
use Rattle.wasi_resolve.proofs.Requests.{as_opened}
use Rattle.wasi_resolve.proofs.Tables.{open_leaves}
use Rattle.wasi_p1_types.specs.Request.{Path, reply_of, after as tree_after}
use Rattle.wasi_p1_types.specs.SpecParts.{permit, may_write}

-- ---- an open that neither makes nor cuts

-- what an open may ask for where it changes nothing
pub record AsksNothing (how : OpenHow) : Type 0 where
  pub makes_not : how.create ≡ false
  pub cuts_not : how.truncate ≡ false

-- as much is made and cut by one as by the other
abbrev ChangesAlike : Options → Options → Type 0
ChangesAlike o o' = (creates o' ≡ creates o) × (o'.truncate ≡ o.truncate)

-- where a path ends, what the path asks for is asked for
opening_asks : (t : Tree) (s : ℕ) (text : List ℕ) (o : Options) (follow : Bool) {e : Opening}
    → opening t s text o follow ≡ Ok e → ChangesAlike o e.options
unfolding opening
opening_asks t s text o follow {e} is = by (walk t s text (Open o) follow).outcome is
  where
    dot : (d : ℕ) (w : Bool)
        → cond w (Err IsDirectory) (Ok (record { directory = d; name = codes "."; options = o })) ≡ Ok e
        → ChangesAlike o e.options
    dot d true at = absurd (cc)
    dot d false at =
        let same : (let x : Opening = record { directory = d; name = codes "."; options = o } in x) ≡ e = (cc) in
        subst (λ (x : Opening). ChangesAlike o x.options) same (refl, refl)

    by : (outcome : Outcome) → opening_of o outcome ≡ Ok e → ChangesAlike o e.options
    by (Stop code) at = absurd (cc)
    by (Name d name slash) at =
        let same : (let x : Opening = record { directory = d; name = name; options = last_options o slash } in x) ≡ e =
        (cc) in
        subst (λ (x : Opening). ChangesAlike o x.options) same (refl, refl)
    by (Dot d) at = dot d o.write at

pub open_keeps : (t : Tree) (d : ℕ) (text : List ℕ) (how : OpenHow) {found : Opened} → AsksNothing how
    → reply_of t (Path (opens d text how)) ≡ Ok found → tree_after t (Path (opens d text how)) ≡ t
open_keeps t d text how {found} nothing answered = by (opening t d text (options_of how) how.follow) refl answered
  where
    makes_not : creates (options_of how) ≡ false
    makes_not = rw nothing.makes_not refl

    by : (m : Result Opening ErrorCode) → opening t d text (options_of how) how.follow ≡ m
        → (m >>= answer_at t >>= as_asked how.directory) ≡ Ok found → step_of t m ≡ t
    by (Ok e) at is =
        let asks = opening_asks t d text (options_of how) how.follow at in
        open_leaves t e.directory e.name e.options (free _ _ _ (as_opened how.directory (answer_at t e) is))
        (asks.0 ∙ makes_not) (asks.1 ∙ nothing.cuts_not)
    by (Err code) at is = refl

-- ---- what is permitted under read-only permissions

-- an open that is let through
pub read_only_kept : (how : OpenHow) {perms : FsPerms} {u : Unit {0}} → permit (may_open how perms) ≡ Ok u
    → perms ≡ ReadOnly
    → AsksNothing how
unfolding may_open
read_only_kept how may is = record { makes_not = grind (arith); cuts_not = grind (arith) }

-- a write isn't
pub no_write : (perms : FsPerms) {u : Unit {0}} → may_write perms ≡ Ok u → perms ≡ ReadOnly → ⊥
unfolding may_write
no_write ReadOnly may is = absurd (cc)
no_write perms may is = absurd (cc)

-- nor is any act
pub no_act : (perms : FsPerms) (act : Act) {u : Unit {0}} → permit (may_do perms act) ≡ Ok u → perms ≡ ReadOnly → ⊥
unfolding may_do
no_act ReadOnly act may is = absurd (cc)
no_act perms act may is = absurd (cc)

-- nor is a link made
pub no_link : (perms : FsPerms) (target : List ℕ) {u : Unit {0}} → permit (may_link perms target) ≡ Ok u
    → perms ≡ ReadOnly → ⊥
unfolding may_link
no_link ReadOnly target may is = absurd (cc)
no_link perms target may is = absurd (cc)

-- nor does a node get a name
pub no_new_name : (old new : FsPerms) (follow : Bool) {u : Unit {0}} → permit (may_add_name old new follow) ≡ Ok u
    → old ≡ ReadOnly → ⊥
unfolding may_add_name
no_new_name ReadOnly new follow may is = absurd (cc)
no_new_name old new follow may is = absurd (cc)

-- nor does a name move
pub no_move : (old new : FsPerms) {u : Unit {0}} → permit (may_rename old new) ≡ Ok u → old ≡ ReadOnly → ⊥
unfolding may_rename
no_move ReadOnly new may is = absurd (cc)
no_move old new may is = absurd (cc)

-- ---- the text of a link

-- it is read without a step
pub link_leaves : (t : Tree) (d : ℕ) (text : List ℕ) → tree_after t (Path (AtEntry d text ReadLink)) ≡ t
link_leaves t d text = by (place_for t d text ReadLink)
  where
    by : (m : Result Place ErrorCode) → step_in t ReadLink m ≡ t
    by (Ok p) = refl
    by (Err code) = refl
