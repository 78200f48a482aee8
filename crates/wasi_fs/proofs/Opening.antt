-- Opening a path below a directory.
use Rattle.std.proofs.Common.{◌≡◌, ◌⊎◌, inl, inr, ℕ, Bool, true, false, List, [], ◌∷◌, Option, Some, None, Result, Ok, Err, refl, sym, ap, subst, ◌∙◌, arith}
use Rattle.std.specs.Prelude.{Contains, is_ok}
use Rattle.std.specs.FinSet.{contains, insert, remove, members}
use Rattle.std.proofs.lemmas.Bool.Decides.{nat_tests}
use Rattle.std.proofs.lemmas.List.Elements.{All-weaker, All-nil}
use Rattle.wasi_host.specs.Agree.{OrMade, Touches}
use Rattle.wasi_host.specs.Options.{creates}
use Rattle.wasi_host.specs.Tree.{Tree, Nodes, node_at, is_directory}
use Rattle.wasi_host.specs.ValidTree.{Reached, root}
use Rattle.wasi_host.specs.HostCall.{OpenAt, Stat, Close}
use Rattle.wasi_host.specs.Refusal.{refusal}
use Rattle.wasi_host.specs.Answer.{unless, reached, access_of}
use Rattle.wasi_host.specs.Step.{with_nodes}
use Rattle.wasi_host.specs.Steps.{◌>>=◌}
use Rattle.wasi_host.specs.HostLaws.{HostModel, Handles, RefinesCall, MeansErr, AfterErr, hosted, answered}
use Rattle.wasi_host.specs.declared.errors.ErrorCode.{ErrorCode}
use Rattle.wasi_host.specs.declared.errors.ErrorCode.TheVariants.{Io, NotDirectory}
use Rattle.wasi_host.specs.declared.errors.HostError.{HostError}
use Rattle.wasi_host.specs.declared.errors.HostError.TheVariants.{Code, Memory}
use Rattle.wasi_host.specs.declared.open_handle.OpenHandle.{OpenHandle}
use Rattle.wasi_host.specs.declared.metadata.Metadata.{Metadata}
use Rattle.wasi_host.proofs.Chain.{remove-insert}
use Rattle.wasi_host.proofs.Touching.{touches_with, no_ends}
use Rattle.wasi_resolve.specs.Finding.{is_directory_kind}
use Rattle.wasi_resolve.specs.Meanings.{follows, ends_by, opened_node, opens_at}
use Rattle.wasi_resolve.specs.Paths.{Opening, opening, opened_by, step_of, opened, after_open}
use Rattle.wasi_resolve.specs.PathRequest.{OpenPath, Opened, opened_at, answer_at, as_asked, meant_by}
use Rattle.wasi_resolve.specs.Resolved.{Meant, TreeAfter, Resolved}
use Rattle.wasi_resolve.specs.WalkSteps.{ModelStays}
use Rattle.wasi_resolve.proofs.Calls.{means_then, still_live, same_live, close_stays}
use Rattle.wasi_resolve.proofs.Parenting.{opening_leaves}
use Rattle.wasi_resolve.proofs.Requests.{reached_closed, path_given_seen}
use Rattle.wasi_resolve.proofs.Tables.{directory_says}
use Rattle.wasi_fs.specs.Calls.{opens, opened_of}
use Rattle.wasi_fs.specs.OpenHow.{OpenHow, follow_of, options_of, may_open}
use Rattle.wasi_fs.specs.declared.descriptor.Descriptor.{Descriptor}
use Rattle.wasi_fs.specs.declared.perms.FsPerms.{FsPerms}
use Rattle.wasi_fs.proofs.Looking.{kind_known, stat_given}

-- ---- what the resolver's open says of the request

-- what is opened, whatever is asked for
abbrev found_at : Tree → ℕ → List ℕ → OpenHow → Result Opened ErrorCode
found_at t s text how = opening t s text (options_of how) how.follow >>= answer_at t

abbrev stepped : Tree → ℕ → List ℕ → OpenHow → Tree
stepped t s text how = after_open t s text (options_of how) how.follow

-- what was opened, of what its handle stands for in the tree after it
abbrev opened_in : Tree → OpenHandle → Opened
opened_in t held = record { held = held; is_dir = is_directory (node_at t held.node).content }

-- what the resolver means
abbrev resolver_opens : Tree → ℕ → List ℕ → OpenHow → Meant OpenHandle
resolver_opens t s text how = record {
  starts = s ∷ [];
  answer = opened t s text (options_of how) how.follow;
  stepped = stepped t s text how;
  ends = ends_by (opened_node t) (opening t s text (options_of how) how.follow);
}

follows_again : (b : Bool) → follows (follow_of b) ≡ b
follows_again true = refl
follows_again false = refl

resolver_is : (t : Tree) (s : ℕ) (text : List ℕ) (how : OpenHow)
    → opens_at t s text (options_of how) ≡ resolver_opens t s text how
resolver_is t s text how =
    ap (λ b. let m : Meant OpenHandle = record {
      starts = s ∷ [];
      answer = opened t s text (options_of how) b;
      stepped = after_open t s text (options_of how) b;
      ends = ends_by (opened_node t) (opening t s text (options_of how) b);
    } in m) (follows_again how.follow)

found_is : (t : Tree) (s : ℕ) (text : List ℕ) (how : OpenHow)
    → found_at t s text how
    ≡ (opened t s text (options_of how) how.follow >>= (λ held. Ok (opened_in (stepped t s text how) held)))
found_is t s text how = by (opening t s text (options_of how) how.follow)
  where
    at : (e : Opening) (refused : Option ErrorCode)
        → unless refused (opened_at t e.directory e.name e.options)
        ≡ (unless refused (let h : OpenHandle = record { node = reached t e.directory e.name; mode = access_of e.options } in
        h) >>= (λ held. Ok (opened_in (step_of t (Ok e)) held)))
    at e None = refl
    at e (Some code) = refl

    by : (m : Result Opening ErrorCode)
        → (m >>= answer_at t) ≡ (m >>= opened_by t >>= (λ held. Ok (opened_in (step_of t m) held)))
    by (Ok e) = at e (refusal t (OpenAt e.directory e.name e.options))
    by (Err code) = refl

-- ---- a directory is asked for

no_step : (how : OpenHow) (perms : FsPerms) → may_open how perms ≡ None → how.directory ≡ true
    → (creates (options_of how) ≡ false) × (how.truncate ≡ false)
unfolding may_open
no_step how perms may directory = (grind (arith), grind (arith))

same_ok : {A B : Type 0} (m : Result A ErrorCode) (f : A → B) → is_ok (m >>= (λ a. Ok (f a))) ≡ true → is_ok m ≡ true
same_ok (Ok a) f is = refl
same_ok (Err code) f is = absurd (cc)

-- then an open that may be asked leaves the tree
directory_leaves : (t : Tree) (s : ℕ) (text : List ℕ) (how : OpenHow) (perms : FsPerms) → may_open how perms ≡ None
    → how.directory ≡ true → is_ok (found_at t s text how) ≡ true → stepped t s text how ≡ t
directory_leaves t s text how perms may directory is =
    let none = no_step how perms may directory in
    opening_leaves t s text (options_of how) how.follow none.0 none.1
    (same_ok _ (opened_in (stepped t s text how)) (ap is_ok (sym (found_is t s text how)) ∙ is))

as_refused : (directory : Bool) (found : Opened) {code : ErrorCode} → as_asked directory found ≡ Err code
    → directory ≡ true
as_refused false found is = absurd (cc)
as_refused true found is = refl

-- a fault hid the step of an open that isn't refused, or there was none
module _ (t : Tree) (s : ℕ) (text : List ℕ) (how : OpenHow) (perms : FsPerms) (may : may_open how perms ≡ None) where
  hidden : (t' : Tree) → is_ok (found_at t s text how) ≡ true → t' ≡ stepped t s text how
      → (t' ≡ t) ⊎ ((is_ok (meant_by t (opens s text how)).answer ≡ true) × (t' ≡ stepped t s text how))
  hidden t' is at = by how.directory refl
    where
      answered : (m : Result Opened ErrorCode) → is_ok m ≡ true → is_ok (m >>= as_asked false) ≡ true
      answered (Ok found) some = refl
      answered (Err code) none = none

      by : (directory : Bool) → how.directory ≡ directory
          → (t' ≡ t) ⊎ ((is_ok (meant_by t (opens s text how)).answer ≡ true) × (t' ≡ stepped t s text how))
      by true asked = inl (at ∙ directory_leaves t s text how perms may asked is)
      by false any =
          inr (
            ap (λ b. is_ok (found_at t s text how >>= as_asked b)) any ∙ answered (found_at t s text how) is,
            at,
          )

-- ---- the open was refused, or failed

pub not_opened : {live : Handles} {w v : HostModel} {s : ℕ} (text : List ℕ) (how : OpenHow) (perms : FsPerms)
    (e : HostError)
    → may_open how perms ≡ None
    → Resolved {A = ℕ} live w v (opens_at w.tree s text (options_of how)) v.held (Err e)
    → Resolved live w v (meant_by w.tree (opens s text how)) (opened_of v.held) (Err e)
not_opened {live} {w} {v} {s} text how perms e may did = record {
  answer =
      means_then (found_at w.tree s text how) (as_asked how.directory) e
      (subst (λ m. MeansErr m e) (sym (found_is w.tree s text how))
      (means_then (opened w.tree s text (options_of how) how.follow)
      (λ held. Ok (opened_in (stepped w.tree s text how) held)) e same.answer));
  tree = still e same.tree;
  touched = same.touched;
  keeps = same.keeps;
}
  where
    same : Resolved {A = ℕ} live w v (resolver_opens w.tree s text how) v.held (Err e)
    same = subst (λ m. Resolved {A = ℕ} live w v m v.held (Err e)) (resolver_is w.tree s text how) did

    answers : (m : Result OpenHandle ErrorCode) → is_ok m ≡ true
        → is_ok (m >>= (λ held. Ok (opened_in (stepped w.tree s text how) held))) ≡ true
    answers (Ok held) some = refl
    answers (Err code) none = none

    still : (e : HostError)
        → TreeAfter {A = ℕ} w.tree (stepped w.tree s text how) v.tree (opened w.tree s text (options_of how) how.follow)
        (Err e)
        → TreeAfter {A = Descriptor} w.tree (stepped w.tree s text how) v.tree
        (meant_by w.tree (opens s text how)).answer (Err e)
    still Memory after = after
    still (Code Io) after = elim after [
      | inl stays ↦ inl stays
      | inr hides ↦ hidden w.tree s text how perms may v.tree
          (ap is_ok (found_is w.tree s text how) ∙ answers (opened w.tree s text (options_of how) how.follow) hides.0)
          hides.1
    ]
    still (Code code) after = after

-- ---- the path was opened

-- and so it is, whatever was asked of the new handle since
record HasOpened (live : Handles) (w v : HostModel) (s : ℕ) (text : List ℕ) (how : OpenHow) (found : Opened) : Type 0 where
  pub reply : found_at w.tree s text how ≡ Ok found
  pub tree : v.tree ≡ stepped w.tree s text how
  pub touched : Touches w.tree v.tree (s ∷ []) (meant_by w.tree (opens s text how)).ends w.touched v.touched
  pub keeps : (h : ℕ) → contains live h ≡ true → v.held h ≡ w.held h

has_opened : {live : Handles} {w u : HostModel} {s : ℕ} {text : List ℕ} {h : ℕ} (how : OpenHow)
    → Resolved {A = ℕ} live w u (opens_at w.tree s text (options_of how)) u.held (Ok h)
    → HasOpened live w u s text how (opened_in u.tree (u.held h))
has_opened {live} {w} {u} {s} {text} {h} how did = record {
  reply = found_is w.tree s text how
      ∙ ap (λ m. m >>= (λ held. Ok (opened_in (stepped w.tree s text how) held))) same.answer
      ∙ ap (λ t. let r : Result Opened ErrorCode = Ok (opened_in t (u.held h)) in r) (sym same.tree);
  tree = same.tree;
  touched = same.touched;
  keeps = same.keeps;
}
  where
    same : Resolved {A = ℕ} live w u (resolver_opens w.tree s text how) u.held (Ok h)
    same = subst (λ m. Resolved {A = ℕ} live w u m u.held (Ok h)) (resolver_is w.tree s text how) did

-- and then these were touched
touches_then : {t t' : Tree} {roots ends : List ℕ} {a b c : Nodes} (ns : List ℕ) → Touches t t' roots ends a b
    → c ≡ with_nodes b ns
    → ((n : ℕ) → Contains ns n → OrMade (Reached t roots) t t' n) → Touches t t' roots ends a c
touches_then {t} {t'} {roots} {ends} {a} {b} {c} ns first with near =
    let second : Touches t t' roots [] b c = touches_with ns with near (All-nil _) in record {
      stays = λ n is. second.stays n (first.stays n is);
      near = λ n is. elim (second.near n is) [ inl before ↦ first.near n before | inr here ↦ inr here ];
      ends = All-weaker _ (λ n. contains c n ≡ true) (λ n is. second.stays n is) ends first.ends;
    }

module _ {live : Handles} {w u v : HostModel} {s : ℕ} {text : List ℕ} {how : OpenHow} {found : Opened}
    (has : HasOpened live w u s text how found) where
  -- nothing more was touched
  opened_stays : ModelStays live u v → HasOpened live w v s text how found
  opened_stays stayed = record {
    reply = has.reply;
    tree = stayed.tree ∙ has.tree;
    touched =
        let ends = (meant_by w.tree (opens s text how)).ends in
        subst (λ t. Touches w.tree t (s ∷ []) ends w.touched v.touched) (sym stayed.tree)
        (subst (Touches w.tree u.tree (s ∷ []) ends w.touched) (sym stayed.touched) has.touched);
    keeps = λ h is. stayed.keeps h is ∙ has.keeps h is;
  }

  -- its node was looked at, which is near, or was made
  opened_looks : v.tree ≡ u.tree → v.touched ≡ with_nodes u.touched (found.held.node ∷ [])
      → ((h : ℕ) → contains live h ≡ true → v.held h ≡ u.held h)
      → HasOpened live w v s text how found
  opened_looks tree with keeps = record {
    reply = has.reply;
    tree = tree ∙ has.tree;
    touched =
        let ends = (meant_by w.tree (opens s text how)).ends in
        touches_then (found.held.node ∷ [])
        (subst (λ t. Touches w.tree t (s ∷ []) ends w.touched u.touched) (sym tree) has.touched) with
        (λ n near. subst (λ t. OrMade (Reached w.tree (s ∷ [])) w.tree t n) (sym (tree ∙ has.tree))
        (path_given_seen (reached_closed w.tree (s ∷ [])) (OpenPath s text (options_of how) how.follow false) found
        root
        (ap (λ r. r >>= as_asked false) has.reply) n near));
    keeps = λ h is. keeps h is ∙ has.keeps h is;
  }

-- ---- how it ends

module _ {live : Handles} {w v : HostModel} {s : ℕ} {text : List ℕ} {how : OpenHow} {found : Opened}
    (has : HasOpened live w v s text how found) where
  asks : (meant_by w.tree (opens s text how)).answer ≡ as_asked how.directory found
  asks = ap (λ r. r >>= as_asked how.directory) has.reply

  ends_ok : {descriptor : Descriptor} → as_asked how.directory found ≡ Ok (opened_of v.held descriptor)
      → Resolved live w v (meant_by w.tree (opens s text how)) (opened_of v.held) (Ok descriptor)
  ends_ok is = record { answer = asks ∙ is; tree = has.tree; touched = has.touched; keeps = has.keeps }

  module _ (perms : FsPerms) (may : may_open how perms ≡ None) where
    ends_refused : as_asked how.directory found ≡ Err NotDirectory
        → Resolved live w v (meant_by w.tree (opens s text how)) (opened_of v.held) (Err (Code NotDirectory))
    ends_refused is = record {
      answer = asks ∙ is;
      tree = has.tree
          ∙ directory_leaves w.tree s text how perms may (as_refused how.directory found is) (ap is_ok has.reply);
      touched = no_ends has.touched;
      keeps = has.keeps;
    }

    ends_failed : Resolved live w v (meant_by w.tree (opens s text how)) (opened_of v.held) (Err (Code Io))
    ends_failed = record {
      answer = tt;
      tree = hidden w.tree s text how perms may v.tree (ap is_ok has.reply) has.tree;
      touched = no_ends has.touched;
      keeps = has.keeps;
    }

-- ---- the new handle's metadata

-- h is the new handle, u the model after the open
module _ (text : List ℕ) (how : OpenHow) {old mid new : Handles} {w u : HostModel} {s h : ℕ}
    (fresh : (contains old h ≡ false) × (mid ≡ insert old h))
    (did : Resolved {A = ℕ} old w u (opens_at w.tree s text (options_of how)) u.held (Ok h)) (same : new ≡ mid) where
  opens_first : HasOpened old w u s text how (opened_in u.tree (u.held h))
  opens_first = has_opened how did

  kept : (q : ℕ) → contains old q ≡ true → (contains mid q ≡ true) × (contains new q ≡ true)
  kept q live = let at = still_live old h fresh.1 q live in (at, same_live same q at)

  got : contains mid h ≡ true
  got = subst (λ s. contains s h ≡ true) (sym fresh.1) (grind (arith, members, nat_tests))

  -- it is closed again
  closed : {last : Handles} {v z : HostModel} → last ≡ remove new h
      → RefinesCall {A = Unit {0}} new last v z Close (λ unit. unit) answered → ModelStays old v z
  closed ended modelled =
      let again = ended ∙ ap (λ s. remove s h) (same ∙ fresh.1) ∙ remove-insert old h fresh.0 in
      close_stays modelled (λ q live. ((kept q live).1, subst (λ s. contains s q ≡ true) (sym again) live))

  -- they were given
  module _ {v : HostModel} {metadata : Metadata}
      (modelled : RefinesCall {A = Metadata} mid new u v (Stat (u.held h).node) (λ m. m) (Ok metadata)) where
    opens_known : HasOpened old w v s text how (opened_in u.tree (u.held h))
    opens_known =
        opened_looks opens_first modelled.after.tree modelled.after.touched (λ q live. modelled.keeps q (kept q live).0
        (kept q live).1)

    known : opened_in u.tree (u.held h) ≡ record { held = v.held h; is_dir = is_directory_kind metadata.kind }
    known =
        let content = (node_at u.tree (u.held h).node).content in
        let kind = sym (directory_says content)
        ∙ ap is_directory_kind (sym (kind_known u.tree (u.held h).node modelled.meaning)) in
        let stays = sym (modelled.keeps h got (same_live same h got)) in
        (λ i. record { held = stays i; is_dir = kind i })

    pub opening_ok : {descriptor : Descriptor}
        → Ok (opened_of v.held descriptor)
        ≡ as_asked how.directory (record { held = v.held h; is_dir = is_directory_kind metadata.kind })
        → Resolved old w v (meant_by w.tree (opens s text how)) (opened_of v.held) (Ok descriptor)
    opening_ok at = ends_ok opens_known (ap (as_asked how.directory) known ∙ sym at)

    -- but it is no directory, and one was asked for
    pub opening_refused : {last : Handles} {z : HostModel} {code : ErrorCode} (perms : FsPerms)
        → may_open how perms ≡ None → last ≡ remove new h
        → RefinesCall {A = Unit {0}} new last v z Close (λ unit. unit) answered
        → code ≡ NotDirectory
        → Err code ≡ as_asked how.directory (record { held = v.held h; is_dir = is_directory_kind metadata.kind })
        → Resolved old w z (meant_by w.tree (opens s text how)) (opened_of z.held) (Err (Code code))
    opening_refused {z = z} perms may ended modelled code at =
        subst (λ c. Resolved old w z (meant_by w.tree (opens s text how)) (opened_of z.held) (Err (Code c))) (sym code)
        (ends_refused (opened_stays opens_known (closed ended modelled)) perms may
        (ap (as_asked how.directory) known ∙ sym at ∙ ap Err code))

  -- the host failed
  pub opening_failed : {last : Handles} {v z : HostModel} (perms : FsPerms) (code : ErrorCode) → may_open how perms ≡ None
      → RefinesCall {A = Metadata} mid new u v (Stat (u.held h).node) (λ m. m) (hosted (Err code))
      → last ≡ remove new h
      → RefinesCall {A = Unit {0}} new last v z Close (λ unit. unit) answered
      → Resolved old w z (meant_by w.tree (opens s text how)) (opened_of z.held) (Err (Code code))
  opening_failed {v = v} perms Io may modelled ended close =
      ends_failed (opened_stays (looks modelled.after) (closed ended close)) perms may
    where
      keeps : (q : ℕ) → contains old q ≡ true → v.held q ≡ u.held q
      keeps q live = modelled.keeps q (kept q live).0 (kept q live).1

      looks : AfterErr u (Stat (u.held h).node) (Code Io) v
          → HasOpened old w v s text how (opened_in u.tree (u.held h))
      looks (inl stayed) =
          opened_stays opens_first (record { tree = stayed.tree; touched = stayed.touched; keeps = keeps })
      looks (inr (inl looked)) = opened_looks opens_first looked.tree looked.touched keeps
      looks (inr (inr stepped)) = opened_looks opens_first stepped.1.tree stepped.1.touched keeps
  opening_failed perms code may modelled ended close = absurd (stat_given u.tree (u.held h).node modelled.meaning)
