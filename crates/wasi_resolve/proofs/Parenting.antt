-- The place that a path names.
use Rattle.std.proofs.Common.{◌≡◌, ℕ, ◌≤◌, ◌+◌, Bool, true, false, cond, List, [], ◌∷◌, length, Option, Some, None, Result, Ok, Err, refl, sym, ap, subst, ◌∙◌, arith}
use Rattle.std.specs.Prelude.{is_ok, codes, if◌then◌else◌}
use Rattle.wasi_host.specs.Options.{Options, creates}
use Rattle.wasi_host.specs.Tree.{Tree}
use Rattle.wasi_host.specs.Agree.{Touches}
use Rattle.wasi_host.specs.Answer.{unless, reached, access_of}
use Rattle.wasi_host.specs.HostCall.{OpenAt}
use Rattle.wasi_host.specs.Refusal.{refusal}
use Rattle.wasi_host.specs.Steps.{◌>>=◌}
use Rattle.wasi_host.specs.HostLaws.{HostModel, Handles, MeansErr}
use Rattle.wasi_host.specs.declared.errors.ErrorCode.{ErrorCode}
use Rattle.wasi_host.specs.declared.errors.ErrorCode.TheVariants.{IsDirectory, NoEntry}
use Rattle.wasi_host.specs.declared.errors.HostError.{HostError}
use Rattle.wasi_host.specs.declared.errors.HostError.TheVariants.{Code}
use Rattle.wasi_host.specs.declared.open_handle.OpenHandle.{OpenHandle}
use Rattle.wasi_host.specs.declared.lookup.Lookup.{Lookup}
use Rattle.wasi_paths.specs.Name.{name_bytes}
use Rattle.wasi_paths.specs.Parts.{Component, split, is_empty}
use Rattle.wasi_paths.specs.declared.name.Name.{Name}
use Rattle.wasi_resolve.specs.Walk.{Outcome, Stop, Name as NameEnd, Dot, Open, walk, walk_looks, last_options}
use Rattle.wasi_resolve.specs.Paths.{Opening, Place, opening, opening_of, opened_by, step_of, opened, after_open, directory_options, parent, place, place_at, part_text}
use Rattle.wasi_resolve.specs.Meanings.{ends_by, opened_node, opens_at}
use Rattle.wasi_resolve.specs.Resolved.{Resolved}
use Rattle.wasi_resolve.specs.Parents.{parent_ends, parent_in, parent_looks, parent_text, shown_place, places_at}
use Rattle.wasi_resolve.specs.declared.parent.MaybeOwned.TheVariants.{Borrowed, Owned}
use Rattle.wasi_host.proofs.Touching.{touches_same}
use Rattle.wasi_resolve.proofs.Calls.{looks_of, looks_none, means_then, resolved_err}
use Rattle.wasi_resolve.proofs.Tables.{open_leaves}
use Rattle.wasi_resolve.proofs.Entering.{ok_free}

-- ---- an open that asks to make and cut nothing makes no step

plain_opening : (o : Options) (outcome : Outcome) (e : Opening) → creates o ≡ false → o.truncate ≡ false
    → opening_of o outcome ≡ Ok e
    → (creates e.options ≡ false) × (e.options.truncate ≡ false)
plain_opening o (Stop code) e not_made not_cut is = absurd (cc)
plain_opening o (NameEnd d name slash) e not_made not_cut is =
    let made : Opening = record { directory = d; name = name; options = last_options o slash } in
    let same : made ≡ e = (cc) in
    subst (λ (x : Opening). (creates x.options ≡ false) × (x.options.truncate ≡ false)) same (not_made, not_cut)
plain_opening o (Dot d) e not_made not_cut is = by o.write is
  where
    made : Opening
    made = record { directory = d; name = codes "."; options = o }

    by : (write : Bool) → (let r : Result Opening ErrorCode = if write then Err IsDirectory else Ok made in r) ≡ Ok e
        → (creates e.options ≡ false) × (e.options.truncate ≡ false)
    by true wrong = absurd (cc)
    by false at =
        let same : made ≡ e = (cc) in
        subst (λ (x : Opening). (creates x.options ≡ false) × (x.options.truncate ≡ false)) same (not_made, not_cut)

step_none : (t : Tree) (r : Result Opening ErrorCode)
    → ((e : Opening) → r ≡ Ok e → (creates e.options ≡ false) × (e.options.truncate ≡ false))
    → is_ok (r >>= opened_by t) ≡ true
    → step_of t r ≡ t
step_none t (Err code) plain is = refl
step_none t (Ok e) plain is =
    let options = plain e refl in
    open_leaves t e.directory e.name e.options (ok_free (refusal t
    (OpenAt e.directory e.name e.options)) _ is) options.0 options.1

pub opening_leaves : (t : Tree) (s : ℕ) (text : List ℕ) (o : Options) (follow : Bool) → creates o ≡ false
    → o.truncate ≡ false → is_ok (opened t s text o follow) ≡ true
    → after_open t s text o follow ≡ t
unfolding opening
opening_leaves t s text o follow not_made not_cut is =
    let outcome = (walk t s text (Open o) follow).outcome in
    step_none t (opening_of o outcome) (λ e at. plain_opening o outcome e not_made not_cut at) is

dir_leaves : (t : Tree) (s : ℕ) (text : List ℕ) → is_ok (opened t s text directory_options true) ≡ true
    → after_open t s text directory_options true ≡ t
dir_leaves t s text is = opening_leaves t s text directory_options true refl refl is

-- ---- the place

module _ (t : Tree) (s : ℕ) (path text : List ℕ) (part : Component) (is : split path ≡ Some (text, part)) where
  abbrev place_in : ℕ → Result Place ErrorCode
  place_in d = Ok (record { directory = d; name = part_text part })

  -- in a directory that is opened
  place_opened : is_empty text ≡ false
      → place t s path ≡ opened t s text directory_options true >>= (λ held. Ok held.node) >>= place_in
  unfolding place
  place_opened some = ap (place_at t s) is ∙ by text some
    where
      by : (l : List ℕ) → is_empty l ≡ false
          → parent t s l >>= place_in ≡ opened t s l directory_options true >>= (λ held. Ok held.node) >>= place_in
      by [] wrong = absurd (cc)
      by (b ∷ l) right = refl

  -- in the start
  place_start : is_empty text ≡ true → place t s path ≡ place_in s
  unfolding place
  place_start none = ap (place_at t s) is ∙ by text none
    where
      by : (l : List ℕ) → is_empty l ≡ true → parent t s l >>= place_in ≡ place_in s
      by [] right = refl
      by (b ∷ l) wrong = absurd (cc)

place_none : (t : Tree) (s : ℕ) (path : List ℕ) → split path ≡ None → place t s path ≡ Err NoEntry
unfolding place
place_none t s path is = ap (place_at t s) is

-- ---- where the path to a place ends

-- at the directory of an open that is answered
open_ends_at : (t : Tree) (r : Result Opening ErrorCode) (held : OpenHandle) → r >>= opened_by t ≡ Ok held
    → ends_by (opened_node t) r ≡ held.node ∷ []
open_ends_at t (Err code) held is = absurd (cc)
open_ends_at t (Ok e) held is = by (refusal t (OpenAt e.directory e.name e.options)) is
  where
    by : (o : Option ErrorCode) → unless o (record { node = reached t e.directory e.name; mode = access_of e.options })
        ≡ Ok held → ends_by (opened_node t) (Ok e) ≡ held.node ∷ []
    by None same = ap (λ (r : Result OpenHandle ErrorCode). ends_by (λ (h : OpenHandle). h.node) r) same
    by (Some code) wrong = absurd (cc)

module _ (t : Tree) (s : ℕ) (path : List ℕ) {text : List ℕ} {part : Component} (is : split path ≡ Some (text, part)) where
  text_is : parent_text path ≡ text
  text_is = ap parent_in is

  -- nowhere, where it is in the start itself
  ends_nowhere : is_empty text ≡ true → parent_ends t s path ≡ []
  unfolding parent_ends
  ends_nowhere none =
      ap (λ b. cond b [] (ends_by (λ (p : Place). p.directory) (place t s path))) (ap is_empty text_is ∙ none)

  ends_there : is_empty text ≡ false → (p : Place) → place t s path ≡ Ok p → parent_ends t s path ≡ p.directory ∷ []
  unfolding parent_ends
  ends_there some p found =
      ap (λ b. cond b [] (ends_by (λ (q : Place). q.directory) (place t s path))) (ap is_empty text_is ∙ some)
      ∙ ap (ends_by (λ (q : Place). q.directory)) found

  looks_there : is_empty text ≡ false
      → parent_looks t s path ≡ walk_looks (walk t s text (Open directory_options) true)
  unfolding parent_looks
  looks_there some =
      ap (λ b. cond b 0 (walk_looks (walk t s (parent_text path) (Open directory_options) true)))
      (ap is_empty text_is ∙ some)
      ∙ ap (λ l. walk_looks (walk t s l (Open directory_options) true)) text_is

  -- so an open of the parent's text keeps the bound
  pub placed_bound : (old new : List Lookup) → is_empty text ≡ false
      → length new ≤ length old + walk_looks (walk t s text (Open directory_options) true)
      → length new ≤ length old + parent_looks t s path
  placed_bound old new some few = omega (arith, few, looks_there some)

-- ---- over a modelled host

pub placed_none : (live : Handles) (w : HostModel) (s : ℕ) (path : List ℕ) → split path ≡ None
    → Resolved live w w (places_at w.tree s path) (shown_place w.held) (Err (Code NoEntry))
placed_none live w s path is =
    resolved_err (places_at w.tree s path) (shown_place w.held) (Code NoEntry) refl (place_none w.tree s path is)
    (looks_none live w (s ∷ []))

pub placed_start : (live : Handles) (w : HostModel) (start : ℕ) (path : List ℕ) {text : List ℕ} {part : Component}
    (name : Name)
    → split path ≡ Some (text, part) → is_empty text ≡ true → name_bytes name ≡ part_text part
    → Resolved live w w (places_at w.tree (w.held start).node path) (shown_place w.held) (Ok (record {
      directory =
          Borrowed start;
      name = name;
    }))
placed_start live w start path {text} {part} name is none named = record {
  answer = place_start w.tree (w.held start).node path text part is none
      ∙ ap (λ n. let r : Result Place ErrorCode =
      Ok (record { directory = (w.held start).node; name = n }) in r) (sym named);
  tree = refl;
  touched =
      subst (λ ns. Touches w.tree w.tree ((w.held start).node ∷ []) ns w.touched w.touched)
      (sym (ends_nowhere w.tree (w.held start).node path is none)) (touches_same refl);
  keeps = λ h within. refl;
}

module _ {live : Handles} {w u : HostModel} (s : ℕ) (path text : List ℕ) (part : Component) (is : split path ≡ Some
    (text, part))
    (some : is_empty text ≡ false) where
  pub placed_ok : (h : ℕ) (name : Name) → name_bytes name ≡ part_text part
      → Resolved live w u (opens_at w.tree s text directory_options) u.held (Ok h)
      → Resolved live w u (places_at w.tree s path) (shown_place u.held) (Ok (record {
        directory =
            Owned h;
        name = name;
      }))
  placed_ok h name named resolved =
      let opens : place w.tree s path ≡ Ok (record { directory = (u.held h).node; name = part_text part }) =
      place_opened w.tree s path text part is some
      ∙ ap (λ x. x >>= (λ (held : OpenHandle). Ok held.node) >>= (λ d. let p : Result Place ErrorCode =
      Ok (record { directory = d; name = part_text part }) in p)) resolved.answer in
      let ends = open_ends_at w.tree (opening w.tree s text directory_options true) (u.held h) resolved.answer in
      record {
        answer = opens ∙ ap (λ n. let r : Result Place ErrorCode =
            Ok (record { directory = (u.held h).node; name = n }) in r) (sym named);
        tree = (looks_of (Ok h) (dir_leaves w.tree s text) resolved).tree;
        touched =
            subst (λ ns. Touches w.tree u.tree (s ∷ []) ns w.touched u.touched)
            (ends ∙ sym (ends_there w.tree s path is some _ opens)) resolved.touched;
        keeps = resolved.keeps;
      }

  pub placed_err : (e : HostError) → Resolved live w u (opens_at w.tree s text directory_options) u.held (Err e)
      → Resolved live w u (places_at w.tree s path) (shown_place u.held) (Err e)
  placed_err e resolved =
      resolved_err (places_at w.tree s path) (shown_place u.held) e refl
      (subst (λ r. MeansErr r e) (sym (place_opened w.tree s path text part is some))
      (means_then (opened w.tree s text directory_options true >>= (λ held. Ok held.node)) (λ d. Ok
      (record { directory = d; name = part_text part }))
      e (means_then (opened w.tree s text directory_options true) (λ held. Ok held.node) e resolved.answer)))
      (looks_of (Err e) (dir_leaves w.tree s text) resolved)
