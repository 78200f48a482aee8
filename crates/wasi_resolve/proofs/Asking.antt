-- What a walk asks a host for may be asked: over a valid tree its last name is a name. So may what is asked at a place.
use Rattle.std.proofs.Common.{ℕ, zero, suc, ◌≡◌, ◌<◌, arith, Bool, true, false, cond, List, [], ◌∷◌, ◌++◌, inl, inr, refl, sym, subst, Option, Some, None, Ok, Err}
use Rattle.std.specs.Prelude.{codes, slice_index, ◌||◌, IfSome, Result}
use Rattle.std.specs.Str.{IsUtf8}
use Rattle.std.specs.List.{All}
use Rattle.std.proofs.lemmas.Bool.{cases_lt, cases_Bool}
use Rattle.std.proofs.lemmas.List.Elements.{All-head, All-tail, All-append, All-contains, Contains-push}
use Rattle.std.proofs.lemmas.Str.{IsUtf8-nil, IsUtf8-from_ascii}
use Rattle.wasi_paths.specs.Text.{IsName}
use Rattle.wasi_paths.specs.Parts.{Component, RootDir, CurDir, ParentDir, Normal, components, parts, trailing_slash, is_empty, requires_dir, ends_with_parent, split, strip_dir_suffix}
use Rattle.wasi_paths.specs.TextLaws.{IsSplit}
use Rattle.wasi_paths.proofs.OneSplit.{texts_have_one_split}
use Rattle.wasi_host.specs.Options.{Options}
use Rattle.wasi_host.specs.Tree.{Tree, Content, File, Directory, Link, node_at, next_of, child, text_of}
use Rattle.wasi_host.specs.ValidTree.{IsValidTree, IsValidContent}
use Rattle.wasi_host.specs.HostCall.{OpenAt, CanBeAsked}
use Rattle.wasi_host.specs.Answer.{text_held, link_text}
use Rattle.wasi_host.specs.Steps.{◌>>=◌}
use Rattle.wasi_host.specs.declared.errors.ErrorCode.{ErrorCode}
use Rattle.wasi_host.specs.declared.errors.ErrorCode.TheVariants as refusals
use Rattle.wasi_host.proofs.Changes.{node_at-past}
use Rattle.wasi_resolve.specs.Walk.{Aim, Open, Outcome, Stop, Name, Dot, Position, Leg, Ended, Linked, leg, at, unless_refused, is_to_be_read, refused, Walk, ended, one_link_more, resume, walk_from, walk}
use Rattle.wasi_resolve.specs.Paths.{Opening, opening_of, opening, Place, parent, part_text, place_at, place}
use Rattle.wasi_resolve.specs.EntryOps.{EntryOp, CreateDir, RemoveFile, RemoveDir, Symlink, ReadLink, SetTimes, call_at, place_for}
use Rattle.wasi_resolve.specs.TwoPathOps.{TwoPathOp, HardLink, Rename, Places, call_at_two, places_in, places_for}
use Rattle.wasi_resolve.proofs.TextNames.{HasName, components_named, parts_named, stripped_utf8}

-- ---- the texts of links

text_utf8 : (t : Tree) (n : ℕ) (content : Content) → IsValidContent t n content → IsUtf8 (text_of content)
text_utf8 t n (File bytes links) valid = IsUtf8-nil
text_utf8 t n (Directory names gone) valid = IsUtf8-nil
text_utf8 t n (Link text links) valid = valid.2

module _ {t : Tree} (valid : IsValidTree t) where
  held_utf8 : (found : Option ℕ) → IsUtf8 (text_held t found)
  held_utf8 None = IsUtf8-nil
  held_utf8 (Some n) = elim (cases_lt n (next_of t)) [
    | inl within ↦ text_utf8 t n (node_at t n).content (valid.nodes n within)
    | inr past ↦ subst (λ node. IsUtf8 (text_of node.content)) (sym (node_at-past t n past)) IsUtf8-nil
  ]

  -- a link's text, which a host answers
  pub link_utf8 : (d : ℕ) (name : List ℕ) → IsUtf8 (link_text t d name)
  unfolding link_text
  link_utf8 d name = held_utf8 (child t d name)

  -- ---- the walk

  abbrev EndNamed : Outcome → Type 0
  EndNamed (Name d name slash) = IsName name
  EndNamed (Stop code) = Unit {0}
  EndNamed (Dot d) = Unit {0}

  abbrev LegNamed : Leg Position → Type 0
  LegNamed (Ended m outcome) = EndNamed outcome
  LegNamed (Linked m names text left) = IsUtf8 text × All HasName left

  either : (b : Bool) (x y : Leg Position) → LegNamed x → LegNamed y → LegNamed (cond b x y)
  either true x y one other = one
  either false x y one other = other

  down : (m : ℕ) (r : Option ErrorCode) (l : Leg Position) → LegNamed l → LegNamed (unless_refused m r l)
  down m None l on = on
  down m (Some code) l on = tt

  module _ (s : ℕ) (aim : Aim) (follow : Bool) where
    leg_named : (slash : Bool) (m : ℕ) (left : List Component) (names : Position) → All HasName left
        → LegNamed (leg t s aim follow slash m left names)
    leg_named slash m [] names all = tt
    leg_named slash m (RootDir ∷ left) names all = tt
    leg_named slash m (CurDir ∷ left) names all = leg_named slash (suc m) left names (All-tail HasName CurDir left all)
    leg_named slash m (ParentDir ∷ left) [] all = tt
    leg_named slash m (ParentDir ∷ left) (name ∷ names) all =
        either (node_at t (at t s (name ∷ names))).bits.x _ _
        (leg_named slash (suc m) left names (All-tail HasName ParentDir left all)) tt
    leg_named slash m (Normal name ∷ []) names all =
        either (is_to_be_read t aim follow slash true (at t s names) name) _ _
        (link_utf8 (at t s names) name, All-tail HasName (Normal name) [] all)
        (All-head HasName (Normal name) [] all)
    leg_named slash m (Normal name ∷ part ∷ left) names all =
        either (is_to_be_read t aim follow slash false (at t s names) name) _ _
        (link_utf8 (at t s names) name, All-tail HasName (Normal name) (part ∷ left) all)
        (down (suc m) (refused t aim slash false (at t s names) name) _
        (leg_named slash (suc m) (part ∷ left) (name ∷ names) (All-tail HasName (Normal name) (part ∷ left) all)))

    resume_named : (on : Bool → ℕ → List Component → Position → Walk) (slash : Bool) (l : Leg Position) → LegNamed l
        → ((slash : Bool) (m : ℕ) (left : List Component) (names : Position) → All HasName left
        → EndNamed (on slash m left names).outcome)
        → EndNamed (resume on slash l).outcome
    resume_named on slash (Ended m outcome) named ends = named
    resume_named on slash (Linked m names text left) named ends =
        ends _ m (parts text ++ left) names (All-append HasName (parts text) left (parts_named text named.0) named.1)

    from_named : (links : ℕ) (slash : Bool) (m : ℕ) (left : List Component) (names : Position) → All HasName left
        → EndNamed (walk_from t s aim follow links slash m left names).outcome
    from_named zero slash m left names all =
        resume_named (λ _ m _ _. ended m (Stop refusals.Loop)) slash (leg t s aim follow slash m left names)
        (leg_named slash m left names all) (λ _ _ _ _ _. tt)
    from_named (suc links) slash m left names all =
        resume_named (λ slash m left names. one_link_more (walk_from t s aim follow links slash m left names)) slash
        (leg t s aim follow slash m left names) (leg_named slash m left names all)
        (λ slash m left names all. from_named links slash m left names all)

    walk_named : (text : List ℕ) → IsUtf8 text → EndNamed (walk t s text aim follow).outcome
    unfolding walk
    walk_named text is = by (is_empty text)
      where
        by : (b : Bool) → EndNamed (cond b (ended 0 (Stop refusals.NoEntry))
            (walk_from t s aim follow 40 (trailing_slash text) 0 (parts text) [])).outcome
        by true = tt
        by false = from_named 40 (trailing_slash text) 0 (parts text) [] (parts_named text is)

dot_is_ascii : (i : ℕ) → slice_index (codes ".") i < 128
dot_is_ascii zero = omega arith
dot_is_ascii (suc i) = omega arith

dot_is_name : IsName (codes ".")
dot_is_name = record { name = refl; utf8 = IsUtf8-from_ascii (codes ".") dot_is_ascii }

-- the open in which an open of a path ends may be asked of a host
pub opening_asked : {t : Tree} (s : ℕ) (text : List ℕ) (o : Options) (follow : Bool) {e : Opening} → IsValidTree t
    → IsUtf8 text → opening t s text o follow ≡ Ok e → CanBeAsked (OpenAt e.directory e.name e.options)
unfolding opening
opening_asked {t} s text o follow {e} valid is opens =
    by (walk t s text (Open o) follow).outcome (walk_named valid s (Open o) follow text is) opens
  where
    dot : (d : ℕ) (write : Bool)
        → cond write (Err refusals.IsDirectory) (Ok (record { directory = d; name = codes "."; options = o })) ≡ Ok e
        → IsName e.name
    dot d true same = absurd (cc)
    dot d false same = let name : codes "." ≡ e.name = (cc) in subst IsName name dot_is_name

    by : (outcome : Outcome) → EndNamed valid outcome → opening_of o outcome ≡ Ok e → IsName e.name
    by (Stop code) named same = absurd (cc)
    by (Name d name slash) named same = let same_name : name ≡ e.name = (cc) in subst IsName same_name named
    by (Dot d) named same = dot d o.write same

-- ---- the place

last_named : {text front : List ℕ} (last : Component) → IsSplit text front last → IsUtf8 text → IsName (part_text last)
last_named RootDir k is = absurd k.last_part
last_named CurDir k is = dot_is_name
last_named ParentDir k is = absurd k.last_part
last_named {text} {front} (Normal name) k is =
    elim (cases_Bool (requires_dir text || ends_with_parent text)) [
      | inl whole ↦ let dot = (k.whole whole).1 in absurd (cc)
      | inr cut ↦
          let before = k.cut cut in
          All-contains HasName (components front ++ Normal name ∷ []) (Normal name)
          (subst (All HasName) before.all (components_named text is)) (Contains-push (components front) (Normal name))
    ]

split_named : (text : List ℕ) → IsUtf8 text → IfSome (split text) (λ halves. IsName (part_text halves.1))
split_named text is = by (split text) (texts_have_one_split text).one
  where
    by : (found : Option (List ℕ × Component)) → IfSome found (λ halves. IsSplit text halves.0 halves.1)
        → IfSome found (λ halves. IsName (part_text halves.1))
    by None k = tt
    by (Some halves) k = last_named halves.1 k is

place_named : (t : Tree) (s : ℕ) (text : List ℕ) {p : Place} → IsUtf8 text → place t s text ≡ Ok p → IsName p.name
unfolding place
place_named t s text {p} is found = by (split text) (split_named text is) found
  where
    in_directory : (part : Component) (d : Result ℕ ErrorCode) → IsName (part_text part)
        → d >>= (λ n. let r : Result Place ErrorCode = Ok (record { directory = n; name = part_text part }) in r) ≡ Ok p
        → IsName p.name
    in_directory part (Err code) named same = absurd (cc)
    in_directory part (Ok n) named same =
        let same_name : part_text part ≡ p.name = (cc) in subst IsName same_name named

    by : (halves : Option (List ℕ × Component)) → IfSome halves (λ h. IsName (part_text h.1))
        → place_at t s halves ≡ Ok p → IsName p.name
    by None named same = absurd (cc)
    by (Some halves) named same = in_directory halves.1 (parent t s halves.0) named same

-- of two places both
places_named : (t : Tree) (old : ℕ) (old_text : List ℕ) (new : ℕ) (new_text : List ℕ) {p : Places}
    → IsUtf8 old_text → IsUtf8 new_text → places_in t old old_text new new_text ≡ Ok p
    → IsName p.old.name × IsName p.new.name
places_named t old old_text new new_text {p} old_is new_is found =
    by (place t old old_text) (place t new new_text) (λ q is. place_named t old old_text old_is is)
    (λ q is. place_named t new new_text new_is is) found
  where
    by : (a b : Result Place ErrorCode) → ((q : Place) → a ≡ Ok q → IsName q.name)
        → ((q : Place) → b ≡ Ok q → IsName q.name)
        → a >>= (λ x. b >>= (λ y. let r : Result Places ErrorCode = Ok (record { old = x; new = y }) in r)) ≡ Ok p
        → IsName p.old.name × IsName p.new.name
    by (Ok x) (Ok y) old_named new_named same =
        let made : Places = record { old = x; new = y } in
        let at : made ≡ p = (cc) in
        subst (λ (q : Places). IsName q.old.name × IsName q.new.name) at (old_named x refl, new_named y refl)
    by (Ok x) (Err code) old_named new_named same = absurd (cc)
    by (Err code) b old_named new_named same = absurd (cc)

-- the text of a link that is to be made is UTF-8
abbrev pub HasUtf8Target : EntryOp → Type 0
HasUtf8Target CreateDir = Unit {0}
HasUtf8Target RemoveFile = Unit {0}
HasUtf8Target RemoveDir = Unit {0}
HasUtf8Target (Symlink target) = IsUtf8 target
HasUtf8Target ReadLink = Unit {0}
HasUtf8Target (SetTimes atime mtime) = Unit {0}

-- the call at a place may be asked of a host
pub place_asked : (t : Tree) (s : ℕ) (text : List ℕ) (what : EntryOp) {p : Place} → IsUtf8 text → HasUtf8Target what
    → place_for t s text what ≡ Ok p → CanBeAsked (call_at what p)
place_asked t s text CreateDir is target found = place_named t s (strip_dir_suffix text) (stripped_utf8 text is) found
place_asked t s text RemoveFile is target found = place_named t s text is found
place_asked t s text RemoveDir is target found = place_named t s text is found
place_asked t s text (Symlink link) is target found = (target, place_named t s text is found)
place_asked t s text ReadLink is target found = place_named t s text is found
place_asked t s text (SetTimes atime mtime) is target found = place_named t s text is found

-- and that at two places
pub places_asked : (t : Tree) (old : ℕ) (old_text : List ℕ) (new : ℕ) (new_text : List ℕ) (what : TwoPathOp)
    (requires_dir : Bool) {p : Places} → IsUtf8 old_text → IsUtf8 new_text
    → places_for t old old_text new new_text what ≡ Ok p → CanBeAsked (call_at_two what requires_dir p)
places_asked t old old_text new new_text HardLink requires_dir old_is new_is found =
    places_named t old old_text new new_text old_is new_is found
places_asked t old old_text new new_text Rename requires_dir old_is new_is found =
    places_named t old (strip_dir_suffix old_text) new (strip_dir_suffix new_text) (stripped_utf8 old_text old_is)
    (stripped_utf8 new_text new_is) found
