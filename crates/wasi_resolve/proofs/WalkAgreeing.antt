-- A walk goes alike over two trees with equal nodes where it starts, and ends there.
use Rattle.std.proofs.Common.{ℕ, zero, suc, ◌≡◌, true, false, cond, Bool, List, [], ◌∷◌, ◌++◌, refl, ap, sym, ◌∙◌, subst, Option, Some, None}
use Rattle.std.specs.Prelude.{is_none, not, ◌&&◌, take, drop, Contains}
use Rattle.wasi_host.specs.Options.{Options, creates}
use Rattle.wasi_host.specs.Tree.{Tree, Node, node_at, child}
use Rattle.wasi_host.specs.HostCall.{OpenAt, StatAt}
use Rattle.wasi_host.specs.Refusal.{refusal, refusal_rules, first_rule}
use Rattle.wasi_host.specs.Answer.{reached}
use Rattle.wasi_host.specs.declared.errors.ErrorCode.{ErrorCode}
use Rattle.wasi_host.specs.declared.errors.ErrorCode.TheVariants as codes
use Rattle.wasi_paths.specs.Parts.{Component, RootDir, CurDir, ParentDir, Normal, parts, trailing_slash, is_empty}
use Rattle.wasi_resolve.specs.Walk.{Aim, Open, Look, Leg, Ended, Linked, Stop, is_to_be_read, refused, unless_refused, middle_options, last_options, Walk, ended, one_link_more, resume, walk_from, walk}
use Rattle.wasi_resolve.specs.ByNodes.{top, leg_nodes, walk_nodes}
use Rattle.wasi_host.specs.Agree.{IsClosed, AgreeOn}
use Rattle.wasi_resolve.specs.Laws.{EndsIn}
use Rattle.wasi_host.proofs.Agreeing as host
use Rattle.wasi_host.proofs.Agreeing.{one}
use Rattle.wasi_resolve.proofs.Simulation.{walk-by_nodes}

-- a rule that holds refuses
no_rule : (before : List (Bool × ErrorCode)) (row : Bool × ErrorCode) (rows : List (Bool × ErrorCode))
    → row.0 ≡ true → first_rule (before ++ row ∷ rows) ≡ None → ⊥
no_rule [] row rows is e = by row.0 is e
  where
    by : (b : Bool) → b ≡ true → cond b (Some row.1) (first_rule rows) ≡ None → ⊥
    by true is e = absurd (cc)
    by false is e = absurd (cc)
no_rule (first ∷ before) row rows is e = no_rule before row rows is (by first.0 e)
  where
    by : (b : Bool) → cond b (Some first.1) (first_rule (before ++ row ∷ rows)) ≡ None
        → first_rule (before ++ row ∷ rows) ≡ None
    by true e = absurd (cc)
    by false e = e

-- an open that makes nothing and isn't refused finds its name
pub there : (t : Tree) (d : ℕ) (name : List ℕ) (o : Options) → creates o ≡ false
    → refusal t (OpenAt d name o) ≡ None → (n : ℕ) × (child t d name ≡ Some n)
unfolding refusal
there t d name o makes_none e = by (child t d name) refl
  where
    by : (c : Option ℕ) → child t d name ≡ c → (n : ℕ) × (child t d name ≡ Some n)
    by (Some n) is = (n, is)
    by None is =
        let rows = refusal_rules t (OpenAt d name o) in
        absurd (no_rule (take 6 rows) (is_none (child t d name) && not (creates o), codes.NoEntry) (drop 7 rows) (rw
        (is, makes_none) refl) e)

-- a look that isn't refused finds its name
pub stat_there : (t : Tree) (d : ℕ) (name : List ℕ) → refusal t (StatAt d name) ≡ None
    → (n : ℕ) × (child t d name ≡ Some n)
unfolding refusal
stat_there t d name e = by (child t d name) refl
  where
    by : (c : Option ℕ) → child t d name ≡ c → (n : ℕ) × (child t d name ≡ Some n)
    by (Some n) is = (n, is)
    by None is =
        absurd (no_rule (take 4 (refusal_rules t (StatAt d name))) (is_none (child t d name), codes.NoEntry) [] (rw
        (is) refl) e)

-- a set that has a node
pub from_one : (Seen : ℕ → Type 0) {d : ℕ} → Seen d → (n : ℕ) → Contains (d ∷ []) n → Seen n
from_one Seen seen n has = subst Seen (one has) seen

module _ {Seen : ℕ → Type 0} {t u : Tree} (closed : IsClosed Seen t) (agree : AgreeOn Seen t u) where
  -- ---- a name of the walk

  refused_same : (aim : Aim) (slash is_last : Bool) (d : ℕ) (name : List ℕ) → Seen d
      → refused t aim slash is_last d name ≡ refused u aim slash is_last d name
  refused_same aim slash false d name seen =
      host.refused_same closed agree (OpenAt d name middle_options) (from_one Seen seen)
  refused_same (Open o) slash true d name seen =
      host.refused_same closed agree (OpenAt d name (last_options o slash)) (from_one Seen seen)
  refused_same Look slash true d name seen = host.refused_same closed agree (StatAt d name) (from_one Seen seen)

  read_same : (aim : Aim) (follow slash is_last : Bool) (d : ℕ) (name : List ℕ) → Seen d
      → is_to_be_read t aim follow slash is_last d name ≡ is_to_be_read u aim follow slash is_last d name
  unfolding is_to_be_read
  read_same aim follow slash is_last d name seen =
      rw (host.holds_same closed agree d name _ seen, refused_same aim slash is_last d name seen) refl

  pub reached_seen : (d : ℕ) (name : List ℕ) (o : Options) → Seen d → creates o ≡ false
      → refusal t (OpenAt d name o) ≡ None → Seen (reached t d name)
  unfolding reached
  reached_seen d name o seen makes_none e =
      let found = there t d name o makes_none e in rw (found.1) (host.child_seen closed d (found.0) name seen
      (found.1))

  pub looked_seen : (d : ℕ) (name : List ℕ) → Seen d → refusal t (StatAt d name) ≡ None → Seen (reached t d name)
  unfolding reached
  looked_seen d name seen e =
      let found = stat_there t d name e in rw (found.1) (host.child_seen closed d (found.0) name seen (found.1))

  -- ---- the walk by nodes

  AllSeen : List ℕ → Type 0
  AllSeen [] = Unit {0}
  AllSeen (d ∷ stack) = Seen d × AllSeen stack

  LegSeen : Leg (List ℕ) → Type 0
  LegSeen (Ended m outcome) = EndsIn Seen outcome
  LegSeen (Linked m stack text left) = AllSeen stack

  top_seen : (s : ℕ) (stack : List ℕ) → Seen s → AllSeen stack → Seen (top s stack)
  unfolding AllSeen
  top_seen s [] seen all = seen
  top_seen s (d ∷ stack) seen all = all.0

  choose_same : (b b' : Bool) (x y x' y' : Leg (List ℕ)) → b ≡ b' → x ≡ x' → y ≡ y' → cond b x y ≡ cond b' x' y'
  choose_same b b' x y x' y' same one other = rw (same, one, other) refl

  module _ (s : ℕ) (aim : Aim) (follow slash : Bool) (seen : Seen s) where
    down_same : (m : ℕ) (left : List Component) (name : List ℕ) (stack : List ℕ) → Seen (top s stack)
        → (Seen (reached t (top s stack) name)
        → leg_nodes t s aim follow slash m left (reached t
        (top s stack) name ∷ stack) ≡ leg_nodes u s aim follow slash m left (reached t
        (top s stack) name ∷ stack))
        → unless_refused m (refused t aim slash false (top s stack) name) (leg_nodes t s aim follow slash m left
        (reached t (top s stack) name ∷ stack))
        ≡ unless_refused m (refused u aim slash false (top s stack) name) (leg_nodes u s aim follow slash m left
        (reached u (top s stack) name ∷ stack))
    down_same m left name stack here on = by (refused t aim slash false (top s stack) name) refl
      where
        by : (r : Option ErrorCode) → refused t aim slash false (top s stack) name ≡ r
            → unless_refused m (refused t aim slash false (top s stack) name) (leg_nodes t s aim follow slash m left
            (reached t (top s stack) name ∷ stack))
            ≡ unless_refused m (refused u aim slash false (top s stack) name) (leg_nodes u s aim follow slash m left
            (reached u (top s stack) name ∷ stack))
        by (Some code) is = rw (sym (refused_same aim slash false (top s stack) name here) ∙ is, is) refl
        by None is =
            rw (
              sym (refused_same aim slash false (top s stack) name here)
                  ∙ is,
              is,
              sym (host.reached_same closed agree (top s stack) name here),
            ) (on (reached_seen
            (top s stack) name middle_options here refl is))

    leg_same : (m : ℕ) (left : List Component) (stack : List ℕ) → AllSeen stack
        → leg_nodes t s aim follow slash m left stack ≡ leg_nodes u s aim follow slash m left stack
    unfolding AllSeen
    leg_same m [] stack all = refl
    leg_same m (RootDir ∷ left) stack all = refl
    leg_same m (CurDir ∷ left) stack all = leg_same (suc m) left stack all
    leg_same m (ParentDir ∷ left) [] all = refl
    leg_same m (ParentDir ∷ left) (d ∷ stack) all =
        choose_same _ _ _ _ _ _ (ap (λ (x : Node). x.bits.x) (agree.nodes d all.0)) (leg_same
        (suc m) left stack all.1) refl
    leg_same m (Normal name ∷ []) stack all =
        let here = top_seen s stack seen all in
        choose_same _ _ _ _ _ _ (read_same aim follow slash true (top s stack) name here) (ap (λ text. let l : Leg
        (List ℕ) = Linked (suc m) stack text [] in l) (host.text_same closed agree (top s stack) name here)) refl
    leg_same m (Normal name ∷ part ∷ left) stack all =
        let here = top_seen s stack seen all in
        choose_same _ _ _ _ _ _ (read_same aim follow slash false (top s stack) name here) (ap (λ text. let l : Leg
        (List ℕ) = Linked (suc m) stack text (part ∷ left) in l) (host.text_same closed agree
        (top s stack) name here))
        (down_same (suc m) (part ∷ left) name stack here (λ sunk. leg_same (suc m) (part ∷ left) (reached t
        (top s stack) name ∷ stack) (sunk, all)))

    chosen_seen : (b : Bool) (x y : Leg (List ℕ)) → LegSeen x → LegSeen y → LegSeen (cond b x y)
    chosen_seen true x y one other = one
    chosen_seen false x y one other = other

    down_seen : (m : ℕ) (left : List Component) (name : List ℕ) (stack : List ℕ) → Seen (top s stack)
        → (Seen (reached t (top s stack) name)
        → LegSeen (leg_nodes t s aim follow slash m left (reached t (top s stack) name ∷ stack)))
        → LegSeen (unless_refused m (refused t aim slash false (top s stack) name)
        (leg_nodes t s aim follow slash m left (reached t (top s stack) name ∷ stack)))
    unfolding LegSeen
    down_seen m left name stack here on = by (refused t aim slash false (top s stack) name) refl
      where
        by : (r : Option ErrorCode) → refused t aim slash false (top s stack) name ≡ r
            → LegSeen (unless_refused m (refused t aim slash false (top s stack) name)
            (leg_nodes t s aim follow slash m left (reached t (top s stack) name ∷ stack)))
        by (Some code) is = rw (is) tt
        by None is = rw (is) (on (reached_seen (top s stack) name middle_options here refl is))

    leg_seen : (m : ℕ) (left : List Component) (stack : List ℕ) → AllSeen stack
        → LegSeen (leg_nodes t s aim follow slash m left stack)
    unfolding AllSeen LegSeen
    leg_seen m [] stack all = top_seen s stack seen all
    leg_seen m (RootDir ∷ left) stack all = tt
    leg_seen m (CurDir ∷ left) stack all = leg_seen (suc m) left stack all
    leg_seen m (ParentDir ∷ left) [] all = tt
    leg_seen m (ParentDir ∷ left) (d ∷ stack) all =
        chosen_seen (node_at t d).bits.x _ _ (leg_seen (suc m) left stack all.1) tt
    leg_seen m (Normal name ∷ []) stack all =
        chosen_seen (is_to_be_read t aim follow slash true (top s stack) name) _ _ all (top_seen s stack seen all)
    leg_seen m (Normal name ∷ part ∷ left) stack all =
        chosen_seen (is_to_be_read t aim follow slash false (top s stack) name) _ _ all
        (down_seen (suc m) (part ∷ left) name stack (top_seen s stack seen all) (λ sunk. leg_seen (suc m)
        (part ∷ left) (reached t (top s stack) name ∷ stack) (sunk, all)))

  resume_same : (on on' : Bool → ℕ → List Component → List ℕ → Walk) (slash : Bool) (l : Leg (List ℕ)) → LegSeen l
      → ((slash : Bool) (m : ℕ) (left : List Component) (stack : List ℕ) → AllSeen stack
      → on slash m left stack ≡ on' slash m left stack) → resume on slash l ≡ resume on' slash l
  unfolding LegSeen
  resume_same on on' slash (Ended m outcome) seen same = refl
  resume_same on on' slash (Linked m stack text left) seen same = same _ m (parts text ++ left) stack seen

  resume_seen : (on : Bool → ℕ → List Component → List ℕ → Walk) (slash : Bool) (l : Leg (List ℕ)) → LegSeen l
      → ((slash : Bool) (m : ℕ) (left : List Component) (stack : List ℕ) → AllSeen stack
      → EndsIn Seen (on slash m left stack).outcome) → EndsIn Seen (resume on slash l).outcome
  unfolding LegSeen
  resume_seen on slash (Ended m outcome) seen ends = seen
  resume_seen on slash (Linked m stack text left) seen ends = ends _ m (parts text ++ left) stack seen

  module _ (s : ℕ) (aim : Aim) (follow : Bool) (seen : Seen s) where
    nodes_same : (links : ℕ) (slash : Bool) (m : ℕ) (left : List Component) (stack : List ℕ) → AllSeen stack
        → walk_nodes t s aim follow links slash m left stack ≡ walk_nodes u s aim follow links slash m left stack
    nodes_same zero slash m left stack all =
        ap (resume (λ _ m _ _. ended m (Stop codes.Loop)) slash) (leg_same s aim follow slash seen m left stack all)
    nodes_same (suc links) slash m left stack all =
        resume_same (λ slash m left stack. one_link_more (walk_nodes t s aim follow links slash m left stack))
        (λ slash m left stack. one_link_more (walk_nodes u s aim follow links slash m left stack)) slash
        (leg_nodes t s aim follow slash m left stack) (leg_seen s aim follow slash seen m left stack all)
        (λ slash m left stack all. ap one_link_more (nodes_same links slash m left stack all))
        ∙ ap (resume (λ slash m left stack. one_link_more
        (walk_nodes u s aim follow links slash m left stack)) slash)
        (leg_same s aim follow slash seen m left stack all)

    nodes_seen : (links : ℕ) (slash : Bool) (m : ℕ) (left : List Component) (stack : List ℕ) → AllSeen stack
        → EndsIn Seen (walk_nodes t s aim follow links slash m left stack).outcome
    nodes_seen zero slash m left stack all =
        resume_seen (λ _ m _ _. ended m (Stop codes.Loop)) slash (leg_nodes t s aim follow slash m left stack)
        (leg_seen s aim follow slash seen m left stack all) (λ _ _ _ _ _. tt)
    nodes_seen (suc links) slash m left stack all =
        resume_seen (λ slash m left stack. one_link_more (walk_nodes t s aim follow links slash m left stack)) slash
        (leg_nodes t s aim follow slash m left stack) (leg_seen s aim follow slash seen m left stack all)
        (λ slash m left stack all. nodes_seen links slash m left stack all)

    -- the walks of a text are the same
    pub walk_same : (text : List ℕ) → walk t s text aim follow ≡ walk u s text aim follow
    unfolding walk AllSeen
    walk_same text = ap (cond (is_empty text) (ended 0 (Stop codes.NoEntry)))
        (walk-by_nodes t s aim follow 40 (trailing_slash text) 0 (parts text) []
        ∙ nodes_same 40 (trailing_slash text) 0 (parts text) [] tt
        ∙ sym (walk-by_nodes u s aim follow 40 (trailing_slash text) 0 (parts text) []))

    -- and end in the set
    pub walk_seen : (text : List ℕ) → EndsIn Seen (walk t s text aim follow).outcome
    unfolding walk AllSeen
    walk_seen text = by (is_empty text)
      where
        by : (b : Bool) → EndsIn Seen (cond b (ended 0 (Stop codes.NoEntry)) (walk_from t s aim follow 40
            (trailing_slash text) 0 (parts text) [])).outcome
        by true = tt
        by false =
            subst (λ (w : Walk). EndsIn Seen w.outcome) (sym (walk-by_nodes t s aim follow 40
            (trailing_slash text) 0 (parts text) [])) (nodes_seen 40 (trailing_slash text) 0 (parts text) [] tt)
