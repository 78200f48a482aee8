-- The table's moves lead to the end of the walk, and to no other.
use Rattle.std.proofs.Common.{ℕ, zero, suc, ◌+◌, ◌≡◌, true, false, cond, Bool, List, [], ◌∷◌, ◌++◌, Option, Some, None, refl, ap, sym, ◌∙◌, subst, arith, eq-eqb, ne_eqb}
use Rattle.std.specs.Prelude.{◌||◌, ◌<◌, ◌≤◌, ◌⊎◌, length}
use Rattle.std.proofs.Common.{inl, inr}
use Rattle.wasi_host.specs.Tree.{Tree, node_at}
use Rattle.wasi_host.specs.Answer.{link_text}
use Rattle.wasi_host.specs.declared.errors.ErrorCode.{ErrorCode}
use Rattle.wasi_host.specs.declared.errors.ErrorCode.TheVariants.{Loop, NoEntry, Access, NotPermitted}
use Rattle.wasi_paths.specs.Parts.{Component, RootDir, CurDir, ParentDir, Normal, parts, trailing_slash, is_empty}
use Rattle.wasi_resolve.specs.Walk.{Aim, Outcome, Stop, Name, Dot, Position, at, Leg, Ended, Linked, leg, is_to_be_read, refused, unless_refused, adds_slash, Walk, ended, one_link_more, resume, walk_from, walk}
use Rattle.wasi_resolve.specs.WalkMoves.{Stage, stage, Move, Ends, Goes, unless_stopped, read_link, move, move_from, taken_after, Leads, ends, goes, WalksHaveOneEnd}

-- with so many links read before
added : ℕ → Walk → Walk
added n w = record w { links = n + w.links }

added_none : (w : Walk) → added 0 w ≡ w
unfolding added
added_none w = let e : 0 + w.links ≡ w.links = omega arith in ap (λ l. let v : Walk = record w { links = l } in v) e

second : (b : Bool) (x y : Walk) → b ≡ false → cond b x y ≡ y
second true x y is = absurd (cc)
second false x y is = refl

module _ (t : Tree) (s : ℕ) (aim : Aim) (follow : Bool) where
  -- what follows a link
  onward : ℕ → Bool → ℕ → List Component → Position → Walk
  onward zero slash m left names = ended m (Stop Loop)
  onward (suc k) slash m left names = one_link_more (walk_from t s aim follow k slash m left names)

  by_leg : (k : ℕ) (slash : Bool) (m : ℕ) (left : List Component) (names : Position)
      → walk_from t s aim follow k slash m left names ≡ resume (onward k) slash
      (leg t s aim follow slash m left names)
  unfolding onward
  by_leg zero slash m left names = refl
  by_leg (suc k) slash m left names = refl

  from : ℕ → Stage → ℕ → Walk
  from k a m = added a.links (walk_from t s aim follow k a.slash m a.left a.names)

  -- a leg comes to what a move says
  -- and goes on with one link less, or with fewer parts left
  Fits : ℕ → ℕ → Bool → ℕ → ℕ → Leg Position → Move → Type 0
  Fits size k slash n m l (Ends outcome) =
      added n (resume (onward k) slash l) ≡ record { outcome = outcome; parts = m; links = n }
  Fits size k slash n m l (Goes b) =
      (k' : ℕ) × (k' + b.links ≡ 40) × ((suc k' ≡ k) ⊎ ((k' ≡ k) × (length b.left < size))) × (added n (resume
      (onward k) slash l) ≡ from k' b m)

  ended_fits : (size k : ℕ) (slash : Bool) (n m : ℕ) (outcome : Outcome)
      → Fits size k slash n m (Ended m outcome) (Ends outcome)
  unfolding Fits added
  ended_fits size k slash n m outcome =
      let e : n + 0 ≡ n = omega arith in ap
      (λ l. let w : Walk = record { outcome = outcome; parts = m; links = l } in w) e

  both_fit : (size k : ℕ) (slash : Bool) (n m : ℕ) (b : Bool) (l l' : Leg Position) (v v' : Move)
      → Fits size k slash n m l v → Fits size k slash n m l' v' → Fits size k slash n m (cond b l l') (cond b v v')
  both_fit size k slash n m true l l' v v' one other = one
  both_fit size k slash n m false l l' v v' one other = other

  on_fits : (size k : ℕ) (slash : Bool) (n m : ℕ) (left : List Component) (names : Position) → k + n ≡ 40
      → length left < size → Fits size k slash n m (leg t s aim follow slash m left names) (Goes (stage left names slash n))
  unfolding Fits from
  on_fits size k slash n m left names e fewer =
      (k, e, inr (refl, fewer), ap (added n) (sym (by_leg k slash m left names)))

  unless_fits : (size k : ℕ) (slash : Bool) (n m : ℕ) (r : Option ErrorCode) (l : Leg Position) (v : Move)
      → Fits size k slash n m l v → Fits size k slash n m (unless_refused m r l) (unless_stopped r v)
  unless_fits size k slash n m None l v fits = fits
  unless_fits size k slash n m (Some code) l v fits = ended_fits size k slash n m (Stop code)

  link_fits : (size k : ℕ) (slash : Bool) (n m : ℕ) (names : Position) (text : List ℕ) (left : List Component)
      → k + n ≡ 40 → Fits size k slash n m (Linked m names text left)
      (read_link t s aim follow n names text left slash)
  unfolding Fits added onward from
  link_fits size zero slash n m names text left e =
      let full : n ≡ 40 = omega arith in rw (eq-eqb n 40 full) (ended_fits size zero slash n m (Stop Loop))
  link_fits size (suc k) slash n m names text left e =
      let room : (n ≡ 40 → ⊥) = (λ full. absurd (omega arith)) in
      rw (ne_eqb n 40 room) (
        k,
        omega arith,
        inl refl,
        ap (λ l. let w : Walk =
            record (walk_from t s aim follow k (slash || adds_slash text left) m
            (parts text ++ left) names) { links = l } in w) (omega arith),
      )

  moves : (k : ℕ) (left : List Component) (names : Position) (slash : Bool) (n m : ℕ) → k + n ≡ 40
      → Fits (length left) k slash n (taken_after t s aim follow left m) (leg t s aim follow slash m left names)
      (move t s aim follow left names slash n)
  moves k [] names slash n m e = ended_fits zero k slash n m (Dot (at t s names))
  moves k (RootDir ∷ left) names slash n m e =
      ended_fits (length (RootDir ∷ left)) k slash n (suc m) (Stop NotPermitted)
  moves k (CurDir ∷ left) names slash n m e =
      on_fits (length (CurDir ∷ left)) k slash n (suc m) left names e (omega arith)
  moves k (ParentDir ∷ left) [] slash n m e =
      ended_fits (length (ParentDir ∷ left)) k slash n (suc m) (Stop NotPermitted)
  moves k (ParentDir ∷ left) (name ∷ names) slash n m e =
      both_fit (length (ParentDir ∷ left)) k slash n (suc m) (node_at t (at t s (name ∷ names))).bits.x _ _ _ _
      (on_fits (length (ParentDir ∷ left)) k slash n (suc m) left names e (omega arith)) (ended_fits (length
      (ParentDir ∷ left)) k slash n (suc m) (Stop Access))
  moves k (Normal name ∷ []) names slash n m e =
      both_fit (length (Normal name ∷ [])) k slash n (suc m) (is_to_be_read t aim follow slash true
      (at t s names) name) _ _ _ _
      (link_fits (length (Normal name ∷ [])) k slash n (suc m) names (link_text t (at t s names) name) [] e)
      (ended_fits (length (Normal name ∷ [])) k slash n (suc m) (Name (at t s names) name slash))
  moves k (Normal name ∷ part ∷ left) names slash n m e =
      both_fit (length (Normal name ∷ part ∷ left)) k slash n (suc m) (is_to_be_read t aim follow slash false
      (at t s names) name) _ _ _ _
      (link_fits (length (Normal name ∷ part ∷ left)) k slash n (suc m) names (link_text t (at t s names) name)
      (part ∷ left) e)
      (unless_fits (length (Normal name ∷ part ∷ left)) k slash n (suc m) (refused t aim slash false
      (at t s names) name) _ _ (on_fits (length (Normal name ∷ part ∷ left)) k slash n (suc m) (part ∷ left)
      (name ∷ names) e (omega arith)))

  from_leg : (k : ℕ) (a : Stage) (m : ℕ)
      → from k a m ≡ added a.links (resume (onward k) a.slash (leg t s aim follow a.slash m a.left a.names))
  unfolding from
  from_leg k a m = ap (added a.links) (by_leg k a.slash m a.left a.names)

  LeadsOn : ℕ → ℕ → Type 0
  LeadsOn k size = (a : Stage) (m : ℕ) → length a.left ≤ size → k + a.links ≡ 40 → Leads t s aim follow a m (from k a m)

  -- by what one move comes to
  one_move : (k size : ℕ) (a : Stage) (m : ℕ) (v : Move)
      → ((k' : ℕ) → suc k' ≡ k → (size : ℕ) → LeadsOn k' size) → ((size' : ℕ) → size' < size → LeadsOn k size')
      → move_from t s aim follow a ≡ v
      → Fits size k a.slash a.links (taken_after t s aim follow a.left m) (leg t s aim follow a.slash m a.left a.names) v
      → Leads t s aim follow a m (from k a m)
  unfolding Fits LeadsOn
  one_move k size a m (Ends outcome) lower shorter is fits =
      subst (Leads t s aim follow a m) (sym (from_leg k a m ∙ fits)) (ends a m outcome is)
  one_move k size a m (Goes b) lower shorter is fits =
      let taken : ℕ = taken_after t s aim follow a.left m in
      subst (Leads t s aim follow a m) (sym (from_leg k a m ∙ fits.3)) (goes a b m _ is (elim fits.2 [
        | inl less ↦ lower fits.0 less (length b.left) b taken (omega arith) fits.1
        | inr same ↦ subst (λ j. Leads t s aim follow b taken (from j b taken)) (sym same.0)
            (shorter (length b.left) same.1 b taken (omega arith)
            (let e = fits.1 in let j = same.0 in omega arith))
      ]))

  up_to : (k : ℕ) → ((k' : ℕ) → suc k' ≡ k → (size : ℕ) → LeadsOn k' size) → (bound size : ℕ) → size < bound
      → LeadsOn k size
  unfolding LeadsOn
  up_to k lower zero size small a m few e = absurd (omega arith)
  up_to k lower (suc bound) size small a m few e =
      one_move k (length a.left) a m (move_from t s aim follow a) lower
      (λ size' less. up_to k lower bound size' (omega arith)) refl (moves k a.left a.names a.slash a.links m e)

  all : (k size : ℕ) → LeadsOn k size
  all zero size = up_to zero (λ k' is. absurd (omega arith)) (suc size) size (omega arith)
  all (suc k) size =
      up_to (suc k) (λ k' is size. let same : k ≡ k' = omega arith in subst (λ j. LeadsOn j size) same (all k size))
      (suc size) size (omega arith)

  -- what a move comes to fits the leg
  fits_as : (k : ℕ) (a : Stage) (m : ℕ) (v : Move) → move_from t s aim follow a ≡ v → k + a.links ≡ 40
      → Fits (length a.left) k a.slash a.links (taken_after t s aim follow a.left m)
      (leg t s aim follow a.slash m a.left a.names) v
  fits_as k a m v is e =
      subst (Fits (length a.left) k a.slash a.links (taken_after t s aim follow a.left m)
      (leg t s aim follow a.slash m a.left a.names)) is (moves k a.left a.names a.slash a.links m e)

  only_end : (a : Stage) (m : ℕ) (w : Walk) → Leads t s aim follow a m w → (k : ℕ) → k + a.links ≡ 40 → w ≡ from k a m
  unfolding Fits
  only_end _ _ _ (ends a m outcome is) k e = sym (from_leg k a m ∙ fits_as k a m (Ends outcome) is e)
  only_end _ _ _ (goes a b m w is rest) k e =
      let fits = fits_as k a m (Goes b) is e in
      only_end b (taken_after t s aim follow a.left m) w rest fits.0 fits.1 ∙ sym (from_leg k a m ∙ fits.3)

  abbrev start : List ℕ → Stage
  start text = stage (parts text) [] (trailing_slash text) 0

  whole : (text : List ℕ) → is_empty text ≡ false → from 40 (start text) 0 ≡ walk t s text aim follow
  unfolding from walk
  whole text filled =
      added_none (walk_from t s aim follow 40 (trailing_slash text) 0 (parts text) [])
      ∙ sym (second (is_empty text) (ended 0 (Stop NoEntry)) (walk_from t s aim follow 40 (trailing_slash text) 0
      (parts text) []) filled)

pub walks_have_one_end : WalksHaveOneEnd
unfolding LeadsOn
walks_have_one_end t s text aim follow filled = record {
  leads =
      subst (Leads t s aim follow (start t s aim follow text) 0) (whole t s aim follow text filled)
      (all t s aim follow 40 (length (parts text)) (start t s aim follow text) 0 (omega arith) refl);
  only =
      λ w leads. only_end t s aim follow (start t s aim follow text) 0 w leads 40 refl
      ∙ whole t s aim follow text filled;
}
