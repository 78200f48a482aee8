-- The walk by names is the walk by the nodes that the names lead to.
use Rattle.std.proofs.Common.{◌≡◌, ℕ, zero, suc, Bool, true, false, cond, List, [], ◌∷◌, ◌++◌, Option, Some, None, refl, sym, ap, ◌∙◌}
use Rattle.wasi_host.specs.Tree.{Tree, node_at}
use Rattle.wasi_host.specs.declared.errors.ErrorCode.{ErrorCode}
use Rattle.wasi_host.specs.declared.errors.ErrorCode.TheVariants.{Loop}
use Rattle.wasi_paths.specs.Parts.{Component, RootDir, CurDir, ParentDir, Normal, parts}
use Rattle.wasi_resolve.specs.Walk.{Aim, Leg, Ended, Linked, Stop, Dot, Position, at, leg, is_to_be_read, refused, unless_refused, Walk, ended, one_link_more, resume, walk_from}
use Rattle.wasi_resolve.specs.ByNodes.{top, leg_nodes, nodes_of, map_leg, walk_nodes}

top-nodes : (t : Tree) (s : ℕ) (names : Position) → top s (nodes_of t s names) ≡ at t s names
top-nodes t s [] = refl
top-nodes t s (name ∷ names) = refl

choose : {P Q : Type 0} (f : P → Q) (b : Bool) (x y : Leg P) (x' y' : Leg Q) → map_leg f x ≡ x' → map_leg f y ≡ y'
    → map_leg f (cond b x y) ≡ cond b x' y'
choose f true x y x' y' one other = one
choose f false x y x' y' one other = other

go_on : {P Q : Type 0} (f : P → Q) (m : ℕ) (r : Option ErrorCode) (x : Leg P) (x' : Leg Q) → map_leg f x ≡ x'
    → map_leg f (unless_refused m r x) ≡ unless_refused m r x'
go_on f m None x x' same = same
go_on f m (Some code) x x' same = refl

pub leg-by_nodes : (t : Tree) (s : ℕ) (aim : Aim) (follow slash : Bool) (m : ℕ) (parts : List Component)
    (names : Position)
    → map_leg (nodes_of t s) (leg t s aim follow slash m parts names) ≡ leg_nodes t s aim follow slash m parts
    (nodes_of t s names)
leg-by_nodes t s aim follow slash m [] names =
    ap (λ d. let r : Leg (List ℕ) = Ended m (Dot d) in r) (sym (top-nodes t s names))
leg-by_nodes t s aim follow slash m (RootDir ∷ parts) names = refl
leg-by_nodes t s aim follow slash m (CurDir ∷ parts) names = leg-by_nodes t s aim follow slash (suc m) parts names
leg-by_nodes t s aim follow slash m (ParentDir ∷ parts) [] = refl
leg-by_nodes t s aim follow slash m (ParentDir ∷ parts) (name ∷ names) =
    choose (nodes_of t s) (node_at t (at t s (name ∷ names))).bits.x _ _ _ _ (leg-by_nodes t s aim follow slash
    (suc m) parts names) refl
leg-by_nodes t s aim follow slash m (Normal name ∷ []) names =
    rw (top-nodes t s names) (choose (nodes_of t s) (is_to_be_read t aim follow slash true
    (at t s names) name) _ _ _ _ refl refl)
leg-by_nodes t s aim follow slash m (Normal name ∷ part ∷ parts) names =
    rw (top-nodes t s names) (choose (nodes_of t s) (is_to_be_read t aim follow slash false
    (at t s names) name) _ _ _ _ refl
    (go_on (nodes_of t s) (suc m) (refused t aim slash false (at t s names) name) _ _
    (leg-by_nodes t s aim follow slash (suc m) (part ∷ parts) (name ∷ names))))

resumed : {P Q : Type 0} (f : P → Q) (on : Bool → ℕ → List Component → P → Walk) (on' : Bool → ℕ → List Component
    → Q → Walk) (slash : Bool) (l : Leg P)
    → ((slash : Bool) (m : ℕ) (left : List Component) (p : P) → on slash m left p ≡ on' slash m left (f p))
    → resume on slash l ≡ resume on' slash (map_leg f l)
resumed f on on' slash (Ended m outcome) same = refl
resumed f on on' slash (Linked m p text left) same = same _ m (parts text ++ left) p

pub walk-by_nodes : (t : Tree) (s : ℕ) (aim : Aim) (follow : Bool) (links : ℕ) (slash : Bool) (m : ℕ)
    (left : List Component) (names : Position)
    → walk_from t s aim follow links slash m left names ≡ walk_nodes t s aim follow links slash m left
    (nodes_of t s names)
walk-by_nodes t s aim follow zero slash m left names =
    resumed (nodes_of t s) (λ _ m _ _. ended m (Stop Loop)) (λ _ m _ _. ended m (Stop Loop)) slash
    (leg t s aim follow slash m left names) (λ _ _ _ _. refl)
    ∙ ap (resume (λ _ m _ _. ended m (Stop Loop)) slash) (leg-by_nodes t s aim follow slash m left names)
walk-by_nodes t s aim follow (suc links) slash m left names =
    resumed (nodes_of t s) (λ slash m left names. one_link_more (walk_from t s aim follow links slash m left names))
    (λ slash m left stack. one_link_more (walk_nodes t s aim follow links slash m left stack)) slash
    (leg t s aim follow slash m left names) (λ slash m left names. ap one_link_more
    (walk-by_nodes t s aim follow links slash m left names))
    ∙ ap (resume (λ slash m left stack. one_link_more (walk_nodes t s aim follow links slash m left stack)) slash)
    (leg-by_nodes t s aim follow slash m left names)
