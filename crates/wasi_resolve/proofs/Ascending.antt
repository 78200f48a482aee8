-- A `..`: the top of the stack is popped, its bit is tested, and it is closed.
use Rattle.std.proofs.Common.{◌≡◌, ◌⊎◌, inl, inr, ℕ, true, List, [], ◌∷◌, ◌++◌, length, Ok, Err, refl, sym, ap, subst, ◌∙◌, arith}
use Rattle.std.specs.FinSet.{contains, remove}
use Rattle.std.proofs.lemmas.List.Elements.{All-nil}
use Rattle.wasi_host.specs.HostCall.{Access, Close}
use Rattle.wasi_host.specs.Answer.{access_answer}
use Rattle.wasi_host.specs.HostLaws.{HostModel, Handles, RefinesCall, MeansErr, hosted, answered}
use Rattle.wasi_host.specs.declared.errors.ErrorCode.{ErrorCode}
use Rattle.wasi_host.specs.declared.errors.ErrorCode.TheVariants.{Io, NotPermitted}
use Rattle.wasi_host.specs.declared.errors.HostError.{HostError}
use Rattle.wasi_host.specs.declared.errors.HostError.TheVariants.{Code}
use Rattle.wasi_paths.specs.Parts.{Component, ParentDir}
use Rattle.wasi_resolve.specs.Stack.{Stands, nodes_under}
use Rattle.wasi_resolve.specs.WalkState.{Begin, begin, origin, way}
use Rattle.wasi_resolve.specs.WalkSteps.{OnlyLooks, Walked, IsFault, IsRefused, GoesOn, Fails, AreReached}
use Rattle.wasi_resolve.proofs.Calls.{call_ok, call_err, close_stays, looks_of, looks_then, looks_stay, same_live}
use Rattle.wasi_resolve.proofs.Stacks.{first_live, popped_stands, was_live, nodes_push, nodes_kept}
use Rattle.wasi_resolve.proofs.Legs.{same_here, same_nodes, top_refused, up_same, up_refused}

pub no_items : (items : List ℕ) → length items ≡ 0 → items ≡ []
no_items [] is = refl
no_items (h ∷ items) is = absurd (omega arith)

-- a part at which the walk fails at once
pub fails_here : {b : Begin} {v u : HostModel} {before after : List ℕ} {e : HostError} (part : Component)
    (rest : List Component)
    → OnlyLooks b.live b.model u (origin b ∷ [])
    → IsFault e ⊎ IsRefused b.model.tree (origin b) (part ∷ rest) (nodes_under v.held before) e
    → Fails b (way v before (part ∷ rest)) (way u after rest) e
fails_here {b} {v = v} {before = before} part rest looks refused = record {
  looks = looks;
  part = part;
  nodes = nodes_under v.held before;
  same = same_here b.model.tree (origin b) (part ∷ rest) (nodes_under v.held before);
  refused = refused;
}

-- there is nothing to leave
pub leaves_top : {first : Handles} {w v : HostModel} {start : ℕ} {stack after : List ℕ} (rest : List Component)
    → length stack ≡ 0 → Walked first w v start stack
    → Fails (begin first w start) (way v stack (ParentDir ∷ rest)) (way v after rest) (Code NotPermitted)
leaves_top {w = w} {v = v} {start = start} {stack = stack} rest none walked =
    fails_here ParentDir rest walked.looks (inr (top_refused w.tree (w.held start).node rest (ap
    (nodes_under v.held) (no_items stack none))))

module _ {first old mid new : Handles} {w v a z : HostModel} {start : ℕ} {stack : List ℕ} (under : List ℕ) (here : ℕ)
    (rest : List Component) (stands : Stands first old start stack) (popped : stack ≡ under ++ here ∷ [])
    (still : mid ≡ old)
    (closed : new ≡ remove mid here) (walked : Walked first w v start stack) (shut : RefinesCall mid new a z Close
    (λ x. x) answered) where
  nodes_are : nodes_under v.held stack ≡ (v.held here).node ∷ nodes_under v.held under
  nodes_are = ap (nodes_under v.held) popped ∙ nodes_push v.held under here

  near : AreReached w.tree (w.held start).node ((v.held here).node ∷ nodes_under v.held under)
  near = subst (AreReached w.tree (w.held start).node) nodes_are walked.near

  under_stands : Stands first new start under
  under_stands = popped_stands under here stands popped still closed

  after : OnlyLooks old v a ((v.held here).node ∷ []) → OnlyLooks first w z ((w.held start).node ∷ [])
  after looks =
      looks_stay (looks_then walked.looks near.0 (first_live stands) looks)
      (close_stays shut (λ q is. (same_live still q (first_live stands q is), first_live under_stands q is)))

  module _ (asked : RefinesCall old mid v a (Access (v.held here).node) (λ u. u) (hosted (Ok tt))) where
    kept : nodes_under z.held under ≡ nodes_under v.held under
    kept = nodes_kept under_stands (λ q is.
        let between : contains mid q ≡ true = was_live mid here closed q is in
        let before : contains old q ≡ true = same_live (sym still) q between in
        shut.keeps q between is ∙ asked.keeps q before between)

    pub leaves_ok : GoesOn (begin first w start) (way v stack (ParentDir ∷ rest)) (way z under rest)
    leaves_ok = record {
      walked = record {
        looks =
            after (looks_of (Ok tt) (λ is. refl) (call_ok {call = Access (v.held here).node} [] (All-nil _)
            (same_live still) asked));
        near = subst (AreReached w.tree (w.held start).node) (sym kept) near.1;
      };
      same =
          same_nodes (up_same w.tree (w.held start).node rest (v.held here).node
          (nodes_under v.held under) nodes_are (subst (λ t. access_answer t
          (v.held here).node ≡ Ok tt) walked.looks.tree asked.meaning)) (sym kept);
    }

  denied : (code : ErrorCode) → MeansErr (access_answer w.tree (v.held here).node) (Code code)
      → IsFault (Code code) ⊎ IsRefused w.tree (w.held start).node (ParentDir ∷ rest) (nodes_under v.held stack)
      (Code code)
  denied Io means = inl (inr refl)
  denied code means =
      inr (up_refused w.tree (w.held start).node rest (v.held here).node
      (nodes_under v.held under) code nodes_are means)

  pub leaves_err : (code : ErrorCode) → RefinesCall old mid v a (Access (v.held here).node) (λ u. u) (hosted (Err code))
      → Fails (begin first w start) (way v stack (ParentDir ∷ rest)) (way z under rest) (Code code)
  leaves_err code asked =
      fails_here ParentDir rest
      (after (looks_of (Err (Code code)) (λ is. refl) (call_err {call =
      Access (v.held here).node} (Code code) [] still asked)))
      (denied code (subst (λ t. MeansErr (access_answer t (v.held here).node)
      (Code code)) walked.looks.tree asked.meaning))
