-- The lookups of a walk: where they begin.
use Rattle.std.proofs.Common.{ℕ, ◌≡◌, ◌⊎◌, inl, inr, List, [], ◌∷◌, ◌++◌, Option, Some, None, refl, sym, ap, subst, ◌∙◌}
use Rattle.std.specs.Prelude.{Contains}
use Rattle.std.proofs.lemmas.List.Elements.{Contains-append_left, Contains-push_cases}
use Rattle.wasi_host.specs.Provenance.{HasProvenance, Only, Nothing}
use Rattle.wasi_host.proofs.Tracing.{traced_given, traced_kept}
use Rattle.wasi_host.specs.declared.lookup.Lookup.{Lookup}
use Rattle.wasi_host.specs.declared.lookup.LookKind.{LookKind}
use Rattle.wasi_resolve.specs.Resolved.{last_from, last_got}
use Rattle.wasi_resolve.specs.Stack.{Among, top_handle}
use Rattle.wasi_resolve.proofs.Stacks.{top_among}

-- from the handle on top, as from the start and the stack
pub traced_top : {Kept Kept' : ℕ → Type 0} {old new : List Lookup} {here : ℕ} (start : ℕ) (stack : List ℕ)
    → here ≡ top_handle start stack → HasProvenance (Only here) Kept Kept' old new
    → HasProvenance (Among start stack) Kept Kept' old new
traced_top start stack at traced =
    traced_given (Among start stack) (λ q is. subst (Among start stack) (sym (is ∙ at)) (top_among start stack)) traced

-- a part that leaves the stack
pub traced_stays : {Given Made : ℕ → Type 0} {old new : List Lookup} (start : ℕ) (stack : List ℕ)
    → HasProvenance Given Nothing Made old new → HasProvenance Given (Among start stack) (Among start stack) old new
traced_stays start stack traced = traced_kept (Among start stack) (Among start stack) (λ h has. inl has) traced

-- the stack is shorter
pub among_less : {start : ℕ} {stack : List ℕ} (rest : List ℕ) (h : ℕ) → stack ≡ rest ++ h ∷ [] → (q : ℕ)
    → Among start rest q
    → Among start stack q
among_less rest h popped q (inl is) = inl is
among_less rest h popped q (inr has) =
    inr (subst (λ l. Contains l q) (sym popped) (Contains-append_left rest (h ∷ []) q has))

-- or has one handle more
pub among_more : {start : ℕ} (stack : List ℕ) (h : ℕ) → (q : ℕ) → Among start (stack ++ h ∷ []) q
    → Among start stack q ⊎ (q ≡ h)
among_more stack h q (inl is) = inl (inl is)
among_more stack h q (inr has) = elim (Contains-push_cases stack h q has) [ inl was ↦ inl (inr was) | inr is ↦ inr (sym is) ]

-- the last lookup

last_from-push : (got : Option ℕ) (lookups : List Lookup) (entry : Lookup)
    → last_from got (lookups ++ entry ∷ []) ≡ entry.got
last_from-push got [] entry = refl
last_from-push got (first ∷ rest) entry = last_from-push first.got rest entry

pub last_is : (old new : List Lookup) (kind : LookKind) (from h : ℕ)
    → new ≡ old ++ record { kind = kind; from = from; got = Some h } ∷ [] → last_got new ≡ Some h
unfolding last_got
last_is old new kind from h adds =
    ap (last_from None) adds ∙ last_from-push None old (record { kind = kind; from = from; got = Some h })
