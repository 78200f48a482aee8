-- A stack of handles: what is live, and which nodes its handles stand for.
use Rattle.std.proofs.Common.{◌≡◌, inl, inr, ℕ, true, false, List, [], ◌∷◌, ◌++◌, map, refl, sym, ap, subst, ◌∙◌, arith}
use Rattle.std.specs.Prelude.{reverse, Contains}
use Rattle.std.proofs.lemmas.Bool.Decides.{nat_tests}
use Rattle.std.proofs.lemmas.List.{reverse-append}
use Rattle.std.specs.FinSet.{contains, insert, remove, members, same_set, nat_cmp-IsAntisymmetric}
use Rattle.std.specs.Cmp.{nat_cmp_total}
use Rattle.std.proofs.lemmas.List.Elements.{Contains-push, Contains-append_left, Contains-append_right}
use Rattle.wasi_host.specs.HostLaws.{Handles}
use Rattle.wasi_host.specs.declared.open_handle.OpenHandle.{OpenHandle}
use Rattle.wasi_host.proofs.Chain.{remove-insert}
use Rattle.wasi_resolve.specs.ByNodes.{top}
use Rattle.wasi_resolve.specs.Stack.{with_handles, AreFresh, Stands, top_handle, nodes_under, Among}

-- ---- what is live

with_handles-push : (live : Handles) (stack : List ℕ) (h : ℕ)
    → with_handles live (stack ++ h ∷ []) ≡ insert (with_handles live stack) h
with_handles-push live [] h = refl
with_handles-push live (g ∷ stack) h = with_handles-push (insert live g) stack h

fresh-push : (live : Handles) (stack : List ℕ) (h : ℕ) → AreFresh live stack
    → contains (with_handles live stack) h ≡ false
    → AreFresh live (stack ++ h ∷ [])
fresh-push live [] h fresh new = (new, tt)
fresh-push live (g ∷ stack) h fresh new = (fresh.0, fresh-push (insert live g) stack h fresh.1 new)

fresh-pop : (live : Handles) (stack : List ℕ) (h : ℕ) → AreFresh live (stack ++ h ∷ [])
    → AreFresh live stack × (contains (with_handles live stack) h ≡ false)
fresh-pop live [] h fresh = (tt, fresh.0)
fresh-pop live (g ∷ stack) h fresh =
    let rest = fresh-pop (insert live g) stack h fresh.1 in ((fresh.0, rest.0), rest.1)

more_live : (live : Handles) (stack : List ℕ) (q : ℕ) → contains live q ≡ true
    → contains (with_handles live stack) q ≡ true
more_live live [] q is = is
more_live live (h ∷ stack) q is = more_live (insert live h) stack q (grind (arith, members))

less_live : (live : Handles) (stack : List ℕ) (q : ℕ) → contains (with_handles live stack) q ≡ false
    → contains live q ≡ false
less_live live [] q is = is
less_live live (h ∷ stack) q is =
    let not : contains (insert live h) q ≡ false = less_live (insert live h) stack q is in grind (arith, members)

-- what was live before the stack is live
pub first_live : {first now : Handles} {start : ℕ} {stack : List ℕ} → Stands first now start stack
    → (q : ℕ) → contains first q ≡ true → contains now q ≡ true
first_live {first} {stack =
    stack} stands q is = subst (λ l. contains l q ≡ true) (sym stands.live) (more_live first stack q is)

-- a handle is pushed that was just got
pub stands_push : {first now next : Handles} {start : ℕ} {stack : List ℕ} (h : ℕ) → Stands first now start stack
    → contains now h ≡ false → next ≡ insert now h → Stands first next start (stack ++ h ∷ [])
stands_push {first} {stack = stack} h stands new got = record {
  start_live = stands.start_live;
  fresh = fresh-push first stack h stands.fresh (subst (λ l. contains l h ≡ false) stands.live new);
  live = got ∙ ap (λ l. insert l h) stands.live ∙ sym (with_handles-push first stack h);
}

pub stands_same : {first now next : Handles} {start : ℕ} {stack : List ℕ} → Stands first now start stack → next ≡ now
    → Stands first next start stack
stands_same stands same = record { start_live = stands.start_live; fresh = stands.fresh; live = same ∙ stands.live }

-- an empty stack
pub stands_empty : {live : Handles} {start : ℕ} {items : List ℕ} → contains live start ≡ true → items ≡ []
    → Stands live live start items
stands_empty {live} {start} is none =
    subst (Stands live live start) (sym none) (record { start_live = is; fresh = tt; live = refl })

-- ---- one more below the stack

insert-twice : (s : Handles) (a b : ℕ) → insert (insert s a) b ≡ insert (insert s b) a
insert-twice s a b = same_set nat_cmp_total nat_cmp-IsAntisymmetric _ _ (λ q. grind (arith, members, nat_tests))

with_handles-below : (live : Handles) (stack : List ℕ) (h : ℕ)
    → with_handles (insert live h) stack ≡ insert (with_handles live stack) h
with_handles-below live [] h = refl
with_handles-below live (g ∷ stack) h =
    ap (λ l. with_handles l stack) (insert-twice live h g) ∙ with_handles-below (insert live g) stack h

fresh-below : (live : Handles) (stack : List ℕ) (h : ℕ) → AreFresh live stack
    → contains (with_handles live stack) h ≡ false
    → AreFresh (insert live h) stack
fresh-below live [] h fresh new = tt
fresh-below live (g ∷ stack) h fresh new =
    let other : contains (insert live g) h ≡ false = less_live (insert live g) stack h new in (
      let apart : contains live g ≡ false = fresh.0 in grind (arith, members, nat_tests),
      subst (λ l. AreFresh l stack) (insert-twice live g h) (fresh-below (insert live g) stack h fresh.1 new),
    )

-- a handle is got that isn't the stack's
pub stands_below : {first now next : Handles} {start : ℕ} {stack : List ℕ} (h : ℕ) → Stands first now start stack
    → contains now h ≡ false → next ≡ insert now h
    → (contains first h ≡ false) × Stands (insert first h) next start stack
stands_below {first} {stack = stack} h stands new got =
    let out : contains (with_handles first stack) h ≡ false = subst (λ l. contains l h ≡ false) stands.live new in (
      less_live first stack h out,
      record {
        start_live = let is = stands.start_live in grind (arith, members, nat_tests);
        fresh = fresh-below first stack h stands.fresh out;
        live = got ∙ ap (λ l. insert l h) stands.live ∙ sym (with_handles-below first stack h);
      },
    )

-- ---- the top is popped and closed

at_top : {first now : Handles} {start : ℕ} {stack : List ℕ} (rest : List ℕ) (h : ℕ) → Stands first now start stack
    → stack ≡ rest ++ h ∷ [] → Stands first now start (rest ++ h ∷ [])
at_top {first} {now} {start} rest h stands popped = subst (Stands first now start) popped stands

pub popped_live : {first old mid : Handles} {start : ℕ} {stack : List ℕ} (rest : List ℕ) (h : ℕ)
    → Stands first old start stack → stack ≡ rest ++ h ∷ [] → mid ≡ old → contains mid h ≡ true
popped_live {first} {old} rest h stands popped still =
    let is : old ≡ insert (with_handles first rest) h =
    (at_top rest h stands popped).live ∙ with_handles-push first rest h in
    subst (λ l. contains l h ≡ true) (sym (still ∙ is)) (grind (arith, members, nat_tests))

pub popped_stands : {first old mid new : Handles} {start : ℕ} {stack : List ℕ} (rest : List ℕ) (h : ℕ)
    → Stands first old start stack → stack ≡ rest ++ h ∷ [] → mid ≡ old → new ≡ remove mid h
    → Stands first new start rest
popped_stands {first} rest h stands popped still closed =
    let top = at_top rest h stands popped in
    let under = fresh-pop first rest h top.fresh in
    record {
      start_live = stands.start_live;
      fresh = under.0;
      live =
          closed ∙ ap (λ l. remove l h) (still ∙ top.live ∙ with_handles-push first rest h)
          ∙ remove-insert (with_handles first rest) h under.1;
    }

-- what is live after a close was live before it
pub was_live : (old : Handles) {new : Handles} (h : ℕ) → new ≡ remove old h → (q : ℕ) → contains new q ≡ true
    → contains old q ≡ true
was_live old h closed q is =
    let still : contains (remove old h) q ≡ true = subst (λ l. contains l q ≡ true) closed is in grind (arith, members)

-- ---- the handle on top

last_or : ℕ → List ℕ → ℕ
last_or d [] = d
last_or d (h ∷ stack) = last_or h stack

top-append : (d : ℕ) (xs : List ℕ) (h : ℕ) → top d (xs ++ h ∷ []) ≡ top h xs
top-append d [] h = refl
top-append d (x ∷ xs) h = refl

top_is_last : (d : ℕ) (stack : List ℕ) → top_handle d stack ≡ last_or d stack
unfolding last_or
top_is_last d [] = refl
top_is_last d (h ∷ stack) =
    ap (top d) (reverse-append (h ∷ []) stack) ∙ top-append d (reverse stack) h ∙ top_is_last h stack

last_is_live : (live : Handles) (d : ℕ) (stack : List ℕ) → contains live d ≡ true
    → contains (with_handles live stack) (last_or d stack) ≡ true
unfolding last_or
last_is_live live d [] is = is
last_is_live live d (h ∷ stack) is = last_is_live (insert live h) h stack (grind (arith, members, nat_tests))

pub top_live : {first now : Handles} {start : ℕ} {stack : List ℕ} → Stands first now start stack
    → contains now (top_handle start stack) ≡ true
top_live {first} {now} {start} {stack} stands =
    subst (λ l. contains l (top_handle start stack) ≡ true) (sym stands.live)
    (subst (λ h. contains (with_handles first stack) h ≡ true) (sym (top_is_last start stack))
    (last_is_live first start stack stands.start_live))

last_among : (start d : ℕ) (stack all : List ℕ) → Among start all d → ((q : ℕ) → Contains stack q → Contains all q)
    → Among start all (last_or d stack)
unfolding last_or
last_among start d [] all is within = is
last_among start d (h ∷ stack) all is within =
    last_among start h stack all (inr (within h (Contains-append_left (h ∷ []) stack h (Contains-push [] h))))
    (λ q has. within q (Contains-append_right (h ∷ []) stack q has))

pub top_among : (start : ℕ) (stack : List ℕ) → Among start stack (top_handle start stack)
top_among start stack =
    subst (Among start stack) (sym (top_is_last start stack)) (last_among start start stack stack (inl refl)
    (λ q has. has))

-- ---- the nodes

-- the node of the handle on top
pub top_node : (held : ℕ → OpenHandle) (start : ℕ) (stack : List ℕ)
    → (held (top_handle start stack)).node ≡ top (held start).node (nodes_under held stack)
top_node held start stack =
    elim (reverse stack) as (λ l. (held (top start l)).node ≡ top (held start).node (map (λ h. (held h).node) l)) [ [] ↦ refl | h ∷ l ↦ refl ]

-- a handle pushed is a node on top
pub nodes_push : (held : ℕ → OpenHandle) (stack : List ℕ) (h : ℕ)
    → nodes_under held (stack ++ h ∷ []) ≡ (held h).node ∷ nodes_under held stack
nodes_push held stack h = ap (map (λ g. (held g).node)) (reverse-append stack (h ∷ []))

map_append : (k : ℕ → ℕ) (ys zs : List ℕ) → map k (ys ++ zs) ≡ map k ys ++ map k zs
map_append k [] zs = refl
map_append k (y ∷ ys) zs = ap (λ l. k y ∷ l) (map_append k ys zs)

map_reverse : (k : ℕ → ℕ) (ys : List ℕ) → map k (reverse ys) ≡ reverse (map k ys)
map_reverse k [] = refl
map_reverse k (y ∷ ys) =
    ap (map k) (reverse-append (y ∷ []) ys) ∙ map_append k (reverse ys) (y ∷ [])
    ∙ ap (λ l. l ++ k y ∷ []) (map_reverse k ys)
    ∙ sym (reverse-append (k y ∷ []) (map k ys))

all_kept : (f g : ℕ → OpenHandle) (live : Handles) (stack : List ℕ)
    → ((q : ℕ) → contains (with_handles live stack) q ≡ true → g q ≡ f q)
    → map (λ h. (g h).node) stack ≡ map (λ h. (f h).node) stack
all_kept f g live [] keeps = refl
all_kept f g live (h ∷ stack) keeps =
    let here : g h ≡ f h = keeps h (more_live (insert live h) stack h (grind (arith, members, nat_tests))) in
    λ i. (here i).node ∷ all_kept f g (insert live h) stack keeps i

-- the nodes of a stack stay while its handles keep what they stand for
pub nodes_kept : {f g : ℕ → OpenHandle} {first now : Handles} {start : ℕ} {stack : List ℕ} → Stands first now start stack
    → ((q : ℕ) → contains now q ≡ true → g q ≡ f q) → nodes_under g stack ≡ nodes_under f stack
nodes_kept {f} {g} {first} {stack = stack} stands keeps =
    map_reverse (λ h. (g h).node) stack
    ∙ ap reverse (all_kept f g first stack (λ q is. keeps q (subst (λ l. contains l q ≡ true) (sym stands.live) is)))
    ∙ sym (map_reverse (λ h. (f h).node) stack)
