-- From the walk to what its callers mean.
use Rattle.std.proofs.Common.{◌≡◌, inl, inr, ℕ, true, List, [], ◌∷◌, Option, Some, None, Result, Ok, Err, refl, sym, ap, subst, ◌∙◌, arith}
use Rattle.std.specs.Prelude.{is_ok}
use Rattle.std.specs.FinSet.{contains, insert, members}
use Rattle.std.proofs.lemmas.Bool.Decides.{nat_tests}
use Rattle.wasi_host.specs.Options.{Options}
use Rattle.wasi_host.specs.Tree.{Tree}
use Rattle.wasi_host.specs.Steps.{◌>>=◌}
use Rattle.wasi_host.specs.Answer.{metadata_of}
use Rattle.wasi_host.specs.Provenance.{HasProvenance, Only}
use Rattle.wasi_host.specs.HostLaws.{HostModel, Handles, MeansErr}
use Rattle.wasi_host.proofs.Tracing.{traced_given}
use Rattle.wasi_host.specs.declared.errors.ErrorCode.{ErrorCode}
use Rattle.wasi_host.specs.declared.errors.ErrorCode.TheVariants.{Io}
use Rattle.wasi_host.specs.declared.errors.HostError.{HostError}
use Rattle.wasi_host.specs.declared.errors.HostError.TheVariants.{Code, Memory}
use Rattle.wasi_host.specs.declared.open_handle.OpenHandle.{OpenHandle}
use Rattle.wasi_host.specs.declared.lookup.Lookup.{Lookup}
use Rattle.wasi_host.specs.declared.metadata.Metadata.{Metadata}
use Rattle.wasi_host.specs.declared.open_options.FollowSymlinks.{FollowSymlinks}
use Rattle.wasi_resolve.specs.Walk.{Open, Look, walk}
use Rattle.wasi_resolve.specs.Paths.{opening, looked}
use Rattle.wasi_resolve.specs.Resolved.{Meant, Resolved, TreeAfter}
use Rattle.wasi_resolve.specs.Meanings.{follows, opens_at, looks_at}
use Rattle.wasi_resolve.specs.Stack.{Stands, Among}
use Rattle.wasi_resolve.specs.Finding.{handle_found, LiveWith, StandsWith}
use Rattle.wasi_resolve.specs.WalkSteps.{ModelStays, Sight, HandleFor, Seen, meant_at, shown_found}
use Rattle.wasi_resolve.specs.declared.found.Found.{Found}
use Rattle.wasi_resolve.specs.declared.found.Found.TheVariants as found
use Rattle.wasi_host.proofs.Touching.{none_in}
use Rattle.wasi_resolve.proofs.Calls.{resolved_stay, still_live}
use Rattle.wasi_resolve.proofs.Ending.{mapped}

-- ---- the stack is closed

-- what is live once the stack is closed
abbrev pub with_got : Handles → Option ℕ → Handles
with_got first (Some h) = insert first h
with_got first None = first

pub stands_all : (first now : Handles) (start : ℕ) (stack : List ℕ) (got : Option ℕ)
    → StandsWith first now start stack got → Stands (with_got first got) now start stack
stands_all first now start stack (Some h) stands = stands.1
stands_all first now start stack None stands = stands

pub live_after : (first now new : Handles) (start : ℕ) (stack : List ℕ) (got : Option ℕ)
    → StandsWith first now start stack got → new ≡ with_got first got → LiveWith first got new
live_after first now new start stack (Some h) stands is = (stands.0, is)
live_after first now new start stack None stands is = is

less : {first all : Handles} {u z : HostModel} → ((q : ℕ) → contains first q ≡ true → contains all q ≡ true)
    → ModelStays all u z
    → ModelStays first u z
less within stayed =
    record { tree = stayed.tree; touched = stayed.touched; keeps = λ q is. stayed.keeps q (within q is) }

-- the same is shown, since a new handle stays live
reshown : {live : Handles} {w u : HostModel} {m : Meant Sight} {shown shown' : Found → Sight} {it : Found}
    → shown it ≡ shown' it
    → Resolved live w u m shown (Ok it) → Resolved live w u m shown' (Ok it)
reshown same resolved = record {
  answer = resolved.answer ∙ ap (λ y. let r : Result Sight ErrorCode = Ok y in r) same;
  tree = resolved.tree;
  touched = resolved.touched;
  keeps = resolved.keeps;
}

pub closed_resolved : {first : Handles} {w u z : HostModel} {m : Meant Sight} (r : Result Found HostError)
    → Resolved first w u m (shown_found u.held) r → ModelStays (with_got first (handle_found r)) u z
    → Resolved first w z m (shown_found z.held) r
closed_resolved {first} {u = u} {z = z} (Ok (found.Handle h)) resolved stayed =
    reshown (ap HandleFor (sym (stayed.keeps h (grind (arith, members, nat_tests)))))
    (resolved_stay resolved (less (still_live first h refl) stayed))
closed_resolved (Ok (found.Metadata metadata)) resolved stayed = reshown refl (resolved_stay resolved stayed)
closed_resolved (Err e) resolved stayed =
    let closed = resolved_stay resolved stayed in
    record { answer = closed.answer; tree = closed.tree; touched = closed.touched; keeps = closed.keeps }

-- from the start alone
pub from_start : (start : ℕ) (items : List ℕ) {Kept Kept' : ℕ → Type 0} {old new : List Lookup} → items ≡ []
    → HasProvenance (Among start items) Kept Kept' old new
    → HasProvenance (Only start) Kept Kept' old new
from_start start items none traced = traced_given (Only start) (by items none) traced
  where
    by : (l : List ℕ) → l ≡ [] → (q : ℕ) → Among start l q → q ≡ start
    by [] is q (inl at) = at
    by [] is q (inr has) = none_in has
    by (h ∷ l) is q among = absurd (cc)

-- ---- the same meaning without its kind

unmapped : {B B' : Type 0} (f : B → B') (one : (x y : B) → f x ≡ f y → x ≡ y) (r : Result B ErrorCode) (x : B)
    → r >>= (λ b. Ok (f b)) ≡ Ok (f x) → r ≡ Ok x
unmapped {B} f one (Ok y) x is =
    ap (λ z. let r : Result B ErrorCode = Ok z in r) (one y x (let same : f y ≡ f x = (cc) in same))
unmapped f one (Err code) x is = absurd (cc)

unmeant : {B B' : Type 0} (f : B → B') (r : Result B ErrorCode) (e : HostError) → MeansErr (r >>= (λ b. Ok (f b))) e
    → MeansErr r e
unmeant f r Memory means = tt
unmeant f r (Code Io) means = tt
unmeant f (Ok y) (Code code) means = absurd (cc)
unmeant f (Err other) (Code code) means = (cc)

still_ok : {B B' : Type 0} (f : B → B') (r : Result B ErrorCode) → is_ok (r >>= (λ b. Ok (f b))) ≡ true → is_ok r ≡ true
still_ok f (Ok y) is = refl
still_ok f (Err code) is = absurd (cc)

still_tree : (A A' : Type 0) {B B' : Type 0} (f : B → B') (t stepped t' : Tree) (r : Result B ErrorCode) (e : HostError)
    → TreeAfter {A = A'} t stepped t' (r >>= (λ b. Ok (f b))) (Err e) → TreeAfter {A = A} t stepped t' r (Err e)
still_tree A A' f t stepped t' r Memory after = after
still_tree A A' f t stepped t' r (Code Io) after = elim after [ inl same ↦ inl same | inr made ↦ inr (still_ok f r made.0, made.1) ]
still_tree A A' f t stepped t' r (Code code) after = after

unmapped_ok : {A A' B B' : Type 0} (f : B → B') (one : (x y : B) → f x ≡ f y
    → x ≡ y) {live : Handles} {w u : HostModel} (m : Meant B)
    (shown : A → B) {shown' : A' → B'} {a' : A'} (a : A) → shown' a' ≡ f (shown a)
    → Resolved live w u (mapped f m) shown' (Ok a')
    → Resolved live w u m shown (Ok a)
unmapped_ok {B' = B'} f one m shown a same resolved = record {
  answer = unmapped f one m.answer (shown a) (resolved.answer ∙ ap (λ y. let r : Result B' ErrorCode = Ok y in r) same);
  tree = resolved.tree;
  touched = resolved.touched;
  keeps = resolved.keeps;
}

unmapped_err : {A A' B B' : Type 0} (f : B → B') {live : Handles} {w u : HostModel} (m : Meant B) (shown : A
    → B) {shown' : A' → B'}
    (e : HostError) → Resolved live w u (mapped f m) shown' (Err e)
    → Resolved live w u m shown (Err e)
unmapped_err {A} {A'} f {w = w} {u = u} m shown e resolved = record {
  answer = unmeant f m.answer e resolved.answer;
  tree = still_tree A A' f w.tree m.stepped u.tree m.answer e resolved.tree;
  touched = resolved.touched;
  keeps = resolved.keeps;
}

one_opened : (x y : OpenHandle) → HandleFor x ≡ HandleFor y → x ≡ y
one_opened x y is = (cc)

one_seen : (x y : Metadata) → Seen x ≡ Seen y → x ≡ y
one_seen x y is = (cc)

-- an open
open_is : (t : Tree) (s : ℕ) (text : List ℕ) (o : Options)
    → meant_at t (Open o) s (walk t s text (Open o) (follows o.follow)).outcome ≡ mapped HandleFor (opens_at t s text o)
unfolding opening
open_is t s text o = refl

module _ {live : Handles} {w u : HostModel} (s : ℕ) (text : List ℕ) (o : Options) where
  pub opened_ok : (h : ℕ)
      → Resolved live w u (meant_at w.tree (Open o) s (walk w.tree s text (Open o) (follows o.follow)).outcome)
      (shown_found u.held) (Ok (found.Handle h))
      → Resolved live w u (opens_at w.tree s text o) u.held (Ok h)
  opened_ok h resolved =
      unmapped_ok HandleFor one_opened (opens_at w.tree s text o) u.held h refl
      (subst (λ m. Resolved live w u m (shown_found u.held) (Ok (found.Handle h))) (open_is w.tree s text o) resolved)

  pub opened_err : (e : HostError)
      → Resolved live w u (meant_at w.tree (Open o) s (walk w.tree s text (Open o) (follows o.follow)).outcome)
      (shown_found u.held) (Err e)
      → Resolved live w u (opens_at w.tree s text o) u.held (Err e)
  opened_err e resolved =
      unmapped_err HandleFor (opens_at w.tree s text o) u.held e
      (subst (λ m. Resolved live w u m (shown_found u.held) (Err e)) (open_is w.tree s text o) resolved)

-- a look
seen_twice : (t : Tree) (r : Result ℕ ErrorCode)
    → r >>= (λ n. Ok (Seen (metadata_of t n))) ≡ r >>= (λ n. Ok (metadata_of t n)) >>= (λ m. Ok (Seen m))
seen_twice t (Ok n) = refl
seen_twice t (Err code) = refl

look_is : (t : Tree) (s : ℕ) (text : List ℕ) (follow : FollowSymlinks)
    → meant_at t Look s (walk t s text Look (follows follow)).outcome ≡ mapped Seen (looks_at t s text follow)
unfolding looked
look_is t s text follow =
    ap (λ a. let m : Meant Sight = record (mapped Seen (looks_at t s text follow)) { answer = a } in m)
    (seen_twice t (looked t s text (follows follow)))

module _ {live : Handles} {w u : HostModel} (s : ℕ) (text : List ℕ) (follow : FollowSymlinks) where
  pub seen_ok : (m : Metadata)
      → Resolved live w u (meant_at w.tree Look s (walk w.tree s text Look (follows follow)).outcome)
      (shown_found u.held) (Ok (found.Metadata m))
      → Resolved live w u (looks_at w.tree s text follow) (λ x. x) (Ok m)
  seen_ok m resolved =
      unmapped_ok Seen one_seen (looks_at w.tree s text follow) (λ x. x) m refl
      (subst (λ y. Resolved live w u y (shown_found u.held) (Ok (found.Metadata m)))
      (look_is w.tree s text follow) resolved)

  pub seen_err : (e : HostError)
      → Resolved live w u (meant_at w.tree Look s (walk w.tree s text Look (follows follow)).outcome)
      (shown_found u.held) (Err e)
      → Resolved live w u (looks_at w.tree s text follow) (λ x. x) (Err e)
  seen_err e resolved =
      unmapped_err Seen (looks_at w.tree s text follow) (λ x. x) e
      (subst (λ y. Resolved live w u y (shown_found u.held) (Err e)) (look_is w.tree s text follow) resolved)
