-- The parts up to the next link, and what they end at.
use Rattle.std.proofs.Common.{◌≡◌, ◌⊎◌, inl, inr, ℕ, suc, ◌+◌, ◌≤◌, true, false, List, [], ◌∷◌, length, Option, Some, None, Result, Ok, Err, refl, sym, ap, subst, ◌∙◌, arith}
use Rattle.wasi_host.specs.Tree.{Tree}
use Rattle.wasi_host.specs.HostCall.{ReadLinkAt}
use Rattle.wasi_host.specs.Refusal.{refusal}
use Rattle.wasi_host.specs.Answer.{link_text}
use Rattle.wasi_host.specs.Provenance.{HasProvenance, Only, Nothing}
use Rattle.wasi_host.specs.HostLaws.{HostModel, Handles, MeansErr}
use Rattle.wasi_host.specs.declared.errors.ErrorCode.{ErrorCode}
use Rattle.wasi_host.specs.declared.errors.HostError.{HostError}
use Rattle.wasi_host.specs.declared.errors.HostError.TheVariants.{Code}
use Rattle.wasi_host.specs.declared.lookup.Lookup.{Lookup}
use Rattle.wasi_paths.specs.Parts.{Component, Normal}
use Rattle.wasi_resolve.specs.Walk.{Aim, Open, Look, Outcome, Stop, Name, Dot, Leg, Linked, is_to_be_read}
use Rattle.wasi_resolve.specs.ByNodes.{top, leg_nodes}
use Rattle.wasi_resolve.specs.Resolved.{Resolved}
use Rattle.wasi_resolve.specs.Stack.{Stands, Among, top_handle, nodes_under}
use Rattle.wasi_resolve.specs.Finding.{StackTraced, handle_reached, LiveWith, StandsWith, IsGot, ReachTraced, FewReads, FewBefore, FewUntil}
use Rattle.wasi_resolve.specs.WalkState.{Begin, origin, Course, Way, way, way_nodes, leg_from}
use Rattle.wasi_resolve.specs.WalkSteps.{IsFault, OnlyLooks, GoesOn, AtLast, AtLink, Fails, EndsInDirectory, EndsUnread, EndsAtName, ReachesEnd, ReachesLink, ReachFails, Reaches, meant_at, shown_found, taken_by}
use Rattle.wasi_resolve.specs.declared.found.Found.{Found}
use Rattle.wasi_resolve.specs.declared.found.Reach.{Reach}
use Rattle.wasi_resolve.specs.declared.found.Reach.TheVariants as reach
use Rattle.wasi_resolve.specs.declared.parts_left.PartLeft.{PartLeft}
use Rattle.wasi_resolve.proofs.Calls.{resolved_err, resolved_then, err_means, fault_means}
use Rattle.wasi_resolve.proofs.Stacks.{first_live, stands_same, stands_below}
use Rattle.wasi_resolve.proofs.Lookups.{traced_top, traced_stays}
use Rattle.wasi_host.proofs.Tracing.{traced_then, traced_last}
use Rattle.wasi_resolve.proofs.Legs.{last_ended, last_linked, taken_more}
use Rattle.wasi_resolve.proofs.Going.{OnTop, node_is, here_near, looks_on, kept_on, walked_on}

-- ---- what is meant

pub start_is : (t : Tree) (aim : Aim) (s : ℕ) (outcome : Outcome) → (meant_at t aim s outcome).starts ≡ s ∷ []
start_is t (Open o) s outcome = refl
start_is t Look s outcome = refl

-- the same from another start
meant_start : (t : Tree) (aim : Aim) (d s : ℕ) (outcome : Outcome)
    → record (meant_at t aim d outcome) { starts = s ∷ [] } ≡ meant_at t aim s outcome
meant_start t (Open o) d s outcome = refl
meant_start t Look d s outcome = refl

answer_stop : (t : Tree) (aim : Aim) (s : ℕ) (code : ErrorCode) → (meant_at t aim s (Stop code)).answer ≡ Err code
answer_stop t (Open o) s code = refl
answer_stop t Look s code = refl

-- a refusal of the walk itself
pub stop_resolved : {first : Handles} {w u : HostModel} {s : ℕ} (aim : Aim) (code : ErrorCode) {e : HostError}
    → e ≡ Code code
    → OnlyLooks first w u (s ∷ [])
    → Resolved first w u (meant_at w.tree aim s (Stop code)) (shown_found u.held) (Err e)
stop_resolved {w = w} {u = u} {s = s} aim code is looks =
    resolved_err (meant_at w.tree aim s (Stop code)) (shown_found u.held) _ (start_is w.tree aim s (Stop code))
    (subst (MeansErr (meant_at w.tree aim s (Stop code)).answer) (sym is) (err_means _ code
    (answer_stop w.tree aim s code))) looks

-- a fault of the host, or out of memory, wherever the walk would end
pub fault_resolved : {first : Handles} {w u : HostModel} {s : ℕ} (aim : Aim) (outcome : Outcome) {e : HostError} → IsFault e
    → OnlyLooks first w u (s ∷ [])
    → Resolved first w u (meant_at w.tree aim s outcome) (shown_found u.held) (Err e)
fault_resolved {w = w} {u = u} {s = s} aim outcome fault looks =
    resolved_err (meant_at w.tree aim s outcome) (shown_found u.held) _ (start_is w.tree aim s outcome)
    (fault_means _ fault) looks

-- ---- a part fails

pub reach_fails : {b : Begin} {a c : Way} (e : HostError) (k : Course) (m : ℕ) → Fails b a c e
    → ReachFails b k m a c e ⊎ ReachesEnd b k m a c (Err e)
reach_fails {b} {c = c} e k m fails =
    let at = fails.same.at k.aim k.follow k.slash m in
    elim fails.refused [
      | inl fault ↦ inl (record {
        looks = fails.looks;
        fault = fault;
        taken = suc at.taken;
        count = omega (arith, at.count);
        most = subst (λ l. suc at.taken ≤ taken_by l) (sym at.same)
            (taken_more b.model.tree (origin b) k.aim k.follow k.slash at.taken fails.part c.left fails.nodes);
      })
      | inr refused ↦ inr (record {
        taken = suc at.taken;
        count = omega (arith, at.count);
        outcome = Stop refused.code;
        ends = at.same ∙ refused.ends k.aim k.follow k.slash at.taken;
        resolved = stop_resolved k.aim refused.code refused.is fails.looks;
      })
    ]

-- ---- a link

pub reach_link : {b : Begin} {a c : Way} (name : List ℕ) (k : Course) (m : ℕ) → AtLink b a c name
    → ReachesLink b k m a c name
reach_link {b} {a} {c} name k m link =
    let at = link.same.at k.aim k.follow k.slash m in
    let is : leg_from b k m a
    ≡ Linked (suc at.taken) (way_nodes c) (link_text b.model.tree (top (origin b) (way_nodes c)) name) c.left =
    at.same ∙ link.linked k.aim k.follow k.slash at.taken in
    record {
      walked = link.walked;
      taken = suc at.taken;
      count = omega (arith, at.count);
      linked = is;
      free = link.free;
    }

-- ---- a directory, or a last name

module _ {b : Begin} {now : Handles} {v : HostModel} {stack : List ℕ} {here : ℕ} (on : OnTop b now v stack here) where
  abbrev w : HostModel
  w = b.model

  abbrev nodes : List ℕ
  nodes = nodes_under v.held stack

  abbrev d : ℕ
  d = top (origin b) nodes

  to_start : (P : Tree → ℕ → Type 0) → P v.tree (v.held here).node → P w.tree d
  to_start P p = subst (λ t. P t d) on.walked.looks.tree (subst (P v.tree) (node_is on) p)

  -- what is meant from the node on top, as from the start
  ends_from : {u : HostModel} {r : Result Found HostError} (aim : Aim) (outcome : ℕ → Outcome)
      → Resolved now v u (meant_at v.tree aim (v.held here).node (outcome (v.held here).node)) (shown_found u.held) r
      → Resolved b.live w u (meant_at w.tree aim (origin b) (outcome d)) (shown_found u.held) r
  ends_from {u} {r} aim outcome resolved =
      subst (λ k. Resolved b.live w u (meant_at w.tree aim (origin b) (outcome k)) (shown_found u.held) r)
      (node_is on)
      (subst (λ x. Resolved b.live w u x (shown_found u.held) r) (meant_start w.tree aim (v.held here).node
      (origin b) (outcome (v.held here).node))
      (resolved_then on.walked.looks (here_near on) (first_live on.stands) (start_is w.tree aim (v.held here).node
      (outcome (v.held here).node))
      (subst (λ t. Resolved now v u (meant_at t aim (v.held here).node (outcome (v.held here).node))
      (shown_found u.held) r) on.walked.looks.tree resolved)))

  pub reach_dot : {a : Way} {u : HostModel} {left : List Component} {after : List ℕ} (k : Course) (m : ℕ)
      (r : Result Found HostError) → GoesOn b a (way v stack left) → left ≡ []
      → EndsInDirectory now v u (v.held here).node k.aim r
      → ReachesEnd b k m a (way u after left) r
  reach_dot k m r goes none ends =
      let at = goes.same.at k.aim k.follow k.slash m in record {
        taken = at.taken;
        count = at.count;
        outcome = Dot d;
        ends = at.same ∙ ap (λ l. leg_nodes w.tree (origin b) k.aim k.follow k.slash at.taken l nodes) none;
        resolved = ends_from k.aim Dot ends;
      }

  module _ {a : Way} {left : List Component} (k : Course) (m : ℕ) {name : List ℕ}
      (last : AtLast b a (way v stack left) name) where
    abbrev taken : ℕ
    taken = (last.same.at k.aim k.follow k.slash m).taken

    count_is : suc taken + length left ≡ m + length a.left
    count_is = omega (arith, (last.same.at k.aim k.follow k.slash m).count)

    leg_is : leg_from b k m a ≡ leg_nodes w.tree (origin b) k.aim k.follow k.slash taken (Normal name ∷ []) nodes
    leg_is = (last.same.at k.aim k.follow k.slash m).same
        ∙ ap (λ l. leg_nodes w.tree (origin b) k.aim k.follow k.slash taken (Normal name ∷ l) nodes) last.none

    unread_end : {u : HostModel} (r : Result Found HostError) → EndsUnread now v u (v.held here).node k name r
        → ReachesEnd b k m a (way u stack left) r
    unread_end r ends = record {
      taken = suc taken;
      count = count_is;
      outcome = Name d name k.slash;
      ends = leg_is ∙ last_ended w.tree (origin b) k.aim k.follow k.slash taken name nodes
          (to_start (λ t n. is_to_be_read t k.aim k.follow k.slash true n name ≡ false) ends.unread);
      resolved = ends_from k.aim (λ n. Name n name k.slash) ends.resolved;
    }

    pub reach_last : (u : HostModel) (r : Result Reach HostError)
        → EndsAtName now v u (v.held here).node k name r
        → Reaches b k m a (way u stack left) r
    reach_last u (Ok (reach.Found it)) ends = unread_end (Ok it) ends
    reach_last u (Ok (reach.Link other)) ends =
        let kept = kept_on on ends.looks in
        let is : leg_from b k m a
        ≡ Linked (suc taken) (nodes_under u.held stack) (link_text w.tree (top (origin b)
        (nodes_under u.held stack)) other.text.now) left =
        leg_is
        ∙ last_linked w.tree (origin b) k.aim k.follow k.slash taken name nodes (to_start
        (λ t n. is_to_be_read t k.aim k.follow k.slash true n name ≡ true) ends.reads)
        ∙ ap (λ l. let r : Leg (List ℕ) = Linked (suc taken) nodes (link_text w.tree d name) l in r) (sym last.none)
        ∙ ap (λ n. let r : Leg (List ℕ) = Linked (suc taken) nodes (link_text w.tree d n) left in r) (sym ends.same)
        ∙ ap (λ ns. let r : Leg (List ℕ) =
        Linked (suc taken) ns (link_text w.tree (top (origin b) ns) other.text.now) left in r)
        (sym kept) in
        record {
          walked = walked_on on ends.looks;
          taken = suc taken;
          count = count_is;
          linked = is;
          free =
              subst (λ ns. refusal w.tree (ReadLinkAt (top (origin b) ns) other.text.now) ≡ None)
              (sym kept)
              (subst (λ n. refusal w.tree (ReadLinkAt d n) ≡ None) (sym ends.same) (to_start (λ t n. refusal t
              (ReadLinkAt n name) ≡ None) ends.free));
        }
    reach_last u (Err e) ends = elim ends [
      | inl fault ↦ inl (record {
        looks = looks_on on fault.0;
        fault = fault.1;
        taken = suc taken;
        count = count_is;
        most = subst (λ l. suc taken ≤ taken_by l) (sym leg_is)
            (taken_more w.tree (origin b) k.aim k.follow k.slash taken (Normal name) [] nodes);
      })
      | inr end ↦ inr (unread_end (Err e) end)
    ]

-- ---- over every host

pub stands_with : {first now : Handles} (next : Handles) {start : ℕ} {stack : List ℕ} (got : Option ℕ)
    → Stands first now start stack → LiveWith now got next → StandsWith first next start stack got
stands_with next (Some h) stands got = stands_below h stands got.0 got.1
stands_with next None stands same = stands_same stands same

module _ {a b c : List Lookup} {here : ℕ} (start : ℕ) (before after : List ℕ) (at : here ≡ top_handle start after)
    (first : StackTraced start before after a b) where
  pub found_traced : {Made : ℕ → Type 0} → HasProvenance (Only here) Nothing Made b c
      → HasProvenance (Among start before) Nothing Made a c
  found_traced second = traced_last (λ h has. has) first (traced_top start after at second)

  pub reach_traced : (r : Result Reach HostError) → HasProvenance (Only here) Nothing (IsGot (handle_reached r)) b c
      → ReachTraced start before after r a c
  reach_traced (Ok (reach.Found it)) second = found_traced second
  reach_traced (Ok (reach.Link name)) second =
      traced_then (λ h has. has) (λ h has. has) first (traced_top start after at (traced_stays start after second))
  reach_traced (Err e) second = found_traced second

pub few_last : {before after : List PartLeft} {a b c : List Lookup} → FewBefore before after a b → FewReads 2 0 b c
    → FewUntil 1 before after a c
few_last first second =
    record { calls = omega (arith, first.calls, second.calls); links = omega (arith, first.links, second.links) }
