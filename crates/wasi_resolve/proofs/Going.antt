-- The parts up to the next link: one part, and then another.
use Rattle.std.proofs.Common.{◌≡◌, ◌⊎◌, inl, inr, ℕ, suc, true, false, List, [], ◌∷◌, ◌++◌, length, None, Ok, Err, IsTrue, refl, sym, ap, subst, ◌∙◌, arith}
use Rattle.std.specs.Prelude.{◌==◌}
use Rattle.std.proofs.lemmas.Bool.Decides.{nat_tests}
use Rattle.wasi_paths.specs.Text.{is_plain}
use Rattle.wasi_host.specs.Tree.{Tree}
use Rattle.wasi_host.specs.ValidTree.{Reached}
use Rattle.wasi_host.specs.HostCall.{OpenAt, ReadLinkAt}
use Rattle.wasi_host.specs.Refusal.{refusal}
use Rattle.wasi_host.specs.Answer.{reached, access_of, link_text, open_answer, unless}
use Rattle.wasi_host.specs.Step.{open_step}
use Rattle.wasi_host.specs.HostLaws.{HostModel, Handles, MeansErr}
use Rattle.wasi_host.proofs.Chain.{free}
use Rattle.wasi_host.specs.declared.errors.ErrorCode.TheVariants.{Io}
use Rattle.wasi_host.specs.declared.errors.HostError.{HostError}
use Rattle.wasi_host.specs.declared.errors.HostError.TheVariants.{Code, Memory}
use Rattle.wasi_host.specs.declared.open_handle.OpenHandle.{OpenHandle}
use Rattle.wasi_paths.specs.Parts.{Component, Normal}
use Rattle.wasi_resolve.specs.Walk.{Linked, middle_options}
use Rattle.wasi_resolve.specs.ByNodes.{top, leg_nodes}
use Rattle.wasi_resolve.specs.Left.{is_nil, parts_left}
use Rattle.wasi_resolve.specs.Stack.{Stands, top_handle, nodes_under}
use Rattle.wasi_resolve.specs.WalkState.{Begin, begin, origin, Way, way, way_nodes}
use Rattle.wasi_resolve.specs.WalkSteps.{OnlyLooks, Walked, SameWalk, IsFault, IsRefused, is_met_link, OpensUnread, MeetsLink, GoesOn, AtLink, Fails, StopsAt, AreReached}
use Rattle.wasi_resolve.specs.declared.found.Stop.{Stop}
use Rattle.wasi_resolve.specs.declared.found.Stop.TheVariants as stops
use Rattle.wasi_resolve.specs.declared.parts_left.PartLeft.{PartLeft}
use Rattle.wasi_host.proofs.Touching.{reached_on}
use Rattle.wasi_resolve.proofs.Calls.{looks_of, looks_then}
use Rattle.wasi_resolve.proofs.Stacks.{first_live, top_node, nodes_push, nodes_kept}
use Rattle.wasi_resolve.proofs.Tables.{met_reads, open_leaves, open_near}
use Rattle.wasi_resolve.proofs.Legs.{same_here, same_then, same_nodes, down_same, down_refused, down_linked, top_near}
use Rattle.wasi_resolve.proofs.Ascending.{fails_here}
use Rattle.wasi_resolve.proofs.Entering.{ok_free}
use Rattle.wasi_resolve.proofs.Putting.{length-parts}
use Rattle.wasi_host.proofs.Refusals.{unless-err}

-- ---- from the handle on top

-- where a walk stands: the handle on top, and its node
pub record OnTop (b : Begin) (now : Handles) (v : HostModel) (stack : List ℕ) (here : ℕ) : Type 0 where
  pub stands : Stands b.live now b.start stack
  pub walked : Walked b.live b.model v b.start stack
  pub at : here ≡ top_handle b.start stack

pub on_top : {first now : Handles} {w v : HostModel} {start : ℕ} {stack : List ℕ} {here : ℕ} → Stands first now start stack
    → Walked first w v start stack → here ≡ top_handle start stack → OnTop (begin first w start) now v stack here
on_top stands walked at = record { stands = stands; walked = walked; at = at }

module _ {b : Begin} {now : Handles} {v : HostModel} {stack : List ℕ} {here : ℕ} (on : OnTop b now v stack here) where
  abbrev w : HostModel
  w = b.model

  abbrev first : Handles
  first = b.live

  abbrev start : ℕ
  start = b.start

  pub node_is : (v.held here).node ≡ top (w.held start).node (nodes_under v.held stack)
  node_is = ap (λ h. (v.held h).node) on.at ∙ top_node v.held start stack
      ∙ ap (λ (h : OpenHandle). top h.node (nodes_under v.held stack)) (on.walked.looks.keeps start on.stands.start_live)

  pub here_near : Reached w.tree ((w.held start).node ∷ []) (v.held here).node
  here_near = subst (Reached w.tree ((w.held start).node ∷ [])) (sym node_is)
      (top_near w.tree (w.held start).node (nodes_under v.held stack) on.walked.near)

  pub looks_on : {u : HostModel} → OnlyLooks now v u ((v.held here).node ∷ []) → OnlyLooks first w u ((w.held start).node ∷ [])
  looks_on next = looks_then on.walked.looks here_near (first_live on.stands) next

  -- what a call from there leaves of the stack
  pub kept_on : {u : HostModel} → OnlyLooks now v u ((v.held here).node ∷ []) → nodes_under u.held stack ≡ nodes_under v.held stack
  kept_on next = nodes_kept on.stands next.keeps

  pub walked_on : {u : HostModel} → OnlyLooks now v u ((v.held here).node ∷ []) → Walked first w u start stack
  walked_on next = record {
    looks = looks_on next;
    near = subst (AreReached w.tree (w.held start).node) (sym (kept_on next)) on.walked.near;
  }

  -- ---- down into a name in the middle

  abbrev d : ℕ
  d = top (w.held start).node (nodes_under v.held stack)

  to_start : (P : Tree → ℕ → Type 0) → P v.tree (v.held here).node → P w.tree d
  to_start P p = subst (λ t. P t d) on.walked.looks.tree (subst (P v.tree) node_is p)

  leaves : (name : List ℕ) → refusal v.tree (OpenAt (v.held here).node name middle_options) ≡ None
      → open_step v.tree (v.held here).node name middle_options ≡ v.tree
  leaves name none = open_leaves v.tree (v.held here).node name middle_options none refl refl

  module _ {u : HostModel} (name : List ℕ) (next : Component) (rest : List Component) {h : ℕ}
      (opens : OpensUnread now v u (v.held here).node name middle_options true (Ok h)) where
    opened_none : refusal v.tree (OpenAt (v.held here).node name middle_options) ≡ None
    opened_none = free _ _ _ opens.resolved.answer

    opened_looks : OnlyLooks now v u ((v.held here).node ∷ [])
    opened_looks = looks_of (Ok h) (λ is. leaves name opened_none) opens.resolved

    opened_node : (u.held h).node ≡ reached w.tree d name
    opened_node =
        let found : OpenHandle = record { node = reached v.tree (v.held here).node name; mode = access_of middle_options } in
        let same : unless None found ≡ Ok (u.held h) =
        ap (λ r. unless r found) (sym opened_none) ∙ opens.resolved.answer in
        let held : found ≡ u.held h = (cc) in
        sym (ap (λ (x : OpenHandle). x.node) held)
        ∙ ap (λ t. reached t (v.held here).node name) on.walked.looks.tree ∙ ap (λ n. reached w.tree n name) node_is

    nodes_now : nodes_under u.held (stack ++ h ∷ []) ≡ reached w.tree d name ∷ nodes_under v.held stack
    nodes_now = nodes_push u.held stack h ∙ ap (λ l. (u.held h).node ∷ l) (kept_on opened_looks)
        ∙ ap (λ n. n ∷ nodes_under v.held stack) opened_node

    pub goes_down : GoesOn b (way v stack (Normal name ∷ next ∷ rest)) (way u (stack ++ h ∷ []) (next ∷ rest))
    goes_down = record {
      walked = record {
        looks = looks_on opened_looks;
        near = subst (AreReached w.tree (w.held start).node) (sym nodes_now) (
          reached_on (subst (Reached w.tree ((w.held start).node ∷ [])) node_is here_near)
              (open_near w.tree d name middle_options (to_start (λ t n. refusal t
              (OpenAt n name middle_options) ≡ None) opened_none) refl),
          on.walked.near,
        );
      };
      same = same_nodes (down_same w.tree (w.held start).node name next rest (nodes_under v.held stack)
          (to_start (λ t n. is_met_link t n name middle_options true ≡ false) opens.unread)
          (to_start (λ t n. refusal t (OpenAt n name middle_options) ≡ None) opened_none)) (sym nodes_now);
    }

  pub goes_link : {u : HostModel} (name : List ℕ) (next : Component) (rest : List Component) → IsTrue (is_plain name)
      → MeetsLink now v u (v.held here).node name middle_options true
      → AtLink b (way v stack (Normal name ∷ next ∷ rest)) (way u stack (next ∷ rest)) name
  goes_link name next rest plain met =
      let kept = kept_on met.looks in
      let reads : is_met_link w.tree d name middle_options true ≡ true =
      to_start (λ t n. is_met_link t n name middle_options true ≡ true) met.reads in
      record {
        walked = walked_on met.looks;
        same =
            same_nodes (same_here w.tree (w.held start).node (Normal name ∷ next ∷ rest) (nodes_under v.held stack))
            (sym kept);
        linked = λ aim follow slash m.
            subst (λ nodes. leg_nodes w.tree (w.held start).node aim follow slash m (Normal name ∷ next ∷ rest) nodes
            ≡ Linked (suc m) nodes (link_text w.tree (top (w.held start).node nodes) name) (next ∷ rest)) (sym kept)
            (down_linked w.tree (w.held start).node name next rest (nodes_under v.held stack) reads aim follow slash m);
        free = subst (λ nodes. refusal w.tree (ReadLinkAt (top (w.held start).node nodes) name) ≡ None) (sym kept)
            (met_reads w.tree d name middle_options true plain reads);
      }

  down_err : (name : List ℕ) (next : Component) (rest : List Component)
      → is_met_link w.tree d name middle_options true ≡ false
      → (e : HostError) → MeansErr (open_answer w.tree d name middle_options) e
      → IsFault e ⊎ IsRefused w.tree (w.held start).node (Normal name ∷ next ∷ rest) (nodes_under v.held stack) e
  down_err name next rest unread Memory means = inl (inl refl)
  down_err name next rest unread (Code Io) means = inl (inr refl)
  down_err name next rest unread (Code code) means =
      inr (down_refused w.tree (w.held start).node name next rest (nodes_under v.held stack) code unread
      (unless-err _ _ means))

  pub goes_err : {u : HostModel} {after : List ℕ} (name : List ℕ) (next : Component) (rest : List Component) (e : HostError)
      → (OnlyLooks now v u ((v.held here).node ∷ []) × IsFault e) ⊎ OpensUnread now v u
      (v.held here).node name middle_options true (Err e)
      → Fails b (way v stack (Normal name ∷ next ∷ rest)) (way u after (next ∷ rest)) e
  goes_err name next rest e (inl fault) = fails_here (Normal name) (next ∷ rest) (looks_on fault.0) (inl fault.1)
  goes_err name next rest e (inr opens) =
      fails_here (Normal name) (next ∷ rest)
      (looks_on (looks_of (Err e) (λ is. leaves name (ok_free (refusal v.tree (OpenAt
      (v.held here).node name middle_options)) _ is)) opens.resolved))
      (down_err name next rest (to_start (λ t n. is_met_link t n name middle_options true ≡ false) opens.unread) e
      (to_start (λ t n. MeansErr (open_answer t n name middle_options) e) opens.resolved.answer))

-- ---- the last part, or not

pub when_more : (P : List Component → Type 0) (rest : List Component) → is_nil rest ≡ false
    → ((next : Component) (rest : List Component) → P (next ∷ rest)) → P rest
when_more P [] is f = absurd (cc)
when_more P (p ∷ ps) is f = f p ps

pub nil_is : (rest : List Component) → is_nil rest ≡ true → rest ≡ []
nil_is [] is = refl
nil_is (p ∷ ps) is = absurd (cc)

nil_length : (parts : List Component) → is_nil parts ≡ (length parts == 0)
nil_length [] = refl
nil_length (p ∷ ps) = grind (arith, nat_tests)

pub nil_left : (items : List PartLeft) → is_nil (parts_left items) ≡ (length items == 0)
nil_left items = nil_length (parts_left items) ∙ ap (λ n. n == 0) (length-parts items)

pub no_parts : (items : List PartLeft) → length items ≡ 0 → parts_left items ≡ []
no_parts items is = by (parts_left items) (length-parts items ∙ is)
  where
    by : (parts : List Component) → length parts ≡ 0 → parts ≡ []
    by [] none = refl
    by (p ∷ ps) none = absurd (omega arith)

-- ---- one after another

module _ {b : Begin} {a c : Way} (parts : List Component) (so_far : GoesOn b a c) (is : c.left ≡ parts) where
  abbrev here : Way
  here = record c { left = parts }

  from : {rest : List Component} {nodes : List ℕ}
      → SameWalk b.model.tree (origin b) parts (way_nodes c) rest nodes
      → SameWalk b.model.tree (origin b) a.left (way_nodes a) rest nodes
  from {rest} {nodes} same =
      same_then so_far.same (subst (λ l. SameWalk b.model.tree (origin b) l (way_nodes c) rest nodes)
      (sym is) same)

  pub goes_then : {d : Way} → GoesOn b here d → GoesOn b a d
  goes_then next = record { walked = next.walked; same = from next.same }

  pub fails_then : {d : Way} (e : HostError) → Fails b here d e → Fails b a d e
  fails_then e fails = record {
    looks = fails.looks;
    part = fails.part;
    nodes = fails.nodes;
    same = from fails.same;
    refused = fails.refused;
  }

  pub stops_then : (d : Way) (stop : Stop) → StopsAt b here d stop → StopsAt b a d stop
  stops_then d stops.Dot stopped = (goes_then stopped.0, stopped.1)
  stops_then d (stops.Last name) stopped =
      record { walked = stopped.walked; same = from stopped.same; none = stopped.none }
  stops_then d (stops.Link name) stopped = record {
    walked = stopped.walked;
    same = from stopped.same;
    linked = stopped.linked;
    free = stopped.free;
  }

-- no part is left
pub goes_dot : {b : Begin} {a : Way} {u : HostModel} {stack : List ℕ} (old new : List PartLeft)
    → GoesOn b a (way u stack (parts_left old)) → length old ≡ 0 → length new ≡ 0
    → StopsAt b a (way u stack (parts_left new)) stops.Dot
goes_dot {b} {a} {u} {stack} old new goes none still = (
  subst (λ l. GoesOn b a (way u stack l)) (no_parts old none ∙ sym (no_parts new still)) goes,
  no_parts new still,
)
