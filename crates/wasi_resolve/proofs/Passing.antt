-- Past a link: its text is read, and its parts are put before those that are left.
use Rattle.std.proofs.Common.{◌≡◌, inl, inr, ℕ, ◌+◌, ◌≤◌, Bool, ◌||◌, ◌&&◌, List, [], ◌∷◌, ◌++◌, length, None, Result, Ok, Err, refl, sym, ap, subst, ◌∙◌, arith}
use Rattle.std.specs.Prelude.{◌==◌}
use Rattle.std.proofs.lemmas.List.Elements.{All-nil}
use Rattle.wasi_host.specs.HostCall.{ReadLinkAt}
use Rattle.wasi_host.specs.Refusal.{refusal}
use Rattle.wasi_host.specs.Answer.{link_text, link_answer, unless}
use Rattle.wasi_host.specs.HostLaws.{HostModel, Handles, RefinesCall, MeansErr}
use Rattle.wasi_host.proofs.Chain.{free}
use Rattle.wasi_host.specs.declared.errors.ErrorCode.TheVariants.{Io}
use Rattle.wasi_host.specs.declared.errors.HostError.{HostError}
use Rattle.wasi_host.specs.declared.errors.HostError.TheVariants.{Code, Memory}
use Rattle.wasi_host.specs.declared.lookup.Lookup.{Lookup}
use Rattle.wasi_paths.specs.Parts as texts
use Rattle.wasi_paths.specs.Parts.{Component, trailing_slash}
use Rattle.wasi_resolve.specs.Walk.{Leg, Ended, Linked, adds_slash}
use Rattle.wasi_resolve.specs.ByNodes.{top}
use Rattle.wasi_resolve.specs.Left.{parts_left, is_nil}
use Rattle.wasi_resolve.specs.Stack.{nodes_under}
use Rattle.wasi_resolve.specs.Finding.{FewUntil, FewReads}
use Rattle.wasi_resolve.specs.WalkState.{Begin, origin, Course, Way, way, leg_from}
use Rattle.wasi_resolve.specs.WalkSteps.{OnlyLooks, IsFault, ReachesEnd, ReachesLink, ReachFails, ReadsText, ReadFails, EndsPast, LinkPast, FailsPast, taken_by, leg_looks}
use Rattle.wasi_resolve.specs.declared.found.Found.{Found}
use Rattle.wasi_resolve.specs.declared.parts_left.PartLeft.{PartLeft}
use Rattle.wasi_resolve.proofs.Calls.{call_ok, call_err, looks_of, same_live}
use Rattle.wasi_resolve.proofs.Putting.{length-parts}
use Rattle.wasi_resolve.proofs.Going.{OnTop, node_is, looks_on, kept_on, walked_on, nil_left}

-- ---- the text

adds_by : (text : List ℕ) (parts : List Component) → adds_slash text parts ≡ (is_nil parts && trailing_slash text)
adds_by text [] = refl
adds_by text (part ∷ parts) = refl

pub adds_is : (text : List ℕ) (items : List PartLeft)
    → adds_slash text (parts_left items) ≡ ((length items == 0) && trailing_slash text)
adds_is text items = adds_by text (parts_left items) ∙ ap (λ b. b && trailing_slash text) (nil_left items)

module _ {A : Type 0} {old new : Handles} {w u : HostModel} {d : ℕ} {name : List ℕ} {shown : A
    → List ℕ} (same : new ≡ old) where
  pub read_looks : {text : A} → RefinesCall {A = A} old new w u (ReadLinkAt d name) shown (Ok text) → OnlyLooks old w u (d ∷ [])
  read_looks {text} modelled =
      looks_of (Ok text) (λ is. refl) (call_ok {call = ReadLinkAt d name} [] (All-nil _) (same_live same) modelled)

  pub read_text : {text : A} → RefinesCall {A = A} old new w u (ReadLinkAt d name) shown (Ok text)
      → link_text w.tree d name ≡ shown text
  read_text {text} modelled =
      let none : refusal w.tree (ReadLinkAt d name) ≡ None = free _ _ _ modelled.meaning in
      let given : link_answer w.tree d name ≡ Ok (shown text) = modelled.meaning in
      let at : unless None (link_text w.tree d name) ≡ Ok (shown text) =
      ap (λ r. unless r (link_text w.tree d name)) (sym none) ∙ given in
      (cc)

  pub read_fails : (e : HostError) → RefinesCall {A = A} old new w u (ReadLinkAt d name) shown (Err e)
      → ReadFails old w u (record { directory = d; name = name }) e
  read_fails e modelled = record {
    looks = looks_of (Err e) (λ is. refl) (call_err {call = ReadLinkAt d name} e [] same modelled);
    fault = λ none. by e (subst (λ r. MeansErr (unless r (link_text w.tree d name)) e) none modelled.meaning);
  }
    where
      by : (x : HostError) → MeansErr (unless None (link_text w.tree d name)) x → IsFault x
      by Memory means = inl refl
      by (Code Io) means = inr refl
      by (Code code) means = absurd (cc)

  -- it was read, and its parts were put
  pub reads_now : {text : A} {left : List Component} {slash slash' was_last : Bool} (items : List PartLeft)
      → RefinesCall {A = A} old new w u (ReadLinkAt d name) shown (Ok text)
      → left ≡ texts.parts (shown text) ++ parts_left items → was_last ≡ (length items == 0)
      → slash' ≡ (slash || (was_last && trailing_slash (shown text)))
      → ReadsText old w u (record { directory = d; name = name }) (parts_left items) left slash slash'
  reads_now {text} {slash = slash} items modelled put last now = record {
    looks = read_looks modelled;
    put = put ∙ ap (λ t. texts.parts t ++ parts_left items) (sym (read_text modelled));
    now =
        now ∙ ap (λ b. slash || (b && trailing_slash (shown text))) last
        ∙ ap (λ b. slash || b) (sym (adds_is (shown text) items))
        ∙ ap (λ t. slash || adds_slash t (parts_left items)) (sym (read_text modelled));
  }

  -- it was read, and memory ran out for its parts
  pub reads_wants : {text : A} {e : HostError} → RefinesCall {A = A} old new w u (ReadLinkAt d name) shown (Ok text)
      → e ≡ Memory
      → ReadFails old w u (record { directory = d; name = name }) e
  reads_wants modelled is = record { looks = read_looks modelled; fault = λ none. inl is }

-- ---- the parts up to it, and then it

looks_more : {P : Type 0} (l : Leg P) → taken_by l + 1 ≤ leg_looks l
looks_more (Ended m outcome) = omega arith
looks_more (Linked m position text left) = omega arith

-- where a walk stands, by what is left of its parts
abbrev pub way_left : HostModel → List ℕ → List PartLeft → Way
way_left model stack items = way model stack (parts_left items)

module _ {b : Begin} {k : Course} {m : ℕ} {v u : HostModel} {before after : List ℕ} (items left : List PartLeft)
    {old mid : List Lookup} where
  pub ends_past : (r : Result Found HostError) → ReachesEnd b k m (way_left v before items) (way_left u after left) r
      → FewUntil 1 items left old mid → EndsPast b k m (way_left v before items) (way_left u after left) old mid r
  ends_past r ends few = record {
    taken = ends.taken;
    outcome = ends.outcome;
    ends = ends.ends;
    resolved = ends.resolved;
    few = omega (arith, few.calls, ends.count, length-parts items, length-parts left);
  }

  -- what the parts up to a failure cost
  pub fails_few : {e : HostError} (fails : ReachFails b k m (way_left v before items) (way_left u after left) e) → FewUntil 1 items left old mid
      → length mid + m ≤ length old + taken_by (leg_from b k m (way_left v before items)) + 1
  fails_few fails few =
      omega (arith, few.calls, fails.count, fails.most, length-parts items, length-parts left)

  pub fails_past : (e : HostError) → ReachFails b k m (way_left v before items) (way_left u after left) e
      → FewUntil 1 items left old mid → FailsPast b k m (way_left v before items) (way_left u after left) old mid e
  fails_past e fails few = record {
    looks = fails.looks;
    fault = fails.fault;
    few = let looks = looks_more (leg_from b k m (way_left v before items)) in omega (arith, fails_few fails few, looks);
  }

  -- what the parts up to a link cost
  pub link_few : {name : List ℕ} (link : ReachesLink b k m (way_left v before items) (way_left u after left) name)
      → FewUntil 1 items left old mid → length mid + m ≤ length old + link.taken + 1
  link_few link few = omega (arith, few.calls, link.count, length-parts items, length-parts left)

  module _ {now : Handles} {here : ℕ} {name : List ℕ} (on : OnTop b now u after here)
      (link : ReachesLink b k m (way_left v before items) (way_left u after left) name) (few : FewUntil 1 items left old mid) {new : List Lookup}
      (more : FewReads 1 1 mid new) where
    abbrev d : ℕ
    d = top (origin b) (nodes_under u.held after)

    pub link_past : {z : HostModel} {behind : List Component} (slash : Bool)
        → ReadsText now u z (record { directory = (u.held here).node; name = name }) (parts_left left) behind k.slash slash
        → LinkPast b k m (way_left v before items) (way z after behind) old new slash
    link_past slash reads =
        let text : link_text u.tree (u.held here).node name ≡ link_text b.model.tree d name =
        ap (λ t. link_text t (u.held here).node name) on.walked.looks.tree
        ∙ ap (λ n. link_text b.model.tree n name) (node_is on) in
        record {
          walked = walked_on on reads.looks;
          taken = link.taken;
          text = link_text b.model.tree d name;
          behind = parts_left left;
          linked = link.linked
              ∙ ap (λ ns. let l : Leg (List ℕ) =
              Linked link.taken ns (link_text b.model.tree d name) (parts_left left) in l) (sym
              (kept_on on reads.looks));
          put = reads.put ∙ ap (λ t. texts.parts t ++ parts_left left) text;
          now = reads.now ∙ ap (λ t. k.slash || adds_slash t (parts_left left)) text;
          few = omega (arith, link_few link few, more.calls);
        }

    pub link_fails : {z : HostModel} {behind : List Component} (e : HostError)
        → ReadFails now u z (record { directory = (u.held here).node; name = name }) e
        → FailsPast b k m (way_left v before items) (way z after behind) old new e
    link_fails e fails = record {
      looks = looks_on on fails.looks;
      fault = fails.fault (back link.free);
      few =
          let looks = ap leg_looks link.linked in
          omega (arith, link_few link few, more.calls, looks);
    }
      where
        back : refusal b.model.tree (ReadLinkAt d name) ≡ None → refusal u.tree (ReadLinkAt (u.held here).node name) ≡ None
        back is = ap (λ t. refusal t (ReadLinkAt (u.held here).node name)) on.walked.looks.tree
            ∙ ap (λ n. refusal b.model.tree (ReadLinkAt n name)) (node_is on) ∙ is
