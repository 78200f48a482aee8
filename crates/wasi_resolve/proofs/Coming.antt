-- The whole walk: a link in each turn, and then its end.
use Rattle.std.proofs.Common.{◌≡◌, ℕ, zero, suc, ◌+◌, ◌*◌, ◌≤◌, Bool, true, false, cond, ◌||◌, List, [], ◌∷◌, ◌++◌, length, Result, Err, refl, sym, ap, subst, ◌∙◌, arith}
use Rattle.wasi_host.specs.Tree.{Tree}
use Rattle.wasi_host.specs.HostLaws.{HostModel, Handles}
use Rattle.wasi_host.specs.declared.errors.ErrorCode.TheVariants.{Loop, NoEntry}
use Rattle.wasi_host.specs.declared.errors.HostError.{HostError}
use Rattle.wasi_host.specs.declared.errors.HostError.TheVariants.{Code}
use Rattle.wasi_host.specs.declared.lookup.Lookup.{Lookup}
use Rattle.wasi_paths.specs.Parts as texts
use Rattle.wasi_paths.specs.Parts.{Component, trailing_slash, is_empty}
use Rattle.wasi_resolve.specs.Walk.{Aim, Outcome, Stop, Leg, Ended, Linked, adds_slash, resume, Walk, walk_looks, ended, one_link_more, walk_from, walk}
use Rattle.wasi_resolve.specs.ByNodes.{leg_nodes, walk_nodes}
use Rattle.wasi_resolve.specs.Resolved.{Resolved}
use Rattle.wasi_resolve.specs.Stack.{nodes_under}
use Rattle.wasi_resolve.specs.WalkState.{Begin, begin, origin, Course, Way, way, way_nodes, leg_from}
use Rattle.wasi_resolve.specs.WalkSteps.{Walked, ReachesLink, ReachFails, EndsPast, LinkPast, FailsPast, Comes, whole_walk, whole_from, meant_at, shown_found, taken_by, leg_looks}
use Rattle.wasi_resolve.specs.declared.found.Found.{Found}
use Rattle.wasi_resolve.proofs.Calls.{looks_none}
use Rattle.wasi_resolve.proofs.Legs.{TakesMore, taken_most, takes_more}
use Rattle.wasi_resolve.proofs.Reaching.{stop_resolved, fault_resolved}
use Rattle.wasi_resolve.proofs.Simulation.{walk-by_nodes}

-- ---- by nodes

-- two walks end alike, though the one has read so many links more
pub record SameEnd (read : ℕ) (a b : Walk) : Type 0 where
  pub outcome : a.outcome ≡ b.outcome
  pub parts : a.parts ≡ b.parts
  pub links : a.links ≡ read + b.links

abbrev last_turn : Bool → ℕ → List Component → List ℕ → Walk
last_turn slash m left stack = ended m (Stop Loop)

module _ (t : Tree) (s : ℕ) (aim : Aim) (follow : Bool) where
  abbrev next_turn : ℕ → Bool → ℕ → List Component → List ℕ → Walk
  next_turn links slash m left stack = one_link_more (walk_nodes t s aim follow links slash m left stack)

  walk_ended : (links : ℕ) (slash : Bool) (m taken : ℕ) (parts : List Component) (nodes : List ℕ) (outcome : Outcome)
      → leg_nodes t s aim follow slash m parts nodes ≡ Ended taken outcome
      → walk_nodes t s aim follow links slash m parts nodes ≡ ended taken outcome
  walk_ended zero slash m taken parts nodes outcome is = ap (resume last_turn slash) is
  walk_ended (suc links) slash m taken parts nodes outcome is = ap (resume (next_turn links) slash) is

  walk_turned : (links : ℕ) (slash : Bool) (m taken : ℕ) (parts behind : List Component) (nodes after text : List ℕ)
      → leg_nodes t s aim follow slash m parts nodes ≡ Linked taken after text behind
      → SameEnd 1 (walk_nodes t s aim follow (suc links) slash m parts nodes)
      (walk_nodes t s aim follow links (slash || adds_slash text behind) taken (texts.parts text ++ behind) after)
  walk_turned links slash m taken parts behind nodes after text is = record {
    outcome = ap (λ l. (resume (next_turn links) slash l).outcome) is;
    parts = ap (λ l. (resume (next_turn links) slash l).parts) is;
    links = omega (arith, ap (λ l. (resume (next_turn links) slash l).links) is);
  }

  walk_looped : (slash : Bool) (m taken : ℕ) (parts behind : List Component) (nodes after text : List ℕ)
      → leg_nodes t s aim follow slash m parts nodes ≡ Linked taken after text behind
      → walk_nodes t s aim follow zero slash m parts nodes ≡ ended taken (Stop Loop)
  walk_looped slash m taken parts behind nodes after text is = ap (resume last_turn slash) is

  -- a walk takes the parts up to its first link at least
  leg_most : (links : ℕ) (slash : Bool) (m n : ℕ) (l : Leg (List ℕ)) → n ≤ taken_by l
      → ((slash : Bool) (m : ℕ) (left : List Component) (stack : List ℕ)
      → m ≤ (walk_nodes t s aim follow links slash m left stack).parts)
      → n ≤ (resume (next_turn links) slash l).parts
  leg_most links slash m n (Ended taken outcome) within rest = within
  leg_most links slash m n (Linked taken position text left) within rest =
      omega (arith, within, rest (slash || adds_slash text left) taken (texts.parts text ++ left) position)

  last_most : (slash : Bool) (n : ℕ) (l : Leg (List ℕ)) → n ≤ taken_by l → n ≤ (resume last_turn slash l).parts
  last_most slash n (Ended taken outcome) within = within
  last_most slash n (Linked taken position text left) within = within

  walk_most : (links : ℕ) (slash : Bool) (m : ℕ) (left : List Component) (stack : List ℕ)
      → m ≤ (walk_nodes t s aim follow links slash m left stack).parts
  walk_most zero slash m left stack =
      last_most slash m (leg_nodes t s aim follow slash m left stack) (taken_most t s aim follow slash m left stack)
  walk_most (suc links) slash m left stack =
      leg_most links slash m m (leg_nodes t s aim follow slash m left stack)
      (taken_most t s aim follow slash m left stack) (walk_most links)

  last_parts : (slash : Bool) (m : ℕ) (left : List Component) (stack : List ℕ)
      → taken_by (leg_nodes t s aim follow slash m left stack) ≤
      (walk_nodes t s aim follow zero slash m left stack).parts
  last_parts slash m left stack = last_most slash _ (leg_nodes t s aim follow slash m left stack) (omega arith)

  -- and no fewer lookups are reckoned for it, where a link may be read
  leg_within : (links : ℕ) (slash : Bool) (l : Leg (List ℕ))
      → leg_looks l ≤ walk_looks (resume (next_turn links) slash l)
  leg_within links slash (Ended taken outcome) = omega arith
  leg_within links slash (Linked taken position text left) =
      let rest = walk_most links (slash || adds_slash text left) taken (texts.parts text ++ left) position in
      omega (arith, rest)

  looks_within : (links : ℕ) (slash : Bool) (m : ℕ) (left : List Component) (stack : List ℕ)
      → leg_looks (leg_nodes t s aim follow slash m left stack) ≤
      walk_looks (walk_nodes t s aim follow (suc links) slash m left stack)
  looks_within links slash m left stack = leg_within links slash (leg_nodes t s aim follow slash m left stack)

  -- a walk takes a part for each link that it reads
  leg_links : (links : ℕ) (slash : Bool) (m : ℕ) (l : Leg (List ℕ)) → TakesMore m l
      → ((slash : Bool) (m : ℕ) (left : List Component) (stack : List ℕ)
      → m + (walk_nodes t s aim follow links slash m left stack).links
      ≤ (walk_nodes t s aim follow links slash m left stack).parts)
      → m + (resume (next_turn links) slash l).links ≤ (resume (next_turn links) slash l).parts
  leg_links links slash m (Ended taken outcome) more rest = omega (arith, more)
  leg_links links slash m (Linked taken position text left) more rest =
      let few = rest (slash || adds_slash text left) taken (texts.parts text ++ left) position in omega (arith, more, few)

  last_links : (slash : Bool) (m : ℕ) (l : Leg (List ℕ)) → TakesMore m l
      → m + (resume last_turn slash l).links ≤ (resume last_turn slash l).parts
  last_links slash m (Ended taken outcome) more = omega (arith, more)
  last_links slash m (Linked taken position text left) more = omega (arith, more)

  pub links_within : (links : ℕ) (slash : Bool) (m : ℕ) (left : List Component) (stack : List ℕ)
      → m + (walk_nodes t s aim follow links slash m left stack).links
      ≤ (walk_nodes t s aim follow links slash m left stack).parts
  links_within zero slash m left stack =
      last_links slash m (leg_nodes t s aim follow slash m left stack) (takes_more t s aim follow slash m left stack)
  links_within (suc links) slash m left stack =
      leg_links links slash m (leg_nodes t s aim follow slash m left stack)
      (takes_more t s aim follow slash m left stack) (links_within links)

-- the walk of a text, by nodes
pub walk_whole : (t : Tree) (s : ℕ) (text : List ℕ) (aim : Aim) (follow : Bool) → is_empty text ≡ false
    → walk t s text aim follow ≡ whole_walk t s aim follow (trailing_slash text) (texts.parts text) []
unfolding walk whole_walk
walk_whole t s text aim follow some =
    ap (λ b. cond b (ended 0 (Stop NoEntry)) (walk_from t s aim follow 40 (trailing_slash text) 0
    (texts.parts text) [])) some
    ∙ walk-by_nodes t s aim follow 40 (trailing_slash text) 0 (texts.parts text) []

pub walk_empty : (t : Tree) (s : ℕ) (text : List ℕ) (aim : Aim) (follow : Bool) → is_empty text ≡ true
    → walk t s text aim follow ≡ ended 0 (Stop NoEntry)
unfolding walk
walk_empty t s text aim follow none =
    ap (λ b. cond b (ended 0 (Stop NoEntry)) (walk_from t s aim follow 40 (trailing_slash text) 0
    (texts.parts text) [])) none

-- ---- a turn

-- how far the walk has come: with so many links that may still be read, it ends as the whole does
pub record SoFar (b : Begin) (k : Course) (a : Way) (links : ℕ) (slash : Bool) (c : Way)
    (old now : List Lookup) : Type 0 where
  pub walked : Walked b.live b.model c.model b.start c.stack
  pub taken : ℕ
  pub read : ℕ
  pub same : SameEnd read (whole_from b k a)
      (walk_nodes b.model.tree (origin b) k.aim k.follow links slash taken c.left (way_nodes c))
  pub few : length now ≤ length old + taken + 2 * read

pub so_starts : {first : Handles} {w v : HostModel} {start : ℕ} {stack : List ℕ} (k : Course) (parts : List Component)
    (old : List Lookup) → Walked first w v start stack
    → SoFar (begin first w start) k (way v stack parts) 40 k.slash (way v stack parts) old old
unfolding whole_walk
so_starts k parts old walked = record {
  walked = walked;
  taken = 0;
  read = 0;
  same = record { outcome = refl; parts = refl; links = omega arith };
  few = omega arith;
}

-- from here on, with another slash
abbrev pub with_slash : Course → Bool → Course
with_slash k slash = record k { slash = slash }

-- the walk from here, with so many links that may still be read
abbrev rest_of : Begin → Course → Way → ℕ → ℕ → Walk
rest_of b k c links m = walk_nodes b.model.tree (origin b) k.aim k.follow links k.slash m c.left (way_nodes c)

module _ {b : Begin} {k : Course} {a c : Way} {slash_now : Bool} {old mid : List Lookup} where
  pub so_turns : {now : ℕ} (links : ℕ) {d : Way} {new : List Lookup} {slash' : Bool}
      (so : SoFar b k a now slash_now c old mid) → now ≡ suc links
      → LinkPast b (with_slash k slash_now) so.taken c d mid new slash' → SoFar b k a links slash' d old new
  so_turns links {d} {new} {slash'} so at past =
      let turned =
      walk_turned b.model.tree (origin b) k.aim k.follow links slash_now so.taken past.taken c.left past.behind
      (way_nodes c) (way_nodes d) past.text past.linked in
      let same : walk_nodes b.model.tree (origin b) k.aim k.follow links
      (slash_now || adds_slash past.text past.behind) past.taken (texts.parts past.text ++ past.behind) (way_nodes d)
      ≡ walk_nodes b.model.tree (origin b) k.aim k.follow links slash' past.taken d.left (way_nodes d) =
      ap (λ x. walk_nodes b.model.tree (origin b) k.aim k.follow links x past.taken
      (texts.parts past.text ++ past.behind) (way_nodes d)) (sym past.now)
      ∙ ap (λ l. walk_nodes b.model.tree (origin b) k.aim k.follow links slash' past.taken l (way_nodes d)) (sym past.put) in
      record {
        walked = past.walked;
        taken = past.taken;
        read = so.read + 1;
        same = record {
          outcome =
              so.same.outcome ∙ ap (λ n. (rest_of b (with_slash k slash_now) c n so.taken).outcome) at ∙ turned.outcome ∙ ap (λ x. x.outcome) same;
          parts = so.same.parts ∙ ap (λ n. (rest_of b (with_slash k slash_now) c n so.taken).parts) at ∙ turned.parts ∙ ap (λ x. x.parts) same;
          links =
              let here = ap (λ n. (rest_of b (with_slash k slash_now) c n so.taken).links) at in
              omega (arith, so.same.links, here, turned.links, ap (λ x. x.links) same);
        };
        few = omega (arith, so.few, past.few);
      }

  pub so_ends : {links : ℕ} {d : Way} {new : List Lookup} (r : Result Found HostError)
      (so : SoFar b k a links slash_now c old mid) → EndsPast b (with_slash k slash_now) so.taken c d mid new r → Comes b k a d old new r
  so_ends {links} {d} r so ends =
      let is =
      walk_ended b.model.tree (origin b) k.aim k.follow links slash_now so.taken ends.taken c.left
      (way_nodes c) ends.outcome ends.ends in
      record {
        resolved =
            subst (λ o. Resolved b.live b.model d.model (meant_at b.model.tree k.aim (origin b) o) (shown_found d.model.held) r)
            (sym (so.same.outcome ∙ ap (λ x. x.outcome) is)) ends.resolved;
        bound =
            let number = so.same.parts ∙ ap (λ x. x.parts) is in
            let none = ap (λ x. x.links) is in omega (arith, number, so.same.links, none, so.few, ends.few);
      }

  -- the host fails, or memory is wanted, while a link may be read
  pub so_fails : {now : ℕ} (links : ℕ) {d : Way} {new : List Lookup} (e : HostError)
      (so : SoFar b k a now slash_now c old mid) → now ≡ suc links
      → FailsPast b (with_slash k slash_now) so.taken c d mid new e → Comes b k a d old new (Err e)
  so_fails links e so at fails = record {
    resolved = fault_resolved k.aim _ fails.fault fails.looks;
    bound =
        let here = ap (λ n. walk_looks (rest_of b (with_slash k slash_now) c n so.taken)) at in
        let most = looks_within b.model.tree (origin b) k.aim k.follow links slash_now so.taken c.left (way_nodes c) in
        omega (arith, so.same.parts, so.same.links, here, so.few, fails.few, most);
  }

  -- and where none may be read any more
  pub so_fails_last : {now : ℕ} {d : Way} {new : List Lookup} (e : HostError)
      (so : SoFar b k a now slash_now c old mid) → now ≡ zero → ReachFails b (with_slash k slash_now) so.taken c d e
      → length new + so.taken ≤ length mid + taken_by (leg_from b (with_slash k slash_now) so.taken c) + 1
      → Comes b k a d old new (Err e)
  so_fails_last e so at fails few = record {
    resolved = fault_resolved k.aim _ fails.fault fails.looks;
    bound =
        let here = ap (λ n. (rest_of b (with_slash k slash_now) c n so.taken).parts) at in
        let most = last_parts b.model.tree (origin b) k.aim k.follow slash_now so.taken c.left (way_nodes c) in
        omega (arith, so.same.parts, so.same.links, here, so.few, few, most);
  }

  -- one link too many
  pub so_loops : {now : ℕ} {d : Way} {name : List ℕ} {new : List Lookup}
      (so : SoFar b k a now slash_now c old mid) → now ≡ zero
      → (link : ReachesLink b (with_slash k slash_now) so.taken c d name) → length new + so.taken ≤ length mid + link.taken + 1
      → Comes b k a d old new (Err (Code Loop))
  so_loops {d = d} so at link few =
      let is =
      ap (λ n. rest_of b (with_slash k slash_now) c n so.taken) at
      ∙ walk_looped b.model.tree (origin b) k.aim k.follow slash_now so.taken link.taken c.left d.left
      (way_nodes c) (way_nodes d) _ link.linked in
      record {
        resolved =
            subst (λ o. Resolved b.live b.model d.model (meant_at b.model.tree k.aim (origin b) o) (shown_found d.model.held) (Err
            (Code Loop)))
            (sym (so.same.outcome ∙ ap (λ x. x.outcome) is)) (stop_resolved k.aim Loop refl link.walked.looks);
        bound =
            let number = so.same.parts ∙ ap (λ x. x.parts) is in
            let none = ap (λ x. x.links) is in omega (arith, number, so.same.links, none, so.few, few);
      }

-- ---- the walk of a text

-- it starts with an empty stack
pub walks_start : {live : Handles} {w : HostModel} {start : ℕ} {items : List ℕ} → items ≡ [] → Walked live w w start items
walks_start {live} {w} {start} none =
    subst (Walked live w w start) (sym none) (record { looks = looks_none live w ((w.held start).node ∷ []); near = tt })

-- and ends as the walk of the text
module _ {live : Handles} {w : HostModel} {start : ℕ} {aim : Aim} {follow : Bool} (text : List ℕ) {parts : List Component}
    {items : List ℕ} {d : Way} {old new : List Lookup} {r : Result Found HostError} (some : is_empty text ≡ false)
    (parts_are : parts ≡ texts.parts text) (none : items ≡ [])
    (comes : Comes (begin live w start) (record { aim = aim; follow = follow; slash = trailing_slash text })
    (way w items parts) d old new r) where
  whole_is : whole_walk w.tree (w.held start).node aim follow (trailing_slash text) parts (nodes_under w.held items)
      ≡ walk w.tree (w.held start).node text aim follow
  whole_is =
      ap (λ l. whole_walk w.tree (w.held start).node aim follow (trailing_slash text) l
      (nodes_under w.held items)) parts_are
      ∙ ap (λ l. whole_walk w.tree (w.held start).node aim follow (trailing_slash text) (texts.parts text)
      (nodes_under w.held l)) none
      ∙ sym (walk_whole w.tree (w.held start).node text aim follow some)

  pub comes_resolved : Resolved live w d.model (meant_at w.tree aim (w.held start).node (walk w.tree
      (w.held start).node text aim follow).outcome) (shown_found d.model.held) r
  comes_resolved =
      subst (λ x. Resolved live w d.model (meant_at w.tree aim (w.held start).node x.outcome)
      (shown_found d.model.held) r) whole_is comes.resolved

  pub comes_bound : length new ≤ length old + walk_looks (walk w.tree (w.held start).node text aim follow)
  comes_bound = subst (λ x. length new ≤ length old + walk_looks x) whole_is comes.bound
