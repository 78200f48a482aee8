-- What a part of a walk does over a modelled host: b is where the walk began, a where it stands before the
-- part, and c after it. Of calls by themselves w and u are the models before and after them.
use Rattle.std.specs.Prelude.{◌≡◌, ◌⊎◌, ◌≤◌, ◌+◌, ℕ, suc, Bool, true, false, ◌&&◌, ◌||◌, List, [], ◌∷◌, ◌++◌, length, Option, Some, None, Result, Ok, Err}
use Rattle.std.specs.FinSet.{contains}
use Rattle.wasi_host.specs.Options.{Options}
use Rattle.wasi_host.specs.Tree.{Tree, is_link}
use Rattle.wasi_host.specs.ValidTree.{Reached}
use Rattle.wasi_host.specs.Agree.{Touches}
use Rattle.wasi_host.specs.HostCall.{OpenAt, ReadLinkAt}
use Rattle.wasi_host.specs.Refusal.{refusal, holds}
use Rattle.wasi_host.specs.Answer as host
use Rattle.wasi_host.specs.Answer.{reached, link_text, metadata_of}
use Rattle.wasi_host.specs.Step.{open_step}
use Rattle.wasi_host.specs.Steps.{◌>>=◌}
use Rattle.wasi_host.specs.HostLaws.{HostModel, Handles}
use Rattle.wasi_host.specs.declared.errors.ErrorCode.{ErrorCode}
use Rattle.wasi_host.specs.declared.errors.ErrorCode.TheVariants.{Io}
use Rattle.wasi_host.specs.declared.errors.HostError.{HostError}
use Rattle.wasi_host.specs.declared.errors.HostError.TheVariants.{Code, Memory}
use Rattle.wasi_host.specs.declared.open_handle.OpenHandle.{OpenHandle}
use Rattle.wasi_host.specs.declared.lookup.Lookup.{Lookup}
use Rattle.wasi_host.specs.declared.metadata.Metadata.{Metadata}
use Rattle.wasi_paths.specs.Parts as texts
use Rattle.wasi_paths.specs.Parts.{Component, Normal}
use Rattle.wasi_resolve.specs.Walk.{Aim, Open, Look, Outcome, Stop, Name, Dot, is_to_be_read, is_link_code, Leg, Ended, Linked, Walk, walk_looks, adds_slash}
use Rattle.wasi_resolve.specs.ByNodes.{top, leg_nodes, walk_nodes}
use Rattle.wasi_resolve.specs.Paths.{Place, opening_of, opened_by, step_of, looked_at}
use Rattle.wasi_resolve.specs.Meanings.{ends_by, opened_node}
use Rattle.wasi_resolve.specs.Resolved.{Meant, Resolved}
use Rattle.wasi_resolve.specs.Stack.{nodes_under}
use Rattle.wasi_resolve.specs.WalkState.{Begin, origin, Course, Way, way_nodes, leg_from}
use Rattle.wasi_resolve.specs.declared.found.Found.{Found}
use Rattle.wasi_resolve.specs.declared.found.Found.TheVariants as found
use Rattle.wasi_resolve.specs.declared.found.Reach.{Reach}
use Rattle.wasi_resolve.specs.declared.found.Reach.TheVariants as reach
use Rattle.wasi_resolve.specs.declared.found.Stop as stopping
use Rattle.wasi_resolve.specs.declared.found.Stop.TheVariants as stops

-- ---- calls that leave the tree

-- The tree stays, handles that were live keep what they stand for, and what is touched is reached from these nodes.
pub record OnlyLooks (live : Handles) (w v : HostModel) (starts : List ℕ) : Type 0 where
  pub tree : v.tree ≡ w.tree
  pub touched : Touches w.tree w.tree starts [] w.touched v.touched
  pub keeps : (h : ℕ) → contains live h ≡ true → v.held h ≡ w.held h

-- The tree and what is touched stay, and handles that were live keep what they stand for.
pub record ModelStays (live : Handles) (w v : HostModel) : Type 0 where
  pub tree : v.tree ≡ w.tree
  pub touched : v.touched ≡ w.touched
  pub keeps : (h : ℕ) → contains live h ≡ true → v.held h ≡ w.held h

-- a failure of the host, or out of memory, which say nothing of what is meant
abbrev pub IsFault : HostError → Type 0
IsFault e = (e ≡ Memory) ⊎ (e ≡ Code Io)

-- ---- what is meant

-- what a walk finds
pub data Sight : Type 0 where
  HandleFor : OpenHandle → Sight
  Seen : Metadata → Sight

abbrev pub shown_found : (ℕ → OpenHandle) → Found → Sight
shown_found held (found.Handle h) = HandleFor (held h)
shown_found held (found.Metadata metadata) = Seen metadata

-- what a walk that came to an outcome means
abbrev pub meant_at : Tree → Aim → ℕ → Outcome → Meant Sight
meant_at t (Open o) s outcome = record {
  starts = s ∷ [];
  answer = opening_of o outcome >>= opened_by t >>= (λ held. Ok (HandleFor held));
  stepped = step_of t (opening_of o outcome);
  ends = ends_by (opened_node t) (opening_of o outcome);
}
meant_at t Look s outcome = record {
  starts = s ∷ [];
  answer = looked_at t outcome >>= (λ n. Ok (Seen (metadata_of t n)));
  stepped = t;
  ends = ends_by (λ n. n) (looked_at t outcome);
}

-- what one open of the host means
abbrev pub open_meant : Tree → ℕ → List ℕ → Options → Meant OpenHandle
open_meant t d name o = record {
  starts = d ∷ [];
  answer = host.open_answer t d name o;
  stepped = open_step t d name o;
  ends = reached t d name ∷ [];
}

-- ---- the walk so far

-- each is reached from the start
abbrev pub AreReached : Tree → ℕ → List ℕ → Type 0
AreReached t s [] = Unit {0}
AreReached t s (n ∷ nodes) = Reached t (s ∷ []) n × AreReached t s nodes

-- Nothing has changed but what is touched, and each node of the stack is reached from the start.
pub record Walked (live : Handles) (w v : HostModel) (start : ℕ) (stack : List ℕ) : Type 0 where
  pub looks : OnlyLooks live w v ((w.held start).node ∷ [])
  pub near : AreReached w.tree (w.held start).node (nodes_under v.held stack)

-- A leg is the same from another state, in which so many parts were taken: as many more as fewer are left.
pub record SameLeg (leg : Leg (List ℕ)) (from : ℕ → Leg (List ℕ)) (all left : ℕ) : Type 0 where
  pub taken : ℕ
  pub count : taken + left ≡ all
  pub same : leg ≡ from taken

-- from both states the walk comes to the same, whatever it is for
pub record SameWalk (t : Tree) (s : ℕ) (parts : List Component) (before : List ℕ) (left : List Component)
    (after : List ℕ) : Type 0 where
  pub at : (aim : Aim) (follow slash : Bool) (m : ℕ)
      → SameLeg (leg_nodes t s aim follow slash m parts before)
      (λ taken. leg_nodes t s aim follow slash taken left after) (m + length parts) (length left)

-- the next part is refused with this code
pub record IsRefused (t : Tree) (s : ℕ) (parts : List Component) (nodes : List ℕ) (e : HostError) : Type 0 where
  pub code : ErrorCode
  pub is : e ≡ Code code
  pub ends : (aim : Aim) (follow slash : Bool) (m : ℕ)
      → leg_nodes t s aim follow slash m parts nodes ≡ Ended (suc m) (Stop code)

-- ---- one part and more

-- the walk goes on
pub record GoesOn (b : Begin) (a c : Way) : Type 0 where
  pub walked : Walked b.live b.model c.model b.start c.stack
  pub same : SameWalk b.model.tree (origin b) a.left (way_nodes a) c.left (way_nodes c)

-- it stops at a last name
pub record AtLast (b : Begin) (a c : Way) (name : List ℕ) : Type 0 where
  pub walked : Walked b.live b.model c.model b.start c.stack
  pub same : SameWalk b.model.tree (origin b) a.left (way_nodes a) (Normal name ∷ c.left) (way_nodes c)
  pub none : c.left ≡ []

-- it stops at a link
pub record AtLink (b : Begin) (a c : Way) (name : List ℕ) : Type 0 where
  pub walked : Walked b.live b.model c.model b.start c.stack
  pub same : SameWalk b.model.tree (origin b) a.left (way_nodes a) (Normal name ∷ c.left) (way_nodes c)
  pub linked : (aim : Aim) (follow slash : Bool) (m : ℕ)
      → leg_nodes b.model.tree (origin b) aim follow slash m (Normal name ∷ c.left) (way_nodes c)
      ≡ Linked (suc m) (way_nodes c) (link_text b.model.tree (top (origin b) (way_nodes c)) name) c.left
  pub free : refusal b.model.tree (ReadLinkAt (top (origin b) (way_nodes c)) name) ≡ None

-- it fails at a part
pub record Fails (b : Begin) (a c : Way) (e : HostError) : Type 0 where
  pub looks : OnlyLooks b.live b.model c.model (origin b ∷ [])
  pub part : Component
  pub nodes : List ℕ
  pub same : SameWalk b.model.tree (origin b) a.left (way_nodes a) (part ∷ c.left) nodes
  pub refused : IsFault e ⊎ IsRefused b.model.tree (origin b) (part ∷ c.left) nodes e

abbrev pub StopsAt : Begin → Way → Way → stopping.Stop → Type 0
StopsAt b a c stops.Dot = GoesOn b a c × (c.left ≡ [])
StopsAt b a c (stops.Last name) = AtLast b a c name.text.now
StopsAt b a c (stops.Link name) = AtLink b a c name.text.now

abbrev pub Stopped : Begin → Way → Way → Result stopping.Stop HostError → Type 0
Stopped b a c (Ok stop) = StopsAt b a c stop
Stopped b a c (Err e) = Fails b a c e

abbrev pub TakesPart : Begin → Way → Way → Result (Option stopping.Stop) HostError → Type 0
TakesPart b a c (Ok None) = GoesOn b a c
TakesPart b a c (Ok (Some stop)) = StopsAt b a c stop
TakesPart b a c (Err e) = Fails b a c e

abbrev pub Leaves : Begin → Way → Way → Result (Unit {0}) HostError → Type 0
Leaves b a c (Ok unit) = GoesOn b a c
Leaves b a c (Err e) = Fails b a c e

-- ---- a name

-- it holds a link, may be one that is read, and the open is refused as that of a link is
abbrev pub is_met_link : Tree → ℕ → List ℕ → Options → Bool → Bool
is_met_link t d name o may_read =
    holds t d name (λ n. is_link n.content) && (may_read && is_link_code (refusal t (OpenAt d name o)))

-- no link is read, and the answer is that of the open
pub record OpensUnread (live : Handles) (w u : HostModel) (d : ℕ) (name : List ℕ) (o : Options) (may_read : Bool)
    (result : Result ℕ HostError) : Type 0 where
  pub unread : is_met_link w.tree d name o may_read ≡ false
  pub resolved : Resolved live w u (open_meant w.tree d name o) u.held result

pub record MeetsLink (live : Handles) (w u : HostModel) (d : ℕ) (name : List ℕ) (o : Options)
    (may_read : Bool) : Type 0 where
  pub reads : is_met_link w.tree d name o may_read ≡ true
  pub looks : OnlyLooks live w u (d ∷ [])

abbrev pub Enters : Handles → HostModel → HostModel → ℕ → List ℕ → Options → Bool → Result (Option ℕ) HostError → Type 0
Enters live w u d name o may_read (Ok (Some h)) = OpensUnread live w u d name o may_read (Ok h)
Enters live w u d name o may_read (Ok None) = MeetsLink live w u d name o may_read
Enters live w u d name o may_read (Err e) =
    (OnlyLooks live w u (d ∷ []) × IsFault e) ⊎ OpensUnread live w u d name o may_read (Err e)

-- the last name isn't read, and the answer is what the walk means that ends there
pub record EndsUnread (live : Handles) (w u : HostModel) (d : ℕ) (k : Course) (name : List ℕ)
    (result : Result Found HostError) : Type 0 where
  pub unread : is_to_be_read w.tree k.aim k.follow k.slash true d name ≡ false
  pub resolved : Resolved live w u (meant_at w.tree k.aim d (Name d name k.slash)) (shown_found u.held) result

pub record EndsAtLink (live : Handles) (w u : HostModel) (d : ℕ) (k : Course) (name found : List ℕ) : Type 0 where
  pub reads : is_to_be_read w.tree k.aim k.follow k.slash true d name ≡ true
  pub free : refusal w.tree (ReadLinkAt d name) ≡ None
  pub looks : OnlyLooks live w u (d ∷ [])
  pub same : found ≡ name

abbrev pub EndsAtName : Handles → HostModel → HostModel → ℕ → Course → List ℕ → Result Reach HostError → Type 0
EndsAtName live w u d k name (Ok (reach.Found it)) = EndsUnread live w u d k name (Ok it)
EndsAtName live w u d k name (Ok (reach.Link other)) = EndsAtLink live w u d k name other.text.now
EndsAtName live w u d k name (Err e) = (OnlyLooks live w u (d ∷ []) × IsFault e) ⊎ EndsUnread live w u d k name (Err e)

-- ---- a directory

abbrev pub EndsInDirectory : Handles → HostModel → HostModel → ℕ → Aim → Result Found HostError → Type 0
EndsInDirectory live w u d aim result = Resolved live w u (meant_at w.tree aim d (Dot d)) (shown_found u.held) result

-- ---- the parts up to the next link

abbrev pub taken_by : {P : Type 0} → Leg P → ℕ
taken_by (Ended m outcome) = m
taken_by (Linked m position text left) = m

-- how many lookups such parts come to at most, with those before them: one for each part, and one more, or two where
-- their link is read
abbrev pub leg_looks : {P : Type 0} → Leg P → ℕ
leg_looks (Ended m outcome) = m + 1
leg_looks (Linked m position text left) = m + 2

-- the walk ends there
pub record ReachesEnd (b : Begin) (k : Course) (m : ℕ) (a c : Way) (result : Result Found HostError) : Type 0 where
  pub taken : ℕ
  pub count : taken + length c.left ≡ m + length a.left
  pub outcome : Outcome
  pub ends : leg_from b k m a ≡ Ended taken outcome
  pub resolved : Resolved b.live b.model c.model (meant_at b.model.tree k.aim (origin b) outcome)
      (shown_found c.model.held) result

-- it comes to a link
pub record ReachesLink (b : Begin) (k : Course) (m : ℕ) (a c : Way) (name : List ℕ) : Type 0 where
  pub walked : Walked b.live b.model c.model b.start c.stack
  pub taken : ℕ
  pub count : taken + length c.left ≡ m + length a.left
  pub linked : leg_from b k m a
      ≡ Linked taken (way_nodes c) (link_text b.model.tree (top (origin b) (way_nodes c)) name) c.left
  pub free : refusal b.model.tree (ReadLinkAt (top (origin b) (way_nodes c)) name) ≡ None

-- the host fails, or memory is wanted, at one of its parts
pub record ReachFails (b : Begin) (k : Course) (m : ℕ) (a c : Way) (e : HostError) : Type 0 where
  pub looks : OnlyLooks b.live b.model c.model (origin b ∷ [])
  pub fault : IsFault e
  pub taken : ℕ
  pub count : taken + length c.left ≡ m + length a.left
  pub most : taken ≤ taken_by (leg_from b k m a)

abbrev pub Reaches : Begin → Course → ℕ → Way → Way → Result Reach HostError → Type 0
Reaches b k m a c (Ok (reach.Found it)) = ReachesEnd b k m a c (Ok it)
Reaches b k m a c (Ok (reach.Link name)) = ReachesLink b k m a c name.text.now
Reaches b k m a c (Err e) = ReachFails b k m a c e ⊎ ReachesEnd b k m a c (Err e)

-- ---- a link

-- it was read: the parts left and the slash before, and those after it
pub record ReadsText (live : Handles) (w u : HostModel) (at : Place) (before left : List Component)
    (slash slash' : Bool) : Type 0 where
  pub looks : OnlyLooks live w u (at.directory ∷ [])
  pub put : left ≡ texts.parts (link_text w.tree at.directory at.name) ++ before
  pub now : slash' ≡ (slash || adds_slash (link_text w.tree at.directory at.name) before)

-- it fails: where the link isn't refused, by the host alone
pub record ReadFails (live : Handles) (w u : HostModel) (at : Place) (e : HostError) : Type 0 where
  pub looks : OnlyLooks live w u (at.directory ∷ [])
  pub fault : refusal w.tree (ReadLinkAt at.directory at.name) ≡ None → IsFault e

abbrev pub ReadsLink : Handles → HostModel → HostModel → Place → List Component → List Component → Bool
    → Result Bool HostError → Type 0
ReadsLink live w u at before left slash (Ok slash') = ReadsText live w u at before left slash slash'
ReadsLink live w u at before left slash (Err e) = ReadFails live w u at e

-- ---- the parts up to the next link, and that link

-- the walk ends there, or fails
pub record EndsPast (b : Begin) (k : Course) (m : ℕ) (a c : Way) (old new : List Lookup)
    (result : Result Found HostError) : Type 0 where
  pub taken : ℕ
  pub outcome : Outcome
  pub ends : leg_from b k m a ≡ Ended taken outcome
  pub resolved : Resolved b.live b.model c.model (meant_at b.model.tree k.aim (origin b) outcome)
      (shown_found c.model.held) result
  pub few : length new + m ≤ length old + taken + 1

-- the link was read, and the walk goes on with the parts of its text
pub record LinkPast (b : Begin) (k : Course) (m : ℕ) (a c : Way) (old new : List Lookup) (slash : Bool) : Type 0 where
  pub walked : Walked b.live b.model c.model b.start c.stack
  pub taken : ℕ
  pub text : List ℕ
  pub behind : List Component
  pub linked : leg_from b k m a ≡ Linked taken (way_nodes c) text behind
  pub put : c.left ≡ texts.parts text ++ behind
  pub now : slash ≡ (k.slash || adds_slash text behind)
  pub few : length new + m ≤ length old + taken + 2

-- the host fails, or memory is wanted
pub record FailsPast (b : Begin) (k : Course) (m : ℕ) (a c : Way) (old new : List Lookup) (e : HostError) : Type 0 where
  pub looks : OnlyLooks b.live b.model c.model (origin b ∷ [])
  pub fault : IsFault e
  pub few : length new + m ≤ length old + leg_looks (leg_from b k m a)

-- ---- the whole walk

-- the walk of the parts that are left, which reads at most 40 links
unfoldable pub whole_walk : Tree → ℕ → Aim → Bool → Bool → List Component → List ℕ → Walk
whole_walk t s aim follow slash left stack = walk_nodes t s aim follow 40 slash 0 left stack

-- from where a walk stands
abbrev pub whole_from : Begin → Course → Way → Walk
whole_from b k a = whole_walk b.model.tree (origin b) k.aim k.follow k.slash a.left (way_nodes a)

pub record Comes (b : Begin) (k : Course) (a c : Way) (old new : List Lookup)
    (result : Result Found HostError) : Type 0 where
  pub resolved : Resolved b.live b.model c.model (meant_at b.model.tree k.aim (origin b) (whole_from b k a).outcome)
      (shown_found c.model.held) result
  pub bound : length new ≤ length old + walk_looks (whole_from b k a)
