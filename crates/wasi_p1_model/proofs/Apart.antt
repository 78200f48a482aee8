-- What a call leaves of what is reached under other permissions than those of the descriptors that it names, and what
-- runs leave so.
use Rattle.std.proofs.Common.{ℕ, ◌≤◌, ◌<◌, ◌≡◌, ◌≢◌, ◌⊎◌, inl, inr, false, true, List, [], ◌∷◌, refl, ap, sym, ◌∙◌, subst, arith, slice_get, Some, Result, Ok, Err}
use Rattle.std.specs.Prelude.{Contains}
use Rattle.std.specs.FinMap as maps
use Rattle.std.proofs.lemmas.Bool.{true≢false}
use Rattle.wasi_fs.specs.declared.perms.FsPerms.{FsPerms}
use Rattle.wasi_fs.specs.declared.perms.FsPerms.TheVariants.{ReadOnly, AppendOnly, ReadWrite}
use Rattle.wasi_guest.specs.declared.answer.Value.{Value}
use Rattle.wasi_guest.specs.declared.call.Call.{Call}
use Rattle.wasi_guest.specs.declared.quota.QuotaUsed.{QuotaUsed}
use Rattle.wasi_guest.specs.declared.call.Call.TheVariants as calls
use Rattle.wasi_host.specs.Agree.{IsClosed, IsMade}
use Rattle.wasi_host.specs.HostLaws.{HostModel}
use Rattle.wasi_host.specs.Tree.{Tree, Content, File, Directory, Link, node_at, next_of, names_of, is_directory}
use Rattle.wasi_host.specs.ValidTree.{IsValidTree}
use Rattle.wasi_host.proofs.Agreeing.{reach_closed}
use Rattle.wasi_host.proofs.Carrying.{named_within}
use Rattle.wasi_host.proofs.Changes.{node_at-past}
use Rattle.wasi_host.proofs.Leaving.{LeavesFor, Contains-here, named_in, no_name, stays_near}
use Rattle.wasi_p1_model.specs.AppendOnly.{AppendsAtEnd, AreApart, AppendingStays, KeepsNode, MayAlterNothing, NodesAreThere, OnlyGrows, ReachedUnder, opened, under, RunsKeepWhatIsApart, RunsOnlyGrow}
use Rattle.wasi_p1_model.specs.CallTransition.{Turns, NamesUnder, in_model}
use Rattle.wasi_p1_types.specs.Front.{FueledCall}
use Rattle.wasi_p1_types.specs.Guest.{Guest, State}
use Rattle.wasi_p1_types.specs.Request.{Request, Reply, reply_of, after}
use Rattle.wasi_p1_types.specs.CallResult.{CallResult, Program, done, asking}
use Rattle.wasi_p1_model.specs.Calls.{through, stem_in, descriptors_named, call_spec, turn}
use Rattle.wasi_p1_model.specs.Trace.{TraceStep, Played, Faulted}
use Rattle.wasi_p1_model.specs.Stems.{stems_by, HasPerms}
use Rattle.wasi_guest.specs.declared.answer.Answer.TheVariants as answers
use Rattle.wasi_p1_model.proofs.Alike.{spec_on}
use Rattle.wasi_p1_model.proofs.Changing.{slot_perms}
use Rattle.wasi_p1_model.proofs.Elsewhere.{StaysOr, request_stays}
use Rattle.wasi_p1_model.proofs.Growing.{adds_grow, still_grows, grows_on, keeps_itself, keeps_same, keeps_on}
use Rattle.wasi_p1_types.specs.declared.error.P1Error.{P1Error}
use Rattle.wasi_p1_model.proofs.Moving.{Moves, turn_moves, turned_moves, run_keeps, over_tree, over_guest, replied_by}
use Rattle.wasi_p1_model.proofs.LocalCalls.{IsLocal, IsNamed, AllUnder, AsksNear, HasNode, KeepsSlots, StaysNear, Permitted, leaves, changes, given_by}
use Rattle.wasi_p1_model.proofs.Locality.{spec_near}
use Rattle.wasi_p1_model.proofs.Locality.SpecParts.{one_under}
use Rattle.wasi_p1_model.proofs.Permitting.{turned_permitted}
use Rattle.wasi_p1_model.proofs.RequestsAgree.{given_seen}
use Rattle.wasi_p1_model.proofs.RequestsLeave.{request_leaves}
use Rattle.wasi_p1_model.proofs.Stemming.{turn_stems}
use Rattle.wasi_p1_model.proofs.Uses.{with_counts}

-- ---- what a call leaves of the tree, where all descriptors that it names are under the same permissions

pub record TreeLeaves (s : State) (call : Call) (u : Tree) : Type 0 where
  pub permitted : Permitted s.guest call s.tree u
  pub names : (perms : FsPerms) → AllUnder perms s.guest call → LeavesFor s.tree (ReachedUnder s perms) u
  pub nodes : (perms : FsPerms) → AllUnder perms s.guest call → StaysOr (ReachedUnder s perms) s.tree u
  pub grows : next_of s.tree ≤ next_of u

under_closed : {s : State} {perms : FsPerms} → IsClosed (ReachedUnder s perms) s.tree
under_closed = record { under = λ d n name reached has. under d n name reached has }

named_reached : {s : State} {call : Call} {perms : FsPerms} {n : ℕ} → AllUnder perms s.guest call → IsNamed s.guest call n
    → ReachedUnder s perms n
named_reached {n = n} all is = opened is.fd n (all.all is.fd is.named) is.node

still_leaves : (s : State) (call : Call) → TreeLeaves s call s.tree
still_leaves s call = record {
  permitted = leaves refl;
  names = λ perms all. stays_near;
  nodes = λ perms all n within. inl refl;
  grows = omega arith;
}

asking_leaves : {s : State} {call : Call} {r : Request} {next : Reply r → CallResult (Value × Guest)}
    → AsksNear s.guest call r next → (reply : Reply r) → reply_of s.tree r ≡ Ok reply
    → TreeLeaves s call (after s.tree r)
asking_leaves {s} {r = r} near reply is = record {
  permitted = near.permits s.tree reply is;
  names = λ perms all.
      let left = request_leaves s.tree r in record {
        names = λ d n name has. elim (left.names d n name has) [
          | inl was ↦ inl was
          | inr (inl made) ↦ inr (inl made)
          | inr (inr reached) ↦
              inr (inr (reach_closed under_closed (λ m from. named_reached all (near.starts m from)) n reached))
        ];
        grows = left.grows;
      };
  nodes = λ perms all. request_stays under_closed r reply (λ m from. named_reached all (near.starts m from)) is;
  grows = (request_leaves s.tree r).grows;
}

-- ---- and of the descriptors

-- each node of a descriptor was reached under its permissions; or was made, by a call that names one under them
abbrev pub SlotsLeave : State → Call → Tree → Guest → Type 0
SlotsLeave s call u g =
    (fd n : ℕ) (perms : FsPerms) → HasPerms g fd perms → HasNode g fd n
    → ReachedUnder s perms n ⊎ (IsMade s.tree u n × NamesUnder perms s.guest call)

pub record Leaves (s : State) (call : Call) (s' : State) : Type 0 where
  pub tree : TreeLeaves s call s'.tree
  pub slots : SlotsLeave s call s'.tree s'.guest
  pub appends : AppendsAtEnd s.guest → AppendsAtEnd s'.guest

same_slots : {s : State} {call : Call} {u : Tree} → SlotsLeave s call u s.guest
same_slots fd n perms has node = inl (opened fd n has node)

-- through which descriptor something is opened, the call names it alone
names_through : (memory : List ℕ) (call : Call) (fd : ℕ) → stem_in call ≡ through fd
    → descriptors_named memory call ≡ fd ∷ []
names_through memory (calls.PathOpen from _ _ _ _ _ _ _) fd is = let same : from ≡ fd = (cc) in ap (λ n. n ∷ []) same
names_through memory (calls.FdRenumber from to) fd is = absurd (cc)
names_through memory call fd is = absurd (cc)

done_slots : {s : State} {call : Call} {u : Tree} {p : Value × Guest} → StaysNear s.guest (stem_in call) [] p
    → SlotsLeave s call u p.1
done_slots stays fd n perms has node = elim (stays.nodes fd n node) [
  | inl was ↦ inl (opened _ n (stays.perms fd perms has) was)
  | inr (none, _) ↦ absurd (omega (arith, none.1))
]

asking_slots : {s : State} {call : Call} {r : Request} {next : Reply r → CallResult (Value × Guest)} {p : Value × Guest}
    → AsksNear s.guest call r next → (reply : Reply r) → reply_of s.tree r ≡ Ok reply
    → StaysNear s.guest (stem_in call) (given_by r reply) p → SlotsLeave s call (after s.tree r) p.1
asking_slots {s} {call} {r} {p = p} near reply is stays fd n perms has node = elim (stays.nodes fd n node) [
  | inl was ↦ inl (opened _ n from was)
  | inr (given, through_is) ↦
      let named = names_through s.guest.memory call stem through_is in
      let all : AllUnder perms s.guest call = one_under s.guest call stem named from in
      elim (given_seen under_closed r reply (λ m at. named_reached all (near.starts m at)) is n given) [
        | inl seen ↦ inl seen
        | inr made ↦ inr (made, record { fd = stem; named = subst (λ fds. Contains fds stem) (sym named) (Contains-here stem []); has = from })
      ]
]
  where
    stem : ℕ
    stem = stems_by (stem_in call) (answers.Ok p.0) fd

    from : HasPerms s.guest stem perms
    from = stays.perms fd perms has

-- ---- whatever it answers

spec_leaves : {s : State} {call : Call} (m : CallResult (Program (Value × Guest))) (p : Value × State) → IsLocal s.guest call m
    → spec_on s.tree m ≡ Ok p → Leaves s call p.1
spec_leaves {s} {call} (Ok (done q)) p near is =
    let same : p.1.tree ≡ s.tree = over_tree (Ok q) is in
    let stays = subst (KeepsSlots s.guest (stem_in call) []) (over_guest s.tree (Ok q) is) near.slots in record {
      tree = subst (TreeLeaves s call) (sym same) (still_leaves s call);
      slots = done_slots stays;
      appends = stays.appends;
    }
spec_leaves {s} {call} (Ok (asking r next)) p near is =
    let did = replied_by s.tree r next is in
    let stays = subst (KeepsSlots s.guest (stem_in call) (given_by r did.reply)) did.gives (near.slots did.reply) in record {
      tree = subst (TreeLeaves s call) (sym did.tree) (asking_leaves near did.reply did.is);
      slots = subst (λ u. SlotsLeave s call u p.1.guest) (sym did.tree) (asking_slots near did.reply did.is stays);
      appends = stays.appends;
    }
spec_leaves (Err e) p near is = absurd (cc)

-- where the descriptors stay, by the tree alone
tree_leaves : {s : State} {call : Call} {used : QuotaUsed} (s' : State) (u : Tree)
    → s'.guest ≡ with_counts used s.guest → s'.tree ≡ u → TreeLeaves s call u → Leaves s call s'
tree_leaves {s} {call} {used} s' u counts is left =
    subst (Leaves s call) (λ i. let v : State = record { tree = sym is i; guest = sym counts i } in v) still
  where
    still : Leaves s call (record { tree = u; guest = with_counts used s.guest })
    still = record { tree = left; slots = λ fd n perms has node. same_slots fd n perms has node; appends = λ all. all }

moves_leave : {s : State} (call : FueledCall) (s' : State) → Moves s s' (turn s call) → Leaves s call.call s'
moves_leave {s} call s' (inl given) = spec_leaves (call_spec s.guest call) (given.0, s') (spec_near s.guest call) given.1
moves_leave {s} call s' (inr still) = elim still.tree [
  | inl same ↦ tree_leaves s' s.tree still.guest same (still_leaves s call.call)
  | inr step ↦ tree_leaves s' step.given.1.tree still.guest step.tree
      (spec_leaves (call_spec s.guest call) step.given (spec_near s.guest call) step.answers).tree
]

turned_leaves : (t : TraceStep) → Played t ⊎ Faulted t → Leaves t.before t.call.call t.after
turned_leaves t took = moves_leave t.call t.after (turned_moves t took)

pub turn_appends : {rose : Type 0} {w v : HostModel} {g g' : Guest} {call : FueledCall} {r : Result Value P1Error}
    → Turns rose w v g g' call r → AppendsAtEnd g → AppendsAtEnd g'
turn_appends {rose} {w} {v} {g} {g'} {call} {r} takes =
    (moves_leave call (in_model v g') (turn_moves rose _ call r takes.turn)).appends

-- ---- what is reached then

nameless : (content : Content) (name : List ℕ) (n : ℕ) → is_directory content ≡ false
    → maps.get (names_of content) name ≡ Some n → ⊥
nameless (File bytes links) name n is has = no_name name n has
nameless (Directory names gone) name n is has = absurd (cc)
nameless (Link text links) name n is has = no_name name n has

directory_named : (content : Content) (name : List ℕ) (n : ℕ) → maps.get (names_of content) name ≡ Some n
    → is_directory content ≡ true
directory_named (File bytes links) name n has = absurd (no_name name n has)
directory_named (Directory names gone) name n has = refl
directory_named (Link text links) name n has = absurd (no_name name n has)

same_perms : (perms other : FsPerms) → (perms ≡ other) ⊎ (perms ≢ other)
same_perms ReadOnly ReadOnly = inl refl
same_perms AppendOnly AppendOnly = inl refl
same_perms ReadWrite ReadWrite = inl refl
same_perms perms other = inr (λ same. absurd (cc))

-- each name holds a node of the tree, and each descriptor has one
record IsWithin (s : State) : Type 0 where
  pub names : (d n : ℕ) (name : List ℕ) → named_in (node_at s.tree d) name ≡ Some n → n < next_of s.tree
  pub nodes : NodesAreThere s

valid_within : {s : State} → IsValidTree s.tree → NodesAreThere s → IsWithin s
valid_within {s} valid there = record {
  names = λ d n name has.
      named_within s.tree d valid (directory_named (node_at s.tree d).content name n has) name n has;
  nodes = there;
}

reached_within : {s : State} {perms : FsPerms} → IsWithin s → (n : ℕ) → ReachedUnder s perms n → n < next_of s.tree
reached_within within n (opened fd m has node) = within.nodes fd m node
reached_within within n (under d m name above has) = within.names d m name has

-- what is reached under other permissions, but read-only ones, than these shares no directory with what is reached under
-- these
abbrev pub IsApartFrom : State → FsPerms → Type 0
IsApartFrom s perms = (other : FsPerms) → other ≢ ReadOnly → other ≢ perms → (d : ℕ) → ReachedUnder s other d
    → ReachedUnder s perms d → is_directory (node_at s.tree d).content ≡ false

module _ {s s' : State} {call : Call} (left : Leaves s call s') (inside : IsWithin s) where
  -- it was reached before, or made by a call that names a descriptor under these permissions
  abbrev Came : FsPerms → ℕ → Type 0
  Came perms n = ReachedUnder s perms n ⊎ (IsMade s.tree s'.tree n × NamesUnder perms s.guest call)

  past_stray : (d n : ℕ) (name : List ℕ) → IsMade s.tree s'.tree d
      → named_in (node_at s.tree d) name ≡ Some n → ⊥
  past_stray d n name made was =
      no_name name n (ap (λ node. named_in node name) (sym (node_at-past s.tree d made.fresh)) ∙ was)

  -- under a directory that is come to so, where the call's descriptors are under these permissions
  own_came : (perms : FsPerms) → AllUnder perms s.guest call → (d n : ℕ) (name : List ℕ) → Came perms d
      → named_in (node_at s'.tree d) name ≡ Some n → Came perms n
  own_came perms all d n name found at = elim ((left.tree.names perms all).names d n name at) [
    | inl was ↦ elim found [
      | inl old ↦ inl (under d n name old was)
      | inr (made, _) ↦ absurd (past_stray d n name made was)
    ]
    | inr (inl made) ↦ inr (made, record { fd = all.one; named = all.named; has = all.all all.one all.named })
    | inr (inr reached) ↦ inl reached
  ]

  -- or under others
  other_came : (perms other : FsPerms) → IsApartFrom s perms → AllUnder other s.guest call → other ≢ ReadOnly
      → other ≢ perms → (d n : ℕ) (name : List ℕ) → Came perms d → named_in (node_at s'.tree d) name ≡ Some n → Came perms n
  other_came perms other apart all writes differs d n name found at = elim found [
    | inl old ↦ elim (left.tree.nodes other all d (reached_within inside d old)) [
      | inl same ↦ inl (under d n name old (ap (λ node. named_in node name) (sym same) ∙ at))
      | inr (reached, kind) ↦ absurd
          (nameless (node_at s'.tree d).content name n (kind ∙ apart other writes differs d reached old) at)
    ]
    | inr (_, names) ↦
        let has = all.all names.fd names.named in absurd (differs (let both = sym has ∙ names.has in cc))
  ]

  under_came : (perms : FsPerms) → IsApartFrom s perms → (d n : ℕ) (name : List ℕ) → Came perms d
      → named_in (node_at s'.tree d) name ≡ Some n → Came perms n
  under_came perms apart d n name found at = by left.tree.permitted
    where
      by : Permitted s.guest call s.tree s'.tree → Came perms n
      by (leaves same) = elim found [
        | inl old ↦ inl (under d n name old (ap (λ u. named_in (node_at u d) name) (sym same) ∙ at))
        | inr (made, _) ↦
            let fresh = made.fresh in let within = made.there in let next = ap next_of same in absurd (omega arith)
      ]
      by (changes other all writes adds) = elim (same_perms other perms) [
        | inl same ↦ own_came perms (subst (λ p. AllUnder p s.guest call) same all) d n name found at
        | inr differs ↦ other_came perms other apart all writes differs d n name found at
      ]

  came : (perms : FsPerms) → IsApartFrom s perms → (n : ℕ) → ReachedUnder s' perms n → Came perms n
  came perms apart n (opened fd m has node) = left.slots fd m perms has node
  came perms apart n (under d m name above at) = under_came perms apart d m name (came perms apart d above) at

  -- a directory stays one, and nothing else becomes one
  kind_stays : (n : ℕ) → n < next_of s.tree
      → is_directory (node_at s'.tree n).content ≡ is_directory (node_at s.tree n).content
  kind_stays n within = by left.tree.permitted
    where
      by : Permitted s.guest call s.tree s'.tree
          → is_directory (node_at s'.tree n).content ≡ is_directory (node_at s.tree n).content
      by (leaves same) = ap (λ u. is_directory (node_at u n).content) same
      by (changes other all writes adds) = elim (left.tree.nodes other all n within) [
        | inl same ↦ ap (λ node. is_directory node.content) same
        | inr (_, kind) ↦ kind
      ]

  -- names and descriptors have nodes of the tree then
  within_still : IsWithin s'
  within_still = record {
    names = λ d n name has. let grows = left.tree.grows in by d n name has left.tree.permitted;
    nodes = λ fd n node.
        let (perms, has) = slot_perms (slice_get s'.guest.slots fd) n node in
        let grows = left.tree.grows in
        elim (left.slots fd n perms has node) [
          | inl reached ↦ let within = reached_within inside n reached in omega arith
          | inr (made, _) ↦ made.there
        ];
  }
    where
      by : (d n : ℕ) (name : List ℕ) → named_in (node_at s'.tree d) name ≡ Some n
          → Permitted s.guest call s.tree s'.tree → n < next_of s'.tree
      by d n name has (leaves same) =
          let within = inside.names d n name (ap (λ u. named_in (node_at u d) name) (sym same) ∙ has) in
          let grows = left.tree.grows in omega arith
      by d n name has (changes perms all writes adds) =
          let grows = left.tree.grows in elim ((left.tree.names perms all).names d n name has) [
            | inl was ↦ let within = inside.names d n name was in omega arith
            | inr (inl made) ↦ made.there
            | inr (inr reached) ↦ let within = reached_within inside n reached in omega arith
          ]

-- ---- states in which what may be altered is apart from what may be added to

writes_apart : {s : State} → AreApart s → IsApartFrom s ReadWrite
writes_apart apart ReadOnly other differs d reached own = absurd (other refl)
writes_apart apart AppendOnly other differs d reached own = apart d own reached
writes_apart apart ReadWrite other differs d reached own = absurd (differs refl)

adds_apart : {s : State} → AreApart s → IsApartFrom s AppendOnly
adds_apart apart ReadOnly other differs d reached own = absurd (other refl)
adds_apart apart AppendOnly other differs d reached own = absurd (differs refl)
adds_apart apart ReadWrite other differs d reached own = apart d reached own

module _ {s s' : State} {call : Call} (left : Leaves s call s') (inside : IsWithin s) (apart : AreApart s) where
  -- they are apart then, as nothing comes to both that was made
  still_apart : AreApart s'
  still_apart d write add = elim (came left inside ReadWrite (writes_apart apart) d write) [
    | inl old ↦
        let within = reached_within inside d old in
        elim (came left inside AppendOnly (adds_apart apart) d add) [
          | inl own ↦ kind_stays left inside d within ∙ apart d old own
          | inr (made, _) ↦ let fresh = made.fresh in absurd (omega arith)
        ]
    | inr (made, names) ↦
        let fresh = made.fresh in
        elim (came left inside AppendOnly (adds_apart apart) d add) [
          | inl own ↦ let within = reached_within inside d own in absurd (omega arith)
          | inr (_, others) ↦ absurd (by left.tree.permitted made names others)
        ]
  ]
    where
      by : Permitted s.guest call s.tree s'.tree → IsMade s.tree s'.tree d → NamesUnder ReadWrite s.guest call
          → NamesUnder AppendOnly s.guest call → ⊥
      by (leaves same) made names others =
          let fresh = made.fresh in let within = made.there in let next = ap next_of same in omega arith
      by (changes perms all writes adds) made names others =
          let one = sym (all.all names.fd names.named) ∙ names.has in
          let other = sym (all.all others.fd others.named) ∙ others.has in absurd (cc)

  -- a node that isn't reached under read-write permissions has what it had
  kept_apart : AppendsAtEnd s.guest → (n : ℕ) → n < next_of s.tree → (ReachedUnder s ReadWrite n → ⊥)
      → KeepsNode s.tree s'.tree n
  kept_apart appends n within never = by left.tree.permitted
    where
      by : Permitted s.guest call s.tree s'.tree → KeepsNode s.tree s'.tree n
      by (leaves same) = keeps_same (ap (λ u. node_at u n) same)
      by (changes ReadOnly all writes adds) = absurd (writes refl)
      by (changes AppendOnly all writes adds) = (adds_grow (adds refl appends)).kept n within
      by (changes ReadWrite all writes adds) = elim (left.tree.nodes ReadWrite all n within) [
        | inl same ↦ keeps_same same
        | inr (reached, _) ↦ absurd (never reached)
      ]

-- ---- runs

pub run_appends : AppendingStays
run_appends k old new calls turns run appends =
    run_keeps (λ s. AppendsAtEnd s.guest) (λ t took held. (turned_leaves t took).appends held) calls turns k old new run appends

-- what stands after each turn of a run from a state, of which the nodes that aren't reached under read-write permissions
-- are kept
record KeepsApart (start s : State) : Type 0 where
  pub inside : IsWithin s
  pub appends : AppendsAtEnd s.guest
  pub apart : AreApart s
  pub grows : next_of start.tree ≤ next_of s.tree
  pub others : (n : ℕ) → n < next_of start.tree → ReachedUnder s ReadWrite n → ReachedUnder start ReadWrite n
  pub kept : (n : ℕ) → n < next_of start.tree → (ReachedUnder start ReadWrite n → ⊥) → KeepsNode start.tree s.tree n

turned_keeps : (start : State) (t : TraceStep) → Played t ⊎ Faulted t → KeepsApart start t.before → KeepsApart start t.after
turned_keeps start t took held =
    let left = turned_leaves t took in
    let grows = held.grows in
    let later = left.tree.grows in record {
      inside = within_still left held.inside;
      appends = left.appends held.appends;
      apart = still_apart left held.inside held.apart;
      grows = omega arith;
      others = λ n within reached. elim (came left held.inside ReadWrite (writes_apart held.apart) n reached) [
        | inl old ↦ held.others n within old
        | inr (made, _) ↦ let fresh = made.fresh in absurd (omega arith)
      ];
      kept = λ n within never.
          keeps_on (held.kept n within never) (kept_apart left held.inside held.apart held.appends n (omega arith)
          (λ reached. never (held.others n within reached)));
    }

pub run_keeps_apart : RunsKeepWhatIsApart
run_keeps_apart k old new calls turns run valid there appends apart n within never =
    let held = run_keeps (KeepsApart old) (turned_keeps old) calls turns k old new run (record {
      inside = valid_within valid there;
      appends = appends;
      apart = apart;
      grows = omega arith;
      others = λ m inside reached. reached;
      kept = λ m inside other. keeps_itself;
    }) in
    let grows = held.grows in (omega arith, held.kept n within never)

-- ---- guests that may alter nothing

alters_nothing : (t : TraceStep) → Played t ⊎ Faulted t → MayAlterNothing t.before.guest → MayAlterNothing t.after.guest
alters_nothing t took never n perms has = never _ perms (turn_stems t took n perms has)

turned_grows : (t : TraceStep) → Played t ⊎ Faulted t → AppendsAtEnd t.before.guest → MayAlterNothing t.before.guest
    → OnlyGrows t.before.tree t.after.tree
turned_grows t took appends never = by (turned_permitted t took)
  where
    by : Permitted t.before.guest t.call.call t.before.tree t.after.tree → OnlyGrows t.before.tree t.after.tree
    by (leaves same) = subst (OnlyGrows t.before.tree) (sym same) still_grows
    by (changes ReadOnly all writes adds) = absurd (writes refl)
    by (changes AppendOnly all writes adds) = adds_grow (adds refl appends)
    by (changes ReadWrite all writes adds) =
        absurd (true≢false (never all.one ReadWrite (all.all all.one all.named)))

pub run_grows : RunsOnlyGrow
run_grows k old new calls turns run appends never =
    (run_keeps (λ s. AppendsAtEnd s.guest × MayAlterNothing s.guest × OnlyGrows old.tree s.tree) (λ t took (all, nothing, grows). (
      (turned_leaves t took).appends all,
      alters_nothing t took nothing,
      grows_on grows (turned_grows t took all nothing),
    )) calls turns k old new run (appends, never, still_grows)).2
