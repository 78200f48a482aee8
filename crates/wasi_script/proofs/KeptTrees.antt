-- A script is reported with its nodes that may not be altered as they were, or with more in them; and with its own tree,
-- where it gives its guest read-only directories alone.
use Rattle.std.proofs.Common.{ℕ, suc, zero, ◌+◌, ◌<◌, ◌≡◌, ◌⊎◌, inl, inr, true, false, List, [], ◌∷◌, length, map, slice_get, refl, sym, ap, subst, ◌∙◌, arith, Option, Some, None, Ok}
use Rattle.std.specs.Prelude.{Bool, Contains, option_map}
use Rattle.std.specs.FinMap as maps
use Rattle.std.proofs.lemmas.List.Elements.{All-contains, Contains-append_right}
use Rattle.std.proofs.lemmas.List.Sums.{AllPass-from_list_all}
use Rattle.std.proofs.lemmas.Cmp.{nat_list_cmp_total}
use Rattle.std.proofs.lemmas.Option.{slice_get-map, slice_get-get_or, slice_get_within}
use Rattle.wasi_fs.specs.Perms.{permits}
use Rattle.wasi_fs.specs.declared.perms.Act.TheVariants.{Alter}
use Rattle.wasi_fs.specs.declared.perms.FsPerms.{FsPerms}
use Rattle.wasi_fs.specs.declared.perms.FsPerms.TheVariants.{ReadOnly}
use Rattle.wasi_host.specs.Tree.{Tree, Node, Names, Content, node_at, next_of, stray}
use Rattle.wasi_host.proofs.Agreeing.{one}
use Rattle.wasi_form.specs.Plan.{Plan, PlannedPreopen}
use Rattle.wasi_form.specs.Verdict.{IsVerdict}
use Rattle.wasi_form.specs.Within.{is_directory_data, is_within_limits}
use Rattle.wasi_form.proofs.Accepted.{IsAccepted, accepted, limits_kept}
use Rattle.wasi_tree.specs.NodeData.{NodeData, ContentData, file, directory, link, content_from, data_of_content, data_of_node, node_from, nodes_from, tree_of}
use Rattle.wasi_tree.proofs.FitValid.{fit_is_valid, next_is, node_is}
use Rattle.wasi_p1_model.specs.QuotaLaws.{WritesAsOpened}
use Rattle.wasi_p1_model.specs.AppendOnly.{AppendsAtEnd, HasStill, KeepsNode, MayAlterNothing, NodesAreThere}
use Rattle.wasi_p1_types.specs.Guest.{GuestSlot, stream, file as open_file, node_in, perms_in}
use Rattle.wasi_p1_model.specs.ReadOnly.{IsReadOnlyGuest}
use Rattle.wasi_p1_model.specs.Stems.{HasPerms}
use Rattle.wasi_p1_types.specs.declared.slots.Stream.{Stream}
use Rattle.wasi_p1_types.specs.declared.slots.Stream.TheVariants.{Input, Output, Error}
use Rattle.wasi_p1_model.proofs.Apart.{run_grows, run_keeps_apart}
use Rattle.wasi_p1_model.proofs.Permitting.{run_leaves}
use Rattle.wasi_script.specs.Due.{Due, the_usage, the_refusal, the_outcome, the_line, IsOwed, OfDue, Writes, KeepsTree}
use Rattle.wasi_setup.specs.ReportAfter.{report_after}
use Rattle.wasi_script.specs.Headline.{Reports, GivesNoAltering, GivesReadOnly, IsStillTold, MayNotBeAltered, TellsKeptNodes, TellsOwnTree, TellsStill, fueled_calls, names_told, own_nodes, node_in_order}
use Rattle.wasi_setup.specs.Start.{start, first_guest_slots, preopen_guest_slot, preopen_guest_slots}
use Rattle.wasi_script.specs.declared.status.Status.{Status}
use Rattle.wasi_script.specs.declared.status.Status.TheVariants as statuses
use Rattle.wasi_script.specs.declared.words.Task.{Task}
use Rattle.wasi_script.specs.declared.words.Task.TheVariants as tasks
use Rattle.wasi_script.specs.declared.words.ScriptTask.TheVariants.{Run, Audit, Trial}

-- ---- the guest at the start

-- what a number stands for: one of the directories that the guest is given
pub record IsPreopen (preopens : List PlannedPreopen) (slot : GuestSlot) : Type 0 where
  pub place : ℕ
  pub preopen : PlannedPreopen
  pub among : Contains preopens preopen
  pub is : slot ≡ preopen_guest_slot place preopen

preopen_slot : (place : ℕ) (preopens : List PlannedPreopen) (n : ℕ) (slot : GuestSlot)
    → slice_get (preopen_guest_slots place preopens) n ≡ Some slot → IsPreopen preopens slot
preopen_slot place [] n slot has = absurd (cc)
preopen_slot place (p ∷ ps) zero slot has =
    record { place = place; preopen = p; among = (zero, omega arith, refl); is = let same : slot ≡ preopen_guest_slot place p = (cc) in same }
preopen_slot place (p ∷ ps) (suc n) slot has =
    let rest = preopen_slot (suc place) ps n slot has in record {
      place = rest.place;
      preopen = rest.preopen;
      among = Contains-append_right (p ∷ []) ps rest.preopen rest.among;
      is = rest.is;
    }

-- or a stream
first_slot : (preopens : List PlannedPreopen) (n : ℕ) (slot : GuestSlot)
    → slice_get (first_guest_slots preopens) n ≡ Some slot → ((s : Stream) × (slot ≡ stream s)) ⊎ IsPreopen preopens slot
first_slot preopens zero slot has = inl (Input, let same : slot ≡ stream Input = (cc) in same)
first_slot preopens (suc zero) slot has = inl (Output, let same : slot ≡ stream Output = (cc) in same)
first_slot preopens (suc (suc zero)) slot has = inl (Error, let same : slot ≡ stream Error = (cc) in same)
first_slot preopens (suc (suc (suc n))) slot has = inr (preopen_slot 0 preopens n slot has)

-- so its permissions are those of such a directory
given_perms : (plan : Plan) (n : ℕ) (perms : FsPerms) → HasPerms (start plan).guest n perms
    → (preopen : PlannedPreopen) × Contains plan.preopens preopen × (preopen.perms ≡ perms)
given_perms plan n perms has = by (slice_get (first_guest_slots plan.preopens) n) refl has
  where
    by : (p : Option GuestSlot) → slice_get (first_guest_slots plan.preopens) n ≡ p → perms_in p ≡ Some perms
        → (preopen : PlannedPreopen) × Contains plan.preopens preopen × (preopen.perms ≡ perms)
    by None at is = absurd (cc)
    by (Some slot) at is = elim (first_slot plan.preopens n slot at) [
      | inl (s, same) ↦ absurd (let none = ap (λ x. perms_in (Some x)) (sym same) ∙ is in cc)
      | inr given ↦ (
        given.preopen,
        given.among,
        let found = ap (λ x. perms_in (Some x)) (sym given.is) ∙ is in
            let same : given.preopen.perms ≡ perms = (cc) in same,
      )
    ]

starts_read_only : (plan : Plan) → GivesReadOnly plan → IsReadOnlyGuest (start plan).guest
starts_read_only plan only n perms has =
    let (preopen, among, same) = given_perms plan n perms has in
    sym same ∙ All-contains (λ preopen. preopen.perms ≡ ReadOnly) plan.preopens preopen only among

starts_unaltering : (plan : Plan) → GivesNoAltering plan → MayAlterNothing (start plan).guest
starts_unaltering plan gives n perms has =
    let (preopen, among, same) = given_perms plan n perms has in
    ap (λ p. permits p Alter) (sym same)
    ∙ All-contains (λ preopen. permits preopen.perms Alter ≡ false) plan.preopens preopen gives among

-- it has no files yet
starts_appending : (plan : Plan) → AppendsAtEnd (start plan).guest
starts_appending plan n f has is = elim (first_slot plan.preopens n (open_file f) has) [
  | inl (s, same) ↦ absurd (cc)
  | inr given ↦ absurd (let same = given.is in cc)
]

pub starts_opened : (plan : Plan) → WritesAsOpened (start plan).guest
starts_opened plan n f has writes = elim (first_slot plan.preopens n (open_file f) has) [
  | inl (s, same) ↦ absurd (cc)
  | inr given ↦ absurd (let same = given.is in cc)
]

-- and each of its directories is a node of the tree
starts_there : (plan : Plan) → is_within_limits plan ≡ true → NodesAreThere (start plan)
starts_there plan within n node has = by (slice_get (first_guest_slots plan.preopens) n) refl has
  where
    is_given : PlannedPreopen → Bool
    is_given preopen = is_directory_data (slice_get plan.nodes preopen.node)

    inside : (preopen : PlannedPreopen) → Contains plan.preopens preopen → preopen.node < length plan.nodes
    inside preopen among = found (slice_get plan.nodes preopen.node) refl (All-contains (λ p. is_given p ≡ true)
        plan.preopens preopen (AllPass-from_list_all is_given plan.preopens (limits_kept plan within).preopens) among)
      where
        found : (o : Option NodeData) → slice_get plan.nodes preopen.node ≡ o → is_directory_data o ≡ true
            → preopen.node < length plan.nodes
        found None at is = absurd (cc)
        found (Some g) at is = slice_get_within plan.nodes preopen.node g at

    by : (p : Option GuestSlot) → slice_get (first_guest_slots plan.preopens) n ≡ p → Contains (node_in p) node
        → node < next_of (start plan).tree
    by None at is = absurd (omega (arith, is.1))
    by (Some slot) at is = elim (first_slot plan.preopens n slot at) [
      | inl (s, same) ↦ absurd (let none = subst (λ x. Contains (node_in (Some x)) node) same is in omega (arith, none.1))
      | inr given ↦
          let at_node = one (subst (λ x. Contains (node_in (Some x)) node) given.is is) in
          subst (λ k. k < next_of (start plan).tree) at_node
          (subst (λ k. given.preopen.node < k) (sym (next_is plan.nodes plan.limits)) (inside given.preopen given.among))
    ]

-- ---- nodes told again

-- the names of a directory, as they are found in its list
listed_again : (names : Names) (name : List ℕ) → maps.get (names_told (maps.entries names)) name ≡ maps.get names name
listed_again names name =
    maps.get-from_entries nat_list_cmp_total (maps.entries names) name ∙ sym (maps.get-entries names name)

tells_still : (all : List NodeData) (k : ℕ) (was : ContentData) (now : Content) → HasStill (content_from all k was) now
    → TellsStill was (data_of_content now)
tells_still all k (file bytes) now (more, names, is, fewer) = (more, ap data_of_content is)
tells_still all k (directory entries) now (others, is, kept) =
    (maps.entries others, ap data_of_content is, λ name n has. listed_again others name ∙ kept name n has)
tells_still all k (link text) now (names, is, fewer) = ap data_of_content is

still_told : (plan : Plan) (t : Tree) (n : ℕ) (was : NodeData) → slice_get plan.nodes n ≡ Some was → n < next_of t
    → KeepsNode (start plan).tree t n → (now : NodeData) × (slice_get (map data_of_node t.nodes) n ≡ Some now) × IsStillTold was now
unfolding node_at
still_told plan t n was at within kept =
    let is = node_is plan.nodes plan.limits n was at in (
      data_of_node (node_at t n),
      slice_get-map data_of_node t.nodes n ∙ ap (λ o. option_map data_of_node o) (slice_get-get_or t.nodes n stray within),
      record {
        content = tells_still plan.nodes n was.content (node_at t n).content
            (subst (λ (node : Node). HasStill node.content (node_at t n).content) is kept.content);
        bits = kept.bits ∙ ap (λ (node : Node). node.bits) is;
        atime = kept.atime ∙ ap (λ (node : Node). node.atime) is;
        mtime = kept.mtime ∙ ap (λ (node : Node). node.mtime) is;
        btime = kept.btime ∙ ap (λ (node : Node). node.btime) is;
      },
    )

pub tree_again : (plan : Plan) → map data_of_node (tree_of plan.nodes plan.limits).nodes ≡ own_nodes plan
unfolding tree_of
tree_again plan = told_again plan.nodes 0 plan.nodes
  where
    node : (all : List NodeData) (k : ℕ) (g : NodeData) → data_of_node (node_from all k g) ≡ node_in_order g
    node all k g = by g.content
      where
        by : (content : ContentData) → data_of_node (node_from all k (record g { content = content }))
            ≡ node_in_order (record g { content = content })
        by (file bytes) = refl
        by (directory entries) = refl
        by (link text) = refl

    told_again : (all : List NodeData) (k : ℕ) (nodes : List NodeData)
        → map data_of_node (nodes_from all k nodes) ≡ map node_in_order nodes
    told_again all k [] = refl
    told_again all k (g ∷ gs) = λ i. node all k g i ∷ told_again all (k + 1) gs i

-- ---- what is due

tells_kept : (plan : Plan) {left text : List ℕ} → IsVerdict left (Ok plan) → Reports plan text → TellsKeptNodes plan text
tells_kept plan verdict reports = record {
  report = report_after plan.show reports.turns reports.last reports.touched;
  ordered = reports.ordered;
  text_is = reports.text_is;
  kept = λ n was at may.
      let inside = subst (λ k. n < k) (sym (next_is plan.nodes plan.limits)) (slice_get_within plan.nodes n was at) in
      let (within, keeps) = kept n inside may in still_told plan reports.last.tree n was at within keeps;
}
  where
    is : IsAccepted plan
    is = accepted verdict

    kept : (n : ℕ) → n < next_of (start plan).tree → MayNotBeAltered plan n
        → (n < next_of reports.last.tree) × KeepsNode (start plan).tree reports.last.tree n
    kept n inside (inl gives) =
        let grows = run_grows (length plan.faults) (start plan) reports.last (fueled_calls plan) reports.turns reports.run
        (starts_appending plan) (starts_unaltering plan gives) in
        let later = grows.later in (omega arith, grows.kept n inside)
    kept n inside (inr (apart, never)) =
        run_keeps_apart (length plan.faults) (start plan) reports.last (fueled_calls plan) reports.turns reports.run
        (fit_is_valid plan.limits plan.nodes is.limits is.fit) (starts_there plan is.within) (starts_appending plan) apart n
        inside never

tells_own : (plan : Plan) {text : List ℕ} → Reports plan text → GivesReadOnly plan → TellsOwnTree plan text
tells_own plan reports only = record {
  report = report_after plan.show reports.turns reports.last reports.touched;
  ordered = reports.ordered;
  text_is = reports.text_is;
  tree =
      ap (λ (t : Tree). map data_of_node t.nodes)
      (run_leaves (length plan.faults) (start plan) reports.last (fueled_calls plan) reports.turns reports.run
      (starts_read_only plan only))
      ∙ tree_again plan;
}

-- ---- what was written

took_kept : (status : Status) (task : Task) (left : List ℕ) (d : Due) (taken now : List ℕ) → IsOwed task left d
    → Writes status d taken now → KeepsTree status d taken now
took_kept statuses.Done task left the_usage taken now owed wrote = tt
took_kept statuses.Done task left (the_refusal refusal) taken now owed wrote = tt
took_kept statuses.Done task left (the_line n) taken now owed wrote = tt
took_kept statuses.Done task left (the_outcome Audit plan) taken now owed wrote = tt
took_kept statuses.Done task left (the_outcome Trial plan) taken now owed wrote = tt
took_kept statuses.Done (tasks.Script task) left (the_outcome Run plan) taken now owed wrote =
    (wrote.text, wrote.took, tells_kept plan owed.1 wrote.is_text, tells_own plan wrote.is_text)
took_kept statuses.Done tasks.Usage left (the_outcome Run plan) taken now owed wrote = absurd owed
took_kept statuses.Done (tasks.Generate m) left (the_outcome Run plan) taken now owed wrote = absurd owed
took_kept statuses.WriteFault task left the_usage taken now owed wrote = tt
took_kept statuses.WriteFault task left (the_refusal refusal) taken now owed wrote = tt
took_kept statuses.WriteFault task left (the_line n) taken now owed wrote = tt
took_kept statuses.WriteFault task left (the_outcome Audit plan) taken now owed wrote = tt
took_kept statuses.WriteFault task left (the_outcome Trial plan) taken now owed wrote = tt
took_kept statuses.WriteFault (tasks.Script task) left (the_outcome Run plan) taken now owed wrote =
    (wrote.text, wrote.front, tells_kept plan owed.1 wrote.is_text, tells_own plan wrote.is_text)
took_kept statuses.WriteFault tasks.Usage left (the_outcome Run plan) taken now owed wrote = absurd owed
took_kept statuses.WriteFault (tasks.Generate m) left (the_outcome Run plan) taken now owed wrote = absurd owed
took_kept statuses.Usage task left d taken now owed wrote = tt
took_kept (statuses.Refused refusal) task left d taken now owed wrote = tt
took_kept statuses.ReadFault task left d taken now owed wrote = tt
took_kept statuses.NoMemory task left d taken now owed wrote = tt

-- so that what was written tells it
pub keeps_tree : (status : Status) (task : Task) (left taken now : List ℕ)
    → OfDue status task left (λ due. Writes status due taken now)
    → OfDue status task left (λ due. KeepsTree status due taken now)
keeps_tree statuses.Done task left taken now (d, owed, wrote) =
    (d, owed, took_kept statuses.Done task left d taken now owed wrote)
keeps_tree statuses.Usage task left taken now (d, owed, wrote) = (d, owed, tt)
keeps_tree (statuses.Refused refusal) task left taken now (d, owed, wrote) = (d, owed, tt)
keeps_tree statuses.WriteFault task left taken now (d, owed, wrote) =
    (d, owed, took_kept statuses.WriteFault task left d taken now owed wrote)
keeps_tree statuses.ReadFault task left taken now wrote = λ d. tt
keeps_tree statuses.NoMemory task left taken now wrote = λ d. tt
