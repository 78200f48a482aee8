-- What a call does to the tree is permitted to the descriptors that it names. So one that names a descriptor under
-- read-only permissions leaves the tree, and one under append-only permissions adds.
use Rattle.std.proofs.Common.{◌≡◌, ◌⊎◌, inl, inr, refl, sym, ◌∙◌, subst, Result, Ok, Err}
use Rattle.wasi_fs.specs.declared.perms.FsPerms.TheVariants.{ReadOnly, AppendOnly}
use Rattle.wasi_host.specs.HostLaws.{HostModel}
use Rattle.wasi_host.specs.Tree.{Tree}
use Rattle.wasi_guest.specs.declared.answer.Value.{Value}
use Rattle.wasi_guest.specs.declared.call.Call.{Call}
use Rattle.wasi_p1_model.specs.AppendOnly.{Adds, nothing, AppendsAtEnd, AppendOnlyTurnsAdd}
use Rattle.wasi_p1_model.specs.CallTransition.{Turns, NamesUnder}
use Rattle.wasi_p1_types.specs.Front.{FueledCall}
use Rattle.wasi_p1_types.specs.Guest.{Guest, State}
use Rattle.wasi_p1_model.specs.ReadOnly.{IsReadOnlyGuest, ReadOnlyTurnsLeaveTheTree, ReadOnlyRunsLeaveTheTree}
use Rattle.wasi_p1_types.specs.CallResult.{CallResult, Program, done, asking}
use Rattle.wasi_p1_model.specs.Calls.{call_spec, turn}
use Rattle.wasi_p1_model.specs.Trace.{TraceStep, Played, Faulted}
use Rattle.wasi_p1_types.specs.declared.error.P1Error.{P1Error}
use Rattle.wasi_p1_model.proofs.Alike.{spec_on}
use Rattle.wasi_p1_model.proofs.Moving.{Moves, turn_moves, turned_moves, run_keeps, over_tree, replied_by}
use Rattle.wasi_p1_model.proofs.LocalCalls.{IsLocal, Permitted, leaves, changes}
use Rattle.wasi_p1_model.proofs.Locality.{spec_near}
use Rattle.wasi_p1_model.proofs.Stemming.{turn_stems}

-- ---- what a call does is permitted

-- where its specification answers it
spec_permits : (g : Guest) (call : Call) (t : Tree) (m : CallResult (Program (Value × Guest))) (p : Value × State)
    → IsLocal g call m → spec_on t m ≡ Ok p → Permitted g call t p.1.tree
spec_permits g call t (Ok (done q)) p near is = leaves (over_tree (Ok q) is)
spec_permits g call t (Ok (asking r next)) p near is =
    let did = replied_by t r next is in
    subst (Permitted g call t) (sym did.tree) (near.permits t did.reply did.is)
spec_permits g call t (Err e) p near is = absurd (cc)

-- whatever it answers, to whichever state it leads
moves_permit : {s s' : State} (call : FueledCall) → Moves s s' (turn s call)
    → Permitted s.guest call.call s.tree s'.tree
moves_permit {s} {s'} call (inl given) =
    spec_permits s.guest call.call s.tree (call_spec s.guest call) (given.0, s') (spec_near s.guest call) given.1
moves_permit {s} call (inr still) = elim still.tree [
  | inl same ↦ leaves same
  | inr step ↦ subst (Permitted s.guest call.call s.tree) (sym step.tree)
      (spec_permits s.guest call.call s.tree (call_spec s.guest call) step.given (spec_near s.guest call) step.answers)
]

-- faulted or not
pub turned_permitted : (t : TraceStep) → Played t ⊎ Faulted t
    → Permitted t.before.guest t.call.call t.before.tree t.after.tree
turned_permitted t took = moves_permit t.call (turned_moves t took)

-- ---- a call that names a descriptor under read-only or append-only permissions

read_only_leaves : {g : Guest} {call : Call} {t u : Tree} → Permitted g call t u → NamesUnder ReadOnly g call → u ≡ t
read_only_leaves (leaves same) names = same
read_only_leaves (changes perms all other adds) names =
    let has = all.all names.fd names.named in absurd (other (let is = sym has ∙ names.has in (cc)))

append_only_adds : {g : Guest} {call : Call} {t u : Tree} → Permitted g call t u → AppendsAtEnd g
    → NamesUnder AppendOnly g call → Adds t u
append_only_adds (leaves same) appends names = nothing same
append_only_adds (changes perms all other adds) appends names =
    let has = all.all names.fd names.named in
    let is : perms ≡ AppendOnly = (let both = sym has ∙ names.has in cc) in adds is appends

pub turn_permits : {rose : Type 0} {w v : HostModel} {g g' : Guest} {call : FueledCall} {r : Result Value P1Error}
    → Turns rose w v g g' call r → NamesUnder ReadOnly g call.call → v.tree ≡ w.tree
turn_permits {rose} {w} {v} {g} {g'} {call} {r} takes names =
    read_only_leaves (moves_permit call (turn_moves rose _ call r takes.turn)) names

pub turn_adds : {rose : Type 0} {w v : HostModel} {g g' : Guest} {call : FueledCall} {r : Result Value P1Error}
    → Turns rose w v g g' call r → AppendsAtEnd g → NamesUnder AppendOnly g call.call → Adds w.tree v.tree
turn_adds {rose} {w} {v} {g} {g'} {call} {r} takes appends names =
    append_only_adds (moves_permit call (turn_moves rose _ call r takes.turn)) appends names

pub turned_permits : ReadOnlyTurnsLeaveTheTree
turned_permits t took names = read_only_leaves (turned_permitted t took) names

pub turned_adds : AppendOnlyTurnsAdd
turned_adds t took appends names = append_only_adds (turned_permitted t took) appends names

-- ---- a guest whose directories and files are all read-only

-- leaves the tree, whatever it calls
only_leaves : {g : Guest} {call : Call} {t u : Tree} → Permitted g call t u → IsReadOnlyGuest g → u ≡ t
only_leaves (leaves same) only = same
only_leaves (changes perms all other adds) only = absurd (other (only all.one perms (all.all all.one all.named)))

-- and all that it has then stem from such
turned_only : (t : TraceStep) → Played t ⊎ Faulted t → IsReadOnlyGuest t.before.guest → IsReadOnlyGuest t.after.guest
turned_only t took only n perms has = only _ perms (turn_stems t took n perms has)

pub run_leaves : ReadOnlyRunsLeaveTheTree
run_leaves k old new calls turns run only =
    (run_keeps (λ s. IsReadOnlyGuest s.guest × (s.tree ≡ old.tree)) (λ t took held. (
      turned_only t took held.0,
      only_leaves (turned_permitted t took) held.0 ∙ held.1,
    )) calls turns k old new run (only, refl)).1
