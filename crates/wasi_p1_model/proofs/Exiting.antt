-- From what a part gives to what its call does, where the call has a use.
use Rattle.std.proofs.Common.{ℕ, ◌≡◌, ◌⊎◌, inl, inr, Bool, true, false, List, Option, Ok, Err, refl, ap, sym, ◌∙◌, length}
use Rattle.std.specs.FinSet.{contains}
use Rattle.std.specs.Prelude.{IsTrue}
use Rattle.wasi_host.specs.HostLaws.{HostModel, Handles, FaultCount, Rose}
use Rattle.wasi_host.specs.declared.errors.ErrorCode.{ErrorCode}
use Rattle.wasi_host.specs.declared.open_handle.OpenHandle.{OpenHandle}
use Rattle.wasi_host.specs.declared.lookup.Lookup.{Lookup}
use Rattle.wasi_guest.specs.declared.answer.Value.{Value}
use Rattle.wasi_guest.specs.declared.call.Call.{Call}
use Rattle.wasi_guest.specs.declared.errno.Errno.TheVariants.{Io}
use Rattle.wasi_p1_types.specs.CallParts.{Follows, IsReplied, Makes, WantsNoMemory}
use Rattle.wasi_p1_model.specs.CallTransition.{FollowsSpec, Kept, KeptBut, OnlyUses}
use Rattle.wasi_p1_types.specs.Front.{ask, with_fuel}
use Rattle.wasi_p1_types.specs.Guest.{Guest, guest_by, guest_of, guest_slots, state_of}
use Rattle.wasi_p1_model.specs.Owners.{handles, Owned, SlotsOfCall}
use Rattle.wasi_p1_types.specs.Quotas.{counted_makings}
use Rattle.wasi_p1_types.specs.Request.{Request, Reply, end_after, growth_in, written_by}
use Rattle.wasi_p1_types.specs.CallResult.{CallResult, made_of_reply}
use Rattle.wasi_p1_model.specs.Calls.{front, may_run_out_of_memory}
use Rattle.wasi_p1_types.specs.Slots.{View}
use Rattle.wasi_p1_types.specs.Spending.{check_to_make, growing, grows, makes, making, on_outcome, spent}
use Rattle.wasi_p1_types.specs.GuestEnvModel.{GuestEnvModel}
use Rattle.wasi_p1_types.specs.declared.error.P1Error.{P1Error}
use Rattle.wasi_p1_types.specs.declared.error.P1Error.TheVariants.{Errno, Memory}
use Rattle.wasi_p1_types.specs.declared.quotas.Allowance.{Allowance}
use Rattle.wasi_p1_types.specs.declared.slots.Slot.{Slot}
use Rattle.wasi_p1_model.proofs.GuestSlots.{guest_slots_stay}
use Rattle.wasi_p1_model.proofs.Lengths.{ChecksGrowth, IsWriting, grow_counts, grow_front_err, grow_front_ok, grow_made_err, grow_made_ok, grow_next, grow_shown, grow_tail, growth_refused_front, growth_refused_leaves, growth_refused_made, made, made_tail}
use Rattle.wasi_p1_model.proofs.SpecEnds.{tail}
use Rattle.wasi_p1_model.proofs.Taking.{Did, GuestSlotsStay, does_ok, kept_but, spec_same, same_guest, settled_err}
use Rattle.wasi_p1_model.proofs.Turns as turns
use Rattle.wasi_p1_model.proofs.Uses.{growth_nothing, spent_making, used_is}

-- ---- what is the guest's own after a refusal

-- it stays, but for the use, which is counted where the host failed
pub record KeptSpent {H : Type 0} (call : Call) (growth : ℕ) (e : P1Error) (old new : View H) (before after : List ℕ) : Type 0 where
  pub slots : new.slots ≡ old.slots
  pub table_max : new.table_max ≡ old.table_max
  pub holdings : new.holdings ≡ on_outcome (let r : CallResult Value = Err e in r) (spent (makes call) growth old.holdings) old.holdings
  pub memory : after ≡ before

-- what a failure counts: the use where the host failed, and else nothing
counts_of : {used s s' : GuestEnvModel} (e : P1Error) → s' ≡ on_outcome (let r : CallResult Value = Err e in r) used s
    → ((e ≡ Errno Io) × (s' ≡ used)) ⊎ ((e ≡ Errno Io → ⊥) × (s' ≡ s))
counts_of (Errno Io) is = inl (refl, is)
counts_of e is = inr ((λ io. absurd (cc)), is)

-- the descriptors stand for the same, where the live handles do
still_held : {live : Handles} {slots slots' : List Slot} (w v : HostModel) → Owned live (handles slots)
    → ((h : ℕ) → contains live h ≡ true → v.held h ≡ w.held h) → slots' ≡ slots
    → guest_slots v.held slots' ≡ guest_slots w.held slots
still_held {slots = slots} w v owned keeps same = ap (guest_slots v.held) same ∙ guest_slots_stay slots owned keeps

module _ {H : Type 0} {modelled : Bool} {model : H → HostModel} {faults : H → FaultCount} {lookups : H → List Lookup}
    {old new : View H} {before after : List ℕ} {call : Call} where
  module _ {r : Request} {A : Type 0} (next : Reply r → CallResult A) (shown : Guest → A → Value × Guest)
      (at : ask r (made_of_reply r next (shown (guest_of model old before))) new.fuel
      ≡ front (guest_of model old before) call old.fuel) {e : P1Error} (replied : IsReplied r next (Err e))
      (wants : e ≡ Memory → IsTrue (may_run_out_of_memory call)) (slots : GuestSlotsStay modelled model old new)
      (does : IsTrue modelled → Did model faults old new r next (Err e)) where
    -- as `does_err`, of a call with a use
    pub spends_err : (growth : ℕ) → (e ≡ Errno Io → Rose (faults old.host) (faults new.host))
        → KeptSpent call growth e old new before after → (IsTrue modelled → growth ≡ growth_in (model old.host).tree r)
        → FollowsSpec modelled model faults lookups old new before after call (Err e)
    spends_err growth rises kept grows = by (counts_of e kept.holdings)
      where
        but : OnlyUses call e old.holdings new.holdings → KeptBut call e old new before after
        but uses = record { slots = kept.slots; table_max = kept.table_max; uses = uses; memory = kept.memory }

        guest : IsTrue modelled → {stock : GuestEnvModel} → new.holdings ≡ stock
            → guest_of model new after ≡ record (guest_of model old before) { holdings = stock }
        guest modelled is = λ i. record {
          slots = slots modelled i;
          table_max = kept.table_max i;
          memory = kept.memory i;
          holdings = is i;
        }

        by : ((e ≡ Errno Io) × (new.holdings ≡ spent (makes call) growth old.holdings))
            ⊎ ((e ≡ Errno Io → ⊥) × (new.holdings ≡ old.holdings))
            → FollowsSpec modelled model faults lookups old new before after call (Err e)
        by (inl (io, is)) = settled_err next shown at replied wants (but (inr (io, (growth, is)))) (λ modelled.
            turns.counted io (rises io) (guest modelled (is ∙ ap (λ n. spent (makes call) n old.holdings) (grows modelled))
            ∙ sym (used_is (state_of model old before) (with_fuel old.fuel call) (spec_same at)))) does
        by (inr (other, is)) = settled_err next shown at replied wants (but (inl is))
            (λ modelled. turns.unfailed other (guest modelled is)) does

    -- where nothing was done in the tree, and nothing is counted, as at a look that the host failed at, or `dquot`
    pub leaves_err : Kept old new before after → (IsTrue modelled → (model new.host).tree ≡ (model old.host).tree)
        → FollowsSpec modelled model faults lookups old new before after call (Err e)
    leaves_err kept left = settled_err next shown at replied wants (kept_but kept) (λ modelled. turns.undone (λ i. record {
      tree = left modelled i;
      guest = same_guest model kept (slots modelled) i;
    })) does

  -- ---- of a call that makes something

  module _ {r : Request} {A : Type 0} (own : Option ErrorCode) (b : Bool) (next : Reply r → CallResult A)
      (shown : Guest → A → Value × Guest)
      (at : making b (guest_of model old before) (tail own r next shown (guest_of model old before)) new.fuel
      ≡ front (guest_of model old before) call old.fuel) (check : check_to_make b own old.holdings ≡ Ok tt) where
    -- the part below was refused, or its host failed
    pub made_err : {e : P1Error} → b ≡ makes call → grows r ≡ false → IsReplied r next (Err e)
        → (e ≡ Memory → IsTrue (may_run_out_of_memory call)) → GuestSlotsStay modelled model old new
        → (IsTrue modelled → Did model faults old new r next (Err e))
        → (e ≡ Errno Io → Rose (faults old.host) (faults new.host))
        → new.slots ≡ old.slots → new.table_max ≡ old.table_max
        → new.holdings ≡ on_outcome (let r : CallResult Value = Err e in r) (counted_makings b old.holdings) old.holdings
        → after ≡ before → FollowsSpec modelled model faults lookups old new before after call (Err e)
    made_err {e} is none replied wants stays does rises slots table_max holdings memory =
        spends_err next (λ g x. made b (shown g x))
        (sym (made_tail b own r next shown (guest_of model old before) check) ∙ at) replied wants stays does 0 rises (record {
          slots = slots;
          table_max = table_max;
          holdings = holdings
              ∙ ap (λ (s : GuestEnvModel). on_outcome (let r : CallResult Value = Err e in r) s old.holdings)
              (ap (λ b. counted_makings b old.holdings) is ∙ sym (spent_making (makes call) old.holdings));
          memory = memory;
        }) (λ modelled. sym (growth_nothing _ r none))

    -- it was answered
    pub made_ok : {y : Value} {x x' : A} → length after ≡ length before → SlotsOfCall old.slots new.slots before call
        → Follows r next (Ok x)
        → made b (shown (guest_of model old before) x) ≡ (y, guest_by (model old.host).held new after)
        → (IsTrue modelled → Did model faults old new r next (Ok x')
        × (made b (shown (guest_of model old before) x') ≡ (y, guest_of model new after)))
        → FollowsSpec modelled model faults lookups old new before after call (Ok y)
    made_ok size slots follows shows does =
        does_ok next (λ g x. made b (shown g x))
        (sym (made_tail b own r next shown (guest_of model old before) check) ∙ at) size slots follows shows does

  -- ---- of a write or a new size

  module _ {limit : Option Allowance} {w : Request} {A : Type 0} (next : Reply w → CallResult A)
      (shown : Guest → A → Value × Guest)
      (at : growing limit (ask w (made_of_reply w next (shown (guest_of model old before)))) new.fuel
      ≡ front (guest_of model old before) call old.fuel) (writes : IsWriting w) {live : Handles}
      (owned : Owned live (handles old.slots)) where
    -- its growth was refused, or the host failed as it looked at the file
    pub grow_refused : {e : P1Error}
        → ChecksGrowth modelled model (Rose (faults old.host) (faults new.host)) live old.host new.host limit (written_by w)
        (end_after w) (Err e)
        → WantsNoMemory e → Kept old new before after
        → FollowsSpec modelled model faults lookups old new before after call (Err e)
    grow_refused check never kept = leaves_err (grow_next limit w next) (grow_shown shown)
        (sym (grow_tail limit w next shown (guest_of model old before)) ∙ at)
        (growth_refused_front w check next) (λ is. absurd (never is))
        (λ modelled. still_held (model old.host) (model new.host) owned (growth_refused_made w check next writes modelled).keeps kept.slots)
        (λ modelled. (growth_refused_made w check next writes modelled).does) kept (growth_refused_leaves w check)

    -- it was let through
    module _ {rose rose' : Type 0} {mid : H} {growth : ℕ}
        (check : ChecksGrowth modelled model rose live old.host mid limit (written_by w) (end_after w) (Ok growth))
        (rises : rose' → Rose (faults old.host) (faults new.host)) where
      -- and the request was refused, or its host failed
      pub grow_err : {e : P1Error} → IsReplied w next (Err e) → (e ≡ Memory → IsTrue (may_run_out_of_memory call))
          → (IsTrue modelled → Makes rose' live (model mid) (model new.host) w next (Err e))
          → (e ≡ Errno Io → rose') → KeptSpent call growth e old new before after
          → FollowsSpec modelled model faults lookups old new before after call (Err e)
      grow_err replied wants makes io kept = spends_err (grow_next limit w next) (grow_shown shown)
          (sym (grow_tail limit w next shown (guest_of model old before)) ∙ at)
          (grow_front_err w check next replied) wants
          (λ modelled. still_held (model old.host) (model new.host) owned (grow_made_err w check next writes rises modelled (makes modelled)).keeps kept.slots)
          (λ modelled. (grow_made_err w check next writes rises modelled (makes modelled)).does) growth (λ is. rises (io is)) kept
          (grow_counts w check writes)

      -- and it was answered
      pub grow_ok : {y : Value} {x : A} → length after ≡ length before → SlotsOfCall old.slots new.slots before call
          → Follows w next (Ok x)
          → ((stands : ℕ → OpenHandle) → ((h : ℕ) → contains live h ≡ true → stands h ≡ (model old.host).held h)
          → grow_shown shown (guest_of model old before) (growth, x) ≡ (y, guest_by stands new after))
          → (IsTrue modelled → Makes rose' live (model mid) (model new.host) w next (Ok x))
          → FollowsSpec modelled model faults lookups old new before after call (Ok y)
      grow_ok size slots follows shows makes = does_ok (grow_next limit w next) (grow_shown shown)
          (sym (grow_tail limit w next shown (guest_of model old before)) ∙ at) size slots
          (grow_front_ok w check next follows) (shows (model old.host).held (λ _ _. refl)) (λ modelled.
          let made = grow_made_ok w check next writes rises modelled (makes modelled) in
          (made.does, shows (model new.host).held made.keeps))
