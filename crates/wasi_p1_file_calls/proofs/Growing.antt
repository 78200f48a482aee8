-- What the calls do that make a file grow: they look at the file, write it or give it a size, and count.
use Rattle.std.proofs.Common.{ℕ, ◌≡◌, ◌≤◌, Bool, true, false, List, Option, Some, None, refl, ap, sym, subst, ◌∙◌, slice_get, slice_set, Ok, Err, arith}
use Rattle.std.specs.FinSet.{contains}
use Rattle.std.specs.Prelude.{Contains, IsTrue}
use Rattle.wasi_guest.specs.declared.answer.Value.{Value}
use Rattle.wasi_guest.specs.declared.call.Call.{Call}
use Rattle.wasi_guest.specs.declared.errno.Errno.TheVariants.{Io}
use Rattle.wasi_host.specs.HostCall.{SetSize}
use Rattle.wasi_host.specs.HostLaws.{HostModel, Handles, FaultCount, Rose}
use Rattle.wasi_host.specs.declared.open_handle.OpenHandle.{OpenHandle}
use Rattle.wasi_host.specs.declared.lookup.Lookup.{Lookup}
use Rattle.wasi_p1_types.specs.CallParts.{IsReplied, Makes, WantsNoMemory}
use Rattle.wasi_p1_model.specs.CallTransition.{FollowsSpec}
use Rattle.wasi_p1_types.specs.Front.{ask}
use Rattle.wasi_p1_types.specs.Guest.{Guest, guest_by, guest_of}
use Rattle.wasi_p1_model.specs.Owners.{handles, Owned, SlotsOfCall}
use Rattle.wasi_p1_model.specs.Putting.{count_in, put_call, put_end, put_in, put_request}
use Rattle.wasi_p1_types.specs.Quotas.{counted_growth}
use Rattle.wasi_p1_types.specs.Request.{Request, Reply, Direct, end_after, written_by}
use Rattle.wasi_p1_types.specs.CallResult.{CallResult, give, made_of_reply}
use Rattle.wasi_p1_model.specs.Calls.{descriptors_named, front, may_run_out_of_memory}
use Rattle.wasi_p1_types.specs.Slots.{View}
use Rattle.wasi_p1_types.specs.Spending.{growing, makes, on_outcome, spent, with_growth}
use Rattle.wasi_p1_types.specs.GuestEnvModel.{GuestEnvModel}
use Rattle.wasi_p1_types.specs.declared.error.P1Error.{P1Error}
use Rattle.wasi_p1_types.specs.declared.error.P1Error.TheVariants.{Errno, Memory}
use Rattle.wasi_p1_types.specs.declared.quotas.Allowance.{Allowance}
use Rattle.wasi_p1_types.specs.declared.quotas.FileEnd.{FileEnd}
use Rattle.wasi_p1_types.specs.declared.quotas.FileEnd.TheVariants.{At}
use Rattle.wasi_p1_types.specs.declared.slots.FileSlot.{FileSlot}
use Rattle.wasi_p1_types.specs.declared.slots.Slot.{Slot}
use Rattle.wasi_p1_types.specs.declared.slots.Slot.TheVariants.{File}
use Rattle.wasi_p1_types.specs.declared.usage.Put.{Put}
use Rattle.wasi_p1_model.proofs.Exiting.{grow_err, grow_ok, grow_refused}
use Rattle.wasi_p1_model.proofs.GuestSlots.{guest_slots_stay}
use Rattle.wasi_p1_model.proofs.Lengths.{ChecksGrowth, IsWriting, grow_shown}
use Rattle.wasi_p1_model.proofs.Staying.{all_stay, put_stays}
use Rattle.wasi_p1_model.proofs.Taking.{PutBack, guest_put, put_guest, unchanged}

-- ---- what is asked of a file, by what its handle stands for

-- It is a write or a new size, after which the file has this end. What may be replied over any host doesn't depend on
-- what the handle stands for
pub record GrowsFile {A : Type 0} (F : OpenHandle → Request) (N : (f : OpenHandle) → Reply (F f) → CallResult A) (end : FileEnd) : Type 0 where
  pub writes : (f : OpenHandle) → IsWriting (F f)
  pub file : (f : OpenHandle) → written_by (F f) ≡ f.node
  pub ends : (f : OpenHandle) → end_after (F f) ≡ end
  pub any : (f g : OpenHandle) (result : CallResult A) → IsReplied (F f) (N f) result → IsReplied (F g) (N g) result

-- a piece that is put where the position stays
pub call_grows : (append : Bool) (offset : ℕ) (piece : List ℕ) → GrowsFile (λ f. Direct (put_call append f offset piece))
    (λ f answer. give (count_in append f offset piece answer)) (put_end append offset piece)
call_grows true offset piece = record {
  writes = λ f. record { starts = refl; comes = λ _. refl; alone = λ _. refl };
  file = λ _. refl;
  ends = λ _. refl;
  any = by;
}
  where
    by : (f g : OpenHandle) (result : CallResult ℕ)
        → IsReplied (Direct (put_call true f offset piece)) (λ answer. give (count_in true f offset piece answer)) result
        → IsReplied (Direct (put_call true g offset piece)) (λ answer. give (count_in true g offset piece answer)) result
    by f g (Ok x) replied = replied
    by f g (Err e) replied = replied
call_grows false offset piece = record {
  writes = λ f. record { starts = refl; comes = λ _. refl; alone = λ _. refl };
  file = λ _. refl;
  ends = λ _. refl;
  any = by;
}
  where
    by : (f g : OpenHandle) (result : CallResult ℕ)
        → IsReplied (Direct (put_call false f offset piece)) (λ answer. give (count_in false f offset piece answer)) result
        → IsReplied (Direct (put_call false g offset piece)) (λ answer. give (count_in false g offset piece answer)) result
    by f g (Ok x) replied = replied
    by f g (Err e) replied = replied

-- one where it goes along
pub request_grows : (append : Bool) (offset : ℕ) (piece : List ℕ) → GrowsFile (λ f. put_request append f offset piece)
    (λ f reply. give (put_in append f offset piece reply)) (put_end append offset piece)
request_grows true offset piece = record {
  writes = λ f. record { starts = refl; comes = λ _. refl; alone = λ _. refl };
  file = λ _. refl;
  ends = λ _. refl;
  any = by;
}
  where
    by : (f g : OpenHandle) (result : CallResult Put)
        → IsReplied (put_request true f offset piece) (λ reply. give (put_in true f offset piece reply)) result
        → IsReplied (put_request true g offset piece) (λ reply. give (put_in true g offset piece reply)) result
    by f g (Ok x) replied = replied
    by f g (Err e) replied = replied
request_grows false offset piece = record {
  writes = λ f. record { starts = refl; comes = λ _. refl; alone = λ _. refl };
  file = λ _. refl;
  ends = λ _. refl;
  any = by;
}
  where
    by : (f g : OpenHandle) (result : CallResult Put)
        → IsReplied (put_request false f offset piece) (λ reply. give (put_in false f offset piece reply)) result
        → IsReplied (put_request false g offset piece) (λ reply. give (put_in false g offset piece reply)) result
    by f g (Ok x) replied = replied
    by f g (Err e) replied = replied

-- a size
pub size_grows : (size : ℕ) → GrowsFile {A = Unit {0}} (λ f. Direct (SetSize f size)) (λ f _. give tt) (At size)
size_grows size = record {
  writes = λ f. record { starts = refl; comes = λ _. refl; alone = λ _. refl };
  file = λ _. refl;
  ends = λ _. refl;
  any = by;
}
  where
    by : (f g : OpenHandle) (result : CallResult (Unit {0})) → IsReplied (Direct (SetSize f size)) (λ _. give tt) result
        → IsReplied (Direct (SetSize g size)) (λ _. give tt) result
    by f g (Ok x) replied = replied
    by f g (Err e) replied = replied

-- ---- the look, and then the request over the host that it left

-- a fault after the look is one of the call
rises_on : (a b c : FaultCount) → a.count ≤ b.count → Rose b c → Rose a c
rises_on a b c later rose = omega (arith, later, rose)

-- over a modelled host, a handle stands for the same as before the look
still_held : {H : Type 0} {modelled : Bool} {model : H → HostModel} {rose : Type 0} {live : Handles} {old mid : H}
    {limit : Option Allowance} {n growth : ℕ} {end : FileEnd}
    → ChecksGrowth modelled model rose live old mid limit n end (Ok growth) → IsTrue modelled → (h : ℕ) → contains live h ≡ true
    → (model mid).held h ≡ (model old).held h
still_held {H} {modelled} {model} {rose} {live} {old} {mid} {limit} {n} {growth} {end} check is h lives = by limit check
  where
    by : (o : Option Allowance) → ChecksGrowth modelled model rose live old mid o n end (Ok growth)
        → (model mid).held h ≡ (model old).held h
    by None check = ap (λ x. (model x).held h) (check.unbound refl).1
    by (Some l) check = (check.tells is l refl).keeps h lives

module _ {H A : Type 0} {modelled : Bool} {model : H → HostModel} {rose : Type 0} {live : Handles} {old mid : H}
    {limit : Option Allowance} {end : FileEnd} {F : OpenHandle → Request} {N : (f : OpenHandle) → Reply (F f) → CallResult A}
    (puts : GrowsFile F N end) where
  -- what was checked is the growth of the request
  checked : {result : CallResult ℕ} (f : OpenHandle) → ChecksGrowth modelled model rose live old mid limit f.node end result
      → ChecksGrowth modelled model rose live old mid limit (written_by (F f)) (end_after (F f)) result
  checked {result} f check =
      subst (λ n. ChecksGrowth modelled model rose live old mid limit n (end_after (F f)) result) (sym (puts.file f))
      (subst (λ x. ChecksGrowth modelled model rose live old mid limit f.node x result) (sym (puts.ends f)) check)

-- what was made of the handle after the look is made of it before that
made_before : {A rose : Type 0} (F : OpenHandle → Request) (N : (f : OpenHandle) → Reply (F f) → CallResult A) {f g : OpenHandle}
    {live live' : Handles} {w v : HostModel} {result : CallResult A} → f ≡ g → live' ≡ live → Makes rose live' w v (F f) (N f) result
    → Makes rose live w v (F g) (N g) result
made_before {rose = rose} F N {f = f} {live = live} {w = w} {v = v} {result = result} same lives makes =
    subst (λ x. Makes rose live w v (F x) (N x) result) same (subst (λ l. Makes rose l w v (F f) (N f) result) lives makes)

-- ---- what is shown then

module _ {H : Type 0} {stock : GuestEnvModel} {live : Handles} (growth : ℕ) (old : View H) (model : H → HostModel)
    (memory : List ℕ) (host : H) (left : ℕ) (owned : Owned live (handles old.slots)) (counted : stock ≡ counted_growth growth old.holdings) where
  -- the growth is counted, and nothing else changed
  grown_stays : (x : Value) (stands : ℕ → OpenHandle)
      → ((q : ℕ) → contains live q ≡ true → stands q ≡ (model old.host).held q)
      → ◌≡◌ {A = Value × Guest} (with_growth growth (x, guest_of model old memory))
      (x, guest_by stands (record old { host = host; holdings = stock; fuel = left }) memory)
  grown_stays x stands keeps =
      let same = guest_slots_stay old.slots owned keeps in λ i. (
        x,
        record { slots = sym same i; table_max = old.table_max; memory = memory; holdings = sym counted i },
      )

  -- and a file's descriptor was put back
  grown_put : {slots : List Slot} (fd : ℕ) (x : Value) (f : FileSlot) → slots ≡ slice_set old.slots fd (File f)
      → contains live f.file.file ≡ true → (stands : ℕ → OpenHandle)
      → ((q : ℕ) → contains live q ≡ true → stands q ≡ (model old.host).held q)
      → ◌≡◌ {A = Value × Guest} (with_growth growth (x, guest_put (model old.host).held old fd f memory))
      (x, guest_by stands (record old { host = host; slots = slots; holdings = stock; fuel = left }) memory)
  grown_put {slots} fd x f put lives stands keeps =
      let uncounted : View H = record old { host = host; slots = slots; fuel = left } in
      let back : PutBack old uncounted fd f = record { slots = put; table_max = refl; holdings = refl } in
      ap (with_growth growth) (put_guest {new = uncounted} {after = memory} x (model old.host).held stands back
      (keeps f.file.file lives) (guest_slots_stay old.slots owned keeps))
      ∙ (λ i. (x, record (guest_by stands uncounted memory) { holdings = sym counted i }))

-- ---- what the call does

module _ {H A : Type 0} {modelled : Bool} {model : H → HostModel} {faults : H → FaultCount} {lookups : H → List Lookup}
    {old : View H} {mid : H} {left : ℕ} {memory : List ℕ} {call : Call} {live : Handles} {limit : Option Allowance}
    {end : FileEnd} {F : OpenHandle → Request} {N : (f : OpenHandle) → Reply (F f) → CallResult A} (puts : GrowsFile F N end)
    (shown : Guest → A → Value × Guest) (h : ℕ)
    (at : growing limit (ask (F ((model old.host).held h)) (made_of_reply (F ((model old.host).held h))
    (N ((model old.host).held h)) (shown (guest_of model old memory)))) left
    ≡ front (guest_of model old memory) call old.fuel) (owned : Owned live (handles old.slots)) where
  -- the growth was refused, or the host failed at the look
  pub growth_refused : {e : P1Error}
      → ChecksGrowth modelled model (Rose (faults old.host) (faults mid)) live old.host mid limit
      ((model old.host).held h).node end (Err e) → WantsNoMemory e
      → FollowsSpec modelled model faults lookups old (record old { host = mid; fuel = left }) memory memory call (Err e)
  growth_refused check never = grow_refused {new = record old { host = mid; fuel = left }} {after = memory}
      (N ((model old.host).held h)) shown at (puts.writes ((model old.host).held h)) owned (checked puts ((model old.host).held h) check) never
      unchanged

  -- it was let through
  module _ {growth : ℕ} {host : H} {stock : GuestEnvModel} {live' : Handles}
      (check : ChecksGrowth modelled model (Rose (faults old.host) (faults mid)) live old.host mid limit
      ((model old.host).held h).node end (Ok growth)) (later : (faults old.host).count ≤ (faults mid).count)
      (same : live' ≡ live) (lives : contains live h ≡ true) where
    -- and the request was refused, or its host failed
    pub growth_err : {e : P1Error} → IsReplied (F ((model mid).held h)) (N ((model mid).held h)) (Err e)
        → (e ≡ Memory → IsTrue (may_run_out_of_memory call))
        → (IsTrue modelled → Makes (Rose (faults mid) (faults host)) live' (model mid) (model host) (F ((model mid).held h))
        (N ((model mid).held h)) (Err e))
        → (e ≡ Errno Io → Rose (faults mid) (faults host)) → makes call ≡ false
        → stock ≡ on_outcome (let r : CallResult A = Err e in r) (counted_growth growth old.holdings) old.holdings
        → FollowsSpec modelled model faults lookups old (record old { host = host; holdings = stock; fuel = left }) memory memory
        call (Err e)
    growth_err {e} replied wants told_by io none counted =
        grow_err {new = record old { host = host; holdings = stock; fuel = left }} {after = memory}
        (N ((model old.host).held h)) shown at (puts.writes ((model old.host).held h)) owned (checked puts ((model old.host).held h) check)
        (rises_on (faults old.host) (faults mid) (faults host) later)
        (puts.any ((model mid).held h) ((model old.host).held h) (Err e) replied) wants
        (λ is. made_before F N (still_held check is h lives) same (told_by is)) io (record {
          slots = refl;
          table_max = refl;
          holdings = counted
              ∙ ap (λ b. on_outcome (let r : CallResult A = Err e in r) (spent b growth old.holdings) old.holdings) (sym none);
          memory = refl;
        })

    -- and it was answered
    growth_ok : {slots : List Slot} {y : Value} {x : A} → SlotsOfCall old.slots slots memory call
        → IsReplied (F ((model mid).held h)) (N ((model mid).held h)) (Ok x)
        → ((stands : ℕ → OpenHandle) → ((q : ℕ) → contains live q ≡ true → stands q ≡ (model old.host).held q)
        → grow_shown shown (guest_of model old memory) (growth, x)
        ≡ (y, guest_by stands (record old { host = host; slots = slots; holdings = stock; fuel = left }) memory))
        → (IsTrue modelled → Makes (Rose (faults mid) (faults host)) live' (model mid) (model host) (F ((model mid).held h))
        (N ((model mid).held h)) (Ok x))
        → FollowsSpec modelled model faults lookups old (record old { host = host; slots = slots; holdings = stock; fuel = left })
        memory memory call (Ok y)
    growth_ok {slots} {y} {x} stay replied shows told_by =
        grow_ok {new = record old { host = host; slots = slots; holdings = stock; fuel = left }} {after = memory}
        (N ((model old.host).held h)) shown at (puts.writes ((model old.host).held h)) owned (checked puts ((model old.host).held h) check)
        (rises_on (faults old.host) (faults mid) (faults host) later) refl stay
        (puts.any ((model mid).held h) ((model old.host).held h) (Ok x) replied) shows
        (λ is. made_before F N (still_held check is h lives) same (told_by is))

    -- where the descriptors stay
    pub growth_done : {y : Value} {x : A} → IsReplied (F ((model mid).held h)) (N ((model mid).held h)) (Ok x)
        → shown (guest_of model old memory) x ≡ (y, guest_of model old memory)
        → stock ≡ counted_growth growth old.holdings
        → (IsTrue modelled → Makes (Rose (faults mid) (faults host)) live' (model mid) (model host) (F ((model mid).held h))
        (N ((model mid).held h)) (Ok x))
        → FollowsSpec modelled model faults lookups old (record old { host = host; holdings = stock; fuel = left }) memory memory
        call (Ok y)
    growth_done {y} replied shows counted told_by = growth_ok {slots = old.slots} (all_stay refl) replied
        (λ stands keeps. ap (with_growth growth) shows ∙ grown_stays growth old model memory host left owned counted y stands keeps)
        told_by

    -- where the file's descriptor is put back
    pub growth_put : {slots : List Slot} {y : Value} {x : A} (fd : ℕ) (f was : FileSlot)
        → IsReplied (F ((model mid).held h)) (N ((model mid).held h)) (Ok x)
        → shown (guest_of model old memory) x ≡ (y, guest_put (model old.host).held old fd f memory)
        → slots ≡ slice_set old.slots fd (File f) → Contains (descriptors_named memory call) fd
        → slice_get old.slots fd ≡ Some (File was) → f.file ≡ was.file → contains live f.file.file ≡ true
        → stock ≡ counted_growth growth old.holdings
        → (IsTrue modelled → Makes (Rose (faults mid) (faults host)) live' (model mid) (model host) (F ((model mid).held h))
        (N ((model mid).held h)) (Ok x))
        → FollowsSpec modelled model faults lookups old (record old { host = host; slots = slots; holdings = stock; fuel = left })
        memory memory call (Ok y)
    growth_put {y = y} fd f was replied shows put named is file stands_live counted told_by =
        growth_ok (put_stays fd _ named is (rw file refl) put) replied
        (λ stands keeps. ap (with_growth growth) shows
        ∙ grown_put growth old model memory host left owned counted fd y f put stands_live stands keeps) told_by
