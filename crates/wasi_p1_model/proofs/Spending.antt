-- What the answer of a specification is that makes something, or makes a file longer, within a guest's quotas.
use Rattle.std.proofs.Common.{ℕ, ◌≡◌, Bool, true, false, cond, refl, ap, sym, subst, ◌∙◌, Option, Some, None, Ok, Err}
use Rattle.std.specs.Option.{option_map}
use Rattle.wasi_fs.specs.OpenFlags.{includes}
use Rattle.wasi_fs.specs.OpenMode.{mode_bits}
use Rattle.wasi_fs.specs.declared.open_mode.OpenMode.{OpenMode}
use Rattle.wasi_guest.specs.declared.answer.Value.{Value}
use Rattle.wasi_host.specs.Steps.{◌>>=◌}
use Rattle.wasi_host.specs.Tree.{Tree}
use Rattle.wasi_p1_types.specs.Front.{ask}
use Rattle.wasi_p1_types.specs.Guest.{Guest, State}
use Rattle.wasi_p1_types.specs.Quotas.{allowance, count_on, counted_growth, counted_makings, growth_to}
use Rattle.wasi_p1_types.specs.Request.{Request, Reply, Grow, after, reply_of, end_after, growth_at, size_at, written_by}
use Rattle.wasi_p1_types.specs.CallResult.{CallResult, asking, give}
use Rattle.wasi_p1_types.specs.Spending.{grown_in, growing, making, may_make, with_growth, with_making}
use Rattle.wasi_p1_types.specs.GuestEnvModel.{GuestEnvModel}
use Rattle.wasi_p1_model.specs.Writing.{with_grown}
use Rattle.wasi_p1_types.specs.declared.quotas.Allowance.{Allowance}
use Rattle.wasi_p1_model.proofs.Alike.{spec_on}
use Rattle.wasi_p1_model.proofs.Lengthening.{bounded_by}
use Rattle.wasi_p1_model.proofs.Listings.{both_ok}
use Rattle.wasi_p1_model.proofs.Moving.{Replied, replied_by}

-- an answer and a guest are those that were given
pub answer_is : {x y : Value} {g h : Guest} → (let m : CallResult (Value × Guest) = Ok (x, g) in m) ≡ Ok (y, h)
    → (y ≡ x) × (h ≡ g)
answer_is {x} {y} {g} {h} is =
    let same : ◌≡◌ {A = Value × Guest} (x, g) (y, h) = (cc) in
    (ap (λ (p : Value × Guest). p.0) (sym same), ap (λ (p : Value × Guest). p.1) (sym same))

-- ---- what is counted

-- the request was answered, and something counted in the guest that it gave
pub record Counts (count : Guest → Guest) (t : Tree) (r : Request) (next : Reply r → CallResult (Value × Guest))
    (p : Value × State) : Type 0 where
  pub guest : Guest
  pub within : Replied t r next (p.0, record p.1 { guest = guest })
  pub counted : p.1.guest ≡ count guest

-- an answer, beside which that is counted
abbrev after_count : (Guest → Guest) → Value × Guest → Value × Guest
after_count count q = (q.0, count q.1)

module _ (count : Guest → Guest) {p : Value × State} {t : Tree} (r : Request) (next : Reply r → CallResult (Value × Guest)) where
  counts : (reply : Reply r) → reply_of t r ≡ Ok reply → p.1.tree ≡ after t r
      → (next reply >>= (λ q. give (after_count count q))) ≡ Ok (p.0, p.1.guest) → Counts count t r next p
  counts reply is tree gives =
      let (q, gave, made) = both_ok (next reply) _ gives in
      let (same, counted) = answer_is made in record {
        guest = q.1;
        within = record { reply = reply; is = is; tree = tree; gives = gave ∙ ap (λ x. Ok (x, q.1)) (sym same) };
        counted = counted;
      }

-- ---- makings

-- a making, of a call that makes something
abbrev pub with_made : Bool → Guest → Guest
with_made makes g = record g { holdings = counted_makings makes g.holdings }

pub gave_making : {p : Value × State} (t : Tree) (makes : Bool) (g : Guest) (r : Request)
    (next : Reply r → CallResult (Value × Guest)) (fuel : ℕ) → spec_on t (making makes g (ask r next) fuel).0 ≡ Ok p
    → Counts (with_made makes) t r next p
gave_making {p} t false g r next fuel is =
    record { guest = p.1.guest; within = replied_by t r next is; counted = refl }
gave_making {p} t true g r next fuel is = by (may_make g.holdings) is
  where
    by : (m : CallResult (Unit {0}))
        → spec_on t (m >>= (λ _. Ok (asking r (λ reply. next reply >>= (λ q. give (with_making q)))))) ≡ Ok p
        → Counts (with_made true) t r next p
    by (Err e) is = absurd (cc)
    by (Ok left) is =
        let did = replied_by t r _ is in counts (with_made true) r next did.reply did.is did.tree did.gives

-- ---- growth

-- how many bytes are counted of a request, where the bound leaves this
abbrev pub growth_under : Option Allowance → Tree → Request → ℕ
growth_under None t w = 0
growth_under (Some limit) t w = growth_at t limit w

pub gave_growing : {p : Value × State} (t : Tree) (limit : Option Allowance) (w : Request)
    (next : Reply w → CallResult (Value × Guest)) (fuel : ℕ) → spec_on t (growing limit (ask w next) fuel).0 ≡ Ok p
    → Counts (with_grown (growth_under limit t w)) t w next p
gave_growing t None w next fuel is =
    let did = replied_by t w _ is in counts (with_grown 0) w next did.reply did.is did.tree did.gives
gave_growing {p} t (Some limit) w next fuel is =
    let did = replied_by t (Grow limit w) _ is in by did.reply did.is did.tree did.gives
  where
    by : (reply : Option (ℕ × Reply w)) → reply_of t (Grow limit w) ≡ Ok reply → p.1.tree ≡ after t (Grow limit w)
        → (grown_in (Some limit) w reply >>= (λ grown. next grown.1 >>= (λ q. give (with_growth grown.0 q)))) ≡ Ok (p.0, p.1.guest)
        → Counts (with_grown (growth_at t limit w)) t w next p
    by None modelled tree gives = absurd (cc)
    by (Some (growth, reply)) modelled tree gives =
        let did = bounded_by t limit w (Some (growth, reply)) modelled in
        subst (λ n. Counts (with_grown n) t w next p) did.growth
        (counts (with_grown growth) w next reply did.is (tree ∙ did.does) gives)

-- the growth of what is asked by a descriptor of this mode, whether or not a bound is set
abbrev pub growth_by : OpenMode → Tree → Request → ℕ
growth_by mode t w = cond (includes (mode_bits mode) 2) (growth_to (size_at t (written_by w)) (end_after w)) 0

-- that is counted
pub growth_counted : (s : GuestEnvModel) (mode : OpenMode) (t : Tree) (w : Request)
    → counted_growth (growth_under (allowance s mode) t w) s ≡ counted_growth (growth_by mode t w) s
growth_counted s mode t w = λ i. record s { used = record s.used { bytes = by s.quota.bytes i } }
  where
    by : (bound : Option ℕ)
        → count_on bound s.used.bytes (growth_under (option_map (λ most. record {
          most = most;
          used = s.used.bytes;
          may_grow = includes (mode_bits mode) 2;
        }) bound) t w) ≡ count_on bound s.used.bytes (growth_by mode t w)
    by None = refl
    by (Some most) = refl

-- in this guest
pub grew_to : {t : Tree} {w : Request} {next : Reply w → CallResult (Value × Guest)} {p : Value × State} (h : Guest)
    (mode : OpenMode) (grew : Counts (with_grown (growth_under (allowance h.holdings mode) t w)) t w next p)
    → grew.guest ≡ h → p.1.guest ≡ with_grown (growth_by mode t w) h
grew_to {t} {w} h mode grew is =
    grew.counted ∙ ap (with_grown (growth_under (allowance h.holdings mode) t w)) is
    ∙ ap (λ s. record h { holdings = s }) (growth_counted h.holdings mode t w)
