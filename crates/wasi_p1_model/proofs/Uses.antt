-- The use of a call: the makings and the grown bytes that it counts.
use Rattle.std.proofs.Common.{ℕ, ◌≡◌, Bool, true, false, Option, Some, None, Ok, refl, ap, sym, ◌∙◌, add-zero}
use Rattle.std.specs.Prelude.{IsTrue, not}
use Rattle.std.proofs.lemmas.Bool.{and_parts}
use Rattle.wasi_guest.specs.declared.answer.Value.{Value}
use Rattle.wasi_guest.specs.declared.quota.QuotaUsed.{QuotaUsed}
use Rattle.wasi_host.specs.Tree.{Tree}
use Rattle.wasi_p1_types.specs.Front.{FueledCall}
use Rattle.wasi_p1_types.specs.Guest.{Guest, State}
use Rattle.wasi_p1_types.specs.Quotas.{count_on, counted_growth, counted_makings}
use Rattle.wasi_p1_types.specs.Request.{Request, Reply, Path, Direct, Behind, ListDirectory, Sizes, Grow, growth_in}
use Rattle.wasi_p1_types.specs.CallResult.{CallResult, Program, asking}
use Rattle.wasi_p1_model.specs.Calls.{call_spec}
use Rattle.wasi_p1_types.specs.Spending.{growth_of, grows, makes, spends_nothing, spent}
use Rattle.wasi_p1_types.specs.GuestEnvModel.{GuestEnvModel}
use Rattle.wasi_p1_model.specs.Transition.{used_by}

-- ---- counts

-- a guest with other counts of what it has used
abbrev pub with_counts : QuotaUsed → Guest → Guest
with_counts used g = record g { holdings = record g.holdings { used = used } }

spent_counts : (makes : Bool) (growth : ℕ) (stock : GuestEnvModel)
    → spent makes growth stock ≡ record stock { used = (spent makes growth stock).used }
spent_counts true growth stock = refl
spent_counts false growth stock = refl

-- the use of a call is counted, and all else of the guest stays
pub used_counts : (s : State) (call : FueledCall)
    → used_by s call ≡ with_counts (used_by s call).holdings.used s.guest
used_counts s call = ap (λ (stock : GuestEnvModel). let g : Guest = record s.guest { holdings = stock } in g)
    (spent_counts (makes call.call) (growth_of s.tree (call_spec s.guest call)) s.guest.holdings)

count_none : (most : Option ℕ) (used : ℕ) → count_on most used 0 ≡ used
count_none None used = refl
count_none (Some most) used = add-zero used

-- no grown byte is no use
pub growth_none : (stock : GuestEnvModel) → counted_growth 0 stock ≡ stock
growth_none stock = ap (λ bytes. let s : GuestEnvModel = record stock { used = record stock.used { bytes = bytes } } in s)
    (count_none stock.quota.bytes stock.used.bytes)

-- and a making alone is what it counts
pub spent_making : (makes : Bool) (stock : GuestEnvModel) → spent makes 0 stock ≡ counted_makings makes stock
spent_making true stock = growth_none (counted_makings true stock)
spent_making false stock = growth_none stock

-- ---- the growth of a request

pub growth_nothing : (t : Tree) (r : Request) → grows r ≡ false → growth_in t r ≡ 0
growth_nothing t (Path p) none = refl
growth_nothing t (Direct call) none = refl
growth_nothing t (Behind f piece) none = refl
growth_nothing t (ListDirectory d) none = refl
growth_nothing t (Sizes ns) none = refl
growth_nothing t (Grow limit w) none = absurd (cc)

-- ---- the guest with the use of a call, whose specification asks for this

module _ (s : State) (call : FueledCall) {r : Request} {next : Reply r → CallResult (Value × Guest)}
    (asks : Ok (asking r next) ≡ call_spec s.guest call) where
  pub used_is : used_by s call
      ≡ record s.guest { holdings = spent (makes call.call) (growth_in s.tree r) s.guest.holdings }
  used_is = ap (λ (m : CallResult (Program (Value × Guest))).
      let g : Guest = record s.guest { holdings = spent (makes call.call) (growth_of s.tree m) s.guest.holdings } in g)
      (sym asks)

  -- a making alone
  pub made_use : grows r ≡ false → used_by s call ≡ record s.guest { holdings = counted_makings (makes call.call) s.guest.holdings }
  made_use none = used_is ∙ ap (λ growth. let g : Guest = record s.guest {
    holdings = spent (makes call.call) growth s.guest.holdings;
  } in g) (growth_nothing s.tree r none) ∙ ap (λ (stock : GuestEnvModel). let g : Guest = record s.guest { holdings = stock } in g)
      (spent_making (makes call.call) s.guest.holdings)

  -- nothing
  pub no_use : IsTrue (spends_nothing call.call r) → used_by s call ≡ s.guest
  no_use none =
      let (still, short) = and_parts (not (makes call.call)) (not (grows r)) none in
      made_use (refused (grows r) short) ∙ ap (λ b. let g : Guest = record s.guest { holdings = counted_makings b s.guest.holdings } in g)
      (refused (makes call.call) still)
    where
      refused : (b : Bool) → IsTrue (not b) → b ≡ false
      refused true is = absurd (cc)
      refused false is = refl
