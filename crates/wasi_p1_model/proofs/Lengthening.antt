-- What the request of a write or a new size does, within a bound on bytes.
use Rattle.std.proofs.Common.{ℕ, ◌≡◌, Bool, true, false, cond, refl, ap, sym, ◌∙◌, Option, Some, None, Result, Ok, Err}
use Rattle.wasi_host.specs.Tree.{Tree}
use Rattle.wasi_host.specs.declared.errors.ErrorCode.{ErrorCode}
use Rattle.wasi_p1_types.specs.Quotas.{is_above}
use Rattle.wasi_p1_types.specs.Request.{Request, Reply, Grow, after, growth_at, grown_reply, reply_of}
use Rattle.wasi_p1_types.specs.declared.quotas.Allowance.{Allowance}

-- the bound is passed, and so the tree is left
pub record IsPassed (t : Tree) (limit : Allowance) (w : Request) : Type 0 where
  pub above : is_above limit (growth_at t limit w) ≡ true
  pub leaves : after t (Grow limit w) ≡ t

-- it isn't passed: the growth is that of the request within, which is answered and done
pub record Lengthens (t : Tree) (limit : Allowance) (w : Request) (grown : ℕ × Reply w) : Type 0 where
  pub within : is_above limit (growth_at t limit w) ≡ false
  pub growth : grown.0 ≡ growth_at t limit w
  pub is : reply_of t w ≡ Ok grown.1
  pub does : after t (Grow limit w) ≡ after t w

abbrev pub IsBounded : (t : Tree) (limit : Allowance) (w : Request) → Option (ℕ × Reply w) → Type 0
IsBounded t limit w None = IsPassed t limit w
IsBounded t limit w (Some grown) = Lengthens t limit w grown

-- one of the two is what an answer tells
pub bounded_by : (t : Tree) (limit : Allowance) (w : Request) (reply : Option (ℕ × Reply w))
    → reply_of t (Grow limit w) ≡ Ok reply → IsBounded t limit w reply
bounded_by t limit w reply is =
    by (is_above limit (growth_at t limit w)) (reply_of t w) refl refl reply is
  where
    by : (above : Bool) (m : Result (Reply w) ErrorCode) → is_above limit (growth_at t limit w) ≡ above
        → reply_of t w ≡ m → (reply : Option (ℕ × Reply w)) → grown_reply above (growth_at t limit w) m ≡ Ok reply
        → IsBounded t limit w reply
    by true m above modelled None is = record { above = above; leaves = ap (λ b. cond b t (after t w)) above }
    by true m above modelled (Some grown) is = absurd (cc)
    by false (Ok x) above modelled None is = absurd (cc)
    by false (Ok x) above modelled (Some grown) is =
        let same : ◌≡◌ {A = ℕ × Reply w} (growth_at t limit w, x) grown = (cc) in record {
          within = above;
          growth = ap (λ (p : ℕ × Reply w). p.0) (sym same);
          is = modelled ∙ ap (λ (p : ℕ × Reply w). let r : Result (Reply w) ErrorCode = Ok p.1 in r) same;
          does = ap (λ b. cond b t (after t w)) above;
        }
    by false (Err code) above modelled reply is = absurd (cc)
