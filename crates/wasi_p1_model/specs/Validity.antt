-- Which states are valid.
use Rattle.std.specs.Prelude.{ℕ, List, All, IsTrue}
use Rattle.wasi_host.specs.ValidTree.{IsValidTree, are_bytes}
use Rattle.wasi_p1_types.specs.Front.{FueledCall}
use Rattle.wasi_p1_types.specs.Guest.{Guest, State}
use Rattle.wasi_p1_types.specs.GuestEnvModel.{GuestEnvModel}
use Rattle.wasi_p1_model.specs.Trace.{TraceStep, Trace}

abbrev pub AreBytes : List ℕ → Type 0
AreBytes bytes = IsTrue (are_bytes bytes)

-- what a guest was handed in are bytes
pub record IsStock (stock : GuestEnvModel) : Type 0 where
  pub preopens : All AreBytes stock.preopens
  pub args : All AreBytes stock.args
  pub environ : All AreBytes stock.environ
  pub random : AreBytes stock.random
  pub stdin : AreBytes stock.stdin

-- and so is its memory
abbrev pub HasBytes : Guest → Type 0
HasBytes g = AreBytes g.memory × IsStock g.holdings

-- its tree is valid, and what the guest has are bytes
pub record IsValidState (s : State) : Type 0 where
  pub tree : IsValidTree s.tree
  pub bytes : HasBytes s.guest

-- a run from a valid state leads to one, however many of its turns are faulted
abbrev pub RunsStayValid : Type 0
RunsStayValid =
    (k : ℕ) (old new : State) (calls : List FueledCall) (turns : List TraceStep) → Trace k old calls turns new
    → IsValidState old → IsValidState new
