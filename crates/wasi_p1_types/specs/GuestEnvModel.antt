-- What a guest has beside its descriptors and its memory.
use Rattle.std.specs.Prelude.{ℕ, List, [], ◌∷◌, ◌++◌, map}
use Rattle.wasi_guest.specs.Quotas.{no_quota, nothing_used}
use Rattle.wasi_guest.specs.Services.{Handed}
use Rattle.wasi_guest.specs.declared.quota.Quota.{Quota}
use Rattle.wasi_guest.specs.declared.quota.QuotaUsed.{QuotaUsed}
use Rattle.wasi_guest.specs.declared.guest_env.WallDatetime.{WallDatetime}

-- What it was handed in, as far as that is left, what it has written, and how much it may make and grow
pub record GuestEnvModel : Type 0 where
  -- the names of the directories that it was given, in order
  pub preopens : List (List ℕ)
  -- the arguments, and the variables of the environment as texts `key=value`
  pub args : List (List ℕ)
  pub environ : List (List ℕ)
  -- what is left of the standard input, and what was written to the two outputs
  pub stdin : List ℕ
  pub stdout : List ℕ
  pub stderr : List ℕ
  -- what the two clocks stand at, and how far apart two of their moments are
  pub wall : WallDatetime
  pub wall_resolution : WallDatetime
  pub monotonic : ℕ
  pub monotonic_resolution : ℕ
  -- bytes that are given round and round, and the place of the next one
  pub random : List ℕ
  pub random_at : ℕ
  -- how much it may make and grow in all, and how much of that is used
  pub quota : Quota
  pub used : QuotaUsed

-- a variable, with `=` between its key and its value
abbrev pub env_text : List ℕ × List ℕ → List ℕ
env_text pair = pair.0 ++ 61 ∷ pair.1

-- at the start, where the directories that are given have these names
abbrev pub first_stock : Handed → List (List ℕ) → GuestEnvModel
first_stock given names = record {
  preopens = names;
  args = given.args;
  environ = map env_text given.env;
  stdin = given.stdin;
  stdout = [];
  stderr = [];
  wall = given.wall;
  wall_resolution = given.wall_resolution;
  monotonic = given.monotonic;
  monotonic_resolution = given.monotonic_resolution;
  random = given.random;
  random_at = 0;
  quota = no_quota;
  used = nothing_used;
}

-- the fuel of a new context
abbrev pub first_fuel : ℕ
first_fuel = 134217728
