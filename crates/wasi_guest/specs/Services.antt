-- What a guest is handed in beside its directories, as plain data.
use Rattle.std.specs.Prelude.{ℕ, ◌^◌, ◌<◌, List, map}
use Rattle.std.specs.String.{string_bytes}
use Rattle.wasi_guest.specs.declared.guest_env.EnvPair.{EnvPair}
use Rattle.wasi_guest.specs.declared.guest_env.Services.{Services}
use Rattle.wasi_guest.specs.declared.guest_env.WallDatetime.{WallDatetime}

-- its arguments, its environment as pairs of a key and a value, the bytes of its standard input, its two clocks with their
-- resolutions, and the bytes that it takes for random
pub record Handed : Type 0 where
  pub args : List (List ℕ)
  pub env : List (List ℕ × List ℕ)
  pub stdin : List ℕ
  pub wall : WallDatetime
  pub wall_resolution : WallDatetime
  pub monotonic : ℕ
  pub monotonic_resolution : ℕ
  pub random : List ℕ

abbrev pub env_pair : EnvPair → List ℕ × List ℕ
env_pair pair = (string_bytes pair.key, string_bytes pair.value)

-- what services stand for
abbrev pub handed : Services → Handed
handed services = record {
  args = map string_bytes services.args.items;
  env = map env_pair services.env.items;
  stdin = services.stdin.items;
  wall = services.wall;
  wall_resolution = services.wall_resolution;
  monotonic = services.monotonic;
  monotonic_resolution = services.monotonic_resolution;
  random = services.random.items;
}

-- a moment of a wall clock: below 2^63 seconds, and nanoseconds that make no second
pub record IsWallMoment (moment : WallDatetime) : Type 0 where
  pub seconds : moment.seconds < 2 ^ 63
  pub nanoseconds : moment.nanoseconds < 1000000000

-- what the wall clock stands at is a moment of it, and so is its resolution
pub record AreWithin (services : Handed) : Type 0 where
  pub wall : IsWallMoment services.wall
  pub wall_resolution : IsWallMoment services.wall_resolution
