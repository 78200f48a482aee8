-- The forms of what a guest is handed in beside its directories: a key of the script for each part.
use Rattle.std.specs.Prelude.{ℕ, ◌^◌, List, [], ◌∷◌, ◌&&◌, nat_lt, codes, Option, Some}
use Rattle.serde_json.specs.Data.{Data, Items, Members}
use Rattle.serde_json.specs.Find as find
use Rattle.serde_json.specs.Find.{get_member}
use Rattle.wasi_guest.specs.Services.{Handed}
use Rattle.wasi_guest.specs.declared.guest_env.WallDatetime.{WallDatetime}
use Rattle.wasi_form.specs.declared.services.ServiceKey.{ServiceKey}
use Rattle.wasi_form.specs.declared.services.ServiceKey.TheVariants.{Args, Env, Stdin, Wall, WallResolution, Monotonic, MonotonicResolution, Random}
use Rattle.wasi_form.specs.Lists.{◌>>=◌, at_name, only_if, optional, list_of}
use Rattle.wasi_form.specs.Shapes.{u64_of, u32_of, hex_of, two_in}

-- a list of texts
abbrev pub args_of : Data → Option (List (List ℕ))
args_of d = list_of find.as_str d

-- `[KEY, VALUE]`, two texts
abbrev pub env_pair_of_items : Items → Option (List ℕ × List ℕ)
env_pair_of_items ds = do
  two ← two_in ds
  key ← find.as_str two.0
  value ← find.as_str two.1
  Some (key, value)

abbrev pub env_pair_of : Data → Option (List ℕ × List ℕ)
env_pair_of d = find.as_array d >>= env_pair_of_items

-- a list of such pairs
abbrev pub env_of : Data → Option (List (List ℕ × List ℕ))
env_of d = list_of env_pair_of d

-- `[SECONDS, NANOSECONDS]`: below 2^63 seconds, and nanoseconds that make no second
abbrev pub wall_of_items : Items → Option WallDatetime
wall_of_items ds = do
  two ← two_in ds
  seconds ← u64_of two.0
  nanoseconds ← u32_of two.1
  _ ← only_if (nat_lt seconds (2 ^ 63) && nat_lt nanoseconds 1000000000)
  Some (record { seconds = seconds; nanoseconds = nanoseconds })

abbrev pub wall_of : Data → Option WallDatetime
wall_of d = find.as_array d >>= wall_of_items

-- the keys, each with the part that stands at it
abbrev pub service_keys : List (List ℕ × ServiceKey)
service_keys =
    (codes "args", Args)
    ∷ (codes "env", Env)
    ∷ (codes "stdin", Stdin)
    ∷ (codes "wall", Wall)
    ∷ (codes "wall_res", WallResolution)
    ∷ (codes "mono", Monotonic)
    ∷ (codes "mono_res", MonotonicResolution)
    ∷ (codes "random", Random)
    ∷ []

-- the part that stands at a key, where it is one of these
unfoldable pub service_key : List ℕ → Option ServiceKey
service_key key = at_name service_keys key

-- what stands at each of the keys, or counts where nothing does; `None` where it is of another shape
pub record ServicesFound : Type 0 where
  pub args : Option (List (List ℕ))
  pub env : Option (List (List ℕ × List ℕ))
  pub stdin : Option (List ℕ)
  pub wall : Option WallDatetime
  pub wall_resolution : Option WallDatetime
  pub monotonic : Option ℕ
  pub monotonic_resolution : Option ℕ
  pub random : Option (List ℕ)

-- the epoch, and one nanosecond
abbrev pub default_wall : WallDatetime
default_wall = record { seconds = 0; nanoseconds = 0 }

abbrev pub default_wall_resolution : WallDatetime
default_wall_resolution = record { seconds = 0; nanoseconds = 1 }

-- of all members
abbrev pub services_in : Members → ServicesFound
services_in ms = record {
  args = optional args_of [] (get_member (codes "args") ms);
  env = optional env_of [] (get_member (codes "env") ms);
  stdin = optional hex_of [] (get_member (codes "stdin") ms);
  wall = optional wall_of default_wall (get_member (codes "wall") ms);
  wall_resolution = optional wall_of default_wall_resolution (get_member (codes "wall_res") ms);
  monotonic = optional u64_of 0 (get_member (codes "mono") ms);
  monotonic_resolution = optional u64_of 1 (get_member (codes "mono_res") ms);
  random = optional hex_of [] (get_member (codes "random") ms);
}

-- the services of what was found
unfoldable pub services_found : ServicesFound → Option Handed
services_found found = do
  args ← found.args
  env ← found.env
  stdin ← found.stdin
  wall ← found.wall
  wall_resolution ← found.wall_resolution
  monotonic ← found.monotonic
  monotonic_resolution ← found.monotonic_resolution
  random ← found.random
  Some (record {
    args = args;
    env = env;
    stdin = stdin;
    wall = wall;
    wall_resolution = wall_resolution;
    monotonic = monotonic;
    monotonic_resolution = monotonic_resolution;
    random = random;
  })
