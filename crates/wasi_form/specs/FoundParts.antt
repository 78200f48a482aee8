-- What the members of a script, and of the objects at its keys, are read as, one after another.
use Rattle.std.specs.Prelude.{ℕ, List, false, map, Option, Some, None, option_map, unwrap_or}
use Rattle.std.specs.String.{string_bytes}
use Rattle.serde_json.specs.Data.{Data}
use Rattle.wasi_tree.specs.NodeData.{node_data}
use Rattle.wasi_guest.specs.Services.{env_pair}
use Rattle.wasi_form.specs.declared.limits.LimitsParts.{LimitsParts}
use Rattle.wasi_form.specs.declared.memory.MemoryParts.{MemoryParts}
use Rattle.wasi_form.specs.declared.script_members.Parts.{Parts}
use Rattle.wasi_form.specs.declared.preopens.PreopenParts.{PreopenParts}
use Rattle.wasi_form.specs.declared.quota.QuotaParts.{QuotaParts}
use Rattle.wasi_form.specs.declared.services.ServiceKey.{ServiceKey}
use Rattle.wasi_form.specs.declared.services.ServiceKey.TheVariants.{Args, Env, Stdin, Wall, WallResolution, Monotonic, MonotonicResolution, Random}
use Rattle.wasi_form.specs.declared.services.ServiceParts.{ServiceParts}
use Rattle.wasi_form.specs.Lists.{same, at_name, list_seen}
use Rattle.wasi_form.specs.Plan.{planned_preopen, planned_piece, planned_memory}
use Rattle.wasi_form.specs.LimitsForm.{limits_members, LimitsFound}
use Rattle.wasi_form.specs.MemoryForm.{memory_members, MemoryFound}
use Rattle.wasi_form.specs.PreopenForm.{preopen_members, PreopenFound}
use Rattle.wasi_form.specs.QuotaForm.{quota_members, QuotaFound}
use Rattle.wasi_form.specs.ServicesForm.{args_of, env_of, wall_of, service_key, ServicesFound}
use Rattle.wasi_form.specs.Shapes.{u64_of, hex_of}
use Rattle.wasi_form.specs.ScriptForm.{part_members, ScriptFound}

-- of the parts of the services that were read
abbrev pub services_found_of : ServiceParts → ServicesFound
services_found_of parts = record {
  args = option_map (λ v. map string_bytes v.items) parts.args;
  env = option_map (λ v. map env_pair v.items) parts.env;
  stdin = option_map (λ v. v.items) parts.stdin;
  wall = option_map same parts.wall;
  wall_resolution = option_map same parts.wall_resolution;
  monotonic = option_map same parts.monotonic;
  monotonic_resolution = option_map same parts.monotonic_resolution;
  random = option_map (λ v. v.items) parts.random;
}

-- of the parts that were read
abbrev pub found_of : Parts → ScriptFound
found_of parts = record {
  known = parts.known;
  nodes = list_seen node_data parts.nodes;
  preopens = list_seen planned_preopen parts.preopens;
  calls = list_seen same parts.calls;
  memory = option_map planned_memory parts.memory;
  show = list_seen same parts.show;
  limits = option_map same parts.limits;
  fuel = option_map same parts.fuel;
  table = option_map same parts.table;
  faults = option_map (λ v. v.items) parts.faults;
  quota = option_map same parts.quota;
  services = services_found_of parts.services;
}

-- what stands at the keys of the services, with a member at one of them
abbrev pub services_with : ServiceKey → Data → ServicesFound → ServicesFound
services_with Args d found = record found { args = args_of d }
services_with Env d found = record found { env = env_of d }
services_with Stdin d found = record found { stdin = hex_of d }
services_with Wall d found = record found { wall = wall_of d }
services_with WallResolution d found = record found { wall_resolution = wall_of d }
services_with Monotonic d found = record found { monotonic = u64_of d }
services_with MonotonicResolution d found = record found { monotonic_resolution = u64_of d }
services_with Random d found = record found { random = hex_of d }

-- with a member at a key of the services
abbrev pub with_service : ServiceKey → Data → ScriptFound → ScriptFound
with_service key d found = record found { services = services_with key d found.services }

-- with a member at a key of the services, or at no key of a script
abbrev pub with_beside : Option ServiceKey → Data → ScriptFound → ScriptFound
with_beside None d found = record found { known = false }
with_beside (Some service) d found = with_service service d found

-- with one more member, which counts for those before it at its key
unfoldable pub with_member : List ℕ → Data → ScriptFound → ScriptFound
with_member key d found = unwrap_or (at_name part_members key) (with_beside (service_key key)) d found

-- of the parts of a memory that were read
abbrev pub memory_found_of : MemoryParts → MemoryFound
memory_found_of parts =
    record { known = parts.known; size = option_map same parts.size; pieces = list_seen planned_piece parts.pieces }

-- with one more member, which counts for those before it at its key
unfoldable pub with_memory_member : List ℕ → Data → MemoryFound → MemoryFound
with_memory_member key d found = unwrap_or (at_name memory_members key) (λ _ all. record all { known = false }) d found

-- of the limits that were read
abbrev pub limits_found_of : LimitsParts → LimitsFound
limits_found_of parts =
    record { known = parts.known; nodes = option_map same parts.nodes; links = option_map same parts.links }

-- with one more member, which counts for those before it at its key
unfoldable pub with_limits_member : List ℕ → Data → LimitsFound → LimitsFound
with_limits_member key d found = unwrap_or (at_name limits_members key) (λ _ all. record all { known = false }) d found

-- of the quotas that were read
abbrev pub quota_found_of : QuotaParts → QuotaFound
quota_found_of parts =
    record { known = parts.known; nodes = option_map same parts.nodes; bytes = option_map same parts.bytes }

-- with one more member, which counts for those before it at its key
unfoldable pub with_quota_member : List ℕ → Data → QuotaFound → QuotaFound
with_quota_member key d found = unwrap_or (at_name quota_members key) (λ _ all. record all { known = false }) d found

-- of the directory that was read
abbrev pub preopen_found_of : PreopenParts → PreopenFound
preopen_found_of parts = record {
  known = parts.known;
  node = option_map same parts.node;
  name = option_map string_bytes parts.name;
  perms = option_map same parts.perms;
}

-- with one more member, which counts for those before it at its key
unfoldable pub with_preopen_member : List ℕ → Data → PreopenFound → PreopenFound
with_preopen_member key d found = unwrap_or (at_name preopen_members key) (λ _ all. record all { known = false }) d found
