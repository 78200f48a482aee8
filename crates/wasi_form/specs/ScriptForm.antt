-- The form of a whole script: an object with a key for each part, and no others.
use Rattle.std.specs.Prelude.{ℕ, List, [], ◌∷◌, ◌++◌, Bool, codes, Option, Some}
use Rattle.serde_json.specs.Data.{Data, Members}
use Rattle.serde_json.specs.Find as find
use Rattle.serde_json.specs.Find.{get_member}
use Rattle.wasi_guest.specs.Quotas.{no_quota}
use Rattle.wasi_guest.specs.declared.call.Call.{Call}
use Rattle.wasi_guest.specs.declared.quota.Quota.{Quota}
use Rattle.wasi_host.specs.declared.limits.Limits.{Limits}
use Rattle.wasi_tree.specs.NodeData.{NodeData}
use Rattle.wasi_host_faults.specs.declared.fault.Fault.{Fault}
use Rattle.wasi_form.specs.declared.script.Shown.{Shown}
use Rattle.wasi_form.specs.Lists.{◌>>=◌, names, only_if, needed, optional, list_of}
use Rattle.wasi_form.specs.Shapes.{u64_of, u32_of, all_keys}
use Rattle.wasi_form.specs.Plan.{PlannedPreopen, PlannedMemory, Plan}
use Rattle.wasi_form.specs.NodeForm.{script_node}
use Rattle.wasi_form.specs.PreopenForm.{preopen_of}
use Rattle.wasi_form.specs.LimitsForm.{default_limits, limits_of}
use Rattle.wasi_form.specs.MemoryForm.{no_memory, memory_of, shown_of}
use Rattle.wasi_form.specs.CallForm.{call_of}
use Rattle.wasi_form.specs.ServicesForm.{service_keys, ServicesFound, services_in, services_found}
use Rattle.wasi_form.specs.FaultsForm.{faults_of}
use Rattle.wasi_form.specs.QuotaForm.{quota_of}

-- how much fuel each call has in a script that doesn't say it
abbrev pub default_fuel : ℕ
default_fuel = 134217728

-- how many descriptors may be live in a script that doesn't say it
abbrev pub default_table : ℕ
default_table = 1024

-- Whether all keys are those of a script, and what stands at them. A part is `None` where it is of another shape, or is
-- missing and has to be there.
pub record ScriptFound : Type 0 where
  pub known : Bool
  pub nodes : Option (List NodeData)
  pub preopens : Option (List PlannedPreopen)
  pub calls : Option (List Call)
  pub memory : Option PlannedMemory
  pub show : Option (List Shown)
  pub limits : Option Limits
  pub fuel : Option ℕ
  pub table : Option ℕ
  pub faults : Option (List Fault)
  pub quota : Option Quota
  pub services : ServicesFound

-- The keys of the tree and of its faults, which a script has and a guest of several hasn't, each with what a member adds
-- there.
abbrev pub whole_members : List (List ℕ × (Data → ScriptFound → ScriptFound))
whole_members =
    (codes "nodes", λ d found. record found { nodes = list_of script_node d })
    ∷ (codes "limits", λ d found. record found { limits = limits_of d })
    ∷ (codes "faults", λ d found. record found { faults = faults_of d })
    ∷ []

-- the keys of a guest's own parts, each with what a member adds there
abbrev pub guest_members : List (List ℕ × (Data → ScriptFound → ScriptFound))
guest_members =
    (codes "preopens", λ d found. record found { preopens = list_of preopen_of d })
    ∷ (codes "calls", λ d found. record found { calls = list_of call_of d })
    ∷ (codes "memory", λ d found. record found { memory = memory_of d })
    ∷ (codes "show", λ d found. record found { show = list_of shown_of d })
    ∷ (codes "fuel", λ d found. record found { fuel = u64_of d })
    ∷ (codes "table", λ d found. record found { table = u32_of d })
    ∷ (codes "quota", λ d found. record found { quota = quota_of d })
    ∷ []

-- the keys of a script's own parts, each with what a member adds there
abbrev pub part_members : List (List ℕ × (Data → ScriptFound → ScriptFound))
part_members = whole_members ++ guest_members

unfoldable pub script_keys : List (List ℕ)
script_keys = names part_members ++ names service_keys

-- of all members
abbrev pub found_in : Members → ScriptFound
found_in ms = record {
  known = all_keys script_keys ms;
  nodes = needed (list_of script_node) (get_member (codes "nodes") ms);
  preopens = needed (list_of preopen_of) (get_member (codes "preopens") ms);
  calls = needed (list_of call_of) (get_member (codes "calls") ms);
  memory = optional memory_of no_memory (get_member (codes "memory") ms);
  show = optional (list_of shown_of) [] (get_member (codes "show") ms);
  limits = optional limits_of default_limits (get_member (codes "limits") ms);
  fuel = optional u64_of default_fuel (get_member (codes "fuel") ms);
  table = optional u32_of default_table (get_member (codes "table") ms);
  faults = optional faults_of [] (get_member (codes "faults") ms);
  quota = optional quota_of no_quota (get_member (codes "quota") ms);
  services = services_in ms;
}

-- what is run on a tree of these nodes, of what was found
unfoldable pub session_found : List NodeData → Limits → ScriptFound → Option Plan
session_found nodes limits found = do
  preopens ← found.preopens
  calls ← found.calls
  memory ← found.memory
  show ← found.show
  fuel ← found.fuel
  table ← found.table
  faults ← found.faults
  quota ← found.quota
  services ← services_found found.services
  Some (record {
    nodes = nodes;
    limits = limits;
    preopens = preopens;
    size = memory.size;
    pieces = memory.pieces;
    show = show;
    calls = calls;
    fuel = fuel;
    table = table;
    faults = faults;
    quota = quota;
    services = services;
  })

-- the plan of what was found, where it is of the shape of a script
unfoldable pub script_found : ScriptFound → Option Plan
script_found found = do
  _ ← only_if found.known
  nodes ← found.nodes
  limits ← found.limits
  session_found nodes limits found

abbrev pub script_of : Data → Option Plan
script_of d = find.as_object d >>= (λ ms. script_found (found_in ms))
