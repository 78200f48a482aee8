-- The form of several guests that run in turns over one tree: an object with `nodes`, `guests` and `schedule`, with
-- `limits` if they are wanted, and no others.
use Rattle.std.specs.Prelude.{ℕ, List, [], ◌∷◌, ◌++◌, map, length, nat_lt, Bool, codes, Option, Some, None}
use Rattle.std.specs.List.{list_all}
use Rattle.serde_json.specs.Data.{Data, Members}
use Rattle.serde_json.specs.Find as find
use Rattle.serde_json.specs.Find.{get_member}
use Rattle.wasi_host.specs.declared.limits.Limits.{Limits}
use Rattle.wasi_tree.specs.NodeData.{NodeData}
use Rattle.wasi_form.specs.Lists.{◌>>=◌, names, only_if, needed, optional, list_of}
use Rattle.wasi_form.specs.Shapes.{u32_of, all_keys}
use Rattle.wasi_form.specs.Plan.{Plan, GuestsPlan, on_tree}
use Rattle.wasi_form.specs.NodeForm.{script_node}
use Rattle.wasi_form.specs.LimitsForm.{default_limits, limits_of}
use Rattle.wasi_form.specs.ServicesForm.{service_keys}
use Rattle.wasi_form.specs.ScriptForm.{ScriptFound, guest_members, found_in, session_found}

-- ---- a guest

-- the keys of a guest: those of a script, but for the tree and its faults
unfoldable pub guest_keys : List (List ℕ)
guest_keys = names guest_members ++ names service_keys

-- what was found of a script, with nothing of a tree and its faults
abbrev pub without_tree : Bool → ScriptFound → ScriptFound
without_tree known found =
    record found { known = known; nodes = None; limits = Some default_limits; faults = Some [] }

-- whether all keys are those of a guest, and what stands at them, as in a script
abbrev pub guest_in : Members → ScriptFound
guest_in ms = without_tree (all_keys guest_keys ms) (found_in ms)

-- the guest of what was found, on no tree yet
unfoldable pub guest_found : ScriptFound → Option Plan
guest_found found = do
  _ ← only_if found.known
  session_found [] default_limits found

abbrev pub guest_of : Data → Option Plan
guest_of d = find.as_object d >>= (λ ms. guest_found (guest_in ms))

-- ---- the whole

-- Whether all keys are those of several guests, and what stands at them. A part is `None` where it is of another shape, or
-- is missing and has to be there.
pub record GuestsFound : Type 0 where
  pub known : Bool
  pub nodes : Option (List NodeData)
  pub limits : Option Limits
  pub guests : Option (List Plan)
  pub schedule : Option (List ℕ)

-- the keys, each with what a member adds there
abbrev pub guests_members : List (List ℕ × (Data → GuestsFound → GuestsFound))
guests_members =
    (codes "nodes", λ d found. record found { nodes = list_of script_node d })
    ∷ (codes "limits", λ d found. record found { limits = limits_of d })
    ∷ (codes "guests", λ d found. record found { guests = list_of guest_of d })
    ∷ (codes "schedule", λ d found. record found { schedule = list_of u32_of d })
    ∷ []

-- of all members
abbrev pub guests_in : Members → GuestsFound
guests_in ms = record {
  known = all_keys (names guests_members) ms;
  nodes = needed (list_of script_node) (get_member (codes "nodes") ms);
  limits = optional limits_of default_limits (get_member (codes "limits") ms);
  guests = needed (list_of guest_of) (get_member (codes "guests") ms);
  schedule = needed (list_of u32_of) (get_member (codes "schedule") ms);
}

-- each number of a schedule is that of one of so many guests
abbrev pub names_guests : ℕ → List ℕ → Bool
names_guests count schedule = list_all (λ guest. nat_lt guest count) schedule

-- the guests of what was found, each on the tree of the whole
unfoldable pub guests_found : GuestsFound → Option GuestsPlan
guests_found found = do
  _ ← only_if found.known
  nodes ← found.nodes
  limits ← found.limits
  guests ← found.guests
  schedule ← found.schedule
  _ ← only_if (names_guests (length guests) schedule)
  Some (record { nodes = nodes; limits = limits; guests = map (on_tree nodes limits) guests; schedule = schedule })

abbrev pub guests_of : Data → Option GuestsPlan
guests_of d = find.as_object d >>= (λ ms. guests_found (guests_in ms))
