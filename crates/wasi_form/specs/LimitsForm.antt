-- The form of a tree's limits: `{"nodes": LIMIT, "links": LIMIT}`, each limit from 1 to 2^32.
use Rattle.std.specs.Prelude.{ℕ, ◌^◌, List, [], ◌∷◌, Bool, ◌&&◌, nat_le, codes, Option, Some}
use Rattle.serde_json.specs.Data.{Data, Members}
use Rattle.serde_json.specs.Find as find
use Rattle.serde_json.specs.Find.{get_member}
use Rattle.wasi_host.specs.declared.limits.Limits.{Limits}
use Rattle.wasi_form.specs.Lists.{◌>>=◌, names, only_if, needed}
use Rattle.wasi_form.specs.Shapes.{u64_of, all_keys}

-- the limits of a tree whose script doesn't set them
abbrev pub default_limits : Limits
default_limits = record { nodes = 1048576; links = 65000 }

-- from 1 to 2^32
abbrev pub is_limit : ℕ → Bool
is_limit n = nat_le 1 n && nat_le n (2 ^ 32)

-- whether all keys are those of limits, and what stands at them: `None` where it is missing or of another shape
pub record LimitsFound : Type 0 where
  pub known : Bool
  pub nodes : Option ℕ
  pub links : Option ℕ

-- the keys, each with what a member adds there
abbrev pub limits_members : List (List ℕ × (Data → LimitsFound → LimitsFound))
limits_members =
    (codes "nodes", λ d found. record found { nodes = u64_of d })
    ∷ (codes "links", λ d found. record found { links = u64_of d })
    ∷ []

-- of all members
abbrev pub limits_in : Members → LimitsFound
limits_in ms = record {
  known = all_keys (names limits_members) ms;
  nodes = needed u64_of (get_member (codes "nodes") ms);
  links = needed u64_of (get_member (codes "links") ms);
}

-- the limits of what was found
unfoldable pub limits_found : LimitsFound → Option Limits
limits_found found = do
  _ ← only_if found.known
  nodes ← found.nodes
  links ← found.links
  _ ← only_if (is_limit nodes && is_limit links)
  Some (record { nodes = nodes; links = links })

-- `{"nodes": LIMIT, "links": LIMIT}`
abbrev pub limits_of : Data → Option Limits
limits_of d = find.as_object d >>= (λ ms. limits_found (limits_in ms))
