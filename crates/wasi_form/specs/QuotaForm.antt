-- The form of a guest's quotas: `{"nodes": BOUND, "bytes": BOUND}`, each bound from 0 to 2^62.
use Rattle.std.specs.Prelude.{ℕ, ◌^◌, List, [], ◌∷◌, Bool, ◌&&◌, nat_le, codes, Option, Some}
use Rattle.serde_json.specs.Data.{Data, Members}
use Rattle.serde_json.specs.Find as find
use Rattle.serde_json.specs.Find.{get_member}
use Rattle.wasi_guest.specs.declared.quota.Quota.{Quota}
use Rattle.wasi_form.specs.Lists.{◌>>=◌, names, only_if, needed}
use Rattle.wasi_form.specs.Shapes.{u64_of, all_keys}

-- from 0 to 2^62
abbrev pub is_bound : ℕ → Bool
is_bound n = nat_le n (2 ^ 62)

-- whether all keys are those of quotas, and what stands at them: `None` where it is missing or of another shape
pub record QuotaFound : Type 0 where
  pub known : Bool
  pub nodes : Option ℕ
  pub bytes : Option ℕ

-- the keys, each with what a member adds there
abbrev pub quota_members : List (List ℕ × (Data → QuotaFound → QuotaFound))
quota_members =
    (codes "nodes", λ d found. record found { nodes = u64_of d })
    ∷ (codes "bytes", λ d found. record found { bytes = u64_of d })
    ∷ []

-- of all members
abbrev pub quota_in : Members → QuotaFound
quota_in ms = record {
  known = all_keys (names quota_members) ms;
  nodes = needed u64_of (get_member (codes "nodes") ms);
  bytes = needed u64_of (get_member (codes "bytes") ms);
}

-- the quotas of what was found: both are set
unfoldable pub quota_found : QuotaFound → Option Quota
quota_found found = do
  _ ← only_if found.known
  nodes ← found.nodes
  bytes ← found.bytes
  _ ← only_if (is_bound nodes && is_bound bytes)
  Some (record { nodes = Some nodes; bytes = Some bytes })

-- `{"nodes": BOUND, "bytes": BOUND}`
abbrev pub quota_of : Data → Option Quota
quota_of d = find.as_object d >>= (λ ms. quota_found (quota_in ms))
