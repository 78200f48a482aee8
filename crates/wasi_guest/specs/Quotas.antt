-- Which quotas there are.
use Rattle.std.specs.Prelude.{◌^◌, ◌≤◌, None, IfSome}
use Rattle.wasi_guest.specs.declared.quota.Quota.{Quota}
use Rattle.wasi_guest.specs.declared.quota.QuotaUsed.{QuotaUsed}

-- no bound is past 2^62
pub record IsQuota (quota : Quota) : Type 0 where
  pub nodes : IfSome quota.nodes (λ most. most ≤ 2 ^ 62)
  pub bytes : IfSome quota.bytes (λ most. most ≤ 2 ^ 62)

-- no bound is set
abbrev pub no_quota : Quota
no_quota = record { nodes = None; bytes = None }

-- nothing is used
abbrev pub nothing_used : QuotaUsed
nothing_used = record { nodes = 0; bytes = 0 }
