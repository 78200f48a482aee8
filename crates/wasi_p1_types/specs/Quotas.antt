-- What a guest has used of its quotas, and what is counted.
use Rattle.std.specs.Prelude.{ℕ, ◌+◌, ◌-◌, ◌^◌, ◌≤◌, ◌≡◌, nat_le, nat_lt, Bool, true, false, List, [], ◌∷◌, length, Option, Some, None, option_map, if◌then◌else◌}
use Rattle.wasi_fs.specs.OpenFlags.{includes}
use Rattle.wasi_fs.specs.OpenMode.{mode_bits}
use Rattle.wasi_fs.specs.declared.open_mode.OpenMode.{OpenMode}
use Rattle.wasi_guest.specs.Quotas.{nothing_used}
use Rattle.wasi_guest.specs.declared.quota.Quota.{Quota}
use Rattle.wasi_guest.specs.declared.quota.QuotaUsed.{QuotaUsed}
use Rattle.wasi_p1_types.specs.GuestEnvModel.{GuestEnvModel}
use Rattle.wasi_p1_types.specs.declared.quotas.Allowance.{Allowance}
use Rattle.wasi_p1_types.specs.declared.quotas.FileEnd.{FileEnd}
use Rattle.wasi_p1_types.specs.declared.quotas.FileEnd.TheVariants.{Behind, At}

-- ---- counts

-- a count goes on where its bound is set, and else it stays
abbrev pub count_on : Option ℕ → ℕ → ℕ → ℕ
count_on None used more = used
count_on (Some most) used more = used + more

-- one making more is counted
abbrev pub counted_making : GuestEnvModel → GuestEnvModel
counted_making s = record s { used = record s.used { nodes = count_on s.quota.nodes s.used.nodes 1 } }

-- one more where something is made
abbrev pub counted_makings : Bool → GuestEnvModel → GuestEnvModel
counted_makings true s = counted_making s
counted_makings false s = s

-- so many grown bytes more are
abbrev pub counted_growth : ℕ → GuestEnvModel → GuestEnvModel
counted_growth growth s = record s { used = record s.used { bytes = count_on s.quota.bytes s.used.bytes growth } }

-- the bound is set, and as much as it is used
abbrev pub is_used_up : Option ℕ → ℕ → Bool
is_used_up None used = false
is_used_up (Some most) used = nat_le most used

-- a count is within its bound, which is at most 2^62; without one it is 0
abbrev pub IsWithin : Option ℕ → ℕ → Type 0
IsWithin None used = used ≡ 0
IsWithin (Some most) used = (used ≤ most) × (most ≤ 2 ^ 62)

pub record IsWithinQuota (quota : Quota) (used : QuotaUsed) : Type 0 where
  pub nodes : IsWithin quota.nodes used.nodes
  pub bytes : IsWithin quota.bytes used.bytes

-- a quota is set, of which nothing is used
abbrev pub with_quota : Quota → GuestEnvModel → GuestEnvModel
with_quota quota s = record s { quota = quota; used = nothing_used }

-- ---- growth

-- The number of bytes by which a file's end after a write or a new size passes its size before it, or 0: a piece after
-- its last byte is that much, and an end at a place of the file what that is past the size
abbrev pub growth_to : ℕ → FileEnd → ℕ
growth_to size (Behind more) = more
growth_to size (At end) = end - size

-- the end of a piece that is put from an offset on; an empty one moves no end
abbrev pub end_of_piece : ℕ → List ℕ → FileEnd
end_of_piece offset [] = Behind 0
end_of_piece offset (b ∷ rest) = At (offset + length (b ∷ rest))

-- it is reckoned for a descriptor that was opened for writing, and 0 of another
abbrev pub growth_within : Allowance → FileEnd → ℕ → ℕ
growth_within limit end size = if limit.may_grow then growth_to size end else 0

-- what is used would be above the bound with that
abbrev pub is_above : Allowance → ℕ → Bool
is_above limit growth = nat_lt limit.most (limit.used + growth)

-- what the bound on bytes leaves to a descriptor, where it is set
abbrev pub allowance : GuestEnvModel → OpenMode → Option Allowance
allowance s mode = option_map
    (λ most. record { most = most; used = s.used.bytes; may_grow = includes (mode_bits mode) 2 }) s.quota.bytes
