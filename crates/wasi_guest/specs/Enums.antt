-- The enumerations of preview1 as numbers.
use Rattle.std.specs.Prelude.{ℕ, nat_le, Bool, List, [], ◌∷◌, Option, slice_get}
use Rattle.wasi_guest.specs.declared.enums.Whence.{Whence}
use Rattle.wasi_guest.specs.declared.enums.Whence.TheVariants as whences
use Rattle.wasi_guest.specs.declared.enums.Clockid.{Clockid}
use Rattle.wasi_guest.specs.declared.enums.Clockid.TheVariants as clockids
use Rattle.wasi_guest.specs.declared.enums.Advice.{Advice}
use Rattle.wasi_guest.specs.declared.enums.Advice.TheVariants as advices
use Rattle.wasi_guest.specs.declared.enums.Eventtype.{Eventtype}
use Rattle.wasi_guest.specs.declared.enums.Eventtype.TheVariants as eventtypes

-- in the order of their numbers, from 0 on
abbrev pub all_whences : List Whence
all_whences =
    whences.Set ∷ whences.Cur ∷ whences.End ∷ []

abbrev pub whence_of : ℕ → Option Whence
whence_of n = slice_get all_whences n

-- in the order of their numbers, from 0 on
abbrev pub all_clockids : List Clockid
all_clockids =
    clockids.Realtime ∷ clockids.Monotonic ∷ clockids.ProcessCputimeId ∷ clockids.ThreadCputimeId ∷ []

abbrev pub clockid_of : ℕ → Option Clockid
clockid_of n = slice_get all_clockids n

-- in the order of their numbers, from 0 on
abbrev pub all_advices : List Advice
all_advices =
    advices.Normal ∷ advices.Sequential ∷ advices.Random ∷ advices.WillNeed ∷ advices.DontNeed ∷ advices.NoReuse ∷ []

abbrev pub advice_of : ℕ → Option Advice
advice_of n = slice_get all_advices n

-- in the order of their numbers, from 0 on
abbrev pub all_eventtypes : List Eventtype
all_eventtypes =
    eventtypes.Clock ∷ eventtypes.FdRead ∷ eventtypes.FdWrite ∷ []

abbrev pub eventtype_of : ℕ → Option Eventtype
eventtype_of n = slice_get all_eventtypes n

-- preview1's number
abbrev pub eventtype_number : Eventtype → ℕ
eventtype_number eventtypes.Clock = 0
eventtype_number eventtypes.FdRead = 1
eventtype_number eventtypes.FdWrite = 2

-- preview1's signals are numbered from 0 to 30
abbrev pub is_signal : ℕ → Bool
is_signal n = nat_le n 30
