-- What reads and writes do to what is left and taken, and which calls of an end in memory fail.
use Rattle.std.specs.Prelude.{ℕ, List, [], ◌+◌, ◌-◌, ◌^◌, ◌<◌, ◌≤◌, ◌≡◌, ◌++◌, Bool, true, ◌&&◌, if◌then◌else◌, nat_eq, nat_lt, min, length, take, drop, Option, Result, Ok, Err}
use Rattle.std.specs.List.{list_any}
use Rattle.wasi_io.specs.declared.reading.Unfinished.{Unfinished}
use Rattle.wasi_io.specs.declared.reading.Unfinished.TheVariants.{Long, Fault, Memory}

-- the next n bytes were given, none only at the end
pub record Gave (left rest buf : List ℕ) (n : ℕ) : Type 0 where
  pub next : left ≡ take n buf ++ rest
  pub ended : n ≡ 0 → 0 < length buf → left ≡ []

-- a front of these bytes was taken
pub record TookFront (taken now text : List ℕ) : Type 0 where
  pub count : ℕ
  pub front : now ≡ taken ++ take count text

-- how many bytes are read at most
abbrev pub most_bytes : ℕ
most_bytes = 16777216

-- a front of what was left was read, at most one byte past the limit
pub record ReadFront (left rest : List ℕ) : Type 0 where
  pub front : List ℕ
  pub whole : left ≡ front ++ rest
  pub short : length front ≤ most_bytes + 1

-- What reading to the end gives of what was left, and what is left then. A text that is too long is read one byte past
-- the limit, and no more than that is read before a fault or out of memory.
abbrev pub ReadAll : Result (List ℕ) Unfinished → List ℕ → List ℕ → Type 0
ReadAll (Ok bytes) left rest = (bytes ≡ left) × (rest ≡ []) × (length bytes ≤ most_bytes)
ReadAll (Err Long) left rest = (most_bytes < length left) × (rest ≡ drop (most_bytes + 1) left)
ReadAll (Err Fault) left rest = ReadFront left rest
ReadAll (Err Memory) left rest = ReadFront left rest

-- so many calls came, the calls of these numbers fail, and so many failed
pub record Schedule : Type 0 where
  pub calls : ℕ
  pub failing : List ℕ
  pub faults : ℕ

-- one more, which stands still at the end of the type
abbrev pub one_more : ℕ → ℕ
one_more n = min (n + 1) (2 ^ 64 - 1)

-- the next call is one of those that fail
abbrev pub is_listed : Schedule → Bool
is_listed s = nat_lt s.calls (2 ^ 64 - 1) && list_any (λ n. nat_eq n (s.calls + 1)) s.failing

-- after one more call, which failed or not
abbrev pub after_call : Schedule → Bool → Schedule
after_call s failed = record {
  calls = one_more s.calls;
  failing = s.failing;
  faults = if failed then one_more s.faults else s.faults;
}

-- what is known of the bytes that a reader has left, and how often it failed
pub record KnownLeft : Type 0 where
  pub left : Option (List ℕ)
  pub faults : ℕ

-- what is known of the bytes that a writer holds, and how often it failed, or took nothing
pub record KnownTaken : Type 0 where
  pub taken : Option (List ℕ)
  pub faults : ℕ

-- the bytes that a source in memory has left
pub record BytesLeft : Type 0 where
  pub left : List ℕ
  pub schedule : Schedule

-- the bytes that a sink in memory took, and for how many more it has room
pub record BytesTaken : Type 0 where
  pub taken : List ℕ
  pub room : ℕ
  pub schedule : Schedule

-- the next write of the piece is listed, or there is no room for any of it
abbrev pub is_refused : BytesTaken → List ℕ → Bool
is_refused s piece = if is_listed s.schedule then true else (nat_eq s.room 0 && nat_lt 0 (length piece))
