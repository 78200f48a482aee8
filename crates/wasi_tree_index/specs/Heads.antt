-- What a name begins with, as a number.
use Rattle.std.specs.Prelude.{ℕ, zero, suc, ◌+◌, ◌*◌, drop, slice_index_or, List}

-- a number, and after it the first bytes of a list, so many; where the list has fewer, zeros
unfoldable pub number_behind : ℕ → ℕ → List ℕ → ℕ
number_behind zero number bytes = number
number_behind (suc n) number bytes = number_behind n (number * 256 + slice_index_or bytes 0 0) (drop 1 bytes)

-- the number that the first eight bytes of a name make
abbrev pub head_of : List ℕ → ℕ
head_of name = number_behind 8 0 name
