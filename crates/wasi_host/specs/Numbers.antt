-- The numbers that the table and the laws of a host name.
use Rattle.std.specs.Prelude.{ℕ, ◌^◌}

-- the nanoseconds of a second
abbrev pub second : ℕ
second = 1000000000

-- the bytes of the longest text of a link
abbrev pub longest_link : ℕ
longest_link = 4095

-- the bytes of the largest file
abbrev pub largest_file : ℕ
largest_file = 2 ^ 30
