-- Where the digits of a table lie: a column of a coordinate in one piece of 32, a coordinate in one piece of 1,024.
-- Assumes nothing.
use Rattle.std.specs.Prelude.{ℕ, ◌+◌, ◌-◌, ◌*◌, ◌/◌, ◌%◌, Bool, ◌&&◌, nat_lt}

-- the place of coordinate j, row k (from 1) and column l
abbrev pub place : ℕ → ℕ → ℕ → ℕ
place j k l = j * 1024 + l * 32 + (k - 1)

-- the coordinate of a place
abbrev pub coordinate_at : ℕ → ℕ
coordinate_at i = i / 1024

-- the row of a place, from 1
abbrev pub row_at : ℕ → ℕ
row_at i = i % 32 + 1

-- the column of a place
abbrev pub column_at : ℕ → ℕ
column_at i = i / 32 % 32

-- a table of M digits and s coordinates has a digit at the place
abbrev pub used : ℕ → ℕ → ℕ → Bool
used M s i = nat_lt (coordinate_at i) s && (nat_lt (i % 32) M && nat_lt (column_at i) M)
