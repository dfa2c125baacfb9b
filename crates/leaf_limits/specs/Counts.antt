-- How many units, entries and rows there may be.
use Rattle.std.specs.Prelude.{◌^◌, ℕ, nat_lt, Option, None, Some, if◌then◌else◌}

-- the greatest number of units of one system: 16,384
abbrev pub units_max : ℕ
units_max = 2 ^ 14

-- the greatest number of entries below /etc of one system: 131,072
abbrev pub entries_max : ℕ
entries_max = 2 ^ 17

-- the greatest number of rows of one account table: 65,536
abbrev pub rows_max : ℕ
rows_max = 2 ^ 16

-- a count, where it is past the greatest
abbrev pub past : ℕ → ℕ → Option ℕ
past most count = if nat_lt most count then Some count else None
