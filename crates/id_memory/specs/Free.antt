-- Free ids: login.defs(5), "UID_MIN" and "SYS_UID_MAX".
use Rattle.std.specs.Prelude.{ℕ, ◌+◌, ◌-◌, Bool, true, not, List, nat_le, reverse, slice_index_or, if◌then◌else◌}
use Rattle.std.specs.List.{range_with_len}

-- the numbers from one towards another, upwards or downwards, both among them
abbrev pub numbers_towards : ℕ → ℕ → List ℕ
numbers_towards from to =
    if nat_le from to then range_with_len from (to + 1 - from) else reverse (range_with_len to (from + 1 - to))

-- the list says of an id that it isn't taken
abbrev pub is_free : List Bool → ℕ → Bool
is_free taken id = not (slice_index_or taken id true)
