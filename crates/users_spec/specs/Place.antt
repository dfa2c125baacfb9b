-- Places in a specification.
use Rattle.std.specs.Prelude.{ℕ, min}

-- the number by which a place names the group or the user that has this one, counted from 0
abbrev pub place_number : ℕ → ℕ
place_number at = min at 4294967295
