-- What contracts say of any text.
use Rattle.std.specs.Prelude.{ℕ, ◌-◌, ◌==◌, Bool, List, length, take, drop, nat_eq, Option, None, Some, if◌then◌else◌}
use Rattle.std.specs.List.{starts_with, ends_with}

abbrev pub is_line_feed : ℕ → Bool
is_line_feed byte = byte == 10

abbrev pub is_empty : List ℕ → Bool
is_empty text = length text == 0

-- what a text has before an ending
abbrev pub before_end : List ℕ → List ℕ → Option (List ℕ)
before_end end text = if ends_with nat_eq text end then Some (take (length text - length end) text) else None

-- what a text has after a front
abbrev pub after_front : List ℕ → List ℕ → Option (List ℕ)
after_front front text = if starts_with nat_eq text front then Some (drop (length front) text) else None
