-- The numbers that a number gives: Knuth, "The Art of Computer Programming", volume 2, section 3.3.4, table 1 (MMIX).
use Rattle.std.specs.Prelude.{◌+◌, ◌*◌, ◌/◌, ◌%◌, ◌^◌, ℕ, zero, suc}

-- the state of the generator after one
abbrev pub next_state : ℕ → ℕ
next_state state = (state * 6364136223846793005 + 1442695040888963407) % 2 ^ 64

-- the state after so many draws
abbrev pub state_at : ℕ → ℕ → ℕ
state_at number zero = number
state_at number (suc count) = next_state (state_at number count)

-- what a state gives: its 31 higher bits
abbrev pub draw_of : ℕ → ℕ
draw_of state = state / 2 ^ 33

-- the draw with this number, where the first has the number 1
abbrev pub draw_at : ℕ → ℕ → ℕ
draw_at number count = draw_of (state_at number count)
