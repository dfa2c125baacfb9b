-- The number whose digits stand in a text, by a rule that says how each number is written.
use Rattle.std.specs.Prelude.{◌≡◌, ◌≢◌, ◌<◌, ◌^◌, ℕ, List, Option, None, Some}

-- what a text bears: a number of 32 bits, or none
abbrev pub BearsNumber : (ℕ → List ℕ) → List ℕ → Option ℕ → Type 0
BearsNumber written text None = (n : ℕ) → n < 2 ^ 32 → text ≢ written n
BearsNumber written text (Some n) = (text ≡ written n) × (n < 2 ^ 32)
