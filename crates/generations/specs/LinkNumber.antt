-- The number of a generation in what bears it: the name or the path of its link, or a link to it.
use Rattle.std.specs.Prelude.{◌≡◌, ◌≢◌, ℕ, true, Option, None, Some}
use Rattle.generations.specs.Places.{is_number}

-- what something bears by a rule that says how each number is written: a generation's number, or none
abbrev pub Bears : {X : Type 0} → (ℕ → X) → X → Option ℕ → Type 0
Bears written x None = (n : ℕ) → is_number n ≡ true → x ≢ written n
Bears written x (Some n) = (x ≡ written n) × (is_number n ≡ true)
