-- What is said of a value that may be absent.
use Rattle.std.specs.Prelude.{Option, None, Some}

-- what is said of nothing, and else of what is there
abbrev pub where_some : {X : Type 0} → Type 0 → (X → Type 0) → Option X → Type 0
where_some none some None = none
where_some none some (Some x) = some x
