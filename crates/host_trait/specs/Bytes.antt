-- Paths and names are in the order of their bytes.
use Rattle.std.specs.Prelude.{ℕ, List}
use Rattle.std.specs.Cmp.Lexicographic.{slice_cmp}
use Rattle.std.specs.Ordering.{nat_cmp}

abbrev pub bytes_cmp : List ℕ → List ℕ → Rattle.std.specs.declared.cmp.Ordering.Ordering
bytes_cmp = slice_cmp nat_cmp
