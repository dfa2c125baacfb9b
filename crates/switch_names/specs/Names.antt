-- Lists of names.
use Rattle.std.specs.Prelude.{◌↔◌, ℕ, Bool, IsTrue, List}
use Rattle.std.specs.BTreeMap.{is_at}
use Rattle.std.specs.Cmp.Lexicographic.{slice_cmp}
use Rattle.std.specs.List.{list_any}
use Rattle.std.specs.List.Sorted.{IsStrictlySortedBy}
use Rattle.std.specs.Ordering.{nat_cmp}

-- a name, as contracts see it
abbrev pub Name : Type 0
Name = List ℕ

-- whether a name is another one
abbrev pub is_name : Name → Name → Bool
is_name other name = is_at (slice_cmp nat_cmp other) name

-- whether a list has this name
abbrev pub has : List Name → Name → Bool
has names name = list_any (is_name name) names

-- a list in byte order without repeats that has exactly the names of which P holds
pub record IsListOf (names : List Name) (P : Name → Type 0) : Type 0 where
  pub sorted : IsStrictlySortedBy (slice_cmp nat_cmp) names
  pub exact : (name : Name) → IsTrue (has names name) ↔ P name
