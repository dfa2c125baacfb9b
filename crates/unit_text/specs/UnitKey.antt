-- Keys of a unit file, each in its section.
use Rattle.std.specs.Prelude.{ℕ, ◌&&◌, Bool, List, nat_eq}
use Rattle.std.specs.Cmp.Lexicographic.{slice_cmp, pointwise}
use Rattle.std.specs.List.{list_any}
use Rattle.std.specs.Ordering.{nat_cmp, ordering_then}
use Rattle.std.specs.declared.cmp.Ordering.{Ordering}
use Rattle.unit_text.specs.declared.unit_key.UnitKey.{UnitKey}

abbrev pub key_of : List ℕ → List ℕ → UnitKey
key_of section key = record { section = section; key = key }

-- by section, and then by key, in byte order
abbrev pub key_cmp : UnitKey → UnitKey → Ordering
key_cmp a b = ordering_then (slice_cmp nat_cmp a.section b.section) (slice_cmp nat_cmp a.key b.key)

-- both have the same section and the same key
abbrev pub is_same_key : UnitKey → UnitKey → Bool
is_same_key a b = pointwise nat_eq a.section b.section && pointwise nat_eq a.key b.key

abbrev pub has_key : List UnitKey → UnitKey → Bool
has_key keys key = list_any (is_same_key key) keys
