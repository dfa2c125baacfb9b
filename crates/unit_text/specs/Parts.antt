-- The keys of a text in two parts, with their values.
use Rattle.std.specs.Prelude.{◌≡◌, false, List, map}
use Rattle.std.specs.List.Sorted.{IsStrictlySortedBy}
use Rattle.unit_text.specs.declared.assignment.Assignment.{Assignment}
use Rattle.unit_text.specs.declared.parts.Parts.{Parts}
use Rattle.unit_text.specs.declared.unit_key.UnitKey.{UnitKey}
use Rattle.unit_text.specs.UnitKey.{key_cmp, has_key}
use Rattle.unit_text.specs.UnitText.{AreAssignedIn, values_of}

-- the keys of the assignments with which a text begins, and those whose values later ones may have changed
pub record AreParts (parts : Parts) : Type 0 where
  pub front : List Assignment
  pub front_keys : AreAssignedIn front parts.front_keys.now
  pub front_values : parts.front_values.now ≡ map (values_of front) parts.front_keys.now
  pub changed_sorted : IsStrictlySortedBy key_cmp parts.changed_keys.now
  pub changed_values : parts.changed_values.now ≡ map (values_of parts.text.now) parts.changed_keys.now
  pub others : (key : UnitKey) → has_key parts.changed_keys.now key ≡ false → values_of parts.text.now key ≡ values_of front key
