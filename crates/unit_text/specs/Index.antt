-- The keys that assignments assign, with their values, so that they are found without going through all assignments.
use Rattle.std.specs.Prelude.{◌≡◌, ℕ, ◌≤◌, List, ◌++◌, length, map, take, drop}
use Rattle.std.specs.List.{AllByRecursion}
use Rattle.std.specs.declared.cmp.Ordering.TheVariants.{Less}
use Rattle.unit_text.specs.declared.assignment.Assignment.{Assignment}
use Rattle.unit_text.specs.declared.index.Index.{Index}
use Rattle.unit_text.specs.declared.unit_key.UnitKey.{UnitKey}
use Rattle.unit_text.specs.UnitKey.{key_cmp}
use Rattle.unit_text.specs.UnitText.{AreAssignedIn, values_of}

-- each key that the later assignments assign, in order, with the values that it has after both
pub record IsIndexOf (front later : List Assignment) (index : Index) : Type 0 where
  pub keys : AreAssignedIn later index.keys
  pub values : index.values.items ≡ map (values_of (front ++ later)) index.keys

-- the keys before this place are lower than a key, those from it on are higher
pub record IsPlaceFor (keys : List UnitKey) (key : UnitKey) (at : ℕ) : Type 0 where
  pub within : at ≤ length keys
  pub lower : AllByRecursion (λ other. key_cmp other key ≡ Less) (take at keys)
  pub higher : AllByRecursion (λ other. key_cmp key other ≡ Less) (drop at keys)
