-- The cycles in which units wait for one another: systemd.unit(5), "Before=, After=".
use Rattle.std.specs.Prelude.{◌≡◌, ◌≤◌, ◌-◌, ◌++◌, ℕ, suc, true, List, [], ◌∷◌, length, take, Some, slice_get}
use Rattle.start_order.specs.declared.edge.Edge.{Edge}
use Rattle.start_order.specs.declared.ordered.Cycle.{Cycle}
use Rattle.start_order.specs.Order.{is_before, left_of, waits_for}
use Rattle.switch_names.specs.Names.{Name}

-- each of these units waits for the next one
abbrev pub IsWalk : List Edge → List Name → List Name → Type 0
IsWalk edges left walk = (k : ℕ) (unit next : Name) → slice_get walk k ≡ Some unit → slice_get walk (suc k) ≡ Some next → waits_for edges left unit ≡ Some next

-- no name stands in the list twice
abbrev pub IsOnce : List Name → Type 0
IsOnce names = (j k : ℕ) (name : Name) → slice_get names j ≡ Some name → slice_get names k ≡ Some name → j ≡ k

-- the end of the walk from a unit, from the first unit to which the walk comes again
pub record IsCycle (edges : List Edge) (left : List Name) (unit : Name) (cycle : List Name) : Type 0 where
  pub lead : List Name
  pub first : Name
  pub begins : slice_get (lead ++ cycle) 0 ≡ Some unit
  pub steps : IsWalk edges left (lead ++ cycle ++ first ∷ [])
  pub comes_again : slice_get cycle 0 ≡ Some first
  pub once : IsOnce (lead ++ cycle)

-- each broken unit has a cycle, among the units that were left when it was taken
pub record AreCycles (units : List Name) (edges : List Edge) (order broken : List Name) (cycles : List Cycle) : Type 0 where
  pub many : length cycles ≡ length broken
  pub each : (k turn : ℕ) (unit : Name) (cycle : Cycle) → slice_get broken k ≡ Some unit → slice_get cycles k ≡ Some cycle → slice_get order turn ≡ Some unit →
      IsCycle edges (left_of units (take turn order)) unit cycle.units

-- at least two units, each after the next one, and the last after the first
pub record IsRing (edges : List Edge) (cycle : List Name) : Type 0 where
  pub two : 2 ≤ length cycle
  pub steps : (k : ℕ) (unit next : Name) → slice_get cycle k ≡ Some unit → slice_get cycle (suc k) ≡ Some next → is_before edges next unit ≡ true
  pub closes : (first last : Name) → slice_get cycle 0 ≡ Some first → slice_get cycle (length cycle - 1) ≡ Some last → is_before edges first last ≡ true
