-- The order of starts: systemd.unit(5), "Before=, After=".
use Rattle.std.specs.Prelude.{◌≡◌, ◌&&◌, not, ℕ, Bool, true, List, [], take, filter, Option, Some, is_none, slice_get}
use Rattle.std.specs.List.{find, list_any}
use Rattle.std.specs.Option.{option_or}
use Rattle.start_order.specs.declared.edge.Edge.{Edge}
use Rattle.switch_names.specs.Names.{Name, has, is_name}

-- an edge puts one unit before another
abbrev pub is_before : List Edge → Name → Name → Bool
is_before edges before after = list_any (λ edge. is_name before edge.before && is_name after edge.after) edges

-- the first of the units that are left that stands before this one
abbrev pub waits_for : List Edge → List Name → Name → Option Name
waits_for edges left unit = find (λ other. is_before edges other unit) left

-- a unit before which none of those stands that are left
abbrev pub is_free : List Edge → List Name → Name → Bool
is_free edges left unit = is_none (waits_for edges left unit)

-- the first free unit of those that are left, or their first where none is free
abbrev pub next_of : List Edge → List Name → Option Name
next_of edges left = option_or (find (is_free edges left) left) (slice_get left 0)

-- none of the units that are left is free
abbrev pub is_stuck : List Edge → List Name → Bool
is_stuck edges left = is_none (find (is_free edges left) left)

-- the units that haven't been taken yet
abbrev pub left_of : List Name → List Name → List Name
left_of units taken = filter (λ unit. not (has taken unit)) units

-- each unit is the next of those that are left when its turn comes, and none is left at the end
pub record IsOrder (units : List Name) (edges : List Edge) (order : List Name) : Type 0 where
  pub each : (k : ℕ) (unit : Name) → slice_get order k ≡ Some unit → next_of edges (left_of units (take k order)) ≡ Some unit
  pub all : left_of units order ≡ []

-- a unit was taken while none was free
pub record IsBroken (units : List Name) (edges : List Edge) (order : List Name) (unit : Name) : Type 0 where
  pub turn : ℕ
  pub taken : slice_get order turn ≡ Some unit
  pub stuck : is_stuck edges (left_of units (take turn order)) ≡ true
