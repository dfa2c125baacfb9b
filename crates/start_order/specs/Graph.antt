-- The units by their places, with those before and after each: systemd.unit(5), "Before=, After=".
use Rattle.std.specs.Prelude.{◌≡◌, ◌≢◌, ◌++◌, ◌&&◌, ℕ, not, Bool, true, false, List, [], ◌∷◌, length, map, take, filter, Some, slice_get, slice_index_or}
use Rattle.std.specs.List.{list_any}
use Rattle.std.specs.List.Sorted.{IsStrictlySortedBy}
use Rattle.std.specs.Option.{unwrap_or}
use Rattle.host_trait.specs.Bytes.{bytes_cmp}
use Rattle.start_order.specs.declared.edge.Edge.{Edge}
use Rattle.start_order.specs.declared.graph.Graph.{Graph}
use Rattle.start_order.specs.declared.marks.Marks.{Marks}
use Rattle.start_order.specs.Edges.{AreEdges}
use Rattle.start_order.specs.Order.{is_free}
use Rattle.switch_names.specs.Names.{Name, has, is_name}

-- the units from which an edge leads to this one
abbrev pub befores_of : List Edge → Name → List Name
befores_of edges unit = map (λ edge. edge.before) (filter (λ edge. is_name unit edge.after) edges)

-- the units to which an edge leads from this one
abbrev pub afters_of : List Edge → Name → List Name
afters_of edges unit = map (λ edge. edge.after) (filter (λ edge. is_name unit edge.before) edges)

-- the unit at a place
abbrev pub unit_at : List Name → ℕ → Name
unit_at units at = slice_index_or units at []

-- these places are those of these names
abbrev pub ArePlaces : List Name → List ℕ → List Name → Type 0
ArePlaces units row names = map (slice_get units) row ≡ map (λ name. Some name) names

-- each unit has the row of the places of its names
pub record AreRows (units : List Name) (rows : List (List ℕ)) (names_of : Name → List Name) : Type 0 where
  pub many : length rows ≡ length units
  pub each : (k : ℕ) (unit : Name) (row : List ℕ) → slice_get units k ≡ Some unit → slice_get rows k ≡ Some row → ArePlaces units row (names_of unit)

-- units in order and the edges between them, and each unit has the places of those before it and of those after it
pub record IsGraph (graph : Graph) : Type 0 where
  pub units_sorted : IsStrictlySortedBy bytes_cmp graph.units.now
  pub edges_between : AreEdges graph.units.now graph.edges.now
  pub befores_are : AreRows graph.units.now graph.befores (befores_of graph.edges.now)
  pub afters_are : AreRows graph.units.now graph.afters (afters_of graph.edges.now)

-- one row has one place more
pub record IsPushed (old : List (List ℕ)) (at place : ℕ) (new : List (List ℕ)) : Type 0 where
  pub many : length new ≡ length old
  pub here : (row : List ℕ) → slice_get old at ≡ Some row → slice_get new at ≡ Some (row ++ place ∷ [])
  pub others : (k : ℕ) → k ≢ at → slice_get new k ≡ slice_get old k

-- a unit is left and free, and has this name
abbrev pub is_free_one : List Edge → List Name → Name → Name → Bool
is_free_one edges left name unit = has left unit && is_free edges left unit && is_name name unit

-- the unit at a place isn't taken
abbrev pub is_open : List Bool → ℕ → Bool
is_open taken place = not (unwrap_or (slice_get taken place) true)

-- of each unit it is known whether it is left, and how many of those before it are known not to be left
pub record AreMarks (units : List Name) (edges : List Edge) (left : List Name) (marks : Marks) : Type 0 where
  pub many_taken : length marks.taken ≡ length units
  pub many_passed : length marks.passed ≡ length units
  pub taken : (k : ℕ) (unit : Name) (is : Bool) → slice_get units k ≡ Some unit → slice_get marks.taken k ≡ Some is → is ≡ not (has left unit)
  pub passed : (k : ℕ) (unit : Name) (count : ℕ) → slice_get units k ≡ Some unit → slice_get marks.passed k ≡ Some count → list_any (has left) (take count (befores_of edges unit)) ≡ false
