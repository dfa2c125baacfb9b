-- The edges that are given with units: systemd.unit(5), "Before=, After=".
use Rattle.std.specs.Prelude.{◌&&◌, not, Bool, List, All, IsTrue}
use Rattle.std.specs.List.{list_any}
use Rattle.std.specs.List.Sorted.{IsStrictlySortedBy}
use Rattle.std.specs.Ordering.{ordering_then}
use Rattle.std.specs.declared.cmp.Ordering.{Ordering}
use Rattle.host_trait.specs.Bytes.{bytes_cmp}
use Rattle.start_order.specs.declared.edge.Edge.{Edge}
use Rattle.switch_names.specs.Names.{Name, has, is_name}

-- edges are in the order of the unit before, and then of the unit after
abbrev pub edge_cmp : Edge → Edge → Ordering
edge_cmp one other = ordering_then (bytes_cmp one.before other.before) (bytes_cmp one.after other.after)

-- an edge leads from a unit to another one
abbrev pub is_between : List Name → Edge → Bool
is_between units edge = has units edge.before && has units edge.after && not (is_name edge.before edge.after)

-- edges in order without repeats, each between two of the units
pub record AreEdges (units : List Name) (edges : List Edge) : Type 0 where
  pub sorted : IsStrictlySortedBy edge_cmp edges
  pub between : All (λ edge. IsTrue (is_between units edge)) edges

-- an edge as the unit before and the unit after
abbrev pub edge_of : Name × Name → Edge
edge_of pair = record { before = pair.0; after = pair.1 }

abbrev pub pair_cmp : Name × Name → Name × Name → Ordering
pair_cmp one other = ordering_then (bytes_cmp one.0 other.0) (bytes_cmp one.1 other.1)

-- a pair of names is among others
abbrev pub has_pair : List (Name × Name) → Name → Name → Bool
has_pair pairs before after = list_any (λ pair. is_name before pair.0 && is_name after pair.1) pairs
