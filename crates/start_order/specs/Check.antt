-- When an order keeps its edges: systemd.unit(5), "Before=, After=".
use Rattle.std.specs.Prelude.{◌&&◌, ◌||◌, not, Bool, true, List, [], ◌∷◌}
use Rattle.std.specs.List.{before_first, list_all}
use Rattle.start_order.specs.declared.edge.Edge.{Edge}
use Rattle.start_order.specs.declared.ordered.Ordered.{Ordered}
use Rattle.switch_names.specs.Names.{Name, has, is_name}

-- no name stands in the list twice
abbrev pub stand_once : List Name → Bool
stand_once [] = true
stand_once (name ∷ names) = not (has names name) && stand_once names

-- a name stands before the first place of another
abbrev pub is_ahead : List Name → Name → Name → Bool
is_ahead names before after = has (before_first (is_name after) names) before

-- an edge is between units, and the unit before stands ahead, or the unit after is broken
abbrev pub is_kept : List Name → List Name → Edge → Bool
is_kept units broken edge = has units edge.before && has units edge.after && (is_ahead units edge.before edge.after || has broken edge.after)

-- no unit stands in the order twice, and each edge is kept
abbrev pub is_checked : Ordered → Bool
is_checked ordered = stand_once ordered.units && list_all (is_kept ordered.units ordered.broken) ordered.edges
