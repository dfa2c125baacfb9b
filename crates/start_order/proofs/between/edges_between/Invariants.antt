use Rattle.std.proofs.Common.{◌≡◌, ◌&&◌, take}
use Rattle.std.specs.List.Sorted.{IsStrictlySortedBy}
use Rattle.switch_names.specs.Names.{Name}
use Rattle.start_order.specs.Edges.{edge_of, has_pair, is_between, pair_cmp}
use Rattle.start_order.specs.Order.{is_before}
use Rattle.start_order.proofs.between.edges_between.Given as goal

abbrev pub invariant-loop-edge : goal.invariant-loop-edge
invariant-loop-edge l =
    IsStrictlySortedBy pair_cmp l.pairs.keys
    × ((before after : Name) → has_pair l.pairs.keys before after ≡ (is_between l.units (edge_of (before, after)) && is_before (take l.edge-index l.edges) before after))
