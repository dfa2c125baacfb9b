use Rattle.std.proofs.Common.{◌≡◌, take}
use Rattle.std.specs.List.{list_any}
use Rattle.std.specs.List.Sorted.{IsStrictlySortedBy}
use Rattle.host_trait.specs.Bytes.{bytes_cmp}
use Rattle.switch_names.specs.Names.{Name, has}
use Rattle.start_order.specs.Graph.{AreMarks, is_free_one}
use Rattle.start_order.proofs.releasing.free_of.Given as goal

abbrev pub invariant-loop-at : goal.invariant-loop-at
invariant-loop-at l =
    AreMarks l.graph.units.now l.graph.edges.now l.left.keys l.marks × IsStrictlySortedBy bytes_cmp l.set.keys
    × ((unit : Name) → has l.set.keys unit ≡ list_any (is_free_one l.graph.edges.now l.left.keys unit) (take l.at l.graph.units.now))
