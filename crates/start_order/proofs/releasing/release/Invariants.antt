use Rattle.std.proofs.Common.{◌≡◌, ◌||◌, take}
use Rattle.std.specs.List.{list_any}
use Rattle.std.specs.List.Sorted.{IsStrictlySortedBy}
use Rattle.host_trait.specs.Bytes.{bytes_cmp}
use Rattle.switch_names.specs.Names.{Name, has}
use Rattle.start_order.specs.Graph.{AreMarks, is_free_one, unit_at}
use Rattle.start_order.proofs.releasing.release.Given as goal

abbrev pub invariant-loop-place : goal.invariant-loop-place
invariant-loop-place l =
    AreMarks l.graph.units.now l.graph.edges.now l.left.keys l.marks × IsStrictlySortedBy bytes_cmp l.free.keys
    × ((unit : Name) → has l.free.keys unit ≡ (has l.initial.free.keys unit
    || list_any (λ place. is_free_one l.graph.edges.now l.left.keys unit (unit_at l.graph.units.now place)) (take l.place-index l.row)))
