-- What holds of every order: systemd.unit(5), "Before=, After=".
use Rattle.std.specs.Prelude.{◌≡◌, ◌⊎◌, ◌<◌, ℕ, true, false, List, take, Some, slice_get}
use Rattle.std.specs.List.Sorted.{IsStrictlySortedBy}
use Rattle.std.specs.declared.cmp.Ordering.TheVariants.{Less}
use Rattle.host_trait.specs.Bytes.{bytes_cmp}
use Rattle.start_order.specs.declared.edge.Edge.{Edge}
use Rattle.start_order.specs.declared.ordered.Ordered.{Ordered}
use Rattle.start_order.specs.Check.{is_checked}
use Rattle.start_order.specs.Cycles.{IsCycle, IsOnce, IsRing}
use Rattle.start_order.specs.Edges.{AreEdges}
use Rattle.start_order.specs.Order.{IsBroken, IsOrder, is_before}
use Rattle.start_order.specs.Ordered.{IsOrdered}
use Rattle.switch_names.specs.Names.{Name, has}

-- an order has the same units, and no unit twice
pub record IsRearranged (units order : List Name) : Type 0 where
  pub same : (unit : Name) → has order unit ≡ has units unit
  pub once : IsOnce order

abbrev pub RearrangedLaw : Type 0
RearrangedLaw = (units : List Name) (edges : List Edge) (order : List Name) → IsOrder units edges order → IsRearranged units order

abbrev pub OneOrderLaw : Type 0
OneOrderLaw = (units : List Name) (edges : List Edge) (order other : List Name) → IsOrder units edges order → IsOrder units edges other → order ≡ other

-- what stands before a unit is taken before it, or the unit is broken
abbrev pub EdgeLaw : Type 0
EdgeLaw =
    (units : List Name) (edges : List Edge) (order : List Name) (before after : Name) (k : ℕ) → IsOrder units edges order → is_before edges before after ≡ true → has units before ≡ true →
    slice_get order k ≡ Some after → (has (take k order) before ≡ true) ⊎ IsBroken units edges order after

-- of two broken units the first is the lesser
abbrev pub RisingLaw : Type 0
RisingLaw =
    (units : List Name) (edges : List Edge) (order : List Name) (one other : Name) → IsStrictlySortedBy bytes_cmp units → IsOrder units edges order →
    (first : IsBroken units edges order one) (second : IsBroken units edges order other) → first.turn < second.turn → bytes_cmp one other ≡ Less

-- edges are told by which unit they put before which
abbrev pub OneEdgesLaw : Type 0
OneEdgesLaw =
    (units : List Name) (one other : List Edge) → AreEdges units one → AreEdges units other → ((before after : Name) → is_before one before after ≡ is_before other before after) → one ≡ other

-- a unit has one cycle
abbrev pub OneCycleLaw : Type 0
OneCycleLaw = (edges : List Edge) (left : List Name) (unit : Name) (one other : List Name) → IsCycle edges left unit one → IsCycle edges left unit other → one ≡ other

-- there is one answer
abbrev pub OneAnswerLaw : Type 0
OneAnswerLaw = (units : List Name) (edges : List Edge) (one other : Ordered) → IsOrdered units edges one → IsOrdered units edges other → one ≡ other

-- where no edge leads from a unit to itself, a cycle is a ring
abbrev pub CycleLaw : Type 0
CycleLaw =
    (edges : List Edge) (left : List Name) (unit : Name) (cycle : List Name) → ((one : Name) → is_before edges one one ≡ false) → IsCycle edges left unit cycle → IsRing edges cycle

-- what is ordered passes the check
abbrev pub CheckLaw : Type 0
CheckLaw = (units : List Name) (edges : List Edge) (ordered : Ordered) → AreEdges units edges → IsOrdered units edges ordered → is_checked ordered ≡ true
