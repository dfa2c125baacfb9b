-- The order of the starts: it has the units that are started, there is one, and it hangs on the texts in the store alone.
use Rattle.std.proofs.Common.{◌≡◌, List, sym, ap, subst, ◌∙◌}
use Rattle.host_trait.specs.World.{Leaves}
use Rattle.owed_plan.specs.declared.owed.Owed.{Owed}
use Rattle.owed_plan.specs.Store.{AreSameInStore, IsInStore}
use Rattle.owed_plan.specs.StartEdges.{AreStartEdges}
use Rattle.owed_plan.specs.Systems.{Texts}
use Rattle.owed_plan.proofs.StoreLemmas.{text_same}
use Rattle.owed_plan.proofs.SystemLemmas.{found_same}
use Rattle.start_order.specs.declared.edge.Edge.{Edge}
use Rattle.start_order.specs.declared.ordered.Ordered.{Ordered}
use Rattle.start_order.specs.Ordered.{IsOrdered}
use Rattle.start_order.proofs.OneLemmas.{one_answer_law}
use Rattle.start_order.proofs.OrderLemmas.{rearranged_law}
use Rattle.start_order.proofs.SameEdgeLemmas.{one_edges_law}
use Rattle.switch_names.specs.Names.{Name, has}
use Rattle.unit_defs.specs.declared.unit.Unit.{Unit}
use Rattle.unit_defs.specs.Defs.{AreDefsOf, found_in}
use Rattle.unit_defs.specs.Units.{text_of}
use Rattle.unit_stage.specs.Order.{AreInOrder, AreOrderedAt, ArrangesStarts, IsOrderedAt}

-- the edges that were given are those of the answer
pub in_order_by : (texts : Texts) (starts : List Name) (edges : List Edge) (ordered : Ordered) → AreStartEdges texts starts edges → IsOrdered starts edges ordered → AreInOrder texts starts ordered
in_order_by texts starts edges ordered are is = record {
  edges_are = subst (AreStartEdges texts starts) (sym is.given) are;
  is_ordered = subst (λ given. IsOrdered starts given ordered) (sym is.given) is;
}

-- the same texts put the same in order
pub same_in_order : (one other : Texts) (starts : List Name) (ordered : Ordered) → ((unit : Name) → one unit ≡ other unit) → AreInOrder one starts ordered → AreInOrder other starts ordered
same_in_order one other starts ordered same are = subst (λ texts. AreInOrder texts starts ordered) (λ i. λ unit. same unit i) are

-- what is kept of a system puts its starts in order as its leaves do
pub defs_in_order : (leaves : Leaves) (system : Name) (new : List Unit) (owed : Owed) (ordered : Ordered) → AreDefsOf leaves system new → AreInOrder (found_in new) owed.lists.starts ordered → AreOrderedAt leaves system owed ordered
defs_in_order leaves system new owed ordered are = same_in_order (found_in new) (text_of leaves system) owed.lists.starts ordered (found_same leaves system new are)

-- trees with the same in the store order the starts alike
pub ordered_there : (leaves other : Leaves) (system : Name) (owed : Owed) (ordered : Ordered) → AreSameInStore leaves other → IsInStore system → AreOrderedAt leaves system owed ordered → AreOrderedAt other system owed ordered
ordered_there leaves other system owed ordered same inside = same_in_order (text_of leaves system) (text_of other system) owed.lists.starts ordered (text_same leaves other same system inside)

-- an order has the units that are started
pub arranged : (leaves : Leaves) (system : Name) (owed : Owed) (ordered : Ordered) → AreOrderedAt leaves system owed ordered → ArrangesStarts owed ordered.units
arranged leaves system owed ordered are unit = (rearranged_law owed.lists.starts ordered.edges ordered.units are.is_ordered.order).same unit

pub arranges : (leaves : Leaves) (system : Name) (owed : Owed) (order : List Name) → IsOrderedAt leaves system owed order → ArrangesStarts owed order
arranges leaves system owed order (ordered, are, is) unit = ap (λ (names : List Name). has names unit) is ∙ arranged leaves system owed ordered are unit

-- there is one order
pub one_in_order : (texts : Texts) (starts : List Name) (one other : Ordered) → AreInOrder texts starts one → AreInOrder texts starts other → one ≡ other
one_in_order texts starts one other is also =
    let edges : one.edges ≡ other.edges =
    one_edges_law starts one.edges other.edges is.edges_are.edges_are also.edges_are.edges_are (λ before after. is.edges_are.exact before after ∙ sym (also.edges_are.exact before after)) in
    one_answer_law starts one.edges one other is.is_ordered (subst (λ given. IsOrdered starts given other) (sym edges) also.is_ordered)
