use Rattle.std.proofs.Common.{◌≡◌, true, IfSome, None}
use Rattle.std.specs.FinMap.{get}
use Rattle.switch_names.specs.Path.{is_below}
use Rattle.host_trait.specs.LeafMap.{leaves_of}
use Rattle.host_trait.proofs.Above.{IsFreeBut, bytes_left}
use Rattle.host_trait.proofs.leaf_map.has_leaf_above.Given as goal

-- the places above that are left to look at are all that may have a leaf
abbrev pub invariant-loop-next : goal.invariant-loop-next
invariant-loop-next l = record {
  above : IfSome l.next (λ place. is_below l.at place ≡ true);
  free : IsFreeBut (λ q. get (leaves_of l.leaves) q ≡ None) l.at l.next;
}

abbrev pub decreases-loop-next : goal.decreases-loop-next
decreases-loop-next l = bytes_left l.next
