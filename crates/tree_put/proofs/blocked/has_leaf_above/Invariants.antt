use Rattle.std.proofs.Common.{◌≡◌, true, Ok, IfSome}
use Rattle.switch_names.specs.Path.{is_below}
use Rattle.host_trait.specs.Host.{Told}
use Rattle.host_trait.specs.Reading.{IsReading}
use Rattle.host_trait.proofs.Above.{IsFreeBut, bytes_left}
use Rattle.tree_put.proofs.BlockedLemmas.{IsEmptyAt}
use Rattle.tree_put.proofs.blocked.has_leaf_above.Given as goal

-- the places above that are left to read are all that may have a leaf
abbrev pub invariant-loop-next : goal.invariant-loop-next
invariant-loop-next g l =
    let start = g.T.Tree.host l.fn.host in let now = g.T.Tree.host l.host in
    record {
      reads : IsReading {T = Unit {0}} start now (Ok tt);
      above : IfSome l.next (λ place. is_below l.at place ≡ true);
      free : Told start (λ w. IsFreeBut (IsEmptyAt w.leaves) l.at l.next);
    }

abbrev pub decreases-loop-next : goal.decreases-loop-next
decreases-loop-next g l = bytes_left l.next
