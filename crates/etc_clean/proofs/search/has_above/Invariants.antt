use Rattle.std.proofs.Common.{◌≡◌, true, IfSome}
use Rattle.std.specs.List.Sorted.{IsStrictlySortedBy}
use Rattle.switch_names.specs.Path.{is_below}
use Rattle.host_trait.specs.World.{bytes_cmp}
use Rattle.host_trait.proofs.Above.{bytes_left}
use Rattle.etc_clean.proofs.SearchLemmas.{IsFreeBut}
use Rattle.etc_clean.proofs.search.has_above.Given as goal

-- the places above that are left to look at are all that may be among the names
abbrev pub invariant-loop-next : goal.invariant-loop-next
invariant-loop-next l = record {
  above : IfSome l.next (λ place. is_below l.name place ≡ true);
  free : IsStrictlySortedBy bytes_cmp l.names → IsFreeBut l.names l.name l.next;
}

abbrev pub decreases-loop-next : goal.decreases-loop-next
decreases-loop-next l = bytes_left l.next
