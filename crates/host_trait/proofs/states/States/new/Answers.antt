use Rattle.std.proofs.Common.{sym, subst}
use Rattle.host_trait.specs.States.{IsSortedList}
use Rattle.host_trait.proofs.StateLists.{none_is_sorted}
use Rattle.host_trait.proofs.states.States.new.Goals as goal

pub invariant_of-result : goal.invariant_of-result
invariant_of-result c = subst IsSortedList (sym c.new.ensures) none_is_sorted
