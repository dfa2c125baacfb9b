use Rattle.users_spec.specs.GroupSpec.{group_after}
use Rattle.users_spec.specs.declared.group_spec.GroupSpec.{GroupSpec}
use Rattle.users_spec.proofs.EachReads.{IsReadTo}
use Rattle.users_spec.proofs.group_spec.groups_of.Given as goal

abbrev pub invariant-loop-at : goal.invariant-loop-at
invariant-loop-at l = IsReadTo (λ (group : GroupSpec). group.name) group_after l.values l.at l.groups l.names
