use Rattle.users_spec.specs.UserSpec.{user_after}
use Rattle.users_spec.specs.declared.user_spec.UserSpec.{UserSpec}
use Rattle.users_spec.proofs.EachReads.{IsReadTo}
use Rattle.users_spec.proofs.user_spec.users_of.Given as goal

abbrev pub invariant-loop-at : goal.invariant-loop-at
invariant-loop-at l = IsReadTo (λ (user : UserSpec). user.name) user_after l.values l.at l.users l.names
