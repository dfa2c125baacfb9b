use Rattle.std.proofs.Common.{arith}
use Rattle.users_spec.specs.Fields.{once}
use Rattle.users_spec.proofs.Lists.{has_bytes_eq}
use Rattle.users_spec.proofs.declared_names.DeclaredNames.declare.Goals as goal

pub returns-then-not-branch-clause-once : goal.returns-then-not-branch-clause-once
unfolding once
returns-then-not-branch-clause-once c = grind (arith, has_bytes_eq) steps 500000
