use Rattle.std.proofs.Common.{rules}
use Rattle.users_spec.specs.Fields.{names_at, field, read_and_then}
use Rattle.users_spec.proofs.object.Object.names.Goals as goal

pub returns-in_default : goal.returns-in_default
unfolding names_at field read_and_then
returns-in_default c = search rules steps 300000
