use Rattle.std.proofs.Common.{refl}
use Rattle.users_merge.proofs.names.Names.staying.Goals as goal

pub returns : goal.returns
returns c = λ name. refl
