use Rattle.std.proofs.Common.{rules}
use Rattle.host_trait.proofs.unit_state.State.word.Goals as goal

pub returns-in-Failed : goal.returns-in-Failed
returns-in-Failed c = search rules steps 400000
