use Rattle.std.proofs.Common.{rules}
use Rattle.host_trait.proofs.entry.Act.word.Goals as goal

pub returns-in-Reload : goal.returns-in-Reload
returns-in-Reload c = search rules steps 400000
