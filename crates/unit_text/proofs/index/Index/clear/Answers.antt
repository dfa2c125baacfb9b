use Rattle.std.proofs.Common.{rules}
use Rattle.unit_text.proofs.index.Index.clear.Goals as goal

pub returns-clause-values : goal.returns-clause-values
returns-clause-values c = search rules steps 300000
