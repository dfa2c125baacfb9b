use Rattle.std.proofs.Common.{rules}
use Rattle.unit_text.proofs.index.with_value.Goals as goal

pub returns : goal.returns
returns c = search rules steps 300000
