use Rattle.std.proofs.Common.{rules}
use Rattle.unit_text.proofs.layer.Layer.has_bytes.Goals as goal

pub returns-clause-text : goal.returns-clause-text
returns-clause-text c = search rules steps 500000
