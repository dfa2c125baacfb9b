use Rattle.std.proofs.Common.{rules}
use Rattle.accounts_stage.proofs.reading.bytes_at.Goals as goal

pub returns-clause-bytes : goal.returns-clause-bytes
returns-clause-bytes g c = search rules steps 300000
