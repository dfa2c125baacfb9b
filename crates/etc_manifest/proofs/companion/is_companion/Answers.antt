use Rattle.std.proofs.Common.{rules}
use Rattle.etc_manifest.proofs.companion.is_companion.Goals as goal

pub returns : goal.returns
returns c = search rules steps 300000
