use Rattle.std.proofs.Common.{rules}
use Rattle.account_text.proofs.shadow.copied.Goals as goal

pub returns : goal.returns
returns c = search rules steps 300000
