use Rattle.std.proofs.Common.{rules}
use Rattle.account_text.proofs.order.compare.Goals as goal

pub returns-in_default : goal.returns-in_default
returns-in_default c = search rules steps 300000
