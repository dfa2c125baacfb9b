use Rattle.std.proofs.Common.{rules}
use Rattle.unit_text.proofs.front.Front.is_same_file.Goals as goal

pub returns-in_default : goal.returns-in_default
returns-in_default c = search rules steps 300000
