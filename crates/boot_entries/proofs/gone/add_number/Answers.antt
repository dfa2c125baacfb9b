use Rattle.std.proofs.Common.{rules}
use Rattle.boot_entries.proofs.gone.add_number.Goals as goal

pub returns-in_ok-insert : goal.returns-in_ok-insert
returns-in_ok-insert c = search rules steps 300000
