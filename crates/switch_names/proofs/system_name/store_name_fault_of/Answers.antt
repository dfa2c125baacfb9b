use Rattle.std.proofs.Common.{rules}
use Rattle.switch_names.proofs.system_name.store_name_fault_of.Goals as goal

pub returns-in-Some : goal.returns-in-Some
returns-in-Some c = search rules steps 500000
