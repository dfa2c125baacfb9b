use Rattle.std.proofs.Common.{rules}
use Rattle.switch_names.proofs.system_name.with_slash.Goals as goal

pub returns : goal.returns
returns c = search rules steps 500000
