use Rattle.std.proofs.Common.{rules}
use Rattle.etc_clean.proofs.clean_list.read_name.Goals as goal

pub returns : goal.returns
returns c = search rules steps 300000
