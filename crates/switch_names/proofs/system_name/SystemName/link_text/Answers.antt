use Rattle.std.proofs.Common.{rules}
use Rattle.switch_names.proofs.system_name.SystemName.link_text.Goals as goal

pub returns-clause-ok : goal.returns-clause-ok
returns-clause-ok c = search rules
