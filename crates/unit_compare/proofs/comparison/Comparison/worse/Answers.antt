use Rattle.std.proofs.Common.{rules}
use Rattle.unit_compare.proofs.comparison.Comparison.worse.Goals as goal

pub returns-in-ReloadOnly-default : goal.returns-in-ReloadOnly-default
returns-in-ReloadOnly-default c = search rules

pub returns-in-ReloadOnly-default-2 : goal.returns-in-ReloadOnly-default-2
returns-in-ReloadOnly-default-2 c = search rules

pub returns-in-ReloadOnly-default-3 : goal.returns-in-ReloadOnly-default-3
returns-in-ReloadOnly-default-3 c = search rules
