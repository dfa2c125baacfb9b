use Rattle.std.proofs.Common.{rules, tests}
use Rattle.users_merge.proofs.keeping.keeps_other.Goals as goal

pub returns-in-Some : goal.returns-in-Some
returns-in-Some g c = search (rules, tests) steps 300000
