use Rattle.std.proofs.Common.{rules, tests}
use Rattle.users_spec.proofs.account_name.is_no_name_byte.Goals as goal

pub returns-else-byte-eq58 : goal.returns-else-byte-eq58
returns-else-byte-eq58 c = search (rules, tests) steps 300000
