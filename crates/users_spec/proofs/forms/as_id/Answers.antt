use Rattle.std.proofs.Common.{rules, tests}
use Rattle.users_spec.proofs.forms.as_id.Goals as goal

pub returns-then-number-le-ID_MAX : goal.returns-then-number-le-ID_MAX
returns-then-number-le-ID_MAX c = search (rules, tests) steps 300000
