use Rattle.std.proofs.Common.{◌≡◌, length, arith}
use Rattle.account_text.specs.Field.{fields}
use Rattle.account_text.proofs.RowLemmas.{other_group}
use Rattle.account_text.proofs.group.group_fields.Goals as goal

pub returns-in_default : goal.returns-in_default
returns-in_default c =
    other_group (fields c.args.line.now) (λ (four : length (fields c.args.line.now) ≡ 4). omega (arith, c.in_default.ensures, four))
