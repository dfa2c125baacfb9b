use Rattle.std.proofs.Common.{sym, rules}
use Rattle.account_text.proofs.FieldLemmas.{refused}
use Rattle.account_text.proofs.field.read_id.Goals as goal

pub returns-in-Err : goal.returns-in-Err
returns-in-Err c = refused c.args.field.now c.in-Err.field-0 c.in-Err.ensures.value.0 (sym c.if-not-is_digits.ensures)

pub returns-in-Ok : goal.returns-in-Ok
returns-in-Ok c = search rules steps 300000
