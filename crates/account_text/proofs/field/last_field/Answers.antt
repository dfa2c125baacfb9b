use Rattle.account_text.proofs.FieldLemmas.{more_fields}
use Rattle.account_text.proofs.field.last_field.Goals as goal

pub returns-in-Some : goal.returns-in-Some
returns-in-Some c = more_fields c.args.text.now c.in-Some.field-0.0.now c.in-Some.field-0.1.now c.in-Some.ensures
