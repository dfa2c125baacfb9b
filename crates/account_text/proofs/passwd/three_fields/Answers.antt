use Rattle.std.proofs.Common.{rules}
use Rattle.account_text.proofs.passwd.three_fields.Goals as goal

pub returns : goal.returns
returns c = search rules steps 300000

pub returns-in_default-last_field : goal.returns-in_default-last_field
returns-in_default-last_field c = search rules steps 300000
