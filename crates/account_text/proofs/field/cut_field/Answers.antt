use Rattle.std.proofs.Common.{lit<}
use Rattle.std.proofs.lemmas.Str.Pattern.{split_once_first}
use Rattle.account_text.proofs.FieldLemmas.{cut}
use Rattle.account_text.proofs.field.cut_field.Goals as goal

pub returns : goal.returns
returns c = cut c.args.text.now c.split_once.result (split_once_first 58 c.args.text.now c.split_once.result c.split_once.ensures.cases (lit< tt))
