use Rattle.std.proofs.Common.{lit<}
use Rattle.std.proofs.lemmas.Str.Pattern.{split_once_first}
use Rattle.unit_defs.proofs.TextLemmas.{split_once_at}
use Rattle.switch_names.specs.Path.{is_slash}
use Rattle.unit_defs.proofs.place.split_at_slash.Goals as goal

pub returns : goal.returns
returns c = split_once_at is_slash c.args.text.now c.split_once.result (split_once_first 47 c.args.text.now c.split_once.result c.split_once.ensures.cases (lit< tt))
