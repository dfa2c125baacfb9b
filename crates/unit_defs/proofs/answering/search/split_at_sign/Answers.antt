use Rattle.std.proofs.Common.{lit<}
use Rattle.std.proofs.lemmas.Str.Pattern.{split_once_first}
use Rattle.unit_defs.proofs.answering.search.split_at_sign.Goals as goal

pub returns : goal.returns
returns c = split_once_first 64 c.args.stem.now c.split_once.result c.split_once.ensures.cases (lit< tt)
