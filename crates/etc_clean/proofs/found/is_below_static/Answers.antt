use Rattle.std.proofs.Common.{codes}
use Rattle.std.proofs.lemmas.Str.Pattern.{starts_text}
use Rattle.etc_clean.proofs.found.is_below_static.Goals as goal

pub returns : goal.returns
returns c = starts_text c.starts_with.result (codes "/etc/static/") c.args.target.now c.starts_with.ensures.cases
