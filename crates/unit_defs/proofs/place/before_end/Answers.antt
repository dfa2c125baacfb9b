use Rattle.switch_names.proofs.Cuts.{stripped_end}
use Rattle.unit_defs.proofs.place.before_end.Goals as goal

pub returns : goal.returns
returns c = stripped_end c.args.end.now c.args.text.now c.strip_suffix.result c.strip_suffix.ensures.cases
