use Rattle.switch_names.proofs.Cuts.{stripped_end}
use Rattle.etc_manifest.proofs.companion.before_end.Goals as goal

pub returns : goal.returns
returns c = stripped_end c.args.ending.now c.args.text.now c.strip_suffix.result c.strip_suffix.ensures.cases
