use Rattle.switch_names.proofs.Cuts.{stripped_front}
use Rattle.etc_manifest.proofs.place.after_front.Goals as goal

pub returns : goal.returns
returns c = stripped_front c.args.front.now c.args.text.now c.strip_prefix.result c.strip_prefix.ensures.cases
