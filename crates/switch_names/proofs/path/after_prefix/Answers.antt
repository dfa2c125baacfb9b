use Rattle.switch_names.proofs.Cuts.{stripped_prefix}
use Rattle.switch_names.proofs.path.after_prefix.Goals as goal

-- the text begins with the prefix exactly where something follows it
pub returns : goal.returns
returns c = stripped_prefix c.args.prefix.now c.args.text.now c.strip_prefix.result c.strip_prefix.ensures.cases
