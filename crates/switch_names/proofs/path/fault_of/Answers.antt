use Rattle.std.proofs.Common.{◌∙◌}
use Rattle.switch_names.proofs.Joined.{fault_alone}
use Rattle.switch_names.proofs.path.fault_of.Goals as goal

pub returns : goal.returns
returns c = c.fault_after.ensures ∙ fault_alone c.args.text.now
