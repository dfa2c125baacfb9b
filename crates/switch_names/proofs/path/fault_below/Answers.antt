use Rattle.std.proofs.Common.{◌∙◌, arith}
use Rattle.switch_names.proofs.Joined.{fault_joined, path_short}
use Rattle.switch_names.proofs.path.fault_below.Goals as goal

pub fault_after-requires : goal.fault_after-requires
fault_after-requires c = omega (arith, path_short c.args.folder.now c.requires)

pub returns : goal.returns
returns c = c.fault_after.ensures ∙ fault_joined c.args.folder.now c.args.more.now c.requires
