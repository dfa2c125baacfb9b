use Rattle.std.proofs.Common.{ap, ◌∙◌}
use Rattle.std.specs.Option.{option_copied}
use Rattle.generations.proofs.BootLemmas.{boot_none, boot_some}
use Rattle.generations.proofs.gens.boot_system.Goals as goal

pub returns-in_err-number : goal.returns-in_err-number
returns-in_err-number c = λ leaves are. ap option_copied c.from_residual.ensures ∙ boot_none leaves c.args.gens.now are c.in_err-number.was

pub returns : goal.returns
returns c = λ leaves are. c.system_of.ensures ∙ boot_some leaves c.args.gens.now are c.in_ok-number.number c.in_ok-number.was
