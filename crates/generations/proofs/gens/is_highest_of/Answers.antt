use Rattle.std.proofs.Common.{None, Some, ◌∙◌}
use Rattle.generations.proofs.Lists.{highest_is}
use Rattle.generations.proofs.gens.is_highest_of.Goals as goal

pub returns-in-Some : goal.returns-in-Some
returns-in-Some c =
    c.is_of.ensures ∙ highest_is c.args.gens.now.list c.as_slice.result.now (Some c.in-Some.highest.now) c.args.system.now c.in-Some.ensures.value c.as_slice.ensures

pub returns-in-None : goal.returns-in-None
returns-in-None c = highest_is c.args.gens.now.list c.as_slice.result.now None c.args.system.now c.in-None.ensures.value c.as_slice.ensures
