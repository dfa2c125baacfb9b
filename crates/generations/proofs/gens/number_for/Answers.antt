use Rattle.std.proofs.Common.{None, Some, sym, ◌∙◌, rules}
use Rattle.generations.proofs.Lists.{number_is, number_kept}
use Rattle.generations.proofs.gens.number_for.Goals as goal

pub returns-in_default : goal.returns-in_default
returns-in_default c = number_is c.args.gens.now.list c.as_slice.result.now None c.args.system.now c.in_default.ensures.value c.as_slice.ensures

pub returns-then-is_of : goal.returns-then-is_of
returns-then-is_of c =
    number_kept c.in-Some.highest.now c.args.system.now (sym c.is_of.ensures ∙ c.if-is_of.true)
    ∙ number_is c.args.gens.now.list c.as_slice.result.now (Some c.in-Some.highest.now) c.args.system.now c.in-Some.ensures.value c.as_slice.ensures

pub returns : goal.returns
returns c = search rules
