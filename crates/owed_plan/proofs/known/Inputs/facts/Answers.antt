use Rattle.std.proofs.Common.{◌∙◌}
use Rattle.unit_decide.specs.Facts.{facts_of}
use Rattle.owed_plan.proofs.known.Inputs.facts.Goals as goal

pub returns : goal.returns
returns c = c.of.ensures ∙ (λ i. facts_of (c.find.ensures i) (c.find-2.ensures i) c.args.unit.now)
