use Rattle.std.proofs.Common.{subst}
use Rattle.accounts_stage.specs.Plan.{IsMergePlanned}
use Rattle.accounts_stage.specs.Standing.{declared_by}
use Rattle.accounts_stage.proofs.PuttingLemmas.{tables_merged, tables_stay}
use Rattle.accounts_stage.proofs.accounts_plan.AccountsPlan.tables_after.Goals as goal

pub returns-in-Some : goal.returns-in-Some
returns-in-Some c = λ system leaves is. tables_merged leaves (declared_by system leaves) c.in-Some.merged (subst (IsMergePlanned leaves (declared_by system leaves)) c.in-Some.is is.merged)

pub returns-in-None : goal.returns-in-None
returns-in-None c = λ system leaves is. tables_stay leaves (declared_by system leaves) c.args.self.now.tables (subst (IsMergePlanned leaves (declared_by system leaves)) c.in-None.is is.merged) is.tables
