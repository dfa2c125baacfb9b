use Rattle.accounts_stage.proofs.EndLemmas.{end_law}
use Rattle.accounts_stage.proofs.MomentLemmas.{moment_law}
use Rattle.accounts_stage.proofs.PartLemmas.{part_law}
use Rattle.accounts_stage.proofs.laws.setting_accounts_is_a_part.Goals as goal

pub returns-clause-part : goal.returns-clause-part
returns-clause-part c = part_law

pub returns-clause-moments : goal.returns-clause-moments
returns-clause-moments c = moment_law

pub returns-clause-end : goal.returns-clause-end
returns-clause-end c = end_law
