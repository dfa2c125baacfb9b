use Rattle.accounts_stage.proofs.AgainLemmas.{again_law}
use Rattle.accounts_stage.proofs.laws.set_accounts_stay.Goals as goal

pub returns : goal.returns
returns c = again_law
