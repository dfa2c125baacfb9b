use Rattle.etc_farm.proofs.MomentLemmas.{listed_law}
use Rattle.etc_farm.proofs.laws.cut_runs_list_copies.Goals as goal

pub returns : goal.returns
returns c = listed_law
