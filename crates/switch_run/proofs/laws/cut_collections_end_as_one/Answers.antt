use Rattle.switch_run.proofs.CutCollectionLemmas.{collected}
use Rattle.switch_run.proofs.laws.cut_collections_end_as_one.Goals as goal

pub returns : goal.returns
returns c = collected
