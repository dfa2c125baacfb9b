use Rattle.store_collect.proofs.AgainLemmas.{cut_collections}
use Rattle.store_collect.proofs.laws.cut_collections_end_alike.Goals as goal

pub returns : goal.returns
returns c = record { cuts = cut_collections }
