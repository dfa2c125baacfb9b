use Rattle.store_collect.proofs.OneLemmas.{one_collection}
use Rattle.store_collect.proofs.laws.there_is_one_collection.Goals as goal

pub returns : goal.returns
returns c = record { one = one_collection }
