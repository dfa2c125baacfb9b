use Rattle.store_collect.proofs.WholeLemmas.{whole_law}
use Rattle.store_collect.proofs.laws.generations_stand_whole.Goals as goal

pub returns : goal.returns
returns c = record { whole = whole_law }
