use Rattle.store_collect.proofs.AllowedLemmas.{allowed_law}
use Rattle.store_collect.proofs.laws.a_cut_collection_is_not_refused.Goals as goal

pub returns : goal.returns
returns c = record { allowed = allowed_law }
