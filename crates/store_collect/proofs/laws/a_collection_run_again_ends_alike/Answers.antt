use Rattle.store_collect.proofs.AgainLemmas.{collected_again}
use Rattle.store_collect.proofs.laws.a_collection_run_again_ends_alike.Goals as goal

pub returns : goal.returns
returns c = record { again = collected_again }
