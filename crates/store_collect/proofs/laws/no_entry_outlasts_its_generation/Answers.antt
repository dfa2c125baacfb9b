use Rattle.store_collect.proofs.EntryLemmas.{entry_law}
use Rattle.store_collect.proofs.laws.no_entry_outlasts_its_generation.Goals as goal

pub returns : goal.returns
returns c = record { entry = entry_law }
