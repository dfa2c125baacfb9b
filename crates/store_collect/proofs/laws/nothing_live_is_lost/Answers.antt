use Rattle.store_collect.proofs.LawLemmas.{live_law}
use Rattle.store_collect.proofs.laws.nothing_live_is_lost.Goals as goal

pub returns : goal.returns
returns c = record { live = live_law }
