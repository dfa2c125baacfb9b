use Rattle.store_collect.proofs.AgainLive.{live_stays}
use Rattle.store_collect.proofs.laws.what_is_live_stays_so.Goals as goal

pub returns : goal.returns
returns c = record { live = live_stays }
