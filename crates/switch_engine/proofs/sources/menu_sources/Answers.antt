use Rattle.host_trait.proofs.Readings.{nothing_read_ok}
use Rattle.switch_engine.proofs.sources.menu_sources.Goals as goal

pub returns-in_default-clause-reads : goal.returns-in_default-clause-reads
returns-in_default-clause-reads g c = nothing_read_ok c.new.result
