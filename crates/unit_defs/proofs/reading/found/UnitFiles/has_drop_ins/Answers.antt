use Rattle.unit_defs.proofs.DropInLemmas.{has_some}
use Rattle.unit_defs.proofs.reading.found.UnitFiles.has_drop_ins.Goals as goal

pub returns : goal.returns
returns c = has_some c.is_empty.result c.args.self.now.drop_ins.entries c.is_empty.ensures
