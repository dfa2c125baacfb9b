use Rattle.switch_names.proofs.UnitNames.{no_unit}
use Rattle.switch_names.proofs.unit_name.UnitName.of_bytes.Goals as goal

pub returns-in-Err : goal.returns-in-Err
returns-in-Err c = rw (no_unit c.args.bytes.now c.in-Err.ensures.cases.0)
