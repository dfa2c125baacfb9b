use Rattle.std.proofs.Common.{Some, ap}
use Rattle.std.proofs.lemmas.Str.{is_utf8-from_IsUtf8}
use Rattle.manager_core.proofs.line.utf8_of.Goals as goal
use Rattle.switch_names.proofs.UnitNames.{not_utf8}

pub returns-in-Ok : goal.returns-in-Ok
returns-in-Ok c =
    let is = is_utf8-from_IsUtf8 c.args.bytes.now c.in-Ok.ensures.cases.1 in
    rw is (ap Some c.in-Ok.ensures.cases.0)

pub returns-in-Err : goal.returns-in-Err
returns-in-Err c =
    let is = not_utf8 c.args.bytes.now c.in-Err.ensures.cases.0 in
    rw is
