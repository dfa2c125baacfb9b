use Rattle.std.proofs.Common.{append_assoc, rules}
use Rattle.std.proofs.lemmas.Result.{IfOk-equal}
use Rattle.dry_report.proofs.reporting.write_front.Goals as goal

pub returns : goal.returns
returns c = search (rules, IfOk-equal, append_assoc) steps 1000000
