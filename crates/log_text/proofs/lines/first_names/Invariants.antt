use Rattle.std.proofs.Common.{◌≡◌, ◌++◌}
use Rattle.std.specs.List.{AllByRecursion}
use Rattle.switch_names.specs.UnitName.{IsUnitName}
use Rattle.log_text.specs.Log.{list_text}
use Rattle.log_text.proofs.lines.first_names.Given as goal

abbrev pub invariant-loop : goal.invariant-loop
invariant-loop l = (l.text ≡ list_text l.names ++ l.rest) × AllByRecursion IsUnitName l.names
