use Rattle.std.proofs.Common.{◌≡◌, filter, map}
use Rattle.switch_names.specs.UnitName.{is_unit}
use Rattle.owed_lists.proofs.loading.read_names.Given as goal

-- the lines so far have been looked at
abbrev pub invariant-loop-line : goal.invariant-loop-line
invariant-loop-line l = l.names ≡ filter is_unit (map (λ line. line.now) l.yielded)
