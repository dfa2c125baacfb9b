use Rattle.std.proofs.Common.{◌≡◌, map}
use Rattle.std.specs.List.{filter_map}
use Rattle.fstab_mounts.specs.Fstab.{unit_of_line}
use Rattle.fstab_mounts.proofs.fstab.units_in.Given as goal

-- the units of the lines so far
abbrev pub invariant-loop-line : goal.invariant-loop-line
invariant-loop-line l = l.units.items ≡ filter_map unit_of_line (map (λ line. line.now) l.yielded)
