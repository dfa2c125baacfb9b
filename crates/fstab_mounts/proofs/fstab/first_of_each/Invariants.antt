use Rattle.std.proofs.Common.{◌≡◌, map}
use Rattle.switch_names.specs.Names.{Name, has}
use Rattle.fstab_mounts.specs.Fstab.{first_of_each}
use Rattle.fstab_mounts.proofs.fstab.first_of_each.Given as goal

-- the first of each name so far, and the names so far
abbrev pub invariant-loop-unit : goal.invariant-loop-unit
invariant-loop-unit l =
    record {
      first : l.first ≡ first_of_each l.yielded;
      names : (name : Name) → has l.names.keys name ≡ has (map (λ unit. unit.unit) l.yielded) name;
    }
