use Rattle.std.proofs.Common.{◌≡◌, map, take}
use Rattle.std.specs.List.{flat_map}
use Rattle.fstab_mounts.specs.Fields.{parts_between}
use Rattle.fstab_mounts.proofs.fields.fields_of.Given as goal

-- the fields in the parts so far
abbrev pub invariant-loop-part : goal.invariant-loop-part
invariant-loop-part l =
    map (λ field. field.now) l.fields.items ≡ flat_map (parts_between 9) (map (λ part. part.now) (take l.part-index l.part-items))
