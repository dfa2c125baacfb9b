use Rattle.std.proofs.Common.{◌≡◌, ◌++◌, map, string_bytes}
use Rattle.std.specs.List.{before_first, flat_map}
use Rattle.fstab_mounts.specs.Fields.{is_backslash, unescaped_part}
use Rattle.fstab_mounts.proofs.fields.unescaped.Given as goal

-- the parts so far are read
abbrev pub invariant-loop-part : goal.invariant-loop-part
invariant-loop-part l =
    string_bytes l.text ≡ before_first is_backslash l.fn.field ++ flat_map unescaped_part (map (λ part. part.now) l.yielded)
