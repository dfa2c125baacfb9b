use Rattle.std.proofs.Common.{◌≡◌, filter, map, string_bytes}
use Rattle.fstab_mounts.specs.Escape.{is_some_name, joined}
use Rattle.fstab_mounts.proofs.escape.escaped_path.Given as goal

-- the names so far are joined
abbrev pub invariant-loop-name : goal.invariant-loop-name
invariant-loop-name l = string_bytes l.text ≡ joined (filter is_some_name (map (λ name. name.now) l.yielded))
