use Rattle.std.proofs.Common.{◌≡◌, ◌++◌, string_bytes, take}
use Rattle.fstab_mounts.specs.Escape.{escaped}
use Rattle.fstab_mounts.proofs.escape.add_bytes.Given as goal

-- the bytes so far are added
abbrev pub invariant-loop-byte : goal.invariant-loop-byte
invariant-loop-byte l = string_bytes l.text ≡ string_bytes l.fn.text ++ escaped (take l.byte-index l.bytes)
