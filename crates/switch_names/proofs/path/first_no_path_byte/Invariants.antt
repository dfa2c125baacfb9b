use Rattle.std.proofs.Common.{◌≡◌, false, take}
use Rattle.std.specs.List.{All}
use Rattle.switch_names.specs.Path.{is_no_path_byte}
use Rattle.switch_names.proofs.path.first_no_path_byte.Given as goal

-- the bytes so far stand in paths
abbrev pub invariant-loop-at : goal.invariant-loop-at
invariant-loop-at l = All (λ byte. is_no_path_byte byte ≡ false) (take l.at l.bytes)
