use Rattle.std.proofs.Common.{◌≡◌, filter, map}
use Rattle.etc_clean.specs.CleanList.{is_clean_name}
use Rattle.etc_clean.proofs.clean_list.read_clean.Given as goal

-- the lines so far have been looked at
abbrev pub invariant-loop-line : goal.invariant-loop-line
invariant-loop-line l = l.names ≡ filter is_clean_name (map (λ line. line.now) l.yielded)
