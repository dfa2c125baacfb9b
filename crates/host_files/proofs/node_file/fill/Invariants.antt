use Rattle.std.proofs.Common.{◌≤◌, length}
use Rattle.host_files.proofs.node_file.fill.Given as goal

-- no more is filled than there is room
abbrev pub invariant-loop : goal.invariant-loop
invariant-loop g l = l.filled ≤ length l.buffer
