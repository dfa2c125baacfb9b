use Rattle.std.proofs.Common.{◌≡◌, ◌+◌, ◌-◌, find}
use Rattle.std.specs.List.{range_with_len}
use Rattle.id_memory.specs.Free.{is_free}
use Rattle.id_memory.proofs.free.first_upwards.Given as goal

-- the first free number is among those that are left
abbrev pub invariant-loop-id : goal.invariant-loop-id
invariant-loop-id l = find (is_free l.taken) (range_with_len l.id (l.to + 1 - l.id)) ≡ find (is_free l.taken) (range_with_len l.fn.from (l.to + 1 - l.fn.from))
