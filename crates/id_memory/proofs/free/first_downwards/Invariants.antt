use Rattle.std.proofs.Common.{◌≡◌, ◌+◌, ◌-◌, find, reverse}
use Rattle.std.specs.List.{range_with_len}
use Rattle.id_memory.specs.Free.{is_free}
use Rattle.id_memory.proofs.free.first_downwards.Given as goal

-- the first free number is among those that are left
abbrev pub invariant-loop-id : goal.invariant-loop-id
invariant-loop-id l =
    find (is_free l.taken) (reverse (range_with_len l.to (l.id + 1 - l.to))) ≡ find (is_free l.taken) (reverse (range_with_len l.to (l.fn.from + 1 - l.to)))
