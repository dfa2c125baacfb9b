use Rattle.std.proofs.Common.{◌≡◌, ◌+◌, ◌-◌, ◌≤◌, drop, length}
use Rattle.store_names.specs.Beginnings.{common}
use Rattle.store_names.proofs.beginnings.common.Given as goal

-- what is alike so far, and what is alike of the rest
abbrev pub invariant-loop-count : goal.invariant-loop-count
invariant-loop-count l = (l.count ≤ length l.one) × (l.count ≤ length l.other) × (common l.one l.other ≡ l.count + common (drop l.count l.one) (drop l.count l.other))

abbrev pub decreases-loop-count : goal.decreases-loop-count
decreases-loop-count l = length l.one - l.count
