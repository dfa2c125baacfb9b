use Rattle.std.proofs.Common.{◌+◌, ◌-◌, ◌≤◌, length, drop}
use Rattle.unit_text.specs.Parts.{AreParts}
use Rattle.unit_compare.proofs.WalkLemmas.{IsWalk, fronts_made, texts_of}
use Rattle.unit_compare.proofs.walk.compare_fronts.Given as goal

-- the keys that are left decide the rest
abbrev pub invariant-loop-order : goal.invariant-loop-order
invariant-loop-order l = record {
  of_old : l.old_at ≤ length l.old.front_keys.now;
  of_new : l.new_at ≤ length l.new.front_keys.now;
  walk : (o : AreParts l.old) (n : AreParts l.new)
      → IsWalk l.kind (texts_of l.old l.new o n) l.outcome (fronts_made l.kind l.old l.new o n) (drop l.old_at l.old.front_keys.now) (drop l.new_at l.new.front_keys.now);
}

-- the keys that are left in the two texts
abbrev pub decreases-loop-order : goal.decreases-loop-order
decreases-loop-order l = (length l.old.front_keys.now - l.old_at) + (length l.new.front_keys.now - l.new_at)
