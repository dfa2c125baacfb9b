use Rattle.std.proofs.Common.{◌+◌, ◌-◌, ◌<◌, ◌^◌, length, vec_len}
use Rattle.unit_defs.specs.Defs.{wanted_in}
use Rattle.owed_plan.proofs.SearchLemmas.{IsSearch}
use Rattle.owed_plan.proofs.pulling.pull.Given as goal

abbrev pub invariant-loop-unit : goal.invariant-loop-unit
invariant-loop-unit l = IsSearch (wanted_in l.fn.new) l.fn.roots l.reached l.left.items × (length l.reached < 2 ^ 63)

-- each unit is left to walk once
abbrev pub decreases-loop-unit : goal.decreases-loop-unit
decreases-loop-unit l = (2 ^ 63 - length l.reached) + vec_len l.left
