use Rattle.std.proofs.Common.{◌≡◌, ◌||◌, List, ℕ, filter, take}
use Rattle.owed_plan.specs.Collected.{comes_up_by}
use Rattle.owed_plan.specs.Decisions.{situation_of}
use Rattle.switch_names.specs.Names.{has}
use Rattle.owed_plan.proofs.touched.add_pulled.Given as goal

-- the set has what it had, and those of the units so far that come up
abbrev pub invariant-loop-unit : goal.invariant-loop-unit
invariant-loop-unit l = (unit : List ℕ) →
    has l.set unit ≡ (has l.fn.set unit || has (filter (comes_up_by (situation_of l.known) l.touched.stops.now (has l.touched.listed.now)) (take l.unit-index l.pulled)) unit)
