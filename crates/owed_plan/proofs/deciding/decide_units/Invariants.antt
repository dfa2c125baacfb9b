use Rattle.std.proofs.Common.{◌≡◌, filter, map, take}
use Rattle.host_trait.specs.Manager.{is_active}
use Rattle.owed_plan.specs.Decisions.{decision_of, situation_of}
use Rattle.owed_plan.proofs.deciding.decide_units.Given as goal

-- what is decided on the active units so far
abbrev pub invariant-loop-one : goal.invariant-loop-one
invariant-loop-one l = l.decisions.items ≡ map (λ one. decision_of (situation_of l.known) one.unit) (filter (λ one. is_active one.state) (take l.one-index l.one-items))
