use Rattle.std.proofs.Common.{take}
use Rattle.unit_defs.specs.Defs.{AddsWanted}
use Rattle.unit_defs.proofs.answering.wanting.add_names.Given as goal

-- the set has what it had, and what can be wanted of the names so far
abbrev pub invariant-loop-name : goal.invariant-loop-name
invariant-loop-name l = AddsWanted l.units (take l.name-index l.names) l.fn.set l.set
