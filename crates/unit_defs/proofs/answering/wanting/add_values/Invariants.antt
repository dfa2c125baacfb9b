use Rattle.std.proofs.Common.{take}
use Rattle.std.specs.List.{flat_map}
use Rattle.unit_defs.specs.Defs.{AddsWanted}
use Rattle.unit_defs.specs.Units.{words_of}
use Rattle.unit_defs.proofs.answering.wanting.add_values.Given as goal

-- the set has what it had, and what can be wanted of the words so far
abbrev pub invariant-loop-value : goal.invariant-loop-value
invariant-loop-value l = AddsWanted l.units (flat_map words_of (take l.value-index l.values)) l.fn.set l.set
