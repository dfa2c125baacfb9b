use Rattle.std.proofs.Common.{◌≡◌}
use Rattle.std.specs.Map.{values_of}
use Rattle.unit_defs.specs.Part.{added}
use Rattle.unit_defs.proofs.reading.found.UnitFiles.add_drop_ins.Given as goal

-- what is applied so far and what is left is all
abbrev pub invariant-loop-drop_in : goal.invariant-loop-drop_in
invariant-loop-drop_in l = added l.part l.drop_in-iterator ≡ added l.fn.part (values_of l.self.drop_ins.entries)
