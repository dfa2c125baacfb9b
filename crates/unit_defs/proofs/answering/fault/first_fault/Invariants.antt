use Rattle.std.proofs.Common.{◌≡◌, drop}
use Rattle.unit_defs.specs.Defs.{first_faulty}
use Rattle.unit_defs.proofs.answering.fault.first_fault.Given as goal

-- the first of those that are left is the first of all
abbrev pub invariant-loop-unit : goal.invariant-loop-unit
invariant-loop-unit l = first_faulty (drop l.unit-index l.units) ≡ first_faulty l.units
