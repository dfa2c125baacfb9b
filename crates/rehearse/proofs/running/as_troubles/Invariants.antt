use Rattle.std.proofs.Common.{◌≡◌, take}
use Rattle.rehearse.specs.Troubles.{as_troubles}
use Rattle.rehearse.proofs.running.as_troubles.Given as goal

-- the first cuts are taken
abbrev pub invariant-loop-cut : goal.invariant-loop-cut
invariant-loop-cut l = l.troubles ≡ as_troubles (take l.cut-index l.cuts)
