use Rattle.std.proofs.Common.{Ok, take}
use Rattle.host_trait.specs.Host.{Told}
use Rattle.host_trait.specs.Reading.{IsReading}
use Rattle.etc_clean.specs.Found.{AreFoundLeaves}
use Rattle.etc_clean.specs.Names.{names_below}
use Rattle.etc_clean.proofs.found.find.Given as goal

-- the leaves at the paths so far are sorted, and nothing has changed
abbrev pub invariant-loop-path : goal.invariant-loop-path
invariant-loop-path g l =
    let start = g.T.Tree.host l.fn.host in
    let now = g.T.Tree.host l.host in
    record {
      reads : IsReading {T = Unit {0}} start now (Ok tt);
      found : Told start (λ w. AreFoundLeaves l.items l.clean w.leaves (names_below (take l.path-index l.paths)) l.found);
    }
