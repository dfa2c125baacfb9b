use Rattle.std.proofs.Common.{Ok, take}
use Rattle.host_trait.specs.Host.{Told}
use Rattle.host_trait.specs.Reading.{IsReading}
use Rattle.generations.specs.Targets.{AreTargetsAt}
use Rattle.generations.proofs.listing.read_links.Given as goal

-- the links so far are read, and nothing has changed
abbrev pub invariant-loop-path : goal.invariant-loop-path
invariant-loop-path g l =
    let start = g.T.Tree.host l.fn.host in
    let now = g.T.Tree.host l.host in
    record {
      reads : IsReading {T = Unit {0}} start now (Ok tt);
      read : Told start (λ w. AreTargetsAt w.leaves (take l.path-index l.paths) l.targets);
    }
