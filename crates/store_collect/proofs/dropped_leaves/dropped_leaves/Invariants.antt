use Rattle.std.proofs.Common.{◌≡◌, Ok, take}
use Rattle.host_trait.specs.Host.{Told}
use Rattle.host_trait.specs.Reading.{IsReading}
use Rattle.store_collect.specs.Collection.{leaves_of}
use Rattle.store_collect.proofs.dropped_leaves.dropped_leaves.Given as goal

-- the leaves of those so far are added, and nothing has changed
abbrev pub invariant-loop-system : goal.invariant-loop-system
invariant-loop-system g l =
    let start = g.T.Tree.host l.fn.host in
    let now = g.T.Tree.host l.host in
    record {
      reads : IsReading {T = Unit {0}} start now (Ok tt);
      leaves : Told start (λ w. l.leaves ≡ leaves_of (take l.system-index l.names) w.leaves);
    }
