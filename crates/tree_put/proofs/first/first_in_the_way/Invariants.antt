use Rattle.std.proofs.Common.{◌≡◌, ◌≤◌, drop, length, Ok}
use Rattle.host_trait.specs.Host.{Told}
use Rattle.host_trait.specs.Reading.{IsReading}
use Rattle.tree_put.specs.First.{first_in_the_way}
use Rattle.tree_put.specs.Found.{AreFound}
use Rattle.tree_put.proofs.first.first_in_the_way.Given as goal

-- the first is the first in the way among the places that have been looked at, which are the last
abbrev pub invariant-loop-k : goal.invariant-loop-k
invariant-loop-k g l = let start = g.T.Tree.host l.fn.host in let now = g.T.Tree.host l.host in record {
  reads : IsReading {T = Unit {0}} start now (Ok tt);
  inside : l.k ≤ length l.places;
  found : Told start (λ w. AreFound w.leaves l.findings);
  first : Told start (λ w. l.first ≡ first_in_the_way (drop l.k l.places) w.leaves);
}
