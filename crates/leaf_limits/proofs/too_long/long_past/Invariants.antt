use Rattle.std.proofs.Common.{Ok, take}
use Rattle.host_trait.specs.Host.{Told}
use Rattle.host_trait.specs.Reading.{IsReading}
use Rattle.leaf_limits.specs.Limits.{IsFirstOf}
use Rattle.leaf_limits.proofs.too_long.long_past.Given as goal

-- the first of the places so far that is too long is noted, and nothing has changed
abbrev pub invariant-loop-place : goal.invariant-loop-place
invariant-loop-place g l =
    let start = g.T.Tree.host l.fn.host in
    record {
      reads : IsReading {T = Unit {0}} start (g.T.Tree.host l.host) (Ok tt);
      noted : Told start (λ w. IsFirstOf (take l.place-index l.places) w.leaves l.long);
    }
