use Rattle.std.proofs.Common.{◌≡◌, false, Ok, take}
use Rattle.host_trait.specs.Host.{Told}
use Rattle.host_trait.specs.Reading.{IsReading}
use Rattle.store_collect.specs.Unfinished.{stands_at_one}
use Rattle.store_collect.proofs.unfinished.stands_at_one.Given as goal

-- no leaf stands at those so far, and nothing has changed
abbrev pub invariant-loop-place : goal.invariant-loop-place
invariant-loop-place g l =
    let start = g.T.Tree.host l.fn.host in
    let now = g.T.Tree.host l.host in
    record {
      reads : IsReading {T = Unit {0}} start now (Ok tt);
      none : Told start (λ w. stands_at_one (take l.place-index l.places) w.leaves ≡ false);
    }
