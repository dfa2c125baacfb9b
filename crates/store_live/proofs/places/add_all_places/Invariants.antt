use Rattle.std.proofs.Common.{Ok, take}
use Rattle.host_trait.specs.Host.{Told}
use Rattle.host_trait.specs.Reading.{IsReading}
use Rattle.store_live.specs.Grown.{AtSome, IsGrown, IsListedAt}
use Rattle.store_live.proofs.places.add_all_places.Given as goal

-- the places below the paths so far are added, and nothing has changed
abbrev pub invariant-loop-top : goal.invariant-loop-top
invariant-loop-top g l =
    let start = g.T.Tree.host l.fn.host in
    let now = g.T.Tree.host l.host in
    record {
      reads : IsReading {T = Unit {0}} start now (Ok tt);
      grown : Told start (λ w. IsGrown l.fn.places l.places (AtSome (take l.top-index l.tops) (IsListedAt w.leaves)));
    }
