use Rattle.std.proofs.Common.{Ok, take}
use Rattle.host_trait.specs.Host.{Told}
use Rattle.host_trait.specs.Reading.{IsReading}
use Rattle.switch_names.specs.Names.{has}
use Rattle.store_live.specs.Grown.{AtSome, IsGrown, IsLinkedAt}
use Rattle.store_live.proofs.roots.add_linked.Given as goal

-- those of the places so far are added, and nothing has changed
abbrev pub invariant-loop-place : goal.invariant-loop-place
invariant-loop-place g l =
    let start = g.T.Tree.host l.fn.host in
    let now = g.T.Tree.host l.host in
    record {
      reads : IsReading {T = Unit {0}} start now (Ok tt);
      grown : Told start (λ w. IsGrown l.fn.roots.keys l.roots.keys (AtSome (take l.place-index l.places) (IsLinkedAt (has l.fn.skipped.keys) w.leaves l.fn.stored)));
    }
