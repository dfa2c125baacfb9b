use Rattle.std.proofs.Common.{◌≡◌, ◌-◌, ◌<◌, ◌^◌, true, false, length, Ok}
use Rattle.host_trait.specs.Host.{Told}
use Rattle.host_trait.specs.Reading.{IsReading}
use Rattle.switch_names.specs.Names.{Name, has}
use Rattle.store_live.proofs.ReachLemmas.{IsSearch}
use Rattle.store_live.proofs.reaching.live.Given as goal

-- what is walked so far is live, isn't left to walk, and refers to what is either
abbrev pub invariant-loop-path : goal.invariant-loop-path
invariant-loop-path g l =
    let start = g.M.Tree.host l.fn.host in
    let now = g.M.Tree.host l.host in
    record {
      reads : IsReading {T = Unit {0}} start now (Ok tt);
      apart : (x : Name) → has l.left.keys x ≡ true → has l.walked.keys x ≡ false;
      small : length l.walked.keys < 2 ^ 63;
      search : Told start (λ w. IsSearch (has l.fn.skipped.keys) w l.fn.stored l.walked.keys l.left.keys);
    }

-- each is walked once
abbrev pub decreases-loop-path : goal.decreases-loop-path
decreases-loop-path g l = 2 ^ 63 - length l.walked.keys
