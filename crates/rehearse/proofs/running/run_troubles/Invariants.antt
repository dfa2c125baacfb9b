use Rattle.std.proofs.Common.{◌≡◌, IsTrue}
use Rattle.host_trait.specs.Change.{IsSame}
use Rattle.host_trait.specs.Host.{Leads, Passes}
use Rattle.rehearse.specs.Ends.{IsHeld}
use Rattle.rehearse.specs.Through.{IsBounded}
use Rattle.rehearse.proofs.running.run_troubles.Given as goal

-- each run so far met its trouble
abbrev pub invariant-loop-trouble : goal.invariant-loop-trouble
invariant-loop-trouble g l =
    let start = g.H.Tree.host l.fn.host in
    let now = g.H.Tree.host l.host in
    record {
      count : l.runs ≡ l.trouble-index;
      way : Passes start now (IsHeld l.command);
      still : l.trouble-index ≡ 0 → Leads start now IsSame;
      bounded : IsBounded start now l.troubles l.trouble-index;
      sure : IsTrue now.is_sure;
    }
