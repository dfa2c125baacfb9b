use Rattle.std.proofs.Common.{Ok, take}
use Rattle.host_trait.specs.Host.{Becomes, Passes, HasCause}
use Rattle.unit_stage.specs.Acts.{IsPerforming, with_calls}
use Rattle.unit_stage.proofs.acting.call_units.Given as goal

-- the calls so far are made
abbrev pub invariant-loop-call : goal.invariant-loop-call
invariant-loop-call g l =
    let start = g.H.Tree.host l.fn.host in
    let now = g.H.Tree.host l.host in
    record {
      way : Passes start now (IsPerforming l.calls);
      made : Becomes start now (with_calls (take l.call-index l.calls));
      cause : HasCause {T = Unit {0}} start now (Ok tt);
    }
