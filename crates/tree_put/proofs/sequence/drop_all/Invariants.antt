use Rattle.std.proofs.Common.{◌≡◌, Ok, take}
use Rattle.host_trait.specs.Host.{HasCause, Leads, Passes}
use Rattle.tree_put.specs.Sequence.{IsRemoving, without_places}
use Rattle.tree_put.proofs.sequence.drop_all.Given as goal

-- the leaves at the places so far are removed
abbrev pub invariant-loop-at : goal.invariant-loop-at
invariant-loop-at g l =
    let start = g.T.Tree.host l.fn.host in
    let now = g.T.Tree.host l.host in
    record {
      ok : Leads start now (λ w v. v ≡ without_places (take l.at-index l.places) w);
      moments : Passes start now (IsRemoving l.places);
      cause : HasCause {T = Unit {0}} start now (Ok tt);
    }
