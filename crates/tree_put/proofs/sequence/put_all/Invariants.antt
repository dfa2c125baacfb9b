use Rattle.std.proofs.Common.{◌≡◌, Ok, take}
use Rattle.host_trait.specs.Host.{HasCause, Leads, Passes}
use Rattle.host_trait.specs.World.{seen}
use Rattle.tree_put.specs.Sequence.{IsPutting, WritesOthers, with_puts}
use Rattle.tree_put.proofs.sequence.put_all.Given as goal

-- the leaves so far are put
abbrev pub invariant-loop-one : goal.invariant-loop-one
invariant-loop-one g l =
    let start = g.T.Tree.host l.fn.host in
    let now = g.T.Tree.host l.host in
    record {
      ok : Leads start now (λ w v. seen v ≡ seen (with_puts (take l.one-index l.puts) w));
      written : Leads start now (WritesOthers (take l.one-index l.puts));
      moments : Passes start now (IsPutting l.puts);
      cause : HasCause {T = Unit {0}} start now (Ok tt);
    }
