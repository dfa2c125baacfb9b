use Rattle.std.proofs.Common.{◌≡◌, Ok, take}
use Rattle.host_trait.specs.Host.{HasCause, Leads, Passes}
use Rattle.host_trait.specs.World.{seen}
use Rattle.tree_put.specs.Sequence.{IsPutting, with_puts}
use Rattle.etc_farm.specs.Steps.{puts_but}
use Rattle.etc_farm.specs.Written.{WritesEntries}
use Rattle.etc_farm.proofs.entries.put_entries.Given as goal

-- the entries so far are put
abbrev pub invariant-loop-item : goal.invariant-loop-item
invariant-loop-item g l =
    let start = g.T.Tree.host l.fn.host in
    let now = g.T.Tree.host l.host in
    record {
      ok : Leads start now (λ w v. seen v ≡ seen (with_puts (puts_but l.blocked (take l.item-index l.items)) w));
      written : Leads start now (WritesEntries (take l.item-index l.items) l.blocked l.standing);
      moments : Passes start now (IsPutting (puts_but l.blocked l.items));
      cause : HasCause {T = Unit {0}} start now (Ok tt);
    }
