use Rattle.std.proofs.Common.{◌≡◌, sym, ap, subst, ◌∙◌}
use Rattle.host_trait.proofs.Moments.{goes_on_same, leads_then}
use Rattle.host_trait.specs.World.{seen}
use Rattle.tree_put.specs.Sequence.{IsPutting, with_puts}
use Rattle.etc_farm.specs.Steps.{puts_but}
use Rattle.etc_farm.specs.Written.{WritesEntries}
use Rattle.etc_farm.proofs.farm.put_entries_kept.Goals as goal

pub put_entries-requires-clause-can : goal.put_entries-requires-clause-can
put_entries-requires-clause-can g c = c.requires.can

pub put_entries-requires-clause-standing : goal.put_entries-requires-clause-standing
put_entries-requires-clause-standing g c = c.requires.standing

pub returns-in_err-sync-clause-moments : goal.returns-in_err-sync-clause-moments
returns-in_err-sync-clause-moments g c =
    let way = c.put_entries.ensures.moments in
    goes_on_same way way.tells c.sync.ensures.reads.moments (IsPutting (puts_but c.args.blocked.now c.args.items.now)) (λ w m is moment. moment) (λ w v is moment. moment)

pub returns-clause-ok : goal.returns-clause-ok
returns-clause-ok g c =
    leads_then c.in_ok-put_entries.ensures.ok c.sync.ensures.reads.moments.tells (λ w u. seen u ≡ seen (with_puts (puts_but c.args.blocked.now c.args.items.now) w)) (λ w v u is is_v came same. ap seen same ∙ came)

pub returns-clause-written : goal.returns-clause-written
returns-clause-written g c =
    let writes = WritesEntries c.args.items.now c.args.blocked.now c.args.standing.now in
    leads_then c.in_ok-put_entries.ensures.written c.sync.ensures.reads.moments.tells writes (λ w v u is is_v wrote same. subst (writes w) (sym same) wrote)

pub returns-clause-moments : goal.returns-clause-moments
returns-clause-moments g c =
    let way = c.put_entries.ensures.moments in
    goes_on_same way way.tells c.sync.ensures.reads.moments (IsPutting (puts_but c.args.blocked.now c.args.items.now)) (λ w m is moment. moment) (λ w v is moment. moment)
