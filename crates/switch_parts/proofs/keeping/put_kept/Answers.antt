use Rattle.std.proofs.Common.{◌≡◌, sym, ap, subst, ◌∙◌}
use Rattle.host_trait.proofs.Moments.{goes_on_same, leads_then}
use Rattle.host_trait.specs.World.{WorldState, seen}
use Rattle.tree_put.specs.Sequence.{IsPutting, WritesOthers, with_puts}
use Rattle.switch_parts.proofs.keeping.put_kept.Goals as goal

pub returns-in_err-sync-clause-moments : goal.returns-in_err-sync-clause-moments
returns-in_err-sync-clause-moments g c =
    let way = c.put_all.ensures.moments in
    goes_on_same way way.tells c.sync.ensures.reads.moments (IsPutting c.args.puts.now) (λ w m is moment. moment) (λ w v is moment. moment)

pub returns-clause-ok : goal.returns-clause-ok
returns-clause-ok g c = leads_then c.in_ok-put_all.ensures.ok c.sync.ensures.reads.moments.tells (λ w u. seen u ≡ seen (with_puts c.args.puts.now w)) (λ w v u is is_v came same. ap seen same ∙ came)

pub returns-clause-written : goal.returns-clause-written
returns-clause-written g c =
    leads_then c.in_ok-put_all.ensures.written c.sync.ensures.reads.moments.tells (WritesOthers c.args.puts.now)
    (λ w v u is is_v others same. subst (λ (x : WorldState). WritesOthers c.args.puts.now w x) (sym same) others)

pub returns-clause-moments : goal.returns-clause-moments
returns-clause-moments g c =
    let way = c.put_all.ensures.moments in
    goes_on_same way way.tells c.sync.ensures.reads.moments (IsPutting c.args.puts.now) (λ w m is moment. moment) (λ w v is moment. moment)
