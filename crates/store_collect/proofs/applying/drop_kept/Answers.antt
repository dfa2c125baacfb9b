use Rattle.std.proofs.Common.{◌≡◌, ◌∙◌}
use Rattle.host_trait.proofs.Moments.{goes_on_same, leads_then}
use Rattle.tree_put.specs.Sequence.{IsRemoving, without_places}
use Rattle.store_collect.proofs.applying.drop_kept.Goals as goal

pub returns-in_err-sync-clause-moments : goal.returns-in_err-sync-clause-moments
returns-in_err-sync-clause-moments g c =
    let way = c.drop_all.ensures.moments in
    goes_on_same way way.tells c.sync.ensures.reads.moments (IsRemoving c.args.places.now) (λ w m is moment. moment) (λ w v is moment. moment)

pub returns-clause-ok : goal.returns-clause-ok
returns-clause-ok g c = leads_then c.in_ok-drop_all.ensures.ok c.sync.ensures.reads.moments.tells (λ w u. u ≡ without_places c.args.places.now w) (λ w v u is is_v gone same. same ∙ gone)

pub returns-clause-moments : goal.returns-clause-moments
returns-clause-moments g c =
    let way = c.drop_all.ensures.moments in
    goes_on_same way way.tells c.sync.ensures.reads.moments (IsRemoving c.args.places.now) (λ w m is moment. moment) (λ w v is moment. moment)
