use Rattle.std.proofs.Common.{◌≡◌, sym, ap, subst, ◌∙◌}
use Rattle.generations.specs.Goal.{goal_leaf, goal_place}
use Rattle.generations.specs.GoalPart.{owns_goal}
use Rattle.host_trait.proofs.Moments.{goes_on_same, leads_then}
use Rattle.host_trait.specs.World.{WorldState, seen, with_leaf}
use Rattle.tree_put.specs.Put.{IsOldOrNew}
use Rattle.tree_put.specs.Written.{WritesOnly}
use Rattle.tree_put.proofs.WrittenLemmas.{writes_wider}
use Rattle.switch_engine.specs.Quiet.{is_not_quiet}
use Rattle.switch_engine.proofs.MovedQuiet.{goal_not_quiet}
use Rattle.switch_engine.proofs.carrying.record_kept.Goals as goal

pub returns-in_err-sync-clause-moments : goal.returns-in_err-sync-clause-moments
returns-in_err-sync-clause-moments g c =
    let way = c.record_goal.ensures.moments in
    goes_on_same way way.tells c.sync.ensures.reads.moments (IsOldOrNew goal_place (goal_leaf c.args.number)) (λ w m is moment. moment) (λ w v is moment. moment)

pub returns-clause-ok : goal.returns-clause-ok
returns-clause-ok g c = leads_then c.in_ok-record_goal.ensures.ok c.sync.ensures.reads.moments.tells (λ w u. seen u ≡ seen (with_leaf goal_place (goal_leaf c.args.number) w)) (λ w v u is is_v came same. ap seen same ∙ came)

pub returns-clause-moments : goal.returns-clause-moments
returns-clause-moments g c =
    let way = c.record_goal.ensures.moments in
    goes_on_same way way.tells c.sync.ensures.reads.moments (IsOldOrNew goal_place (goal_leaf c.args.number)) (λ w m is moment. moment) (λ w v is moment. moment)

pub returns-clause-written : goal.returns-clause-written
returns-clause-written g c =
    leads_then c.in_ok-record_goal.ensures.written c.sync.ensures.reads.moments.tells (WritesOnly is_not_quiet)
    (λ w v u is is_v recorded same. subst (λ (x : WorldState). WritesOnly is_not_quiet w x) (sym same) (writes_wider owns_goal is_not_quiet goal_not_quiet w v recorded))
