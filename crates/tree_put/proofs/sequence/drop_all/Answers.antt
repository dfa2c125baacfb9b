use Rattle.std.proofs.Common.{◌≡◌, List, refl, ap, ◌∙◌}
use Rattle.std.proofs.lemmas.List.{take_all}
use Rattle.switch_names.specs.Names.{Name}
use Rattle.host_trait.proofs.Causes.{cause_ok, cause_started, cause_then}
use Rattle.host_trait.proofs.Moments.{goes_on, leads_as, leads_then, started}
use Rattle.std.proofs.Common.{take, ◌+◌}
use Rattle.tree_put.specs.Sequence.{IsRemoving, without_places}
use Rattle.tree_put.proofs.SequenceLemmas.{cause_handed, removed_next, removing_next, removing_none}
use Rattle.tree_put.proofs.sequence.drop_all.Goals as goal

pub loop-at-init : goal.loop-at-init
loop-at-init g c = record {
  ok = record { to = λ w is. (w, is, refl) };
  moments = started (IsRemoving c.args.places.now) (λ w is. removing_none c.args.places.now w);
  cause = cause_started tt;
}

pub loop-at-preserved : goal.loop-at-preserved
loop-at-preserved g c =
    let places = c.args.places.now in let i = c.loop-at.at-index in let one = c.at-item.result in
    record {
      ok = leads_then c.loop-at.invariant.ok c.in_ok-drop_leaf.ensures.ok (λ w v. v ≡ without_places (take (i + 1) places) w)
          (λ w v u is_w is_v before now. removed_next places i one w v c.loop-at-test.true c.at-item.is before u now);
      moments = goes_on c.loop-at.invariant.moments c.loop-at.invariant.ok c.drop_leaf.ensures.moments (IsRemoving places) (λ w m is moment. moment)
          (λ w v m is_w is_v before moment. removing_next places i one w v c.loop-at-test.true c.at-item.is before m moment);
      cause = cause_ok (cause_then c.loop-at.invariant.cause c.drop_leaf.ensures.cause) tt;
    }

pub returns-in_err-drop_leaf-clause-moments : goal.returns-in_err-drop_leaf-clause-moments
returns-in_err-drop_leaf-clause-moments g c =
    let places = c.args.places.now in let i = c.loop-at.at-index in let one = c.at-item.result in
    goes_on c.loop-at.invariant.moments c.loop-at.invariant.ok c.drop_leaf.ensures.moments (IsRemoving places) (λ w m is moment. moment)
    (λ w v m is_w is_v before moment. removing_next places i one w v c.loop-at-test.true c.at-item.is before m moment)

pub returns-in_err-drop_leaf-clause-cause : goal.returns-in_err-drop_leaf-clause-cause
returns-in_err-drop_leaf-clause-cause g c = cause_handed c.loop-at.invariant.cause c.in_err-drop_leaf.ensures.cause _ c.from_residual.ensures.1

pub returns-clause-ok : goal.returns-clause-ok
returns-clause-ok g c =
    leads_as c.loop-at.invariant.ok (λ w v. v ≡ without_places c.args.places.now w)
    (λ w v is before. before ∙ ap (λ (places : List Name). without_places places w) (take_all c.loop-at.at-index c.args.places.now c.loop-at-test.false))

pub returns-clause-moments : goal.returns-clause-moments
returns-clause-moments g c = c.loop-at.invariant.moments

pub returns-clause-cause : goal.returns-clause-cause
returns-clause-cause g c = c.loop-at.invariant.cause
