use Rattle.accounts_stage.proofs.TakenLemmas.{added, takes_these}
use Rattle.accounts_stage.proofs.sources.taken.Goals as goal

pub returns : goal.returns
returns c = record {
  taken = λ leaves q some.
      takes_these c.args.system.now c.push-8.new.self
      (added _ _ _ _ _ c.in_ok-push-8.ensures.ok c.in_ok-uids_path.ensures
      (added _ _ _ _ _ c.in_ok-push-7.ensures.ok c.in_ok-gids_path.ensures
      (added _ _ _ _ _ c.in_ok-push-6.ensures.ok c.in_ok-users_path.ensures
      (added _ _ _ _ _ c.in_ok-push-5.ensures.ok c.in_ok-groups_path.ensures
      (added _ _ _ _ _ c.in_ok-push-4.ensures.ok c.in_ok-shadow_path.ensures
      (added _ _ _ _ _ c.in_ok-push-3.ensures.ok c.in_ok-passwd_path.ensures
      (added _ _ _ _ _ c.in_ok-push-2.ensures.ok c.in_ok-group_path.ensures
      (added _ _ _ _ _ c.in_ok-push.ensures.ok c.in_ok-spec_path.ensures c.new-places.ensures))))))))
      q;
}
