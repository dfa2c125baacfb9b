use Rattle.store_collect.proofs.ApplyLemmas.{both_led, both_removals, first_removals}
use Rattle.store_collect.proofs.applying.drop_both.Goals as goal

pub returns-in_err-drop_kept-clause-moments : goal.returns-in_err-drop_kept-clause-moments
returns-in_err-drop_kept-clause-moments g c = first_removals c.args.first.now c.args.then.now c.drop_kept.ensures.moments

pub returns-in_err-drop_kept-2-clause-moments : goal.returns-in_err-drop_kept-2-clause-moments
returns-in_err-drop_kept-2-clause-moments g c = both_removals c.args.first.now c.args.then.now c.drop_kept.ensures.moments c.in_ok-drop_kept.ensures.ok c.drop_kept-2.ensures.moments

pub returns-clause-moments : goal.returns-clause-moments
returns-clause-moments g c = both_removals c.args.first.now c.args.then.now c.drop_kept.ensures.moments c.in_ok-drop_kept.ensures.ok c.drop_kept-2.ensures.moments

pub returns-clause-ok : goal.returns-clause-ok
returns-clause-ok g c = both_led c.args.first.now c.args.then.now c.drop_kept.ensures.moments c.in_ok-drop_kept.ensures.ok c.in_ok-drop_kept-2.ensures.ok
