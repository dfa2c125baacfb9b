use Rattle.std.proofs.Common.{◌++◌, refl}
use Rattle.std.proofs.lemmas.Result.{on_ok_weaker}
use Rattle.host_trait.proofs.Moments.{told_after, told_as}
use Rattle.switch_parts.proofs.TwoPutsLemmas.{both_led, both_wrote, first_way, second_way}
use Rattle.tree_put.specs.Sequence.{CanPutAll}
use Rattle.accounts_stage.proofs.PuttingLemmas.{accounts_apart, can_put, can_put_then}
use Rattle.accounts_stage.proofs.setting.put_accounts.Goals as goal

pub put_kept-requires-clause-apart : goal.put_kept-requires-clause-apart
put_kept-requires-clause-apart g c = accounts_apart c.args.first.now c.requires.places.0

pub put_kept-requires-clause-can : goal.put_kept-requires-clause-can
put_kept-requires-clause-can g c = told_as c.requires.way (CanPutAll c.args.first.now) (λ w is none. can_put w c.args.first.now c.requires.places.0 none)

pub returns-in_err-put_kept-clause-moments : goal.returns-in_err-put_kept-clause-moments
returns-in_err-put_kept-clause-moments g c =
    let first = c.args.first.now in let last = c.args.last.now in
    first_way (first ++ last) first last refl c.put_kept.ensures.moments

pub put_all-requires-clause-apart : goal.put_all-requires-clause-apart
put_all-requires-clause-apart g c = accounts_apart c.args.last.now c.requires.places.1

pub put_all-requires-clause-can : goal.put_all-requires-clause-can
put_all-requires-clause-can g c =
    told_after c.put_kept.ensures.moments c.in_ok-put_kept.ensures.ok (CanPutAll c.args.last.now)
    (λ w v is came. can_put_then w v c.args.first.now c.args.last.now c.requires.places.0 c.requires.places.1 (c.requires.way.has w is) came)

pub returns-clause-ok : goal.returns-clause-ok
returns-clause-ok g c =
    let first = c.args.first.now in let last = c.args.last.now in
    on_ok_weaker c.put_all.result (λ led. both_led (first ++ last) first last refl c.put_kept.ensures.moments c.in_ok-put_kept.ensures.ok led) c.put_all.ensures.ok

pub returns-clause-written : goal.returns-clause-written
returns-clause-written g c =
    let first = c.args.first.now in let last = c.args.last.now in
    on_ok_weaker c.put_all.result
    (λ wrote. both_wrote (first ++ last) first last refl c.put_kept.ensures.moments c.in_ok-put_kept.ensures.ok (accounts_apart last c.requires.places.1) c.in_ok-put_kept.ensures.written wrote)
    c.put_all.ensures.written

pub returns-clause-moments : goal.returns-clause-moments
returns-clause-moments g c =
    let first = c.args.first.now in let last = c.args.last.now in
    second_way (first ++ last) first last refl c.put_kept.ensures.moments c.in_ok-put_kept.ensures.ok c.put_all.ensures.moments
