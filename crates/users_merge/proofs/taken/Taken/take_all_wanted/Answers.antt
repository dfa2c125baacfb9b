use Rattle.std.proofs.Common.{◌++◌, map, take, subst}
use Rattle.std.proofs.lemmas.List.{take_all}
use Rattle.users_merge.specs.Taken.{AreTaken, wanted_ids}
use Rattle.users_merge.proofs.TakenLemmas.{wanted_next}
use Rattle.users_merge.proofs.taken.Taken.take_all_wanted.Goals as goal

pub loop-account-preserved : goal.loop-account-preserved
loop-account-preserved g c = λ used known are.
    subst (λ ids. AreTaken ids known c.take_wanted.new.self)
    (wanted_next g.D.Declaration.asked used c.args.accounts.now c.loop-account.account-index c.account-item.result c.loop-account-test.true c.account-item.is)
    (c.in_ok-take_wanted.ensures (used ++ wanted_ids (map g.D.Declaration.asked (take c.loop-account.account-index c.args.accounts.now))) known (c.loop-account.invariant used known are))

pub returns : goal.returns
returns g c = λ used known are.
    subst (λ accounts. AreTaken (used ++ wanted_ids (map g.D.Declaration.asked accounts)) known c.loop-account.self)
    (take_all c.loop-account.account-index c.args.accounts.now c.loop-account-test.false) (c.loop-account.invariant used known are)
