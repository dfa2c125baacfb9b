use Rattle.std.proofs.Common.{[], ◌++◌, subst}
use Rattle.std.proofs.lemmas.Result.{on_ok_weaker}
use Rattle.std.specs.List.{cons_option}
use Rattle.users_merge.specs.Taken.{AreTaken}
use Rattle.users_merge.proofs.taken.Taken.take_wanted.Goals as goal

pub returns-in-Some : goal.returns-in-Some
returns-in-Some g c =
    on_ok_weaker c.take.result
    (λ taken used known are. subst (λ wanted. AreTaken (used ++ cons_option wanted []) known c.take.new.self) c.in-Some.ensures (taken used known are)) c.take.ensures
