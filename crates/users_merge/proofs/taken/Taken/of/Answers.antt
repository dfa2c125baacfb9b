use Rattle.std.proofs.Common.{[]}
use Rattle.users_merge.proofs.taken.Taken.of.Goals as goal

pub returns-clause-taken : goal.returns-clause-taken
returns-clause-taken g c = c.mark_known.ensures.marked _ [] (c.in_ok-take_all_wanted.ensures _ [] (c.in_ok-take_rows.ensures [] [] c.in_ok-taken.ensures))
