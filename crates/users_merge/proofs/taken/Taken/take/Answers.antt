use Rattle.users_merge.proofs.TakenLemmas.{used_more}
use Rattle.users_merge.proofs.taken.Taken.take.Goals as goal

pub returns : goal.returns
returns c = λ used known are.
    used_more used known c.mark.new.self.used.keys c.insert.new.self.keys c.mark.new.self.marked.items c.args.id c.in_ok-insert.ensures.updates.0 (c.mark.ensures used known are)
