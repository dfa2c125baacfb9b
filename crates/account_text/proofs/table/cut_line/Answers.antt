use Rattle.account_text.proofs.LineLemmas.{cut_at, uncut}
use Rattle.account_text.proofs.table.cut_line.Goals as goal

pub returns-in-Some-clause-cut : goal.returns-in-Some-clause-cut
returns-in-Some-clause-cut c = cut_at c.args.text.now c.in-Some.at c.in-Some.ensures

pub returns-in-None-clause-cut : goal.returns-in-None-clause-cut
returns-in-None-clause-cut c = uncut c.args.text.now c.in-None.ensures
