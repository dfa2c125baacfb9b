use Rattle.std.proofs.Common.{sym}
use Rattle.log_text.proofs.LineLemmas.{line_parts, no_line_end}
use Rattle.log_text.proofs.lines.first_line.Goals as goal

pub returns-in-Some : goal.returns-in-Some
returns-in-Some c = line_parts c.args.text.now c.in-Some.at (sym c.in-Some.ensures)

pub returns-in-None : goal.returns-in-None
returns-in-None c = no_line_end c.args.text.now (sym c.in-None.ensures)
