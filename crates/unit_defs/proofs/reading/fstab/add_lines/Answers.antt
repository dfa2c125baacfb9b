use Rattle.std.proofs.Common.{subst}
use Rattle.std.proofs.lemmas.List.{take_all}
use Rattle.unit_defs.specs.Found.{JoinsLines}
use Rattle.unit_defs.proofs.FstabLemmas.{joins_more, joins_none}
use Rattle.unit_defs.proofs.reading.fstab.add_lines.Goals as goal

pub loop-line-init : goal.loop-line-init
loop-line-init c = joins_none c.args.found.now

pub loop-line-preserved : goal.loop-line-preserved
loop-line-preserved c =
    joins_more c.args.lines.now c.loop-line.line-index c.line-item.result c.args.found.now c.loop-line.found c.add_line.new.found
    c.loop-line-test.true c.line-item.is c.loop-line.invariant c.in_ok-add_line.ensures

pub returns : goal.returns
returns c = subst (λ lines. JoinsLines lines c.args.found.now c.loop-line.found) (take_all c.loop-line.line-index c.args.lines.now c.loop-line-test.false) c.loop-line.invariant
