use Rattle.std.proofs.Common.{arith}
use Rattle.unit_defs.proofs.NameLemmas.{copied_more}
use Rattle.std.proofs.lemmas.Grind.{common_steps}
use Rattle.unit_defs.proofs.unit.copies.Goals as goal

pub loop-name-preserved : goal.loop-name-preserved
loop-name-preserved c =
    copied_more c.args.names.now c.loop-name.name-index c.name-item.result c.in_ok-copy.field-0 c.loop-name.copied c.push.new.self
    c.loop-name-test.true c.name-item.is c.in_ok-copy.ensures c.loop-name.invariant c.in_ok-push.ensures.ok

pub returns : goal.returns
returns c = grind (arith, common_steps)
