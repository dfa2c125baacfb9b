use Rattle.host_trait.specs.Manager.{IsPlain}
use Rattle.host_trait.specs.declared.entry.Bad.{Bad}
use Rattle.manager_core.specs.declared.line.Line.TheVariants as line
use Rattle.manager_core.proofs.Written.{all_lines, all_written, one_line_more, one_written}
use Rattle.manager_core.proofs.writing.write_all_bad.Goals as goal
use Rattle.switch_names.proofs.Lists.{all_at}

pub loop-one-preserved : goal.loop-one-preserved
loop-one-preserved c = record {
  text = one_written line.Bad c.args.bad.now c.loop-one.one-index c.one-item.result _ _ _ c.loop-one-test.true c.one-item.is c.in_ok-write_bad.ensures.text c.loop-one.invariant.text;
  lines = one_line_more line.Bad c.args.bad.now c.loop-one.one-index c.one-item.result c.loop-one-test.true c.one-item.is c.in_ok-write_bad.ensures.line c.loop-one.invariant.lines;
}

pub write_bad-requires : goal.write_bad-requires
write_bad-requires c = all_at (λ (one : Bad). IsPlain one.loaded) c.args.bad.now c.loop-one.one-index c.one-item.result c.loop-one-test.true c.one-item.is c.requires

pub returns-clause-text : goal.returns-clause-text
returns-clause-text c = all_written line.Bad c.args.bad.now c.loop-one.one-index _ _ c.loop-one-test.false c.loop-one.invariant.text

pub returns-clause-lines : goal.returns-clause-lines
returns-clause-lines c = all_lines line.Bad c.args.bad.now c.loop-one.one-index c.loop-one-test.false c.loop-one.invariant.lines
