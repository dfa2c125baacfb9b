use Rattle.host_trait.specs.Manager.{IsPlain}
use Rattle.host_trait.specs.declared.entry.Entry.{Entry}
use Rattle.manager_core.specs.declared.line.Line.TheVariants as line
use Rattle.manager_core.proofs.Written.{all_lines, all_written, one_line_more, one_written}
use Rattle.manager_core.proofs.writing.write_journal.Goals as goal
use Rattle.switch_names.proofs.Lists.{all_at}

pub loop-one-preserved : goal.loop-one-preserved
loop-one-preserved c = record {
  text = one_written line.Entry c.args.journal.now c.loop-one.one-index c.one-item.result _ _ _ c.loop-one-test.true c.one-item.is c.in_ok-write_act.ensures.text c.loop-one.invariant.text;
  lines = one_line_more line.Entry c.args.journal.now c.loop-one.one-index c.one-item.result c.loop-one-test.true c.one-item.is c.in_ok-write_act.ensures.line c.loop-one.invariant.lines;
}

pub write_act-requires : goal.write_act-requires
write_act-requires c = all_at (λ (one : Entry). IsPlain one.loaded) c.args.journal.now c.loop-one.one-index c.one-item.result c.loop-one-test.true c.one-item.is c.requires

pub returns-clause-text : goal.returns-clause-text
returns-clause-text c = all_written line.Entry c.args.journal.now c.loop-one.one-index _ _ c.loop-one-test.false c.loop-one.invariant.text

pub returns-clause-lines : goal.returns-clause-lines
returns-clause-lines c = all_lines line.Entry c.args.journal.now c.loop-one.one-index c.loop-one-test.false c.loop-one.invariant.lines
