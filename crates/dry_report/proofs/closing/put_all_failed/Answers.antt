use Rattle.std.proofs.Common.{arith, length, refl, rules}
use Rattle.std.proofs.lemmas.Grind.{common_steps}
use Rattle.std.proofs.lemmas.Option.{slice_get_read}
use Rattle.dry_report.proofs.CloseLemmas.{puts_one, puts_part}
use Rattle.dry_report.proofs.closing.put_all_failed.Goals as goal

pub returns-in_err-put_one-clause-prefix : goal.returns-in_err-put_one-clause-prefix
returns-in_err-put_one-clause-prefix g c =
    let there = slice_get_read c.args.list.now (length c.args.list.now) c.loop-one.one-index c.one-item.result refl c.loop-one-test.true c.one-item.is in
    puts_part c.args.defs.now c.args.list.now c.loop-one.one-index c.one-item.result there c.loop-one.invariant.so_far c.put_one.ensures.prefix

pub loop-one-preserved : goal.loop-one-preserved
loop-one-preserved g c =
    let there = slice_get_read c.args.list.now (length c.args.list.now) c.loop-one.one-index c.one-item.result refl c.loop-one-test.true c.one-item.is in
    record {
      so_far = puts_one c.args.defs.now c.args.list.now c.loop-one.one-index c.one-item.result there c.loop-one.invariant.so_far c.in_ok-put_one.ensures.ok;
      cause = search rules;
    }

pub returns-clause-prefix : goal.returns-clause-prefix
returns-clause-prefix g c = grind (arith, common_steps)

pub returns-clause-ok : goal.returns-clause-ok
returns-clause-ok g c = grind (arith, common_steps)
