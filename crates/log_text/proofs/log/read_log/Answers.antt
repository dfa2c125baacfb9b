use Rattle.log_text.proofs.ReadLemmas.{one_block_more, some_of}
use Rattle.log_text.proofs.log.read_log.Goals as goal

pub loop-preserved : goal.loop-preserved
loop-preserved c =
    let read = some_of c.in_ok-block.field-0 _ _ c.in-Some.is c.in_ok-block.ensures.block in
    one_block_more c.args.text.now c.loop.lists c.set.new.self c.loop.rest.now c.in-Some.after.now c.in-Some.block c.loop.invariant read.0 read.1 c.set.ensures
