use Rattle.std.proofs.Common.{true, ◌∙◌, arith}
use Rattle.id_memory.specs.Free.{is_free}
use Rattle.id_memory.proofs.FreeLemmas.{said, up_step}
use Rattle.id_memory.proofs.free.first_upwards.Goals as goal

pub loop-id-preserved : goal.loop-id-preserved
loop-id-preserved c =
    up_step (is_free c.args.taken.now) c.loop-id.id c.args.to (omega arith) (said c.args.taken.now c.loop-id.id true (omega arith) c.if-not-taken-id.false)
    ∙ c.loop-id.invariant
