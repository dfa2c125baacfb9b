use Rattle.std.proofs.Common.{◌≡◌, ◌+◌, ◌-◌, true, false, find, reverse, sym, ap, ◌∙◌, arith}
use Rattle.std.specs.List.{range_with_len}
use Rattle.id_memory.specs.Free.{is_free}
use Rattle.id_memory.proofs.FreeLemmas.{down_here, down_step, said}
use Rattle.id_memory.proofs.free.first_downwards.Goals as goal

pub returns-then-not-taken-id : goal.returns-then-not-taken-id
returns-then-not-taken-id c =
    sym (down_here (is_free c.args.taken.now) c.args.to c.loop-id.id (omega arith) (said c.args.taken.now c.loop-id.id false (omega arith) c.if-not-taken-id.true))
    ∙ c.loop-id.invariant

pub loop-id-preserved : goal.loop-id-preserved
loop-id-preserved c =
    let left : c.loop-id.id - 1 + 1 - c.args.to ≡ c.loop-id.id - c.args.to = omega arith in
    ap (λ n. find (is_free c.args.taken.now) (reverse (range_with_len c.args.to n))) left
    ∙ sym (down_step (is_free c.args.taken.now) c.args.to c.loop-id.id (omega arith) (said c.args.taken.now c.loop-id.id true (omega arith) c.if-not-taken-id.false))
    ∙ c.loop-id.invariant

pub returns-else-not-taken-id : goal.returns-else-not-taken-id
returns-else-not-taken-id c =
    let left : c.loop-id.id - c.args.to ≡ 0 = omega arith in
    sym (ap (λ n. find (is_free c.args.taken.now) (reverse (range_with_len c.args.to n))) left)
    ∙ sym (down_step (is_free c.args.taken.now) c.args.to c.loop-id.id (omega arith) (said c.args.taken.now c.loop-id.id true (omega arith) c.if-not-taken-id.false))
    ∙ c.loop-id.invariant

pub returns : goal.returns
returns c =
    let left : c.loop-id.id + 1 - c.args.to ≡ 0 = omega arith in
    sym (ap (λ n. find (is_free c.args.taken.now) (reverse (range_with_len c.args.to n))) left) ∙ c.loop-id.invariant
