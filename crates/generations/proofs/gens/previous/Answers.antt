use Rattle.std.proofs.lemmas.Grind.{common_steps}
use Rattle.std.proofs.Common.{sym, ◌∙◌, arith}
use Rattle.generations.proofs.Lists.{previous_chosen, previous_passed}
use Rattle.generations.proofs.gens.previous.Goals as goal
use Rattle.generations.proofs.gens.previous.Goals.{then-is_earlier, else-is_earlier}

pub loop-generation-preserved : goal.loop-generation-preserved
loop-generation-preserved c =
    let list = c.as_slice-generation-items.result.now in
    let at = c.loop-generation.generation-index in
    let current = c.in_ok-current.current in
    let gen = c.generation-item.result in
    elim c.if-is_earlier.branch [
      | then-is_earlier w ↦ w.latest-is ∙ sym (previous_chosen list at current gen c.loop-generation-test.true c.generation-item.is (sym c.is_earlier.ensures ∙ w.if-is_earlier.true))
      | else-is_earlier w ↦
          w.latest-is ∙ c.loop-generation.invariant
          ∙ sym (previous_passed list at current gen c.loop-generation-test.true c.generation-item.is (sym c.is_earlier.ensures ∙ w.if-is_earlier.false))
    ]

pub returns : goal.returns
returns c = grind (arith, common_steps)
