use Rattle.std.proofs.Common.{Option, sym, ap, ◌∙◌}
use Rattle.std.specs.Option.{option_and_then}
use Rattle.switch_names.specs.Names.{Name}
use Rattle.generations.specs.Gens.{listed_at}
use Rattle.generations.proofs.Lists.{listed_found, listed_passed}
use Rattle.generations.proofs.gens.system_of.Goals as goal

pub returns-then-generation-number : goal.returns-then-generation-number
returns-then-generation-number c =
    let list = c.as_slice-generation-items.result.now in
    let gen = c.generation-item.result in
    c.as_ref.ensures.value
    ∙ sym (ap (option_and_then (λ (target : Option Name). target))
    (ap (λ l. listed_at l c.args.number) (sym c.as_slice-generation-items.ensures)
    ∙ listed_found list c.loop-generation.generation-index c.args.number gen c.loop-generation-test.true c.generation-item.is c.loop-generation.invariant c.if-generation-number.true))

pub loop-generation-preserved : goal.loop-generation-preserved
loop-generation-preserved c =
    let gen = c.generation-item.result in
    listed_passed c.as_slice-generation-items.result.now c.loop-generation.generation-index c.args.number gen c.loop-generation-test.true c.generation-item.is c.loop-generation.invariant
    c.if-generation-number.false
