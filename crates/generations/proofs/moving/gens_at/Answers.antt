use Rattle.std.proofs.Common.{Some, refl, ◌∙◌}
use Rattle.generations.proofs.PointLemmas.{at_of_list}
use Rattle.generations.proofs.moving.gens_at.Goals as goal

pub returns : goal.returns
returns c = λ leaves is.
    at_of_list leaves c.args.gens.now (record { list = c.in_ok-copy_list.field-0; current = Some c.args.number }) c.args.number is (c.in_ok-copy_list.ensures ∙ c.as_slice.ensures) refl
