use Rattle.activation_stage.proofs.ActivationLemmas.{activation_moment_law, activation_part_law}
use Rattle.activation_stage.proofs.laws.an_activation_is_a_part.Goals as goal

pub returns-clause-part : goal.returns-clause-part
returns-clause-part c = activation_part_law

pub returns-clause-moments : goal.returns-clause-moments
returns-clause-moments c = activation_moment_law
