use Rattle.generations.proofs.ProfilePlaces.{can_of_free, free_of, number_of_free}
use Rattle.generations.proofs.laws.a_set_can_be_made_where_its_part_is_free.Goals as goal

pub returns : goal.returns
returns c system w = (λ free. (can_of_free system w free, number_of_free system w.leaves free), λ can. free_of system w can.0 can.1)
