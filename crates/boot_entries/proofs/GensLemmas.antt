-- The generations after a move of the profile are such as a boot menu has.
use Rattle.generations.proofs.MoveLemmas.{gens_numbers, gens_rising, gens_systems}
use Rattle.boot_entries.specs.DefaultLaws.{GensAfterLaw}

pub gens_after_law : GensAfterLaw
gens_after_law move system leaves names = record {
  list = record { rising = gens_rising move system leaves; numbers = gens_numbers move system leaves };
  systems = gens_systems move system leaves names;
}
