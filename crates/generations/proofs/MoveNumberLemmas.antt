-- The number of the generation that is current after a move, by a list of the generations.
use Rattle.std.proofs.Common.{◌≡◌, ℕ, Bool, true, false, cond, Option, None, Some, IfSome, IsNone, refl, sym, ap, ◌∙◌}
use Rattle.host_trait.specs.World.{Leaves}
use Rattle.switch_names.specs.Names.{Name}
use Rattle.switch_parts.specs.declared.refusal.Refusal.TheVariants.{GenerationsFull}
use Rattle.generations.specs.declared.gens.Gens.{Gens}
use Rattle.generations.specs.declared.moving.Move.{Move}
use Rattle.generations.specs.declared.moving.Move.TheVariants.{Set}
use Rattle.generations.specs.Gens.{IsGensOf, number_for_in}
use Rattle.generations.specs.Move.{IsNumberFor, move_refusal, number_moved}
use Rattle.generations.specs.Places.{number_after}
use Rattle.generations.specs.ProfilePart.{has_number}
use Rattle.generations.proofs.Numbers.{number_for_world, number_of_world}

-- what is found of a number for a move
pub record IsFound (move : Move) (gens : Gens) (system : Name) (found : Option ℕ) : Type 0 where
  pub number : IfSome found (IsNumberFor move gens.list system)
  pub moved : IfSome found (λ number. (leaves : Leaves) → IsGensOf leaves gens → number ≡ number_moved move system leaves)
  pub further : IfSome found (λ number. (leaves : Leaves) → IsGensOf leaves gens → move_refusal move system leaves ≡ None)
  pub full : IsNone found → (leaves : Leaves) → IsGensOf leaves gens → move_refusal move system leaves ≡ Some GenerationsFull

some_is : (b : Bool) (n k : ℕ) → cond b (Some n) None ≡ Some k → b ≡ true
some_is true n k is = refl
some_is false n k is = absurd (cc)

none_is : (b : Bool) (n : ℕ) → cond b (Some n) None ≡ None → b ≡ false
none_is true n is = absurd (cc)
none_is false n is = refl

pub set_found : (gens : Gens) (system : Name) (found : Option ℕ) → found ≡ number_for_in gens.list system → IsFound Set gens system found
set_found gens system None is = record {
  number = tt;
  moved = tt;
  further = tt;
  full = λ none leaves of_leaves.
      ap (λ b. cond b None (Some GenerationsFull)) (none_is (has_number leaves system) (number_after leaves system) (sym (number_for_world leaves gens system of_leaves) ∙ sym is));
}
set_found gens system (Some number) is = record {
  number = sym is;
  moved = λ leaves of_leaves. number_of_world leaves gens system number of_leaves (sym is);
  further = λ leaves of_leaves.
      ap (λ b. cond b None (Some GenerationsFull)) (some_is (has_number leaves system) (number_after leaves system) number (sym (number_for_world leaves gens system of_leaves) ∙ sym is));
  full = λ none. absurd (cc);
}
