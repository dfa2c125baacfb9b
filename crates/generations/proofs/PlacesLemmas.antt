-- The places of a list of generations are those of the world, and the stage is apart from each.
use Rattle.std.proofs.Common.{◌≡◌, ◌&&◌, ℕ, Bool, true, false, cond, not, List, [], ◌∷◌, ◌++◌, Option, None, Some, option_map, refl, ap, ◌∙◌}
use Rattle.std.specs.Option.{option_to_list}
use Rattle.host_trait.specs.World.{Leaves, stage}
use Rattle.host_trait.proofs.Sound.{not_in_line, line_turned}
use Rattle.switch_names.specs.Names.{Name}
use Rattle.tree_put.specs.WrittenPlace.{AreApartFromStage, written}
use Rattle.generations.specs.declared.gens.Gen.{Gen}
use Rattle.generations.specs.declared.gens.Gens.{Gens}
use Rattle.generations.specs.Gens.{IsGensOf, is_highest_of, number_for_in}
use Rattle.generations.specs.Places.{link_path, number_after, profile}
use Rattle.generations.specs.ProfilePart.{has_number, is_kept, new_link, profile_places}
use Rattle.generations.specs.ProfilePlaces.{new_link_in, places_in}
use Rattle.generations.proofs.Apart.{link_apart, profile_apart}
use Rattle.generations.proofs.Numbers.{highest_of_world, number_for_world}

new_link_of_world : (leaves : Leaves) (gens : Gens) (system : Name) → IsGensOf leaves gens → option_to_list (option_map (written false) (new_link_in gens.list system)) ≡ new_link leaves system
new_link_of_world leaves gens system is =
    ap (λ b. option_to_list (option_map (written false) (cond b None (option_map link_path (number_for_in gens.list system))))) (highest_of_world leaves gens system is)
    ∙ ap (λ n. option_to_list (option_map (written false) (cond (is_kept leaves system) None (option_map link_path n)))) (number_for_world leaves gens system is)
    ∙ either (is_kept leaves system) (has_number leaves system) (number_after leaves system)
  where
    either : (kept further : Bool) (n : ℕ) →
        option_to_list (option_map (written false) (cond kept None (option_map link_path (cond further (Some n) None)))) ≡ cond (not kept && further) (written false (link_path n) ∷ []) []
    either true further n = refl
    either false true n = refl
    either false false n = refl

-- the places of a list of a world's generations are the world's
pub places_of_world : (leaves : Leaves) (gens : Gens) (system : Name) → IsGensOf leaves gens → places_in gens.list system ≡ profile_places leaves system
places_of_world leaves gens system is = ap (λ l. written false profile ∷ (l ++ written false stage ∷ [])) (new_link_of_world leaves gens system is)

with_link : (kept : Bool) (number : Option ℕ) → AreApartFromStage (option_to_list (option_map (written false) (cond kept None (option_map link_path number))) ++ written false stage ∷ [])
with_link true number = (not_in_line stage, tt)
with_link false None = (not_in_line stage, tt)
with_link false (Some n) = (line_turned (link_path n) stage (link_apart n).line, (not_in_line stage, tt))

-- the stage is apart from the places of each list
pub places_apart : (list : List Gen) (system : Name) → AreApartFromStage (places_in list system)
places_apart list system = (line_turned profile stage profile_apart.line, with_link (is_highest_of list system) (number_for_in list system))
