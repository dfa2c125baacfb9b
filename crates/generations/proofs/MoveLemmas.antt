-- What holds of each way in which the profile is moved.
use Rattle.std.proofs.Common.{◌≡◌, ℕ, cond, None, Some, refl, sym, ap, ◌∙◌}
use Rattle.std.specs.List.{AllByRecursion}
use Rattle.std.specs.List.Sorted.{IsStrictlySortedBy}
use Rattle.std.specs.Ordering.{nat_cmp}
use Rattle.std.specs.Prelude.{true, map, IfSome}
use Rattle.host_trait.specs.World.{Leaves, WorldState, seen}
use Rattle.switch_names.specs.Names.{Name}
use Rattle.switch_names.specs.SystemName.{IsSystemPath}
use Rattle.switch_names.proofs.StorePaths.{NamesSystem-with_slash}
use Rattle.switch_parts.specs.Part.{IsAtEnd, IsFree, IsPartMoment, IsPart}
use Rattle.generations.specs.declared.gens.Gen.{Gen}
use Rattle.generations.specs.declared.moving.Move.{Move}
use Rattle.generations.specs.declared.moving.Move.TheVariants.{Point, Set}
use Rattle.generations.specs.Gens.{IsGensOf}
use Rattle.generations.specs.After.{gens_after}
use Rattle.generations.specs.Move.{IsMoveMoment, IsMoveTo, gens_at, gens_moved, move_part, move_world, number_moved}
use Rattle.generations.specs.Places.{generation_at, highest, is_number, number_after, set_end, with_generation, with_profile}
use Rattle.generations.specs.ProfilePart.{has_number}
use Rattle.generations.specs.Set.{NamesOldOrNew}
use Rattle.generations.proofs.AfterLemmas.{gens_after_numbers, gens_after_rising, gens_after_set, gens_after_stay, gens_after_systems}
use Rattle.generations.proofs.NamesLaws.{moment_names, of_system}
use Rattle.generations.proofs.PointLemmas.{gens_at_numbers, gens_at_rising, gens_at_stay, gens_at_systems, point_at_end, point_gens, point_is, point_moment, point_names}
use Rattle.generations.proofs.ProfileLemmas.{profile_at_end, profile_is, profile_moment}
use Rattle.generations.proofs.ProfilePlaces.{number_of_free}
use Rattle.generations.proofs.SetLaws.{generation_seen, linked_is, number_is, profile_keeps, top_of}

pub move_is : (move : Move) (system : Name) → IsPart (move_part move system)
move_is Set system = profile_is system
move_is (Point n) system = point_is n system

pub move_moment : (move : Move) (system : Name) (w m : WorldState) → IsSystemPath system → IsFree (move_part move system) w.leaves → IsMoveMoment move system w m → IsPartMoment (move_part move system) w m
move_moment Set system w m named free moment = profile_moment system w m (NamesSystem-with_slash system named) free moment
move_moment (Point n) system w m named free moment = point_moment n system w m moment

pub move_at_end : (move : Move) (system : Name) (w v : WorldState) → seen v ≡ move_world move system w → IsAtEnd (move_part move system) w v
move_at_end Set system w v is = profile_at_end system w v is
move_at_end (Point n) system w v is = point_at_end n system w v is

pub gens_of_move : (move : Move) (system : Name) (w u : WorldState) → IsSystemPath system → IsMoveTo move system w.leaves → IsFree (move_part move system) w.leaves → seen u ≡ move_world move system w → IsGensOf u.leaves (gens_moved move system w.leaves)
gens_of_move Set system w u named to free is = gens_after_set system w u named (number_of_free system w.leaves free) is
gens_of_move (Point n) system w u named to free is = point_gens n system w to u is

pub gens_stay : (move : Move) (system : Name) (w m : WorldState) → (move_part move system).Keeps w m → gens_moved move system m.leaves ≡ gens_moved move system w.leaves
gens_stay Set system w m keeps = gens_after_stay system w m keeps
gens_stay (Point n) system w m keeps = gens_at_stay n system w m keeps

pub move_names : (move : Move) (system : Name) (w m : WorldState) → IsSystemPath system → IsMoveTo move system w.leaves → IsFree (move_part move system) w.leaves → IsMoveMoment move system w m → NamesOldOrNew system w m
move_names Set system w m named to free moment = moment_names system w m (number_is w.leaves system (number_of_free system w.leaves free)) (NamesSystem-with_slash system named) moment
move_names (Point n) system w m named to free moment = point_names n system w m to moment

pub gens_rising : (move : Move) (system : Name) (leaves : Leaves) → IsStrictlySortedBy nat_cmp (map (λ (gen : Gen). gen.number) (gens_moved move system leaves).list)
gens_rising Set system leaves = gens_after_rising system leaves
gens_rising (Point n) system leaves = gens_at_rising n leaves

pub gens_numbers : (move : Move) (system : Name) (leaves : Leaves) → AllByRecursion (λ (gen : Gen). is_number gen.number ≡ true) (gens_moved move system leaves).list
gens_numbers Set system leaves = gens_after_numbers system leaves
gens_numbers (Point n) system leaves = gens_at_numbers n leaves

pub gens_systems : (move : Move) (system : Name) (leaves : Leaves) → IsSystemPath system → AllByRecursion (λ (gen : Gen). IfSome gen.target IsSystemPath) (gens_moved move system leaves).list
gens_systems Set system leaves named = gens_after_systems system leaves named
gens_systems (Point n) system leaves named = gens_at_systems n leaves

-- the generation that the profile names then names the system
set_named : (system : Name) (w u : WorldState) → IsSystemPath system → has_number w.leaves system ≡ true → seen u ≡ set_end system w → generation_at u.leaves (number_after w.leaves system) ≡ Some (Some system)
set_named system w u named further set =
    let number = number_after w.leaves system in
    let v = with_generation system number w in
    let linked = linked_is system w (number_is w.leaves system further) (NamesSystem-with_slash system named) in
    generation_seen u (with_profile number v) number set ∙ profile_keeps number number v
    ∙ ap (generation_at v.leaves) (sym linked.number ∙ top_of v.leaves system linked.highest_of) ∙ of_system (generation_at v.leaves (highest v.leaves)) system linked.highest_of

pub number_named : (move : Move) (system : Name) (w u : WorldState) → IsSystemPath system → IsMoveTo move system w.leaves → IsFree (move_part move system) w.leaves → seen u ≡ move_world move system w →
    generation_at u.leaves (number_moved move system w.leaves) ≡ Some (Some system)
number_named Set system w u named to free is = set_named system w u named (number_of_free system w.leaves free) is
number_named (Point n) system w u named to free is = generation_seen u (with_profile n w) n is ∙ profile_keeps n n w ∙ to

-- that generation is the current one
set_current : (system : Name) (leaves : Leaves) → has_number leaves system ≡ true → (gens_after system leaves).current ≡ Some (number_after leaves system)
unfolding gens_after
set_current system leaves further = ap (λ b. cond b (Some (number_after leaves system)) None) further

point_current : (n : ℕ) (leaves : Leaves) → (gens_at n leaves).current ≡ Some n
unfolding gens_at
point_current n leaves = refl

pub move_current : (move : Move) (system : Name) (leaves : Leaves) → IsFree (move_part move system) leaves → (gens_moved move system leaves).current ≡ Some (number_moved move system leaves)
move_current Set system leaves free = set_current system leaves (number_of_free system leaves free)
move_current (Point n) system leaves free = point_current n leaves
