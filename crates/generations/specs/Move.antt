-- The ways in which the profile is moved: Nix manual, "Profiles".
use Rattle.std.specs.Prelude.{◌≡◌, ◌∷◌, ◌^◌, ℕ, false, List, [], Option, None, Some, if◌then◌else◌}
use Rattle.std.specs.FinMap.{get}
use Rattle.generations.specs.After.{gens_after, gens_below}
use Rattle.generations.specs.declared.gens.Gen.{Gen}
use Rattle.generations.specs.declared.gens.Gens.{Gens}
use Rattle.generations.specs.declared.moving.Move.{Move}
use Rattle.generations.specs.declared.moving.Move.TheVariants.{Point, Set}
use Rattle.generations.specs.Gens.{number_for_in}
use Rattle.generations.specs.Places.{generation_at, link_name, number_after, profile, set_end, with_profile}
use Rattle.generations.specs.ProfilePart.{has_number, owns_profile, profile_end, profile_places, reads_profile}
use Rattle.generations.specs.Set.{IsSetMoment}
use Rattle.host_trait.specs.declared.leaf.LeafKind.{LeafKind}
use Rattle.host_trait.specs.declared.leaf.LeafKind.TheVariants.{Link}
use Rattle.host_trait.specs.World.{Leaves, WorldState, is_path, seen, stage}
use Rattle.switch_names.specs.Names.{Name}
use Rattle.switch_parts.specs.declared.refusal.Refusal.{Refusal}
use Rattle.switch_parts.specs.declared.refusal.Refusal.TheVariants.{GenerationsFull}
use Rattle.switch_parts.specs.Leaves.{leaf_part}
use Rattle.switch_parts.specs.Part.{Part}
use Rattle.tree_put.specs.declared.written_place.WrittenPlace.{WrittenPlace}
use Rattle.tree_put.specs.Put.{IsOldOrNew}
use Rattle.tree_put.specs.WrittenPlace.{written}

-- a generation to which the profile is pointed stands and names the system; a set makes its own
abbrev pub IsMoveTo : Move → Name → Leaves → Type 0
IsMoveTo Set system leaves = Unit {0}
IsMoveTo (Point n) system leaves = generation_at leaves n ≡ Some (Some system)

-- the number of the generation that is current then
abbrev pub number_moved : Move → Name → Leaves → ℕ
number_moved Set system leaves = number_after leaves system
number_moved (Point n) system leaves = n

-- this is that number, by a list of the generations
abbrev pub IsNumberFor : Move → List Gen → Name → ℕ → Type 0
IsNumberFor Set list system number = number_for_in list system ≡ Some number
IsNumberFor (Point n) list system number = number ≡ n

-- the places that a move back writes
abbrev pub point_places : List WrittenPlace
point_places = written false profile ∷ written false stage ∷ []

-- the places that are written, in byte order
abbrev pub move_places : Move → Name → Leaves → List WrittenPlace
move_places Set system leaves = profile_places leaves system
move_places (Point n) system leaves = point_places

-- a set is refused where there is no further number
abbrev pub move_refusal : Move → Name → Leaves → Option Refusal
move_refusal Set system leaves = if has_number leaves system then None else Some GenerationsFull
move_refusal (Point n) system leaves = None

-- the profile's link to a generation, and each other leaf as it was
abbrev pub point_end : ℕ → Leaves → Name → Option LeafKind
point_end n leaves q = if is_path q profile then Some (Link (link_name n)) else get leaves q

-- what is left of the profile and its generations
abbrev pub move_end : Move → Name → Leaves → Name → Option LeafKind
move_end Set system leaves q = profile_end system leaves q
move_end (Point n) system leaves q = point_end n leaves q

-- the part that moves the profile
abbrev pub move_part : Move → Name → Part
move_part move system = leaf_part owns_profile reads_profile (move_places move system) (move_refusal move system) (move_end move system)

-- the generations that stand, of which this one is current
unfoldable pub gens_at : ℕ → Leaves → Gens
gens_at n leaves = record { list = gens_below (generation_at leaves) (2 ^ 32); current = Some n }

-- the generations that stand after a move
abbrev pub gens_moved : Move → Name → Leaves → Gens
gens_moved Set system leaves = gens_after system leaves
gens_moved (Point n) system leaves = gens_at n leaves

-- the world that a move leaves, but for the stage
abbrev pub move_world : Move → Name → WorldState → WorldState
move_world Set system w = set_end system w
move_world (Point n) system w = seen (with_profile n w)

-- a moment of a move
abbrev pub IsMoveMoment : Move → Name → WorldState → WorldState → Type 0
IsMoveMoment Set system w m = IsSetMoment system w m
IsMoveMoment (Point n) system w m = IsOldOrNew profile (Link (link_name n)) w m
