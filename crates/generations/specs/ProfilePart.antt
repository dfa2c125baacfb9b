-- The part of a switch that makes a generation and points the profile to it: Nix manual, "Profiles".
use Rattle.std.specs.Prelude.{◌||◌, ◌&&◌, ◌^◌, ◌++◌, ◌∷◌, Bool, false, not, List, [], codes, nat_eq, nat_lt, Option, None, Some, if◌then◌else◌}
use Rattle.std.specs.FinMap.{get}
use Rattle.std.specs.List.{starts_with}
use Rattle.host_trait.specs.declared.leaf.LeafKind.{LeafKind}
use Rattle.host_trait.specs.declared.leaf.LeafKind.TheVariants.{Link}
use Rattle.host_trait.specs.World.{Leaves, is_in_line, is_path, stage}
use Rattle.generations.specs.Places.{generation_at, highest, is_of, link_name, link_path, link_target, number_after, profile, profiles}
use Rattle.switch_names.specs.Names.{Name}
use Rattle.switch_parts.specs.declared.refusal.Refusal.TheVariants.{GenerationsFull}
use Rattle.switch_parts.specs.Leaves.{leaf_part}
use Rattle.switch_parts.specs.Part.{Part}
use Rattle.tree_put.specs.declared.written_place.WrittenPlace.{WrittenPlace}
use Rattle.tree_put.specs.WrittenPlace.{written}

-- the highest generation names a system already
abbrev pub is_kept : Leaves → Name → Bool
is_kept leaves system = is_of (generation_at leaves (highest leaves)) system

-- a set finds a number for a system
abbrev pub has_number : Leaves → Name → Bool
has_number leaves system = nat_lt (number_after leaves system) (2 ^ 32)

-- the link of the generation that a set makes, where it makes one
abbrev pub new_link : Leaves → Name → List WrittenPlace
new_link leaves system =
    if not (is_kept leaves system) && has_number leaves system then written false (link_path (number_after leaves system)) ∷ [] else []

-- the places that a set of a system writes, in byte order
abbrev pub profile_places : Leaves → Name → List WrittenPlace
profile_places leaves system = written false profile ∷ (new_link leaves system ++ written false stage ∷ [])

-- the profile's link, and whatever is named as its generations are
abbrev pub owns_profile : Name → Bool
owns_profile q = is_path q profile || starts_with nat_eq q (codes "nix/var/nix/profiles/system-")

-- what a set looks at: the folder of the profiles, and what could be in the way of the stage
abbrev pub reads_profile : Name → Bool
reads_profile q = is_path q profiles || is_in_line q profiles || is_in_line q stage

-- the profile's link names the number that a set gives, and a new generation's link the system
abbrev pub profile_end : Name → Leaves → Name → Option LeafKind
profile_end system leaves q =
    if is_path q profile then Some (Link (link_name (number_after leaves system)))
    else if not (is_kept leaves system) && is_path q (link_path (number_after leaves system)) then Some (Link (link_target system))
    else get leaves q

-- the part that sets the profile to a system
abbrev pub profile_part : Name → Part
profile_part system = leaf_part owns_profile reads_profile (λ leaves. profile_places leaves system)
    (λ leaves. if has_number leaves system then None else Some GenerationsFull) (profile_end system)
