-- What a set of the profile leaves at each moment.
use Rattle.std.specs.Prelude.{◌≡◌, ◌⊎◌, ◌↔◌, ℕ, false, List}
use Rattle.host_trait.specs.World.{WorldState, IsClear, seen, stage}
use Rattle.generations.specs.Places.{Names, generation_at, highest, is_of, link_path, number_after, profile, set_end, with_generation}

-- nothing stands in the way of a set of this system
pub record CanSet (system : List ℕ) (w : WorldState) : Type 0 where
  pub stage : IsClear w.leaves stage
  pub profile : IsClear w.leaves profile
  pub link : is_of (generation_at w.leaves (highest w.leaves)) system ≡ false → IsClear w.leaves (link_path (number_after w.leaves system))

-- the world with the generation's link of this system, but for the stage
abbrev pub link_end : List ℕ → WorldState → WorldState
link_end system w = seen (with_generation system (number_after w.leaves system) w)

-- neither link is put yet, or the generation's alone is, or both are
abbrev pub IsSetMoment : List ℕ → WorldState → WorldState → Type 0
IsSetMoment system w m = (seen m ≡ seen w) ⊎ (seen m ≡ link_end system w) ⊎ (seen m ≡ set_end system w)

-- the generation's link is put or isn't
abbrev pub IsLinkMoment : List ℕ → WorldState → WorldState → Type 0
IsLinkMoment system w m = (seen m ≡ seen w) ⊎ (seen m ≡ link_end system w)

-- the profile names what it named, or the system that is set
abbrev pub NamesOldOrNew : List ℕ → WorldState → WorldState → Type 0
NamesOldOrNew system w m = ((other : List ℕ) → Names m.leaves other ↔ Names w.leaves other) ⊎ Names m.leaves system
