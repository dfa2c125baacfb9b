-- Worlds in which no leaf stands.
use Rattle.std.specs.Prelude.{◌≡◌}
use Rattle.host_trait.specs.World.{WorldState, empty_world}

-- no leaf stands
abbrev pub HasNoLeaf : WorldState → Type 0
HasNoLeaf w = w.leaves ≡ empty_world.leaves
