-- What a move of the profile is about, with the generations that stand after it.
use Rattle.std.proofs.Common.{Option}
use Rattle.generations.specs.declared.moving.Move.{Move}
use Rattle.host_trait.specs.World.{Leaves}
use Rattle.switch_engine.specs.Rows.{default_if, gens_to}
use Rattle.switch_names.specs.Names.{Name}
use Rattle.switch_parts.specs.Part.{Part}

-- the part of a move of the profile, where it is moved
abbrev pub default_in : Option Move → Name → Leaves → Part
default_in moves system leaves = default_if moves system (gens_to moves system leaves)
