-- A made machine whose old system is in use, and cuts for a switch to the new one.
use Rattle.std.specs.Prelude.{◌≡◌, ◌+◌, ◌*◌, ◌++◌, ◌∷◌, ◌%◌, ℕ, zero, suc, List, []}
use Rattle.host_trait.specs.States.{UnitStates}
use Rattle.host_trait.specs.World.{WorldState, with_manager}
use Rattle.made_world.specs.Draws.{draw_at, state_at}
use Rattle.made_world.specs.Machine.{machine_leaves}
use Rattle.made_world.specs.Putting.{new_system, old_system, world_of}
use Rattle.made_world.specs.Units.{units_bad, units_states}
use Rattle.rehearse.specs.declared.cut.Cut.{Cut}
use Rattle.rehearse.specs.declared.generated.Generated.{Generated}
use Rattle.rehearse.specs.declared.summary.End.{End}
use Rattle.rehearse.specs.Ends.{HasEnded}
use Rattle.switch_engine.specs.declared.command.Command.TheVariants.{Switch}
use Rattle.unit_stage.specs.System.{definitions_of}

-- a switch to the old system has ended, which wasn't cut
abbrev pub IsSettled : WorldState → WorldState → Type 0
IsSettled w v = (how : End) × HasEnded (Switch old_system) how w v

-- the world with the old system in use, its units in these states, and nothing done yet
abbrev pub in_use : UnitStates → WorldState → WorldState
in_use states w = with_manager (record { states = states; loaded = definitions_of old_system; bad = w.manager.bad; journal = [] }) w

-- the first so many cuts, which take two draws each
abbrev pub drawn_cuts : ℕ → ℕ → List Cut
drawn_cuts seed zero = []
drawn_cuts seed (suc count) = drawn_cuts seed count ++ record { after = draw_at seed (2 * count + 1) % 4096; pick = draw_at seed (2 * count + 2) } ∷ []

-- the first so many draws
unfoldable pub drawn_numbers : ℕ → ℕ → List ℕ
drawn_numbers seed zero = []
drawn_numbers seed (suc count) = drawn_numbers seed count ++ draw_at seed (count + 1) ∷ []

-- what a number makes
pub record IsGenerated (number units entries users : ℕ) (made : Generated) : Type 0 where
  pub settled : WorldState
  pub is_settled : IsSettled (world_of (machine_leaves number units entries users) (units_bad number units)) settled
  pub world : made.world ≡ in_use (units_states number units) settled
  pub system : made.system ≡ new_system
  pub cuts : made.cuts ≡ drawn_cuts (state_at number (units + entries + users)) 64
