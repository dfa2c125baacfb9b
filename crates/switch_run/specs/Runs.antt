-- Runs of the same words, one after another, of which all but the last are cut: NixOS manual, "What happens during a system switch?".
use Rattle.std.specs.Prelude.{◌≡◌, ℕ, List, [], ◌∷◌, None, Some}
use Rattle.host_trait.specs.States.{state_of}
use Rattle.host_trait.specs.World.{IsSameAt, WorldState}
use Rattle.switch_engine.specs.declared.command.Command.{Command}
use Rattle.switch_engine.specs.Commands.{IsQuery}
use Rattle.switch_engine.specs.Final.{IsEndOf}
use Rattle.switch_engine.specs.Owing.{IsSteadyFor}
use Rattle.switch_engine.specs.Rows.{refusal}
use Rattle.switch_names.specs.Names.{Name}
use Rattle.switch_run.specs.Commands.{command_of}
use Rattle.switch_run.specs.Moments.{IsMomentFor}

-- Runs of these words may be cut from this world on: they give a command that changes something, nothing refuses it there,
-- and the world is steady for it.
pub record MayBeCut (words : List (List ℕ)) (first : WorldState) : Type 0 where
  pub command : Command
  pub given : command_of words ≡ Some command
  pub changes : IsQuery command → ⊥
  pub not_refused : refusal command first.leaves ≡ None
  pub steady : IsSteadyFor command first

-- a run of these words from a world has come to its end in another
abbrev pub HasEnded : List (List ℕ) → WorldState → WorldState → Type 0
HasEnded words w v = (command : Command) → command_of words ≡ Some command → IsEndOf command w v

-- Runs of these words lead from one world to another: each but the last is cut, in one of these worlds, which is a moment
-- of a run from the world before, and the last comes to its end.
abbrev pub RunsLead : List (List ℕ) → List WorldState → WorldState → WorldState → Type 0
RunsLead words [] w v = HasEnded words w v
RunsLead words (m ∷ cuts) w v = IsMomentFor (command_of words) w m × RunsLead words cuts m v

-- two worlds look alike: the same leaves but for the stage's, the same states of units, and the same definitions loaded
pub record LooksAlike (one other : WorldState) : Type 0 where
  pub leaves : (at : Name) → IsSameAt one.leaves other.leaves at
  pub states : (unit : Name) → state_of one.manager.states unit ≡ state_of other.manager.states unit
  pub loaded : one.manager.loaded ≡ other.manager.loaded
