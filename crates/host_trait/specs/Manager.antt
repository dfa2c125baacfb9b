-- What a service manager does: systemctl(1), "Unit Commands" and "Manager State Commands".
use Rattle.std.specs.Prelude.{◌≡◌, ℕ, ◌&&◌, Bool, true, false, List, [], ◌∷◌, ◌++◌, nat_eq, position, None, if◌then◌else◌}
use Rattle.std.specs.Cmp.Lexicographic.{pointwise}
use Rattle.std.specs.FinMap.{empty}
use Rattle.std.specs.List.{AllByRecursion, list_any}
use Rattle.switch_names.specs.Path.{is_no_path_byte}
use Rattle.host_trait.specs.declared.entry.Act.{Act}
use Rattle.host_trait.specs.declared.entry.Act.TheVariants.{Stop, Reload, Restart, Start}
use Rattle.host_trait.specs.declared.entry.Bad.{Bad}
use Rattle.host_trait.specs.declared.manager_state.ManagerState.{ManagerState}
use Rattle.host_trait.specs.declared.unit_state.State.{State}
use Rattle.host_trait.specs.declared.unit_state.State.TheVariants.{Active, Inactive, Failed}
use Rattle.host_trait.specs.States.{state_of, with_state}

-- a manager that has loaded nothing, and of which every unit is inactive
abbrev pub empty_manager : ManagerState
empty_manager = record { states = empty; loaded = []; bad = []; journal = [] }

-- a text without a NUL or a line feed
abbrev pub IsPlain : List ℕ → Type 0
IsPlain text = position is_no_path_byte text ≡ None

-- each text of a manager is so
pub record HasPlainTexts (manager : ManagerState) : Type 0 where
  pub loaded : IsPlain manager.loaded
  pub bad : AllByRecursion (λ one. IsPlain one.loaded) manager.bad
  pub journal : AllByRecursion (λ entry. IsPlain entry.loaded) manager.journal

-- whether a unit fails when it is started under these definitions
abbrev pub is_bad : List Bad → List ℕ → List ℕ → Bool
is_bad bad loaded unit = list_any (λ one. pointwise nat_eq one.loaded loaded && pointwise nat_eq one.unit unit) bad

-- whether a unit in this state is started
abbrev pub is_active : State → Bool
is_active Active = true
is_active Inactive = false
is_active Failed = false

-- what a start brings a unit to
abbrev pub brought : ManagerState → List ℕ → State
brought manager unit = if is_bad manager.bad manager.loaded unit then Failed else Active

-- the state of a unit after an act on it
abbrev pub state_after : Act → List ℕ → ManagerState → State
state_after Stop unit manager = Inactive
state_after Start unit manager = if is_active (state_of manager.states unit) then Active else brought manager unit
state_after Restart unit manager = brought manager unit
state_after Reload unit manager = state_of manager.states unit

-- an act brings its unit to a state, and is entered with what is loaded at that moment
abbrev pub acted : Act → List ℕ → ManagerState → ManagerState
acted act unit manager = record manager {
  states = with_state unit (state_after act unit manager) manager.states;
  journal = manager.journal ++ record { unit = unit; act = act; loaded = manager.loaded } ∷ [];
}

-- half way through a restart the unit is stopped, and nothing is entered yet
abbrev pub halted : List ℕ → ManagerState → ManagerState
halted unit manager = record manager { states = with_state unit Inactive manager.states }

-- definitions are loaded from here
abbrev pub loading : List ℕ → ManagerState → ManagerState
loading text manager = record manager { loaded = text }
