-- What a state becomes with one more line, and which line may stand there.
use Rattle.std.specs.Prelude.{ℕ, ◌-◌, ◌&&◌, ◌==◌, Bool, true, false, List, [], ◌∷◌, ◌++◌, length, slice_get, Option, None, Some}
use Rattle.std.specs.FinMap as map_of
use Rattle.std.specs.Option.{option_map_or}
use Rattle.std.specs.Ordering.{is_lt}
use Rattle.host_trait.specs.Bytes.{bytes_cmp}
use Rattle.host_trait.specs.States.{listed_states, with_state}
use Rattle.host_trait.specs.declared.manager_state.ManagerState.{ManagerState}
use Rattle.host_trait.specs.declared.unit_state.UnitState.{UnitState}
use Rattle.manager_core.specs.declared.line.Line.{Line}
use Rattle.manager_core.specs.declared.line.Line.TheVariants.{Loaded, State, Bad, Entry}
use Rattle.manager_core.specs.Reading.{line_of}

-- a manager that has loaded this, and of which nothing else is known
abbrev pub only_loaded : List ℕ → ManagerState
only_loaded text = record { states = map_of.empty; loaded = text; bad = []; journal = [] }

abbrev pub begun_by : Line → Option ManagerState
begun_by (Loaded text) = Some (only_loaded text)
begun_by (State one) = None
begun_by (Bad one) = None
begun_by (Entry one) = None

-- the state that a first line begins
abbrev pub begun : List ℕ → Option ManagerState
begun line = option_map_or begun_by (line_of line) None

-- the unit is higher than the last of these
abbrev pub is_above : List UnitState → List ℕ → Bool
is_above list unit = option_map_or (λ last. is_lt (bytes_cmp last.unit unit)) (slice_get list (length list - 1)) true

-- a state of a unit stands before all else but what is loaded and lower units, and a unit that fails before the journal
abbrev pub may_stand : Line → ManagerState → Bool
may_stand (Loaded text) manager = false
may_stand (State one) manager = length manager.bad == 0 && (length manager.journal == 0 && is_above (listed_states manager.states) one.unit)
may_stand (Bad one) manager = length manager.journal == 0
may_stand (Entry one) manager = true

-- the state with what a line says
abbrev pub added : Line → ManagerState → ManagerState
added (Loaded text) manager = record manager { loaded = text }
added (State one) manager = record manager { states = with_state one.unit one.state manager.states }
added (Bad one) manager = record manager { bad = manager.bad ++ one ∷ [] }
added (Entry one) manager = record manager { journal = manager.journal ++ one ∷ [] }

-- a line that may stand after those that made this state
abbrev pub stands : ManagerState → List ℕ → Bool
stands manager line = option_map_or (λ says. may_stand says manager) (line_of line) false

abbrev pub with_line : ManagerState → List ℕ → ManagerState
with_line manager line = option_map_or (λ says. added says manager) (line_of line) manager
