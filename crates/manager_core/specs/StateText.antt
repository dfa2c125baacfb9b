-- The text of a manager's state. This project's own, with the words of systemctl(1), "Unit Commands".
use Rattle.std.specs.Prelude.{◌≡◌, ◌≢◌, ◌⊎◌, ℕ, ◌-◌, zero, suc, min, ◌==◌, List, [], ◌∷◌, ◌++◌, codes, map, flat_map, if◌then◌else◌, Result, MatchResult}
use Rattle.std.specs.List.{AllByRecursion}
use Rattle.std.specs.Str.{IsUtf8}
use Rattle.switch_names.specs.UnitName.{IsUnitName}
use Rattle.host_trait.specs.Manager.{IsPlain}
use Rattle.host_trait.specs.States.{listed_states}
use Rattle.host_trait.specs.declared.entry.Act.{Act}
use Rattle.host_trait.specs.declared.entry.Act.TheVariants.{Stop, Reload, Restart, Start}
use Rattle.host_trait.specs.declared.manager_state.ManagerState.{ManagerState}
use Rattle.host_trait.specs.declared.unit_state.State.{State}
use Rattle.host_trait.specs.declared.unit_state.State.TheVariants.{Active, Inactive, Failed}
use Rattle.host_trait.specs.Words.{state_word, act_word}
use Rattle.manager_core.specs.declared.line.Line.{Line}
use Rattle.manager_core.specs.declared.line.Line.TheVariants as line
use Rattle.manager_core.specs.declared.state_fault.StateFault.{StateFault}
use Rattle.manager_core.specs.declared.state_fault.StateFault.TheVariants as fault

-- how a line is spelled, without its line feed
abbrev pub line_text : Line → List ℕ
line_text (line.Loaded text) = codes "loaded " ++ text
line_text (line.State one) = state_word one.state ++ 32 ∷ one.unit
line_text (line.Bad one) = codes "bad " ++ (one.unit ++ 32 ∷ one.loaded)
line_text (line.Entry one) = act_word one.act ++ 32 ∷ (one.unit ++ 32 ∷ one.loaded)

-- what is loaded, the units in order that aren't inactive, the units that fail, and the journal, each in a line
abbrev pub state_lines : ManagerState → List Line
state_lines state =
    line.Loaded state.loaded ∷ (map line.State (listed_states state.states) ++ (map line.Bad state.bad ++ map line.Entry state.journal))

-- each line ends with a line feed
abbrev pub lines_text : List Line → List ℕ
lines_text lines = flat_map (λ one. line_text one ++ 10 ∷ []) lines

-- the text of a state
abbrev pub state_text : ManagerState → List ℕ
state_text state = lines_text (state_lines state)

-- a text in UTF-8, without a NUL or a line feed
pub record IsText (text : List ℕ) : Type 0 where
  pub plain : IsPlain text
  pub utf8 : IsUtf8 text

-- a line names units by their names and definitions by such texts, and no unit as inactive
abbrev pub IsLine : Line → Type 0
IsLine (line.Loaded text) = IsText text
IsLine (line.State one) = IsUnitName one.unit × (one.state ≢ Inactive)
IsLine (line.Bad one) = IsUnitName one.unit × IsText one.loaded
IsLine (line.Entry one) = IsUnitName one.unit × IsText one.loaded

-- each line of a state is so
abbrev pub IsReadable : ManagerState → Type 0
IsReadable state = AllByRecursion IsLine (state_lines state)

-- these bytes are the text of this state
pub record IsTextOf (state : ManagerState) (bytes : List ℕ) : Type 0 where
  pub readable : IsReadable state
  pub spelled : bytes ≡ state_text state

-- these bytes are the text of some state
abbrev pub IsStateText : List ℕ → Type 0
IsStateText bytes = (state : ManagerState) × IsTextOf state bytes

-- the first so many lines of some bytes, with their line feeds
abbrev pub first_lines : ℕ → List ℕ → List ℕ
first_lines zero bytes = []
first_lines (suc count) [] = []
first_lines (suc count) (byte ∷ bytes) = byte ∷ first_lines (if byte == 10 then count else suc count) bytes

-- The line with this number is the first that can't stand in its place: the lines before it are a state's text, where
-- it isn't the first line, and with it they are none.
pub record IsFirstFault (bytes : List ℕ) (number : ℕ) : Type 0 where
  pub before : (number ≡ 1) ⊎ IsStateText (first_lines (number - 1) bytes)
  pub none : IsStateText (first_lines number bytes) → ⊥

-- the greatest number that a fault has
abbrev pub line_max : ℕ
line_max = 4294967295

-- there is one such line, and its number is given
pub record IsLineFault (bytes : List ℕ) (given : ℕ) : Type 0 where
  pub number : ℕ
  pub first : IsFirstFault bytes number
  pub only : (other : ℕ) → IsFirstFault bytes other → other ≡ number
  pub given_as : given ≡ min number line_max

-- what keeps bytes from being a state's text; want of memory may come with any
abbrev pub IsFaultOf : List ℕ → StateFault → Type 0
IsFaultOf bytes (fault.Line given) = IsLineFault bytes given
IsFaultOf bytes fault.Memory = Unit {0}

-- the state is read, unless memory ran out
abbrev pub IsReadAs : Result ManagerState StateFault → ManagerState → Type 0
IsReadAs result state = MatchResult result (λ read. read ≡ state) (λ given. given ≡ fault.Memory)
