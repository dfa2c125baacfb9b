-- What a line says, from its first word on.
use Rattle.std.specs.Prelude.{ℕ, ◌+◌, ◌==◌, List, [], ◌∷◌, codes, take, drop, nat_eq, position, find, is_none, Option, None, Some, option_map, if◌then◌else◌}
use Rattle.std.specs.Cmp.Lexicographic.{pointwise}
use Rattle.std.specs.Option.{option_map_or}
use Rattle.std.specs.Str.{is_utf8}
use Rattle.switch_names.specs.Path.{is_no_path_byte}
use Rattle.switch_names.specs.UnitName.{named_unit}
use Rattle.host_trait.specs.declared.entry.Act.{Act}
use Rattle.host_trait.specs.declared.entry.Act.TheVariants as act
use Rattle.host_trait.specs.declared.unit_state.State.{State}
use Rattle.host_trait.specs.declared.unit_state.State.TheVariants as state
use Rattle.manager_core.specs.declared.line.Line.{Line}
use Rattle.manager_core.specs.declared.line.Line.TheVariants as line
use Rattle.manager_core.specs.declared.line.Word.{Word}
use Rattle.manager_core.specs.declared.line.Word.TheVariants.{Loaded, Active, Failed, Bad, Stop, Reload, Restart, Start}

abbrev pub word_text : Word → List ℕ
word_text Loaded = codes "loaded"
word_text Active = codes "active"
word_text Failed = codes "failed"
word_text Bad = codes "bad"
word_text Stop = codes "stop"
word_text Reload = codes "reload"
word_text Restart = codes "restart"
word_text Start = codes "start"

abbrev pub all_words : List Word
all_words = Loaded ∷ Active ∷ Failed ∷ Bad ∷ Stop ∷ Reload ∷ Restart ∷ Start ∷ []

-- the word with this spelling
abbrev pub word_of : List ℕ → Option Word
word_of text = find (λ word. pointwise nat_eq (word_text word) text) all_words

-- what stands before and after the first such byte
abbrev pub parted : ℕ → List ℕ → Option (List ℕ × List ℕ)
parted mark bytes = option_map (λ at. (take at bytes, drop (at + 1) bytes)) (position (λ byte. byte == mark) bytes)

abbrev pub utf8_of : List ℕ → Option (List ℕ)
utf8_of bytes = if is_utf8 bytes then Some bytes else None

-- the bytes, where they are a text of one line
abbrev pub text_of : List ℕ → Option (List ℕ)
text_of bytes = if is_none (position is_no_path_byte bytes) then utf8_of bytes else None

-- one thing read, and then another
abbrev pub both : {A B : Type 0} → Option A → Option B → Option (A × B)
both None second = None
both (Some first) None = None
both (Some first) (Some second) = Some (first, second)

-- a unit's name, a blank and a text
abbrev pub unit_and_text : List ℕ → Option (List ℕ × List ℕ)
unit_and_text bytes = option_map_or (λ parts. both (named_unit parts.0) (text_of parts.1)) (parted 32 bytes) None

abbrev pub state_said : State → List ℕ → Option Line
state_said one bytes = option_map (λ unit. line.State (record { unit = unit; state = one })) (named_unit bytes)

abbrev pub bad_said : List ℕ → Option Line
bad_said bytes = option_map (λ read. line.Bad (record { loaded = read.1; unit = read.0 })) (unit_and_text bytes)

abbrev pub entry_said : Act → List ℕ → Option Line
entry_said one bytes = option_map (λ read. line.Entry (record { unit = read.0; act = one; loaded = read.1 })) (unit_and_text bytes)

-- what follows a word
abbrev pub said : Word → List ℕ → Option Line
said Loaded bytes = option_map line.Loaded (text_of bytes)
said Active bytes = state_said state.Active bytes
said Failed bytes = state_said state.Failed bytes
said Bad bytes = bad_said bytes
said Stop bytes = entry_said act.Stop bytes
said Reload bytes = entry_said act.Reload bytes
said Restart bytes = entry_said act.Restart bytes
said Start bytes = entry_said act.Start bytes

-- what a line says, if it is one
abbrev pub line_of : List ℕ → Option Line
line_of bytes = option_map_or (λ parts. option_map_or (λ word. said word parts.1) (word_of parts.0) None) (parted 32 bytes) None
