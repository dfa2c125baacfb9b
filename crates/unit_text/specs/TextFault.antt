-- What keeps bytes from being a unit text, and what a reader of one answers.
use Rattle.std.specs.Prelude.{◌≡◌, ◌⊎◌, ℕ, ◌-◌, ◌<◌, ◌≤◌, Bool, false, nat_le, slice_get, List, [], ◌∷◌, Option, None, Some, option_map, IfErr, Result, if◌then◌else◌}
use Rattle.std.specs.Option.{option_or}
use Rattle.std.specs.Str.{is_utf8}
use Rattle.unit_text.specs.declared.text_fault.TextFault.{TextFault}
use Rattle.unit_text.specs.declared.text_fault.TextFault.TheVariants.{Utf8, Memory}
use Rattle.unit_text.specs.Lines.{Joined, lines, joined, first_bad}
use Rattle.unit_text.specs.Statement.{trimmed, capped, statement_fault, section_after}

abbrev pub utf8_fault : ℕ → TextFault
utf8_fault number = Utf8 (capped number)

-- a line that isn't UTF-8 stands at this line or before it
abbrev pub is_reached : Option ℕ → ℕ → Bool
is_reached None last = false
is_reached (Some bad) last = nat_le bad last

-- why a joined line is refused: one that spans a line that isn't UTF-8 has no other fault
abbrev pub joined_fault : Option (List ℕ) → Option ℕ → Joined → Option TextFault
joined_fault section bad line =
    if is_reached bad line.last then option_map utf8_fault bad else statement_fault section line.first (trimmed line.text)

-- the first fault of joined lines that stand in this section
abbrev pub first_fault : Option (List ℕ) → Option ℕ → List Joined → Option TextFault
first_fault section bad [] = option_map utf8_fault bad
first_fault section bad (line ∷ rest) =
    option_or (joined_fault section bad line) (first_fault (section_after section (trimmed line.text)) bad rest)

-- the first fault of a file
abbrev pub text_fault : List ℕ → Option TextFault
text_fault bytes = first_fault None (first_bad 1 (lines bytes)) (joined 1 (lines bytes))

-- where bytes are refused, it is by this fault, unless memory ran out
abbrev pub IsRefusedBy : {T : Type 0} → Result T TextFault → Option TextFault → Type 0
IsRefusedBy result fault = IfErr result (λ given. (given ≡ Memory) ⊎ (fault ≡ Some given))

-- the line of this number, counted from 1, isn't UTF-8
pub record IsBad (bytes : List ℕ) (number : ℕ) : Type 0 where
  pub line : List ℕ
  pub counted : 0 < number
  pub stands : slice_get (lines bytes) (number - 1) ≡ Some line
  pub bad : is_utf8 line ≡ false

-- a joined line spans no line that isn't UTF-8
abbrev pub IsClean : List ℕ → Joined → Type 0
IsClean bytes line = (number : ℕ) → IsBad bytes number → line.first ≤ number → number ≤ line.last → ⊥

-- one of these joined lines, of which the first stands in this section, is no statement
abbrev pub IsWrongIn : List ℕ → Option (List ℕ) → List Joined → ℕ → TextFault → Type 0
IsWrongIn bytes section [] number fault = ⊥
IsWrongIn bytes section (line ∷ rest) number fault =
    ((number ≡ line.first) × IsClean bytes line × (statement_fault section number (trimmed line.text) ≡ Some fault))
    ⊎ IsWrongIn bytes (section_after section (trimmed line.text)) rest number fault

-- a fault of a file, at the line of this number
pub data IsFault (bytes : List ℕ) (number : ℕ) (fault : TextFault) : Type 0 where
  NotUtf8 : IsBad bytes number → fault ≡ utf8_fault number → IsFault bytes number fault
  NoStatement : IsWrongIn bytes None (joined 1 (lines bytes)) number fault → IsFault bytes number fault

-- the fault with the least line number
pub record IsFirstFault (bytes : List ℕ) (fault : TextFault) : Type 0 where
  pub number : ℕ
  pub is : IsFault bytes number fault
  pub least : (other : ℕ) (that : TextFault) → IsFault bytes other that → number ≤ other
