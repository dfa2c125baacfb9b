-- What is still to come of a file that was read up to a line.
use Rattle.std.specs.Prelude.{◌≡◌, ℕ, ◌+◌, ◌<◌, false, List, ◌∷◌, ◌++◌, Option, None, Some, IfSome, unwrap_or}
use Rattle.std.specs.Option.{option_or}
use Rattle.std.specs.String.{string_bytes}
use Rattle.unit_text.specs.declared.assignment.Assignment.{Assignment}
use Rattle.unit_text.specs.declared.text_fault.TextFault.{TextFault}
use Rattle.unit_text.specs.declared.reader.Body.{Body}
use Rattle.unit_text.specs.declared.reader.ReadPart.{ReadPart}
use Rattle.unit_text.specs.declared.reader.Reader.{Reader}
use Rattle.unit_text.specs.Lines.{Joined, continued, joined, first_bad}
use Rattle.unit_text.specs.Statement.{trimmed, statement_fault, section_after, assigned}
use Rattle.unit_text.specs.TextFault.{is_reached, first_fault}
use Rattle.unit_text.specs.UnitText.{assignments_in}

abbrev pub joined_part : ReadPart → Joined
joined_part part = record { first = part.first; last = part.last; text = string_bytes part.text }

-- the joined lines that are to come, the first of which may have begun already
abbrev pub with_part : Option ReadPart → List Joined → List Joined
with_part None lines = lines
with_part (Some part) lines = continued (joined_part part) lines

-- the first fault, where these are the lines that are left
abbrev pub fault_left : Reader → ℕ → List (List ℕ) → Option TextFault
fault_left reader number lines =
    first_fault reader.body.section (option_or reader.bad (first_bad number lines)) (with_part reader.part (joined number lines))

-- all assignments, where these are the lines that are left
abbrev pub assignments_left : Reader → ℕ → List (List ℕ) → List Assignment
assignments_left reader number lines =
    reader.body.assignments.items ++ assignments_in reader.body.section (with_part reader.part (joined number lines))

-- a trimmed joined line was taken as what it says
pub record Takes (old new : Body) (number : ℕ) (text : List ℕ) : Type 0 where
  pub sound : statement_fault old.section number text ≡ None
  pub section : new.section ≡ section_after old.section text
  pub assignments : new.assignments.items ≡ old.assignments.items ++ assigned old.section text

-- the joined line that ends with this line
abbrev pub ended : Option ReadPart → ℕ → List ℕ → Joined
ended None number line = record { first = number; last = number; text = line }
ended (Some part) number line = record { first = part.first; last = number; text = string_bytes part.text ++ line }

-- a joined line was taken
pub record Completes (old new : Reader) (line : Joined) : Type 0 where
  pub unreached : is_reached old.bad line.last ≡ false
  pub body : Takes old.body new.body line.first (trimmed line.text)
  pub bad : new.bad ≡ old.bad

-- a part of a joined line was kept
pub record Holds (old new : Reader) (kept : Joined) : Type 0 where
  pub going_on : (lines : List Joined) → with_part new.part lines ≡ with_part old.part (continued kept lines)
  pub bad : new.bad ≡ old.bad
  pub body : new.body ≡ old.body

-- a line that isn't UTF-8 was noted
pub record Marks (old new : Reader) (number : ℕ) : Type 0 where
  pub bad : new.bad ≡ Some (unwrap_or old.bad number)
  pub part : new.part ≡ old.part
  pub body : new.body ≡ old.body

-- one more line was read, and nothing was lost
pub record ReadsOn (old new : Reader) (number : ℕ) (line : List ℕ) : Type 0 where
  pub fault : (rest : List (List ℕ)) → fault_left new (number + 1) rest ≡ fault_left old number (line ∷ rest)
  pub assignments : (rest : List (List ℕ)) → assignments_left new (number + 1) rest ≡ assignments_left old number (line ∷ rest)
  pub before : IfSome new.bad (λ bad. bad < number + 1)
