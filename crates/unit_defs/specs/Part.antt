-- What unit files say, one or several: systemd.unit(5), "Description", and systemd.syntax(7), "Introduction".
use Rattle.std.specs.Prelude.{ℕ, List, [], ◌∷◌, ◌++◌, Option, None, option_map, is_none, if◌then◌else◌}
use Rattle.std.specs.List.{flat_map}
use Rattle.std.specs.Option.{option_or}
use Rattle.unit_text.specs.declared.assignment.Assignment.{Assignment}
use Rattle.unit_text.specs.declared.text_fault.TextFault.{TextFault}
use Rattle.unit_text.specs.declared.text_fault.TextFault.TheVariants.{Section, Key, NoSection, Utf8, Memory}
use Rattle.unit_text.specs.TextFault.{text_fault}
use Rattle.unit_text.specs.UnitText.{assignments}
use Rattle.unit_defs.specs.declared.part.FilePart.{FilePart}

-- the line that a fault names
abbrev pub line_of : TextFault → ℕ
line_of (Section line) = line
line_of (Key line) = line
line_of (NoSection line) = line
line_of (Utf8 line) = line
line_of Memory = 0

-- the assignments of a file, and none where it can't be read
abbrev pub readable : List ℕ → List Assignment
readable bytes = if is_none (text_fault bytes) then assignments bytes else []

-- what a file says, and the line of its first fault
abbrev pub part_of : List ℕ → FilePart
part_of bytes = record { text = readable bytes; fault = option_map line_of (text_fault bytes) }

-- what the text of a line of an fstab says: it has no fault
abbrev pub line_part : List Assignment → FilePart
line_part text = record { text = text; fault = None }

-- the line of the first fault of several files
abbrev pub first_fault : List FilePart → Option ℕ
first_fault [] = None
first_fault (part ∷ parts) = option_or part.fault (first_fault parts)

-- what several files say one after the other
abbrev pub merged : List FilePart → FilePart
merged parts = record { text = flat_map (λ part. part.text) parts; fault = first_fault parts }

-- what a part says with several files applied after it
abbrev pub added : FilePart → List FilePart → FilePart
added part later = record { text = part.text ++ flat_map (λ one. one.text) later; fault = option_or part.fault (first_fault later) }
