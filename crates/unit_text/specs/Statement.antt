-- What a joined line says: systemd.syntax(7), "Introduction".
use Rattle.std.specs.Prelude.{ℕ, ◌-◌, ◌&&◌, ◌||◌, ◌==◌, Bool, not, List, [], ◌∷◌, length, take, drop, min, slice_index, Option, None, Some, is_some, is_none, if◌then◌else◌}
use Rattle.std.specs.List.{list_any, prefix_len, suffix_len, before_first, after_first}
use Rattle.std.specs.Option.{option_or}
use Rattle.unit_text.specs.declared.assignment.Assignment.{Assignment}
use Rattle.unit_text.specs.declared.text_fault.TextFault.{TextFault}
use Rattle.unit_text.specs.declared.text_fault.TextFault.TheVariants.{Section, Key, NoSection}
use Rattle.switch_names.specs.Texts.{is_empty}

-- a space, a tab or a carriage return
abbrev pub is_trimmed : ℕ → Bool
is_trimmed byte = byte == 32 || byte == 9 || byte == 13

abbrev pub trimmed_start : List ℕ → List ℕ
trimmed_start text = drop (prefix_len is_trimmed text) text

abbrev pub trimmed_end : List ℕ → List ℕ
trimmed_end text = take (length text - suffix_len is_trimmed text) text

-- a text without spaces, tabs and carriage returns at both ends
abbrev pub trimmed : List ℕ → List ℕ
trimmed text = trimmed_end (trimmed_start text)

-- a text begins with `[`
abbrev pub begins_section : List ℕ → Bool
begins_section text = slice_index text 0 == 91

abbrev pub is_bracket : ℕ → Bool
is_bracket byte = byte == 91 || byte == 93

abbrev pub ends_section : List ℕ → Bool
ends_section text = slice_index text (length text - 1) == 93

-- what stands between the first and the last byte
abbrev pub between_ends : List ℕ → List ℕ
between_ends text = take (length text - 2) (drop 1 text)

-- a name of a section isn't empty and has no bracket
abbrev pub is_section_name : List ℕ → Bool
is_section_name name = not (is_empty name) && not (list_any is_bracket name)

-- the name of a section, which begins with `[` and ends with `]`
abbrev pub section_name : List ℕ → Option (List ℕ)
section_name text =
    if begins_section text && ends_section text && is_section_name (between_ends text) then Some (between_ends text) else None

abbrev pub is_equals : ℕ → Bool
is_equals byte = byte == 61

-- the key stands before the first `=`, the value after it
abbrev pub key_part : List ℕ → List ℕ
key_part text = trimmed (before_first is_equals text)

abbrev pub value_part : List ℕ → List ℕ
value_part text = trimmed (after_first is_equals text)

-- an assignment begins no section, and has a `=` and a key that isn't empty
abbrev pub is_assignment : List ℕ → Bool
is_assignment text = not (begins_section text) && list_any is_equals text && not (is_empty (key_part text))

-- the greatest number that a fault names
abbrev pub capped : ℕ → ℕ
capped number = min number 4294967295

-- why a trimmed line is none of an empty line, a section, and an assignment within a section
abbrev pub statement_fault : Option (List ℕ) → ℕ → List ℕ → Option TextFault
statement_fault section number text =
    if is_empty text then None
    else if begins_section text then (if is_some (section_name text) then None else Some (Section (capped number)))
    else if not (is_assignment text) then Some (Key (capped number))
    else if is_none section then Some (NoSection (capped number))
    else None

-- the section in which the next line stands
abbrev pub section_after : Option (List ℕ) → List ℕ → Option (List ℕ)
section_after section text = option_or (section_name text) section

-- the assignment that a trimmed line is, if it is one
abbrev pub assigned : Option (List ℕ) → List ℕ → List Assignment
assigned None text = []
assigned (Some section) text =
    if is_assignment text then record { at = record { section = section; key = key_part text }; value = value_part text } ∷ [] else []
