-- Paths of leaves: path_resolution(7), "Step 2: walk along the path", and pathname limits of limits.h(0p).
use Rattle.std.specs.Prelude.{◌≡◌, ◌⊎◌, ℕ, ◌+◌, ◌&&◌, ◌||◌, ◌==◌, Bool, true, false, List, [], ◌∷◌, length, drop, nat_lt, position, Option, None, Some, is_none, option_map, slice_index, nat_eq, if◌then◌else◌}
use Rattle.std.specs.Option.{option_or}
use Rattle.std.specs.List.{slice_split, list_any, starts_with}
use Rattle.switch_names.specs.declared.name_fault.NameFault.{NameFault}
use Rattle.switch_names.specs.declared.name_fault.NameFault.TheVariants.{Empty, Long, Byte, Dot}
use Rattle.switch_names.specs.Texts.{is_empty}

abbrev pub slash : ℕ
slash = 47

abbrev pub is_slash : ℕ → Bool
is_slash byte = byte == slash

-- the names between the slashes of a text
abbrev pub names_of : List ℕ → List (List ℕ)
names_of text = slice_split (λ byte. byte == slash) text

-- NUL or a line feed
abbrev pub is_no_path_byte : ℕ → Bool
is_no_path_byte byte = byte == 0 || byte == 10

-- one or two dots
abbrev pub is_dots : List ℕ → Bool
is_dots (a ∷ []) = a == 46
is_dots (a ∷ b ∷ []) = a == 46 && b == 46
is_dots name = false

-- what keeps a text from being a path, in the order in which it is sought
abbrev pub path_fault : List ℕ → Option NameFault
path_fault text =
    if list_any is_empty (names_of text) then Some Empty
    else if nat_lt 4096 (length text) then Some Long
    else option_or (option_map Byte (position is_no_path_byte text)) (if list_any is_dots (names_of text) then Some Dot else None)

-- what keeps a text from being a path, or from ending one that has so many bytes before it: those of a path and a slash
abbrev pub fault_after : ℕ → List ℕ → Option NameFault
fault_after before text =
    if list_any is_empty (names_of text) then Some Empty
    else if nat_lt 4096 (before + length text) then Some Long
    else option_or (option_map (λ at. Byte (before + at)) (position is_no_path_byte text)) (if list_any is_dots (names_of text) then Some Dot else None)

-- a path is names joined by slashes, none empty or of dots alone, in at most 4,096 bytes
abbrev pub IsPath : List ℕ → Type 0
IsPath text = path_fault text ≡ None

-- the path that a text is, where it is one
abbrev pub named_path : List ℕ → Option (List ℕ)
named_path text = if is_none (path_fault text) then Some text else None

-- the first path lies strictly below the second: it begins with it and a slash
abbrev pub is_below : List ℕ → List ℕ → Bool
is_below path other =
    nat_lt (length other) (length path) && (starts_with nat_eq path other && slice_index path (length other) == slash)

-- what a path has after another and a slash, where it lies below that one
abbrev pub name_below : List ℕ → List ℕ → Option (List ℕ)
name_below other path = if is_below path other then Some (drop (length other + 1) path) else None

-- the path without its last name: the path lies below it, and so lies it below all else that the path does
pub record IsParentOf (path parent : List ℕ) : Type 0 where
  pub below : is_below path parent ≡ true
  pub above : (q : List ℕ) → is_below path q ≡ true → (q ≡ parent) ⊎ (is_below parent q ≡ true)
