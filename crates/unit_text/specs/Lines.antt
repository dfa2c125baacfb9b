-- Lines and joined lines of a unit file: systemd.syntax(7), "Introduction".
use Rattle.std.specs.Prelude.{◌≡◌, ℕ, ◌+◌, ◌-◌, ◌||◌, ◌==◌, Bool, true, false, MatchOption, List, [], ◌∷◌, ◌++◌, length, take, slice_index, Option, None, Some, if◌then◌else◌}
use Rattle.std.specs.Borrow.{Bor}
use Rattle.std.specs.List.{onto_first}
use Rattle.std.specs.Str.{is_utf8}

-- the lines of some bytes: a line feed ends a line, and one at the end begins no further line
abbrev pub lines : List ℕ → List (List ℕ)
lines [] = []
lines (byte ∷ bytes) = if byte == 10 then [] ∷ lines bytes else onto_first byte (lines bytes)

-- a space or a tab
abbrev pub is_blank : ℕ → Bool
is_blank byte = byte == 32 || byte == 9

-- the first byte that is no blank is `#` or `;`
abbrev pub is_comment : List ℕ → Bool
is_comment [] = false
is_comment (byte ∷ bytes) = if is_blank byte then is_comment bytes else byte == 35 || byte == 59

-- the last byte is a backslash
abbrev pub is_continued : List ℕ → Bool
is_continued line = slice_index line (length line - 1) == 92

-- a continued line with a space in place of its backslash
abbrev pub with_space : List ℕ → List ℕ
with_space line = take (length line - 1) line ++ 32 ∷ []

-- a joined line, and the numbers of the first and the last of its lines
pub record Joined : Type 0 where
  pub first : ℕ
  pub last : ℕ
  pub text : List ℕ

-- a continued part goes before the joined line that follows it, and stands alone at the end of the file
abbrev pub continued : Joined → List Joined → List Joined
continued part [] = part ∷ []
continued part (next ∷ rest) = record { first = part.first; last = next.last; text = part.text ++ next.text } ∷ rest

-- the joined lines of some lines, of which the first has this number: comments are passed over
abbrev pub joined : ℕ → List (List ℕ) → List Joined
joined number [] = []
joined number (line ∷ rest) =
    if is_comment line then joined (number + 1) rest
    else if is_continued line then continued (record { first = number; last = number; text = with_space line }) (joined (number + 1) rest)
    else record { first = number; last = number; text = line } ∷ joined (number + 1) rest

-- the number of the first line that isn't UTF-8
abbrev pub first_bad : ℕ → List (List ℕ) → Option ℕ
first_bad number [] = None
first_bad number (line ∷ rest) = if is_utf8 line then first_bad (number + 1) rest else Some number

-- a line without the line feed that ends it
abbrev pub without_line_feed : List ℕ → List ℕ
without_line_feed line = if slice_index line (length line - 1) == 10 then take (length line - 1) line else line

-- what stands before the backslash of a line that is continued
abbrev pub IsSplitAtBackslash : List ℕ → Option (Bor (List ℕ)) → Type 0
IsSplitAtBackslash line front =
    MatchOption front (is_continued line ≡ false) (λ before. (is_continued line ≡ true) × (before.now ++ 32 ∷ [] ≡ with_space line))
