-- Fields of a line of an fstab: fstab(5).
use Rattle.std.specs.Prelude.{ℕ, ◌==◌, Bool, not, List, ◌∷◌, ◌++◌, drop, filter, codes, nat_eq, if◌then◌else◌}
use Rattle.std.specs.Cmp.Lexicographic.{pointwise}
use Rattle.std.specs.List.{before_first, after_first, flat_map, list_any, slice_split, starts_with}
use Rattle.fstab_mounts.specs.Escape.{is_some_name}

-- what stands between the separators in a text, where there is something
abbrev pub parts_between : ℕ → List ℕ → List (List ℕ)
parts_between separator text = filter is_some_name (slice_split (λ byte. byte == separator) text)

-- the fields of a line: what stands between spaces and tabs
abbrev pub fields_of : List ℕ → List (List ℕ)
fields_of line = flat_map (parts_between 9) (parts_between 32 line)

abbrev pub is_backslash : ℕ → Bool
is_backslash byte = byte == 92

-- what a backslash and the text up to the next one stand for: three escapes are read
abbrev pub unescaped_part : List ℕ → List ℕ
unescaped_part part =
    if starts_with nat_eq part (codes "040") then 32 ∷ drop 3 part
    else if starts_with nat_eq part (codes "011") then 9 ∷ drop 3 part
    else if starts_with nat_eq part (codes "134") then 92 ∷ drop 3 part
    else 92 ∷ part

-- a field with its escapes read, each by itself
abbrev pub unescaped : List ℕ → List ℕ
unescaped field =
    if list_any is_backslash field
    then before_first is_backslash field ++ flat_map unescaped_part (slice_split is_backslash (after_first is_backslash field))
    else field

-- a text is this word
abbrev pub is_word : List ℕ → List ℕ → Bool
is_word text word = pointwise nat_eq text word

-- the options, between commas, don't have `noauto`
abbrev pub is_auto : List ℕ → Bool
is_auto options = not (list_any (λ option. is_word option (codes "noauto")) (slice_split (λ byte. byte == 44) options))
