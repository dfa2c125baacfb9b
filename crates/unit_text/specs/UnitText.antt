-- The values of a unit text: systemd.syntax(7), "Introduction", and of an empty assignment systemd.unit(5), "Description".
use Rattle.std.specs.Prelude.{◌≡◌, ℕ, ◌-◌, ◌||◌, ◌==◌, Bool, true, false, not, List, [], ◌∷◌, ◌++◌, length, take, filter, map, slice_get, Option, None, Some, unwrap_or, option_and_then, nat_eq, codes, if◌then◌else◌}
use Rattle.std.specs.Cmp.Lexicographic.{pointwise}
use Rattle.std.specs.List.{list_any}
use Rattle.std.specs.List.Sorted.{IsStrictlySortedBy}
use Rattle.std.specs.Str.{str_to_ascii_lowercase}
use Rattle.unit_text.specs.declared.assignment.Assignment.{Assignment}
use Rattle.unit_text.specs.declared.unit_key.UnitKey.{UnitKey}
use Rattle.unit_text.specs.Lines.{Joined, lines, joined}
use Rattle.switch_names.specs.Texts.{is_empty}
use Rattle.unit_text.specs.Statement.{trimmed, section_after, assigned}
use Rattle.unit_text.specs.UnitKey.{key_cmp, is_same_key, has_key}

-- the assignments of joined lines, each in the section that stands
abbrev pub assignments_in : Option (List ℕ) → List Joined → List Assignment
assignments_in section [] = []
assignments_in section (line ∷ rest) =
    assigned section (trimmed line.text) ++ assignments_in (section_after section (trimmed line.text)) rest

-- the assignments of a unit file, in order
abbrev pub assignments : List ℕ → List Assignment
assignments bytes = assignments_in None (joined 1 (lines bytes))

-- the values that a key is given, an empty one among them
abbrev pub given : List Assignment → UnitKey → List (List ℕ)
given text key = map (λ a. a.value) (filter (λ a. is_same_key key a.at) text)

-- what stands after the last empty value
abbrev pub after_last_empty : List (List ℕ) → List (List ℕ)
after_last_empty [] = []
after_last_empty (value ∷ rest) =
    if is_empty value || list_any is_empty rest then after_last_empty rest else value ∷ rest

-- the values of a key: an empty assignment clears the earlier ones
abbrev pub values_of : List Assignment → UnitKey → List (List ℕ)
values_of text key = after_last_empty (given text key)

-- the key has a value
abbrev pub has_value : List Assignment → UnitKey → Bool
has_value text key = not (length (values_of text key) == 0)

-- the key is assigned, if only to be cleared
abbrev pub is_assigned : List Assignment → UnitKey → Bool
is_assigned text key = not (length (given text key) == 0)

-- the keys that are assigned, in order
pub record AreAssignedIn (text : List Assignment) (keys : List UnitKey) : Type 0 where
  pub sorted : IsStrictlySortedBy key_cmp keys
  pub exact : (key : UnitKey) → has_key keys key ≡ is_assigned text key

-- the first assignments of a later text, or none, were applied
pub record HasFrontOf (old later new : List Assignment) : Type 0 where
  pub applied : ℕ
  pub front : new ≡ old ++ take applied later

-- a text is this word, whatever the case of its letters
abbrev pub is_word : List ℕ → List ℕ → Bool
is_word word text = pointwise nat_eq (str_to_ascii_lowercase text) (str_to_ascii_lowercase word)

abbrev pub says_true : List ℕ → Bool
says_true text = is_word (codes "1") text || is_word (codes "yes") text || is_word (codes "true") text || is_word (codes "on") text

abbrev pub says_false : List ℕ → Bool
says_false text = is_word (codes "0") text || is_word (codes "no") text || is_word (codes "false") text || is_word (codes "off") text

-- what a value says as a flag
abbrev pub truth : List ℕ → Option Bool
truth text = if says_true text then Some true else if says_false text then Some false else None

-- a flag is the last value where that says true or false, else the default
abbrev pub flag_of : List Assignment → UnitKey → Bool → Bool
flag_of text key default =
    let values = values_of text key in
    unwrap_or (option_and_then truth (slice_get values (length values - 1))) default
