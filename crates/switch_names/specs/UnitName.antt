-- Names of units: systemd.unit(5), "Description".
use Rattle.std.specs.Prelude.{◌≡◌, ℕ, ◌+◌, ◌-◌, ◌||◌, ◌==◌, not, Bool, List, [], ◌∷◌, ◌++◌, length, take, codes, nat_lt, position, Option, None, Some, option_map, is_none, if◌then◌else◌}
use Rattle.std.specs.Char.{is_ascii_alphanumeric}
use Rattle.std.specs.List.{list_any, position_or_len, before_first, after_first}
use Rattle.std.specs.Option.{option_or, option_map_or}
use Rattle.switch_names.specs.UnitKind.{ending_of, kind_of}
use Rattle.switch_names.specs.declared.name_fault.NameFault.{NameFault}
use Rattle.switch_names.specs.declared.name_fault.NameFault.TheVariants.{Empty, Long, Byte, Kind}

-- neither an ASCII letter or digit nor one of six signs
abbrev pub is_no_unit_byte : ℕ → Bool
is_no_unit_byte byte = not (is_ascii_alphanumeric byte || list_any (λ sign. byte == sign) (codes ":-_.\\@"))

-- what keeps a text from being a unit name, in the order in which it is sought
abbrev pub unit_fault : List ℕ → Option NameFault
unit_fault text =
    if length text == 0 then Some Empty
    else if nat_lt 255 (length text) then Some Long
    else option_or (option_map Byte (position is_no_unit_byte text)) (if is_none (kind_of text) then Some Kind else None)

-- a unit name is 1 to 255 of these bytes, with a known ending and something before it
abbrev pub IsUnitName : List ℕ → Type 0
IsUnitName text = unit_fault text ≡ None

-- a text is the name of a unit
abbrev pub is_unit : List ℕ → Bool
is_unit text = is_none (unit_fault text)

-- the unit that a text names, where it names one
abbrev pub named_unit : List ℕ → Option (List ℕ)
named_unit text = if is_unit text then Some text else None

-- the ending of the name
abbrev pub name_ending : List ℕ → List ℕ
name_ending name = option_map_or ending_of (kind_of name) []

-- the name without its ending
abbrev pub stem_of : List ℕ → List ℕ
stem_of name = take (length name - length (name_ending name)) name

abbrev pub is_at_sign : ℕ → Bool
is_at_sign byte = byte == 64

-- what the stem has after its first `@`
abbrev pub instance_of : List ℕ → List ℕ
instance_of name = after_first is_at_sign (stem_of name)

-- the first `@` of the stem is its last byte
abbrev pub is_template : List ℕ → Bool
is_template name = position_or_len is_at_sign (stem_of name) + 1 == length (stem_of name)

-- the name without its instance, if it has one
abbrev pub template_of : List ℕ → Option (List ℕ)
template_of name =
    if length (instance_of name) == 0 then None
    else Some (before_first is_at_sign (stem_of name) ++ 64 ∷ name_ending name)
