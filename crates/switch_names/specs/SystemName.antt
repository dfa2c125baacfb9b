-- Names of built systems: Nix manual, "Store Path".
use Rattle.std.specs.Prelude.{◌≡◌, ℕ, ◌+◌, ◌-◌, ◌||◌, ◌==◌, not, Bool, List, [], ◌∷◌, length, drop, codes, nat_eq, nat_lt, position, Option, None, Some, is_none, option_map, if◌then◌else◌}
use Rattle.std.specs.Char.{is_ascii_alphanumeric}
use Rattle.std.specs.List.{list_any, starts_with}
use Rattle.std.specs.Option.{option_or}
use Rattle.switch_names.specs.Path.{slash, is_dots}
use Rattle.switch_names.specs.declared.name_fault.NameFault.{NameFault}
use Rattle.switch_names.specs.declared.name_fault.NameFault.TheVariants.{Empty, Long, Byte, Dot, Kind}

abbrev pub store_folder : List ℕ
store_folder = codes "nix/store/"

-- the text without a slash at its front
abbrev pub system_path : List ℕ → List ℕ
system_path [] = []
system_path (first ∷ rest) = if first == slash then rest else first ∷ rest

-- what follows `nix/store/` in a path
abbrev pub store_name : List ℕ → List ℕ
store_name path = drop (length store_folder) path

-- neither an ASCII letter or digit nor one of six signs
abbrev pub is_no_store_byte : ℕ → Bool
is_no_store_byte byte = not (is_ascii_alphanumeric byte || list_any (λ sign. byte == sign) (codes "+-._?="))

-- what keeps a text that begins at a place from being a name in the store
abbrev pub store_name_fault : ℕ → List ℕ → Option NameFault
store_name_fault start name =
    if length name == 0 then Some Empty
    else if nat_lt 255 (length name) then Some Long
    else option_or (option_map (λ at. Byte (start + at)) (position is_no_store_byte name)) (if is_dots name then Some Dot else None)

-- what keeps a text from naming a system, in the order in which it is sought
abbrev pub system_fault : List ℕ → Option NameFault
system_fault text =
    if starts_with nat_eq (system_path text) store_folder
    then store_name_fault (length text - length (store_name (system_path text))) (store_name (system_path text))
    else Some Kind

-- the system that a text names, where it names one
abbrev pub named_system : List ℕ → Option (List ℕ)
named_system text = if is_none (system_fault text) then Some (system_path text) else None

-- the text names the system with this path
pub record NamesSystem (text path : List ℕ) : Type 0 where
  pub no_fault : system_fault text ≡ None
  pub same : system_path text ≡ path

-- the path of a system names it
abbrev pub IsSystemPath : List ℕ → Type 0
IsSystemPath path = NamesSystem path path
