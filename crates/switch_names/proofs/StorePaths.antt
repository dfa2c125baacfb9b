-- Paths of systems: what names one is a path, and is read again as the same.
use Rattle.std.proofs.Common.{◌≡◌, ℕ, ◌≤◌, ◌==◌, ◌||◌, ◌+◌, ◌-◌, codes, true, false, List, [], ◌∷◌, ◌++◌, length, position, None, nat_eq, nat_lt, arith, rules, sym, subst, ap, refl, ◌∙◌, length-append, option_map}
use Rattle.std.proofs.lemmas.Bool.Decides.{Decides-eqb}
use Rattle.std.specs.List.{All, list_any, starts_with}
use Rattle.std.proofs.lemmas.Slice.Eq.{starts_is}
use Rattle.std.proofs.lemmas.List.Splits.{slice_split_none}
use Rattle.std.proofs.lemmas.List.Elements.{All-weaker, All-append, All-from_recursion}
use Rattle.switch_names.specs.Path.{IsPath, names_of, slash, is_dots, is_no_path_byte}
use Rattle.switch_names.specs.declared.name_fault.NameFault.TheVariants.{Byte, Dot}
use Rattle.switch_names.specs.SystemName.{IsSystemPath, NamesSystem, system_fault, system_path, store_folder, store_name, store_name_fault, is_no_store_byte}
use Rattle.switch_names.specs.Texts.{is_empty}
use Rattle.switch_names.proofs.Faultless.{HasNone-from_sought, sought-from_HasNone, no_place, of_kind}
use Rattle.switch_names.proofs.Positions.{All-from_no_position, no_position-from_All}

-- a name in the store, wherever it stands in a text
pub record IsStoreName (name : List ℕ) : Type 0 where
  pub nonempty : (length name == 0) ≡ false
  pub short : length name ≤ 255
  pub bytes : All (λ byte. is_no_store_byte byte ≡ false) name
  pub not_dots : is_dots name ≡ false

pub IsStoreName-from_fault : (start : ℕ) (name : List ℕ) → store_name_fault start name ≡ None → IsStoreName name
IsStoreName-from_fault start name none =
    let found = HasNone-from_sought (length name == 0) (nat_lt 255 (length name)) (option_map (λ at. Byte (start + at)) (position is_no_store_byte name)) (is_dots name) Dot none in
    record {
      nonempty = found.not_empty;
      short = search rules;
      bytes = All-from_no_position is_no_store_byte name (no_place (λ at. Byte (start + at)) _ found.no_byte);
      not_dots = found.not_last;
    }

pub no_fault-from_IsStoreName : (start : ℕ) (name : List ℕ) → IsStoreName name → store_name_fault start name ≡ None
no_fault-from_IsStoreName start name is =
    let no_byte = no_position-from_All is_no_store_byte name is.bytes in
    sought-from_HasNone (length name == 0) (nat_lt 255 (length name)) (option_map (λ at. Byte (start + at)) (position is_no_store_byte name)) (is_dots name) Dot
    record { not_empty = is.nonempty; not_long = grind (arith, is.short); no_byte = rw no_byte; not_last = is.not_dots }

-- a path that begins with the folder of the store is that folder and the rest
pub store_path_is : (path : List ℕ) → starts_with nat_eq path store_folder ≡ true → path ≡ store_folder ++ store_name path
store_path_is path begins = (starts_is Decides-eqb path store_folder true (sym begins)).0 refl

-- a byte of a name in the store is no slash, and stands in a path
no_slash : (byte : ℕ) → is_no_store_byte byte ≡ false → (byte == slash) ≡ false
no_slash byte is = grind arith

path_byte : (byte : ℕ) → is_no_store_byte byte ≡ false → is_no_path_byte byte ≡ false
path_byte byte is = grind arith

-- the names of such a path
names_of-store : (name : List ℕ) → IsStoreName name → names_of (store_folder ++ name) ≡ codes "nix" ∷ codes "store" ∷ name ∷ []
names_of-store name is =
    rw (slice_split_none (λ byte. byte == slash) name (All-weaker (λ byte. is_no_store_byte byte ≡ false) (λ byte. (byte == slash) ≡ false) no_slash name is.bytes))

-- the folder of the store and a name in it are a path
pub IsPath-from_name : (name : List ℕ) → IsStoreName name → IsPath (store_folder ++ name)
IsPath-from_name name is =
    let names = names_of-store name is in
    let path : List ℕ = store_folder ++ name in
    let folder : All (λ byte. is_no_path_byte byte ≡ false) store_folder = All-from_recursion (λ byte. is_no_path_byte byte ≡ false) store_folder (search rules) in
    let bytes = no_position-from_All is_no_path_byte path (All-append (λ byte. is_no_path_byte byte ≡ false) store_folder name folder (All-weaker (λ byte. is_no_store_byte byte ≡ false) (λ byte. is_no_path_byte byte ≡ false) path_byte name is.bytes)) in
    sought-from_HasNone (list_any is_empty (names_of path)) (nat_lt 4096 (length path)) (option_map Byte (position is_no_path_byte path)) (list_any is_dots (names_of path)) Dot
    record {
      not_empty = ap (list_any is_empty) names ∙ ap (λ empty. empty || false) is.nonempty;
      not_long = grind (arith, is.short, length-append {A = ℕ});
      no_byte = ap (option_map Byte) bytes;
      not_last = ap (list_any is_dots) names ∙ ap (λ dots. dots || false) is.not_dots;
    }

-- a path of the store, by its parts
pub record IsStorePath (path : List ℕ) : Type 0 where
  pub begins : starts_with nat_eq path store_folder ≡ true
  pub name : IsStoreName (store_name path)

pub IsStorePath-from_named : (text : List ℕ) → system_fault text ≡ None → IsStorePath (system_path text)
IsStorePath-from_named text named =
    let path : List ℕ = system_path text in
    let start : ℕ = length text - length (store_name path) in
    let parts = of_kind (starts_with nat_eq path store_folder) (store_name_fault start (store_name path)) named in
    record { begins = parts.0; name = IsStoreName-from_fault start (store_name path) parts.1 }

-- it begins with no slash
same_path : (path : List ℕ) → starts_with nat_eq path store_folder ≡ true → system_path path ≡ path
same_path [] begins = absurd cc
same_path (first ∷ rest) begins = grind arith

no_fault-from_IsStorePath : (text : List ℕ) → IsStorePath (system_path text) → system_fault text ≡ None
no_fault-from_IsStorePath text is =
    rw is.begins (no_fault-from_IsStoreName (length text - length (store_name (system_path text))) (store_name (system_path text)) is.name)

-- what is read of a text is read again as the same
pub IsSystemPath-from_named : (text : List ℕ) → system_fault text ≡ None → IsSystemPath (system_path text)
IsSystemPath-from_named text named =
    let is = IsStorePath-from_named text named in
    let same = same_path (system_path text) is.begins in
    record { no_fault = no_fault-from_IsStorePath (system_path text) (subst (λ path. IsStorePath path) (sym same) is); same = same }

-- the path of a system is a path
pub IsPath-from_system : (path : List ℕ) → IsSystemPath path → IsPath path
IsPath-from_system path is =
    let parts = subst (λ path. IsStorePath path) is.same (IsStorePath-from_named path is.no_fault) in
    subst (λ path. IsPath path) (sym (store_path_is path parts.begins)) (IsPath-from_name (store_name path) parts.name)

-- it has 265 bytes at most
pub system_short : (path : List ℕ) → IsSystemPath path → length path ≤ 265
system_short path is =
    let parts = subst (λ path. IsStorePath path) is.same (IsStorePath-from_named path is.no_fault) in
    let len : length path ≡ length store_folder + length (store_name path) = ap length (store_path_is path parts.begins) ∙ length-append store_folder (store_name path) in
    omega (arith, len, parts.name.short)

-- a slash before it names the same system
pub NamesSystem-with_slash : (path : List ℕ) → IsSystemPath path → NamesSystem (slash ∷ path) path
NamesSystem-with_slash path is =
    let parts = subst (λ path. IsStorePath path) is.same (IsStorePath-from_named path is.no_fault) in
    record { no_fault = no_fault-from_IsStorePath (slash ∷ path) parts; same = refl }
