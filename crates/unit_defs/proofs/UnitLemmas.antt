-- The units that were found.
use Rattle.std.proofs.Common.{◌≡◌, ℕ, zero, suc, ◌+◌, ◌<◌, ◌||◌, ◌==◌, Bool, true, false, cond, List, [], ◌∷◌, ◌++◌, length, map, position, nat_lt, Option, None, Some, is_none, is_some, option_map, option_and_then, refl, sym, ap, subst, ◌∙◌, length-drop, arith}
use Rattle.std.specs.BTreeMap.{is_at}
use Rattle.std.specs.List.{position_or_len, before_first}
use Rattle.std.specs.List.Sorted.{IsStrictlySortedBy}
use Rattle.std.specs.Map.{keys_of, lookup}
use Rattle.std.specs.Option.{option_map_or, option_or}
use Rattle.std.proofs.lemmas.List.{map-append}
use Rattle.switch_names.specs.declared.name_fault.NameFault.TheVariants.{Byte, Kind}
use Rattle.switch_names.specs.declared.unit_kind.UnitKind.{UnitKind}
use Rattle.switch_names.specs.UnitKind.{kind_of}
use Rattle.switch_names.specs.UnitName.{IsUnitName, instance_of, is_at_sign, is_no_unit_byte, name_ending, stem_of, template_of}
use Rattle.switch_names.proofs.Faultless.{HasNone-from_sought}
use Rattle.switch_names.proofs.UnitNames.{name_ending-of_kind, template_is_name}
use Rattle.host_trait.specs.World.{Leaves, bytes_cmp}
use Rattle.fstab_mounts.specs.declared.fs_unit.FsUnit.{FsUnit}
use Rattle.unit_defs.specs.declared.reading.found.FoundUnits.{FoundUnits}
use Rattle.unit_defs.specs.declared.reading.found.UnitFiles.{UnitFiles}
use Rattle.unit_defs.specs.declared.part.FilePart.{FilePart}
use Rattle.unit_defs.specs.declared.unit.Unit.{Unit}
use Rattle.unit_defs.specs.Defs.{AreSorted, AreUnitsOf, HaveFileTexts, names_in, part_in, unit_in}
use Rattle.unit_defs.specs.Files.{base_of, drop_ins_of, file_of, folder_wants}
use Rattle.unit_defs.specs.Fstab.{fstab_of, line_text, wanted_by_lines}
use Rattle.unit_defs.specs.Found.{AreFilesOf, drop_ins_in, file_in, files_in, in_name_order, own_part_in, unit_of, wants_in}
use Rattle.unit_defs.specs.Part.{line_part, merged, part_of}
use Rattle.switch_names.specs.Names.{has, is_name}
use Rattle.unit_defs.specs.Units.{file_part}
use Rattle.unit_defs.proofs.DropInLemmas.{none_ordered}
use Rattle.host_trait.proofs.NameOrder.{name_exact}
use Rattle.switch_names.proofs.Outcomes.{option_or_none}
use Rattle.unit_defs.proofs.PartLemmas.{part_by}

-- ---- the template of a unit is a unit

kind_there : (o : Option UnitKind) → is_none o ≡ false → (kind : UnitKind) × (o ≡ Some kind)
kind_there None is = absurd (cc)
kind_there (Some kind) is = (kind, refl)

chosen_some : (b : Bool) (x t : List ℕ) → cond b None (Some x) ≡ Some t → (b ≡ false) × (x ≡ t)
chosen_some true x t is = absurd (cc)
chosen_some false x t is = (refl, cc)

has_more : (n : ℕ) → (n == 0) ≡ false → 0 < n
has_more zero is = absurd (cc)
has_more (suc n) is = omega arith

pub template_named : (name template : List ℕ) → IsUnitName name → template_of name ≡ Some template → IsUnitName template
template_named name template named is =
    let none = HasNone-from_sought (length name == 0) (nat_lt 255 (length name)) (option_map Byte (position is_no_unit_byte name)) (is_none (kind_of name)) Kind named in
    let kind = kind_there (kind_of name) none.not_last in
    let parts = chosen_some (length (instance_of name) == 0) (before_first is_at_sign (stem_of name) ++ 64 ∷ name_ending name) template is in
    let more = has_more (length (instance_of name)) parts.0 in
    let within : position_or_len is_at_sign (stem_of name) < length (stem_of name) = omega (arith, length-drop (position_or_len is_at_sign (stem_of name) + 1) (stem_of name)) in
    subst IsUnitName
    (ap (λ e. before_first is_at_sign (stem_of name) ++ 64 ∷ e) (sym (name_ending-of_kind name kind.0 kind.1)) ∙ parts.1)
    (template_is_name name (before_first is_at_sign (stem_of name)) kind.0 named kind.1 within refl).0

-- ---- the units that were found by their names

module _ (found : FoundUnits) where
  named_unit : (name k : List ℕ) (h : Bool) → cond (is_name name k) (Some (unit_of found k)) (cond h (Some (unit_of found name)) None) ≡ cond (is_name name k || h) (Some (unit_of found name)) None
  named_unit name k h = by (is_name name k) (λ is. ap (unit_of found) (sym (name_exact name k is)))
    where
      by : (b : Bool) → (b ≡ true → unit_of found k ≡ unit_of found name) → cond b (Some (unit_of found k)) (cond h (Some (unit_of found name)) None) ≡ cond (b || h) (Some (unit_of found name)) None
      by true same = ap (λ u. Some u) (same refl)
      by false same = refl

  unit_at : (names : List (List ℕ)) (name : List ℕ) → unit_in (map (unit_of found) names) name ≡ cond (has names name) (Some (unit_of found name)) None
  unit_at [] name = refl
  unit_at (k ∷ names) name = ap (cond (is_name name k) (Some (unit_of found k))) (unit_at names name) ∙ named_unit name k (has names name)

  names_of_units : (names : List (List ℕ)) → map (λ (unit : Unit). unit.name) (map (unit_of found) names) ≡ names
  names_of_units [] = refl
  names_of_units (name ∷ names) = ap (λ ns. name ∷ ns) (names_of_units names)

  pub sorted_units : (units : List Unit) (names : List (List ℕ)) → units ≡ map (unit_of found) names → IsStrictlySortedBy bytes_cmp names → AreSorted units
  sorted_units units names are sorted = subst AreSorted (sym are) (subst (IsStrictlySortedBy bytes_cmp) (sym (names_of_units names)) sorted)

has_key : {X : Type 0} (es : List (List ℕ × X)) (name : List ℕ) → has (keys_of es) name ≡ is_some (lookup (is_at (bytes_cmp name)) es)
has_key [] name = refl
has_key (e ∷ es) name = ap (λ b. is_name name e.0 || b) (has_key es name) ∙ by (is_name name e.0) (lookup (is_at (bytes_cmp name)) es)
  where
    by : (b : Bool) (o : Option _) → (b || is_some o) ≡ is_some (cond b (Some e.1) o)
    by true o = refl
    by false o = refl

part_only : (files : Option UnitFiles) (inherited : List FilePart) (template : Option FilePart) → cond (is_some files) (part_by files inherited template) None ≡ part_by files inherited template
part_only (Some files) inherited template = refl
part_only None inherited template =
    ap (λ drops. option_or (option_map merged (option_map (λ file. file ∷ inherited ++ in_name_order []) (base_of None drops template))) None) none_ordered

wants_only : (files : Option UnitFiles) → cond (is_some files) (option_map_or (λ (f : UnitFiles). f.wants) files []) [] ≡ option_map_or (λ (f : UnitFiles). f.wants) files []
wants_only None = refl
wants_only (Some files) = refl

part_chosen : (b : Bool) (unit : Unit) → option_and_then (λ (u : Unit). u.part) (cond b (Some unit) None) ≡ cond b unit.part None
part_chosen true unit = refl
part_chosen false unit = refl

wants_chosen : (b : Bool) (unit : Unit) → option_map_or (λ (u : Unit). u.wants) (cond b (Some unit) None) [] ≡ cond b unit.wants []
wants_chosen true unit = refl
wants_chosen false unit = refl

-- ---- from the parts that were found to those of the world

base_parts : {X Y : Type 0} (f : X → Y) (file : Option X) (drops : List X) (template : Option X) → base_of (option_map f file) (map f drops) (option_map f template) ≡ option_map f (base_of file drops template)
base_parts f (Some file) drops template = refl
base_parts f None [] template = refl
base_parts f None (d ∷ drops) template = refl

merged_parts : (base : Option (List ℕ)) (inherited own : List (List ℕ)) →
    option_map merged (option_map (λ file. file ∷ map part_of inherited ++ map part_of own) (option_map part_of base)) ≡ option_map (λ files. merged (map part_of files)) (option_map (λ file. file ∷ inherited ++ own) base)
merged_parts None inherited own = refl
merged_parts (Some base) inherited own = ap (λ parts. Some (merged (part_of base ∷ parts))) (sym (map-append part_of inherited own))

-- what the files of a unit say is by what is found of it and of its template
abbrev made_of : (List ℕ → Option FilePart) → (List ℕ → List FilePart) → List ℕ → Option (List ℕ) → Option FilePart
made_of files drop_ins name template =
    option_map merged (option_map (λ file. file ∷ option_map_or drop_ins template [] ++ drop_ins name)
    (base_of (files name) (drop_ins name) (option_and_then files template)))

abbrev world_of : (List ℕ → Option (List ℕ)) → (List ℕ → List (List ℕ)) → List ℕ → Option (List ℕ) → Option FilePart
world_of files drop_ins name template =
    option_map (λ all. merged (map part_of all)) (option_map (λ file. file ∷ option_map_or drop_ins template [] ++ drop_ins name)
    (base_of (files name) (drop_ins name) (option_and_then files template)))

module _ (leaves : Leaves) (system : List ℕ) (lines : List FsUnit) (found : FoundUnits) (are : AreFilesOf leaves system lines found) where
  parts_same : (name : List ℕ) (drops : List (List ℕ)) (file : Option (List ℕ)) (inherited : List (List ℕ)) (template : Option (List ℕ)) →
      file_in found name ≡ option_map part_of file → drop_ins_in found name ≡ map part_of drops →
      (inherited_in : List FilePart) → inherited_in ≡ map part_of inherited → (template_in : Option FilePart) → template_in ≡ option_map part_of template →
      option_map merged (option_map (λ base. base ∷ inherited_in ++ drop_ins_in found name) (base_of (file_in found name) (drop_ins_in found name) template_in))
      ≡ option_map (λ all. merged (map part_of all)) (option_map (λ base. base ∷ inherited ++ drops) (base_of file drops template))
  parts_same name drops file inherited template is_file are_drops inherited_in are_inherited template_in is_template =
      ap (λ f. option_map merged (option_map (λ base. base ∷ inherited_in ++ drop_ins_in found name) (base_of f (drop_ins_in found name) template_in))) is_file
      ∙ ap (λ ds. option_map merged (option_map (λ base. base ∷ inherited_in ++ ds) (base_of (option_map part_of file) ds template_in))) are_drops
      ∙ ap (λ is. option_map merged (option_map (λ base. base ∷ is ++ map part_of drops) (base_of (option_map part_of file) (map part_of drops) template_in))) are_inherited
      ∙ ap (λ t. option_map merged (option_map (λ base. base ∷ map part_of inherited ++ map part_of drops) (base_of (option_map part_of file) (map part_of drops) t))) is_template
      ∙ ap (λ b. option_map merged (option_map (λ base. base ∷ map part_of inherited ++ map part_of drops) b)) (base_parts part_of file drops template)
      ∙ merged_parts (base_of file drops template) inherited drops

  by_template : (name : List ℕ) (template : Option (List ℕ)) → IsUnitName name → template_of name ≡ template →
      made_of (file_in found) (drop_ins_in found) name template ≡ world_of (file_of leaves system) (drop_ins_of leaves system) name template
  by_template name None named is =
      parts_same name (drop_ins_of leaves system name) (file_of leaves system name) [] None (are.file name named) (are.drop_ins name named) [] refl None refl
  by_template name (Some template) named is =
      let is_unit = template_named name template named is in
      parts_same name (drop_ins_of leaves system name) (file_of leaves system name) (drop_ins_of leaves system template) (file_of leaves system template)
      (are.file name named) (are.drop_ins name named) (drop_ins_in found template) (are.drop_ins template is_unit)
      (file_in found template) (are.file template is_unit)

  own_same : (name : List ℕ) → IsUnitName name → own_part_in found name ≡ option_or (file_part leaves system name) (option_map line_part (line_text lines name))
  own_same name named = λ i. option_or (by_template name (template_of name) named refl i) (option_map line_part (are.line name named i))

  part_at : (name : List ℕ) → part_in (map (unit_of found) (keys_of found.units.entries)) name ≡ own_part_in found name
  part_at name =
      ap (option_and_then (λ (u : Unit). u.part)) (unit_at found (keys_of found.units.entries) name)
      ∙ part_chosen (has (keys_of found.units.entries) name) (unit_of found name)
      ∙ ap (λ b. cond b (own_part_in found name) None) (has_key found.units.entries name)
      ∙ part_only (files_in found name) (option_map_or (drop_ins_in found) (template_of name) []) (option_and_then (file_in found) (template_of name))

  names_at : (name : List ℕ) → names_in (map (unit_of found) (keys_of found.units.entries)) name ≡ wants_in found name
  names_at name =
      ap (λ o. option_map_or (λ (u : Unit). u.wants) o []) (unit_at found (keys_of found.units.entries) name)
      ∙ wants_chosen (has (keys_of found.units.entries) name) (unit_of found name)
      ∙ ap (λ b. cond b (wants_in found name) []) (has_key found.units.entries name)
      ∙ wants_only (files_in found name)

  units_part : (units : List Unit) → units ≡ map (unit_of found) (keys_of found.units.entries) → (name : List ℕ) → IsUnitName name →
      part_in units name ≡ option_or (file_part leaves system name) (option_map line_part (line_text lines name))
  units_part units is name named = ap (λ us. part_in us name) is ∙ part_at name ∙ own_same name named

  units_names : (units : List Unit) → units ≡ map (unit_of found) (keys_of found.units.entries) → (name : List ℕ) → IsUnitName name →
      names_in units name ≡ folder_wants leaves system name ++ wanted_by_lines lines name
  units_names units is name named = ap (λ us. names_in us name) is ∙ names_at name ∙ are.wants name named

module _ (leaves : Leaves) (system : List ℕ) (found : FoundUnits) (units : List Unit) (is : units ≡ map (unit_of found) (keys_of found.units.entries)) where
  -- the units that were found are those of the world
  pub units_all : AreFilesOf leaves system (fstab_of leaves system) found → AreUnitsOf leaves system units
  units_all are = record {
    part = units_part leaves system (fstab_of leaves system) found are units is;
    wants = units_names leaves system (fstab_of leaves system) found are units is;
  }

  -- where no line was joined, their texts are what their files say
  pub file_texts : AreFilesOf leaves system [] found → HaveFileTexts leaves system units
  file_texts are name named =
      ap (option_map (λ (part : FilePart). part.text)) (units_part leaves system [] found are units is name named ∙ option_or_none (file_part leaves system name))
