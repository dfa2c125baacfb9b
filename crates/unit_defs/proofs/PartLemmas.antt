-- Parts that are applied one after the other.
use Rattle.std.proofs.Common.{◌≡◌, ℕ, List, [], ◌∷◌, ◌++◌, Option, None, Some, option_and_then, option_map, refl, sym, ap, ◌∙◌, append_assoc}
use Rattle.std.specs.List.{flat_map}
use Rattle.std.specs.Option.{option_map_or, option_or}
use Rattle.std.proofs.lemmas.List.{append-nil}
use Rattle.std.proofs.lemmas.List.Concat.{flat_map-append}
use Rattle.switch_names.specs.UnitName.{template_of}
use Rattle.switch_names.proofs.Outcomes.{option_or_assoc, option_or_none}
use Rattle.unit_defs.specs.declared.reading.found.FoundUnits.{FoundUnits}
use Rattle.unit_defs.specs.declared.reading.found.UnitFiles.{UnitFiles}
use Rattle.unit_defs.specs.declared.part.FilePart.{FilePart}
use Rattle.unit_defs.specs.declared.unit.Unit.{Unit}
use Rattle.unit_defs.specs.Files.{base_of}
use Rattle.unit_defs.specs.Found.{drop_ins_in, file_in, files_in, in_name_order, own_part_in, unit_of}
use Rattle.unit_defs.specs.Part.{added, first_fault, line_part, merged}
use Rattle.unit_defs.specs.UnitFiles.{base_from, ordered_drop_ins, part_from}
use Rattle.unit_defs.proofs.DropInLemmas.{none_ordered}

first_fault-append : (xs ys : List FilePart) → first_fault (xs ++ ys) ≡ option_or (first_fault xs) (first_fault ys)
first_fault-append [] ys = refl
first_fault-append (part ∷ xs) ys = ap (option_or part.fault) (first_fault-append xs ys) ∙ sym (option_or_assoc part.fault (first_fault xs) (first_fault ys))

pub added_none : (part : FilePart) → added part [] ≡ part
added_none part =
    let text = append-nil part.text in
    let fault = option_or_none part.fault in
    λ i. record { text = text i; fault = fault i }

-- a part is applied before the others that are left
pub added_first : (part one now : FilePart) (rest : List FilePart) → now.text ≡ part.text ++ one.text → now.fault ≡ option_or part.fault one.fault → added now rest ≡ added part (one ∷ rest)
added_first part one now rest is_text is_fault =
    let text = ap (λ t. t ++ flat_map (λ (part : FilePart). part.text) rest) is_text ∙ append_assoc part.text one.text (flat_map (λ (part : FilePart). part.text) rest) in
    let fault = ap (λ f. option_or f (first_fault rest)) is_fault ∙ option_or_assoc part.fault one.fault (first_fault rest) in
    λ i. record { text = text i; fault = fault i }

-- a file with two lists of files applied after it
pub added_twice : (base : FilePart) (xs ys : List FilePart) → added (added base xs) ys ≡ merged (base ∷ xs ++ ys)
added_twice base xs ys =
    let text = append_assoc base.text (flat_map (λ (part : FilePart). part.text) xs) (flat_map (λ (part : FilePart). part.text) ys)
    ∙ ap (λ t. base.text ++ t) (sym (flat_map-append (λ (part : FilePart). part.text) xs ys)) in
    let fault = option_or_assoc base.fault (first_fault xs) (first_fault ys) ∙ ap (option_or base.fault) (sym (first_fault-append xs ys)) in
    λ i. record { text = text i; fault = fault i }

-- what a unit has of its own, by what was found of it, and by the drop-ins and the file of its template
abbrev pub part_by : Option UnitFiles → List FilePart → Option FilePart → Option FilePart
part_by files inherited template =
    option_or (option_map merged (option_map (λ file. file ∷ inherited ++ in_name_order (option_map_or (λ (f : UnitFiles). f.drop_ins.entries) files []))
    (base_of (option_and_then (λ (f : UnitFiles). f.file) files) (in_name_order (option_map_or (λ (f : UnitFiles). f.drop_ins.entries) files [])) template)))
    (option_map line_part (option_and_then (λ (f : UnitFiles). f.line) files))

-- ---- the same by what was found of the template

all_added : (base : Option FilePart) (xs ys : List FilePart) → option_map (λ file. added (added file xs) ys) base ≡ option_map merged (option_map (λ file. file ∷ xs ++ ys) base)
all_added None xs ys = refl
all_added (Some base) xs ys = ap (λ p. Some p) (added_twice base xs ys)

part_from_both : (own : UnitFiles) (template : Option UnitFiles) →
    part_from own template ≡ part_by (Some own) (option_map_or ordered_drop_ins template []) (option_and_then (λ (f : UnitFiles). f.file) template)
part_from_both own template = ap (λ p. option_or p (option_map line_part own.line)) (all_added (base_from own template) (option_map_or ordered_drop_ins template []) (ordered_drop_ins own))

module _ (found : FoundUnits) where
  template_file : (template : Option (List ℕ)) → option_and_then (λ (f : UnitFiles). f.file) (option_and_then (files_in found) template) ≡ option_and_then (file_in found) template
  template_file None = refl
  template_file (Some template) = refl

  template_drop_ins : (template : Option (List ℕ)) → option_map_or ordered_drop_ins (option_and_then (files_in found) template) [] ≡ option_map_or (drop_ins_in found) template []
  template_drop_ins None = refl
  template_drop_ins (Some template) = by (files_in found template)
    where
      by : (files : Option UnitFiles) → option_map_or ordered_drop_ins files [] ≡ in_name_order (option_map_or (λ (f : UnitFiles). f.drop_ins.entries) files [])
      by None = none_ordered
      by (Some files) = refl

  part_found : (name : List ℕ) (own : UnitFiles) (template : Option UnitFiles) → files_in found name ≡ Some own → template ≡ option_and_then (files_in found) (template_of name) →
      part_from own template ≡ own_part_in found name
  part_found name own template is_own is_template =
      ap (part_from own) is_template
      ∙ part_from_both own (option_and_then (files_in found) (template_of name))
      ∙ ap (λ ds. part_by (Some own) ds (option_and_then (λ (f : UnitFiles). f.file) (option_and_then (files_in found) (template_of name)))) (template_drop_ins (template_of name))
      ∙ ap (part_by (Some own) (option_map_or (drop_ins_in found) (template_of name) [])) (template_file (template_of name))
      ∙ ap (λ files. part_by files (option_map_or (drop_ins_in found) (template_of name) []) (option_and_then (file_in found) (template_of name))) (sym is_own)

  -- a unit is made of what was found of it and of its template
  pub unit_made : (name : List ℕ) (own : UnitFiles) (template : Option UnitFiles) (unit : Unit) → files_in found name ≡ Some own → template ≡ option_and_then (files_in found) (template_of name) →
      unit.name ≡ name → unit.part ≡ part_from own template → unit.wants ≡ own.wants → unit ≡ unit_of found name
  unit_made name own template unit is_own is_template is_name is_part are_wants =
      let part = is_part ∙ part_found name own template is_own is_template in
      let wants = are_wants ∙ ap (λ files. option_map_or (λ (f : UnitFiles). f.wants) files []) (sym is_own) in
      λ i. record { name = is_name i; part = part i; wants = wants i }
