-- All that the units of a system want stands in one list.
use Rattle.std.proofs.Common.{◌≡◌, ◌++◌, Bool, true, false, List, [], ◌∷◌, filter, Option, None, Some, is_some, option_and_then, flat_map, if◌then◌else◌, refl, sym, ap, subst, ◌∙◌, inl, inr}
use Rattle.std.specs.Option.{option_or}
use Rattle.std.proofs.lemmas.Bool.{and_parts, or_cases, or_left, or_right}
use Rattle.host_trait.specs.World.{Leaves}
use Rattle.switch_names.proofs.Outcomes.{none_from_test}
use Rattle.owed_plan.proofs.SystemLemmas.{guarded}
use Rattle.switch_names.specs.Names.{Name, has, is_name}
use Rattle.switch_names.specs.UnitName.{IsUnitName, template_of, unit_fault, is_unit}
use Rattle.unit_decide.proofs.SocketLemmas.{none_found}
use Rattle.unit_defs.specs.declared.place.UnitPlace.{UnitPlace}
use Rattle.unit_defs.specs.declared.place.UnitPlace.TheVariants.{File, DropIn, Want}
use Rattle.unit_defs.specs.Files.{folder_wants, paths_of, want_at}
use Rattle.unit_defs.specs.Fstab.{fstab_of, names_of, wanted_by_lines}
use Rattle.unit_defs.specs.Place.{place_of}
use Rattle.unit_defs.specs.Units.{can_be_wanted, own_text, text_of, units_of, wanted_of, wants_of, words_in}
use Rattle.unit_defs.proofs.FirstFaultLemmas.{has_by_test, own_there}
use Rattle.unit_defs.proofs.FstabLemmas.{wanted_named}
use Rattle.host_trait.proofs.NameOrder.{name_exact, has_filter}
use Rattle.unit_defs.proofs.NameLemmas.{has-append}
use Rattle.unit_defs.proofs.OrderLemmas.{has_in_order}
use Rattle.unit_defs.proofs.UnitLemmas.{template_named}
use Rattle.unit_text.specs.declared.assignment.Assignment.{Assignment}

-- what stands in a part of each list stands in them all
flat_more : {X : Type 0} (f g : X → List Name) (name : Name) → ((x : X) → has (f x) name ≡ true → has (g x) name ≡ true) → (xs : List X) → has (flat_map f xs) name ≡ true → has (flat_map g xs) name ≡ true
flat_more f g name more [] found = absurd cc
flat_more f g name more (x ∷ xs) found =
    has-append (g x) (flat_map g xs) name
    ∙ elim (or_cases (has (f x) name) (has (flat_map f xs) name) (sym (has-append (f x) (flat_map f xs) name) ∙ found)) [
      | inl first ↦ or_left (has (g x) name) (has (flat_map g xs) name) (more x first)
      | inr rest ↦ or_right (has (g x) name) (has (flat_map g xs) name) (flat_more f g name more xs rest)
    ]

-- the name of a leaf in a folder of wanted units
abbrev wanted_at : Option UnitPlace → List Name
wanted_at (Some (Want unit name)) = name ∷ []
wanted_at place = []

at_place : (unit name : Name) (place : Option UnitPlace) → has (want_at unit place) name ≡ true → has (wanted_at place) name ≡ true
at_place unit name None found = absurd (none_found name found)
at_place unit name (Some (File other)) found = absurd (none_found name found)
at_place unit name (Some (DropIn other part)) found = absurd (none_found name found)
at_place unit name (Some (Want other wanted)) found = guarded (is_name other unit) (wanted ∷ []) name found

module _ (leaves : Leaves) (system : Name) where
  abbrev own : Name → Option (List Assignment)
  own = own_text leaves system

  abbrev in_folders : List Name
  in_folders = flat_map (λ path. wanted_at (place_of system path)) (paths_of leaves system)

  -- the units of the fstab
  abbrev in_fstab : List Name
  in_fstab = names_of (fstab_of leaves system)

  abbrev in_texts : List Name
  in_texts = flat_map (λ unit. words_in (own unit)) (units_of leaves system ++ in_fstab)

  -- the names in all folders of wanted units and in the fstab, and the words of all texts
  abbrev pub all_wanted : List Name
  all_wanted = (in_folders ++ in_fstab) ++ in_texts

  folder_found : (unit name : Name) → has (folder_wants leaves system unit) name ≡ true → has in_folders name ≡ true
  folder_found unit name found =
      flat_more (λ path. want_at unit (place_of system path)) (λ path. wanted_at (place_of system path)) name (λ path. at_place unit name (place_of system path)) (paths_of leaves system) found

  own_words : (unit name : Name) → IsUnitName unit → has (words_in (own unit)) name ≡ true → has in_texts name ≡ true
  own_words unit name named found =
      has_by_test (is_name unit) (λ other. words_in (own other)) name (λ other same. subst (λ n. has (words_in (own n)) name ≡ true) (name_exact unit other same) found) (units_of leaves system ++ in_fstab)
      (own_there leaves system unit named (there (own unit) found))
    where
      there : (text : Option (List Assignment)) → has (words_in text) name ≡ true → is_some text ≡ true
      there None nothing = absurd (none_found name nothing)
      there (Some text) some = refl

  -- the words of a unit's text, which is its own or its template's
  by_template : (unit name : Name) (template : Option Name) → IsUnitName unit → template_of unit ≡ template → has (words_in (option_and_then own template)) name ≡ true → has in_texts name ≡ true
  by_template unit name None named is found = absurd (none_found name found)
  by_template unit name (Some template) named is found = own_words template name (template_named unit template named is) found

  by_text : (unit name : Name) (text : Option (List Assignment)) → IsUnitName unit → own unit ≡ text → has (words_in (option_or text (option_and_then own (template_of unit)))) name ≡ true → has in_texts name ≡ true
  by_text unit name (Some text) named is found = own_words unit name named (ap (λ t. has (words_in t) name) is ∙ found)
  by_text unit name None named is found = by_template unit name (template_of unit) named refl found

  text_found : (unit name : Name) → has (words_in (text_of leaves system unit)) name ≡ true → has in_texts name ≡ true
  text_found unit name found = by (is_unit unit) refl found
    where
      by : (b : Bool) → is_unit unit ≡ b → has (words_in (if b then option_or (own unit) (option_and_then own (template_of unit)) else None)) name ≡ true → has in_texts name ≡ true
      by true is words = by_text unit name (own unit) (none_from_test (unit_fault unit) is) refl words
      by false is words = absurd (none_found name words)

  named_found : (unit name : Name) → has (wants_of leaves system unit) name ≡ true → has (in_folders ++ in_fstab) name ≡ true
  named_found unit name found =
      let lines = wanted_by_lines (fstab_of leaves system) unit in
      has-append in_folders in_fstab name
      ∙ elim (or_cases (has (folder_wants leaves system unit) name) (has lines name) (sym (has-append (folder_wants leaves system unit) lines name) ∙ found)) [
        | inl folder ↦ or_left (has in_folders name) (has in_fstab name) (folder_found unit name folder)
        | inr line ↦ or_right (has in_folders name) (has in_fstab name) (wanted_named (fstab_of leaves system) unit name line)
      ]

  -- what any unit wants is among them
  pub wanted_among : (unit name : Name) → has (wanted_of leaves system unit) name ≡ true → has all_wanted name ≡ true
  wanted_among unit name found =
      let names = wants_of leaves system unit ++ words_in (text_of leaves system unit) in
      let listed = (and_parts (can_be_wanted own name) (has names name) (sym (has_filter (can_be_wanted own) names name) ∙ sym (has_in_order (filter (can_be_wanted own) names) name) ∙ found)).1 in
      has-append (in_folders ++ in_fstab) in_texts name
      ∙ elim (or_cases (has (wants_of leaves system unit) name) (has (words_in (text_of leaves system unit)) name) (sym (has-append (wants_of leaves system unit) (words_in (text_of leaves system unit)) name) ∙ listed)) [
        | inl named ↦ or_left (has (in_folders ++ in_fstab) name) (has in_texts name) (named_found unit name named)
        | inr words ↦ or_right (has (in_folders ++ in_fstab) name) (has in_texts name) (text_found unit name words)
      ]
