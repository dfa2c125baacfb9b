-- Units that have the same texts of their own find and want the same.
use Rattle.std.proofs.Common.{◌≡◌, ℕ, ◌++◌, ◌&&◌, not, cond, List, Option, None, Some, is_none, is_some, option_map, option_and_then, refl, ap, ◌∙◌}
use Rattle.std.specs.Option.{option_or}
use Rattle.std.proofs.lemmas.List.Elements.{filter_agree}
use Rattle.switch_names.specs.declared.name_fault.NameFault.{NameFault}
use Rattle.switch_names.specs.UnitName.{IsUnitName, is_template, template_of, unit_fault}
use Rattle.host_trait.specs.World.{Leaves}
use Rattle.unit_text.specs.declared.assignment.Assignment.{Assignment}
use Rattle.unit_defs.specs.declared.part.FilePart.{FilePart}
use Rattle.unit_defs.specs.declared.unit.Unit.{Unit}
use Rattle.unit_defs.specs.Defs.{AreDefsOf, AreUnitsOf, found_in, names_in, own_in}
use Rattle.unit_defs.specs.Units.{can_be_wanted, find_text, in_order, own_text, wanted, wants_of, words_in}
use Rattle.unit_defs.proofs.UnitLemmas.{template_named}

module _ (own other : List ℕ → Option (List Assignment)) (same : (name : List ℕ) → IsUnitName name → own name ≡ other name) where
  template_same : (name : List ℕ) (template : Option (List ℕ)) → IsUnitName name → template_of name ≡ template → option_and_then own template ≡ option_and_then other template
  template_same name None named is = refl
  template_same name (Some template) named is = same template (template_named name template named is)

  pub find_same : (name : List ℕ) → find_text own name ≡ find_text other name
  find_same name = by (unit_fault name) refl
    where
      by : (o : Option NameFault) → unit_fault name ≡ o →
          cond (is_none o) (option_or (own name) (option_and_then own (template_of name))) None ≡ cond (is_none o) (option_or (other name) (option_and_then other (template_of name))) None
      by None named = ap (λ o. option_or o (option_and_then own (template_of name))) (same name named) ∙ ap (option_or (other name)) (template_same name (template_of name) named refl)
      by (Some fault) is = refl

  pub wanted_same : (names : List (List ℕ)) (text : Option (List Assignment)) → wanted own names text ≡ wanted other names text
  wanted_same names text = ap in_order (filter_agree (can_be_wanted own) (can_be_wanted other) (λ name. ap (λ o. is_some o && not (is_template name)) (find_same name)) (names ++ words_in text))

-- what was found of a system is what its leaves say
pub are_defs : (leaves : Leaves) (system : List ℕ) (units : List Unit) → AreUnitsOf leaves system units → AreDefsOf leaves system units
are_defs leaves system units are =
    let same : (name : List ℕ) → IsUnitName name → own_in units name ≡ own_text leaves system name = λ name named. ap (option_map (λ (part : FilePart). part.text)) (are.part name named) in
    record {
      own = same;
      found = λ name named. find_same (own_in units) (own_text leaves system) same name;
      wanted = λ name named.
          wanted_same (own_in units) (own_text leaves system) same (names_in units name) (found_in units name)
          ∙ ap (λ names. wanted (own_text leaves system) names (found_in units name)) (are.wants name named)
          ∙ ap (wanted (own_text leaves system) (wants_of leaves system name)) (find_same (own_in units) (own_text leaves system) same name);
    }
