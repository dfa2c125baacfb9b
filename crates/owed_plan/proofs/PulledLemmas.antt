-- What is pulled by the texts of the new system is what is pulled in both systems.
use Rattle.std.proofs.Common.{◌≡◌, Bool, true, false, IsTrue, List, [], Option, None, is_some, option_and_then, if◌then◌else◌, refl, ap, ◌∙◌}
use Rattle.std.specs.Option.{option_or}
use Rattle.host_trait.specs.declared.unit_state.State.{State}
use Rattle.log_text.specs.declared.lists.Lists.{Lists}
use Rattle.switch_names.specs.Names.{IsListOf, Name, has}
use Rattle.switch_names.specs.UnitName.{template_of, is_unit}
use Rattle.unit_defs.specs.declared.unit.Unit.{Unit}
use Rattle.unit_defs.specs.Defs.{own_in, wanted_in}
use Rattle.unit_defs.specs.Pull.{Reached, FromRoot, FromWant}
use Rattle.unit_defs.specs.Units.{find_text}
use Rattle.unit_text.specs.declared.assignment.Assignment.{Assignment}
use Rattle.owed_plan.specs.Pull.{IsRoot, Pulled}
use Rattle.owed_plan.specs.Systems.{IsDefined, systems_in}
use Rattle.owed_plan.proofs.SystemLemmas.{sound_in, guarded}

-- what has a text is a unit name
guard_holds : {T : Type 0} (b : Bool) (o : Option T) → is_some (if b then o else None) ≡ true → b ≡ true
guard_holds true o is = refl
guard_holds false o is = absurd cc

named_text : (own : Name → Option (List Assignment)) (unit : Name) → is_some (find_text own unit) ≡ true → is_unit unit ≡ true
named_text own unit is = guard_holds (is_unit unit) (option_or (own unit) (option_and_then own (template_of unit))) is

module _ (old new : List Unit) (states : Name → State) (lists : Lists) where
  pulled_defined : (unit : Name) → Pulled (systems_in old new) states lists unit → IsDefined (systems_in old new) unit
  pulled_defined unit (FromRoot _ (IsRoot.Running defined kind active may)) = defined
  pulled_defined unit (FromRoot _ (IsRoot.Pending defined kind listed)) = defined
  pulled_defined unit (FromWant _ by reached wants) = (sound_in old new).wanted by unit wants

  with_guard : (by unit : Name) → is_unit by ≡ true → has (wanted_in new by) unit ≡ true → has (if is_unit by then wanted_in new by else []) unit ≡ true
  with_guard by unit named wants = ap (λ (b : Bool). has (if b then wanted_in new by else []) unit) named ∙ wants

  module _ (roots : List Name) (are : IsListOf roots (IsRoot (systems_in old new) states lists)) where
    pulled_from : (unit : Name) → Reached (wanted_in new) (λ one. IsTrue (has roots one)) unit → Pulled (systems_in old new) states lists unit
    pulled_from unit (FromRoot _ root) = FromRoot unit ((are.exact unit).0 root)
    pulled_from unit (FromWant _ by reached wants) =
        let pulled = pulled_from by reached in
        FromWant unit by pulled (with_guard by unit (named_text (own_in new) by (pulled_defined by pulled)) wants)

    pulled_to : (unit : Name) → Pulled (systems_in old new) states lists unit → Reached (wanted_in new) (λ one. IsTrue (has roots one)) unit
    pulled_to unit (FromRoot _ root) = FromRoot unit ((are.exact unit).1 root)
    pulled_to unit (FromWant _ by reached wants) = FromWant unit by (pulled_to by reached) (guarded (is_unit by) (wanted_in new by) unit wants)

    -- what is pulled from the roots is what both systems pull
    pub pulled_list : (pulled : List Name) → IsListOf pulled (Reached (wanted_in new) (λ one. IsTrue (has roots one))) → IsListOf pulled (Pulled (systems_in old new) states lists)
    pulled_list pulled list = record {
      sorted = list.sorted;
      exact = λ unit. (λ found. pulled_from unit ((list.exact unit).0 found), λ holds. (list.exact unit).1 (pulled_to unit holds));
    }
