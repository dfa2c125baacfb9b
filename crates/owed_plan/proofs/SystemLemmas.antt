-- Systems are sound, and those that are kept are those that stand in the leaves.
use Rattle.std.proofs.Common.{◌≡◌, ◌&&◌, Bool, true, false, List, [], Option, None, Some, is_some, option_and_then, if◌then◌else◌, refl, ap, ◌∙◌}
use Rattle.std.specs.Option.{option_map_or}
use Rattle.host_trait.specs.World.{Leaves}
use Rattle.switch_names.proofs.Outcomes.{none_from_test}
use Rattle.owed_plan.specs.Law.{IsSound}
use Rattle.owed_plan.specs.Systems.{AreOldDefs, Texts, systems_at, systems_in, systems_of, text_at}
use Rattle.switch_names.specs.declared.unit_kind.UnitKind.TheVariants.{Socket}
use Rattle.switch_names.specs.Names.{Name, has}
use Rattle.switch_names.specs.UnitName.{IsUnitName, template_of, unit_fault, is_unit}
use Rattle.unit_decide.specs.Facts.{facts_of, unit_kind}
use Rattle.unit_decide.specs.Sockets.{sockets_of}
use Rattle.unit_decide.proofs.SocketLemmas.{none_found, paired_kind}
use Rattle.unit_defs.specs.declared.unit.Unit.{Unit}
use Rattle.unit_defs.specs.Defs.{AreDefsOf, found_in, names_in, own_in, wanted_in}
use Rattle.unit_defs.specs.Units.{find_text, own_text, text_of, wanted_of, wants_of}
use Rattle.unit_defs.proofs.OrderLemmas.{wanted_each}
use Rattle.unit_text.specs.declared.assignment.Assignment.{Assignment}

-- ---- units are paired with sockets, and what is wanted is defined

paired : (text : Option (List Assignment)) (unit socket : Name) → has (option_map_or (λ t. sockets_of t unit) text []) socket ≡ true → unit_kind socket ≡ Socket
paired None unit socket found = absurd (none_found socket found)
paired (Some text) unit socket found = paired_kind text unit socket found

pub guarded : (named : Bool) (names : List Name) (unit : Name) → has (if named then names else []) unit ≡ true → has names unit ≡ true
guarded true names unit found = found
guarded false names unit found = absurd (none_found unit found)

left_of : (a b : Bool) → (a && b) ≡ true → a ≡ true
left_of true b both = refl
left_of false b both = absurd cc

sound_of : (old new : Texts) (wants : Name → List Name) → ((by unit : Name) → has (wants by) unit ≡ true → is_some (new unit) ≡ true) → IsSound (systems_of old new wants)
sound_of old new wants defined = record {
  sockets = λ unit socket found. paired (new unit) unit socket found;
  wanted = λ by unit found. defined by unit (guarded (is_unit by) (wants by) unit found);
}

pub sound_in : (old new : List Unit) → IsSound (systems_in old new)
sound_in old new =
    sound_of (found_in old) (found_in new) (wanted_in new)
    (λ by unit found. left_of (is_some (found_in new unit)) _ (wanted_each (own_in new) (names_in new by) (found_in new by) unit found))

pub sound_at : (leaves : Leaves) (old : Option Name) (new : Name) → IsSound (systems_at leaves old new)
sound_at leaves old new =
    sound_of (text_at leaves old) (text_of leaves new) (wanted_of leaves new)
    (λ by unit found. left_of (is_some (text_of leaves new unit)) _ (wanted_each (own_text leaves new) (wants_of leaves new by) (text_of leaves new by) unit found))

-- ---- the systems that are kept are those that stand in the leaves

-- what is the same of each unit name is the same of each text, where others have nothing
same_named : {T : Type 0} (none : T) (name : Name) (one other : T) → (IsUnitName name → one ≡ other) → (if is_unit name then one else none) ≡ (if is_unit name then other else none)
same_named none name one other same = by (is_unit name) (λ is. same (none_from_test (unit_fault name) is))
  where
    by : (b : Bool) → (b ≡ true → one ≡ other) → (if b then one else none) ≡ (if b then other else none)
    by true same = same refl
    by false same = refl

same_text : (own other : Texts) (unit : Name) → (IsUnitName unit → find_text own unit ≡ find_text other unit) → find_text own unit ≡ find_text other unit
same_text own other unit same = by (is_unit unit) refl
  where
    by : (b : Bool) → is_unit unit ≡ b → find_text own unit ≡ find_text other unit
    by true is = same (none_from_test (unit_fault unit) is)
    by false is = rw is

no_text : (o : Option Name) → option_and_then (own_in []) o ≡ None
no_text None = refl
no_text (Some name) = refl

-- where no unit is kept, none is found
pub none_kept : (unit : Name) → found_in [] unit ≡ None
none_kept unit = by (is_unit unit) refl
  where
    by : (b : Bool) → is_unit unit ≡ b → found_in [] unit ≡ None
    by true is = rw (is, no_text (template_of unit))
    by false is = rw is

old_same : (leaves : Leaves) (old : Option Name) (olds : List Unit) → AreOldDefs leaves old olds → (unit : Name) → found_in olds unit ≡ text_at leaves old unit
old_same leaves None olds none unit = ap (λ (units : List Unit). found_in units unit) none ∙ none_kept unit
old_same leaves (Some old) olds are unit = same_text (own_in olds) (own_text leaves old) unit (are.found unit)

-- what is found of a system is the text that its leaves give
pub found_same : (leaves : Leaves) (new : Name) (news : List Unit) → AreDefsOf leaves new news → (unit : Name) → found_in news unit ≡ text_of leaves new unit
found_same leaves new news are unit = same_text (own_in news) (own_text leaves new) unit (are.found unit)

pub systems_same : (leaves : Leaves) (old : Option Name) (new : Name) (olds news : List Unit) → AreOldDefs leaves old olds → AreDefsOf leaves new news → systems_in olds news ≡ systems_at leaves old new
systems_same leaves old new olds news are_old are =
    λ i. record {
      facts = λ unit. facts_of (old_same leaves old olds are_old unit i) (same_text (own_in news) (own_text leaves new) unit (are.found unit) i) unit;
      sockets = λ unit. option_map_or (λ text. sockets_of text unit) (same_text (own_in news) (own_text leaves new) unit (are.found unit) i) [];
      wanted = λ unit. same_named [] unit (wanted_in news unit) (wanted_of leaves new unit) (are.wanted unit) i;
    }
