-- How many units the systems have, and what is refused for it.
use Rattle.std.proofs.Common.{◌≡◌, ℕ, List, [], ◌∷◌, length, Option, None, Some, is_some, option_map, option_and_then, unwrap_or, refl, ap, ◌∙◌}
use Rattle.std.proofs.lemmas.Bool.{both_ways, or_left}
use Rattle.std.specs.Option.{option_or}
use Rattle.host_trait.specs.World.{Leaves}
use Rattle.leaf_limits.specs.Counts.{past, units_max}
use Rattle.owed_plan.specs.Systems.{AreOldDefs}
use Rattle.switch_names.specs.Names.{Name, has, is_name}
use Rattle.switch_parts.specs.declared.refusal.Refusal.{Refusal}
use Rattle.switch_parts.specs.declared.refusal.Refusal.TheVariants.{UnitText}
use Rattle.switch_parts.specs.declared.refusal.What.TheVariants.{Units}
use Rattle.switch_parts.specs.Limits.{too_many}
use Rattle.unit_defs.specs.declared.unit.Unit.{Unit}
use Rattle.unit_defs.specs.Count.{units_past}
use Rattle.unit_defs.specs.Defs.{AreNamesOf, own_in}
use Rattle.unit_defs.specs.Units.{first_fault_of}
use Rattle.unit_defs.proofs.CountLemmas.{kept_names}
use Rattle.host_trait.proofs.NameOrder.{name_itself}
use Rattle.unit_stage.specs.System.{defs_refusal, old_units_past}

-- of no units there are no names
no_names : (units : List Unit) (names : List Name) → units ≡ [] → AreNamesOf units names → names ≡ []
no_names units [] none their = refl
no_names units (name ∷ names) none their =
    absurd (both_ways _ (their.exact name ∙ ap (λ us. is_some (own_in us name)) none) (or_left (is_name name name) (has names name) (name_itself name)))

-- what was counted of the system in use is how many units it has, where these are too many
pub counted_old : (leaves : Leaves) (system : Option Name) (units : List Unit) (names : List Name) → AreOldDefs leaves system units → AreNamesOf units names →
    past units_max (length names) ≡ option_and_then (units_past leaves) system
counted_old leaves None units names none their = ap (λ ns. past units_max (length ns)) (no_names units names none their)
counted_old leaves (Some system) units names are their = ap (λ ns. past units_max (length ns)) (kept_names leaves system units names are their)

-- what is refused, by how many units are past and the first fault
pub refusal_by : (leaves : Leaves) (system : Name) (new old : Option ℕ) (fault : Option (Name × ℕ)) → units_past leaves system ≡ new → old_units_past leaves ≡ old → first_fault_of leaves system ≡ fault →
    defs_refusal leaves system ≡ option_or (option_or (too_many Units new) (too_many Units old)) (option_map (λ fault. UnitText fault.0 fault.1) fault)
refusal_by leaves system new old fault new_is old_is fault_is =
    λ i. option_or (option_or (too_many Units (new_is i)) (too_many Units (old_is i))) (option_map (λ (fault : Name × ℕ). UnitText fault.0 fault.1) (fault_is i))

-- where the units of the system that comes into use are too many, nothing else is refused
pub many_refused : (leaves : Leaves) (system : Name) (count : ℕ) → units_past leaves system ≡ Some count → defs_refusal leaves system ≡ too_many Units (Some count)
many_refused leaves system count is = refusal_by leaves system (Some count) (old_units_past leaves) (first_fault_of leaves system) is refl refl

-- a refusal comes before a fault
pub refusal_or : (first : Option Refusal) (why : Refusal) → option_or first (Some why) ≡ Some (unwrap_or first why)
refusal_or None why = refl
refusal_or (Some first) why = refl
