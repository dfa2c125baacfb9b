-- What pays what is owed the units.
use Rattle.std.proofs.Common.{◌≡◌, ◌&&◌, ◌++◌, ◌∷◌, ℕ, Bool, true, false, not, List, [], map, ap, ◌∙◌, inl, inr}
use Rattle.std.proofs.lemmas.Bool.{and_from, or_cases, or_left, or_right}
use Rattle.std.specs.List.{AllByRecursion, flat_map, list_any}
use Rattle.host_trait.specs.declared.entry.Act.{Act}
use Rattle.host_trait.specs.declared.entry.Act.TheVariants.{Stop}
use Rattle.host_trait.specs.declared.entry.Entry.{Entry}
use Rattle.log_text.specs.declared.lists.Which.{Which}
use Rattle.owed_plan.specs.declared.duty.Duty.{Duty}
use Rattle.owed_plan.specs.Calls.{duty}
use Rattle.owed_plan.specs.Lists.{OnList, ToStop}
use Rattle.switch_names.specs.Names.{Name, has, is_name}
use Rattle.host_trait.proofs.NameOrder.{name_itself}
use Rattle.unit_stage.specs.Acts.{entry_of}
use Rattle.unit_stage.specs.Owes.{is_stop, pays}
use Rattle.unit_stage.specs.System.{definitions_of}
use Rattle.unit_stage.proofs.CallingLemmas.{is_called, called_on}

-- ---- calls and entries

pub any_called : (p : Entry → Bool) (loaded : List ℕ) (calls : List Duty) (unit : Name) → AllByRecursion (λ call. is_name unit call.unit ≡ true → p (entry_of loaded call) ≡ true) calls →
    is_called calls unit ≡ true → list_any p (map (entry_of loaded) calls) ≡ true
any_called p loaded [] unit all found = absurd cc
any_called p loaded (call ∷ calls) unit all found =
    elim (or_cases (is_name unit call.unit) (is_called calls unit) found) [
      | inl is ↦ or_left (p (entry_of loaded call)) (list_any p (map (entry_of loaded) calls)) (all.0 is)
      | inr more ↦ or_right (p (entry_of loaded call)) (list_any p (map (entry_of loaded) calls)) (any_called p loaded calls unit all.1 more)
    ]

pub all_of : (P : Duty → Type 0) (act : Name → Act) (names : List Name) → ((unit : Name) → has names unit ≡ true → P (duty (act unit) unit)) → AllByRecursion P (map (λ unit. duty (act unit) unit) names)
all_of P act [] each = tt
all_of P act (name ∷ names) each =
    (each name (or_left (is_name name name) (has names name) (name_itself name)), all_of P act names (λ unit found. each unit (or_right (is_name unit name) (has names unit) found)))

pub all_append : (P : Duty → Type 0) (calls more : List Duty) → AllByRecursion P calls → AllByRecursion P more → AllByRecursion P (calls ++ more)
all_append P [] more all rest = rest
all_append P (call ∷ calls) more all rest = (all.0, all_append P calls more all.1 rest)

pub all_listed : (P : Duty → Type 0) (calls : Which → List Duty) → ((which : Which) → AllByRecursion P (calls which)) → (order : List Which) → AllByRecursion P (flat_map calls order)
all_listed P calls each [] = tt
all_listed P calls each (which ∷ order) = all_append P (calls which) (flat_map calls order) (each which) (all_listed P calls each order)

pub all_first : (P : Duty → Type 0) (calls more : List Duty) → AllByRecursion P (calls ++ more) → AllByRecursion P calls
all_first P [] more all = tt
all_first P (call ∷ calls) more all = (all.0, all_first P calls more all.1)

all_weaker : (P Q : Duty → Type 0) → ((call : Duty) → P call → Q call) → (calls : List Duty) → AllByRecursion P calls → AllByRecursion Q calls
all_weaker P Q weaker [] all = tt
all_weaker P Q weaker (call ∷ calls) all = (weaker call all.0, all_weaker P Q weaker calls all.1)

pub all_entries : (P : Name → Type 0) (loaded : List ℕ) (calls : List Duty) → AllByRecursion (λ call. P call.unit) calls → AllByRecursion (λ (entry : Entry). P entry.unit) (map (entry_of loaded) calls)
all_entries P loaded [] all = tt
all_entries P loaded (call ∷ calls) all = (all.0, all_entries P loaded calls all.1)

pub all_joined : (P : Entry → Type 0) (entries more : List Entry) → AllByRecursion P entries → AllByRecursion P more → AllByRecursion P (entries ++ more)
all_joined P [] more all rest = rest
all_joined P (entry ∷ entries) more all rest = (all.0, all_joined P entries more all.1 rest)

pub all_implied : (P Q : Entry → Type 0) → ((entry : Entry) → P entry → Q entry) → (entries : List Entry) → AllByRecursion P entries → AllByRecursion Q entries
all_implied P Q implies [] all = tt
all_implied P Q implies (entry ∷ entries) all = (implies entry all.0, all_implied P Q implies entries all.1)

-- a stop pays a stop
pub stop_paid : (system : Name) (loaded : List ℕ) (unit : Name) (names : List Name) → has names unit ≡ true → list_any (pays system ToStop unit) (map (entry_of loaded) (map (duty Stop) names)) ≡ true
stop_paid system loaded unit names found =
    any_called (pays system ToStop unit) loaded (map (duty Stop) names) unit (all_of (λ call. is_name unit call.unit ≡ true → pays system ToStop unit (entry_of loaded call) ≡ true) (λ u. Stop) names (λ u among is. is))
    (called_on (λ u. Stop) names unit ∙ found)

-- any other act under the definitions of the system pays the others
other_pays : (system : Name) (unit : Name) (call : Duty) → is_stop call.act ≡ false → is_name unit call.unit ≡ true →
    (not (is_stop call.act) && is_name unit call.unit && is_name (definitions_of system) (definitions_of system)) ≡ true
other_pays system unit call other is =
    and_from (not (is_stop call.act) && is_name unit call.unit) (is_name (definitions_of system) (definitions_of system))
    (and_from (not (is_stop call.act)) (is_name unit call.unit) (ap not other) is) (name_itself (definitions_of system))

pub other_paid : (system : Name) (which : Which) (unit : Name) (calls : List Duty) → AllByRecursion (λ call. is_stop call.act ≡ false) calls → is_called calls unit ≡ true →
    list_any (pays system (OnList which) unit) (map (entry_of (definitions_of system)) calls) ≡ true
other_paid system which unit calls all found =
    any_called (pays system (OnList which) unit) (definitions_of system) calls unit
    (all_weaker _ (λ call. is_name unit call.unit ≡ true → pays system (OnList which) unit (entry_of (definitions_of system) call) ≡ true) (other_pays system unit) calls all) found
