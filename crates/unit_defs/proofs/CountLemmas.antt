-- The units of a system that have a text of their own.
use Rattle.std.proofs.Common.{◌≡◌, ◌↔◌, ℕ, ◌&&◌, ◌++◌, Bool, true, false, List, Option, is_none, is_some, length, Result, Err, refl, sym, ap, subst, ◌∙◌}
use Rattle.std.specs.List.Sorted.{IsStrictlySortedBy}
use Rattle.std.proofs.lemmas.Bool.{and_parts}
use Rattle.std.proofs.lemmas.List.Kept.{IsStrictlySortedBy-filter}
use Rattle.std.proofs.lemmas.Map.Lookups.{exact_bytes, btree_set_from_contains}
use Rattle.host_trait.specs.World.{Leaves, bytes_cmp}
use Rattle.host_trait.proofs.NameOrder.{has_filter}
use Rattle.host_trait.proofs.Places.{bytes_total}
use Rattle.leaf_limits.specs.Counts.{past, units_max}
use Rattle.switch_names.specs.Names.{has}
use Rattle.switch_names.specs.UnitName.{IsUnitName, is_unit}
use Rattle.switch_names.proofs.Outcomes.{none_from_test}
use Rattle.unit_defs.specs.declared.defs_fault.DefsFault.{DefsFault}
use Rattle.unit_defs.specs.declared.defs_fault.DefsFault.TheVariants.{Many}
use Rattle.unit_defs.specs.declared.unit.Unit.{Unit}
use Rattle.unit_defs.specs.Count.{unit_names, units_past}
use Rattle.unit_defs.specs.Defs.{AreDefsOf, AreNamesOf, AreUnitsOf}
use Rattle.unit_defs.specs.Fstab.{fstab_of, names_of}
use Rattle.unit_defs.specs.Units.{in_order, own_text, units_of}
use Rattle.unit_defs.proofs.AgreeLemmas.{are_defs}
use Rattle.unit_defs.proofs.FirstFaultLemmas.{own_there}
use Rattle.unit_defs.proofs.OrderLemmas.{has_in_order, in_order_sorted}

same_tests : (a b : Bool) → (a ≡ true → b ≡ true) → (b ≡ true → a ≡ true) → a ≡ b
same_tests true b to from = sym (to refl)
same_tests false true to from = from refl
same_tests false false to from = refl

module _ (leaves : Leaves) (system : List ℕ) where
  abbrev has_text : List ℕ → Bool
  has_text unit = is_unit unit && is_some (own_text leaves system unit)

  -- the units with files, and those of the fstab's lines
  abbrev candidates : List (List ℕ)
  candidates = units_of leaves system ++ names_of (fstab_of leaves system)

  pub names_sorted : IsStrictlySortedBy bytes_cmp (unit_names leaves system)
  names_sorted = IsStrictlySortedBy-filter bytes_cmp has_text (in_order candidates) (in_order_sorted candidates)

  has_names : (unit : List ℕ) → has (unit_names leaves system) unit ≡ (has_text unit && has candidates unit)
  has_names unit = has_filter has_text (in_order candidates) unit ∙ ap (λ b. has_text unit && b) (has_in_order candidates unit)

  -- the units that are counted are those with a text of their own
  pub names_exact : (unit : List ℕ) → (has (unit_names leaves system) unit ≡ true) ↔ (IsUnitName unit × (is_some (own_text leaves system unit) ≡ true))
  names_exact unit = (to, from)
    where
      to : has (unit_names leaves system) unit ≡ true → IsUnitName unit × (is_some (own_text leaves system unit) ≡ true)
      to there =
          let parts = and_parts (is_unit unit) (is_some (own_text leaves system unit)) (and_parts (has_text unit) (has candidates unit) (sym (has_names unit) ∙ there)).0 in
          (none_from_test _ parts.0, parts.1)

      from : IsUnitName unit × (is_some (own_text leaves system unit) ≡ true) → has (unit_names leaves system) unit ≡ true
      from is = has_names unit ∙ (λ i. (is_none (is.0 i) && is.1 i) && own_there leaves system unit is.0 is.1 i)

  -- the names that are kept of a system are those of its units
  pub kept_names : (units : List Unit) (names : List (List ℕ)) → AreDefsOf leaves system units → AreNamesOf units names → names ≡ unit_names leaves system
  kept_names units names are their =
      btree_set_from_contains bytes_total (record { keys = names }) (record { keys = unit_names leaves system }) their.sorted names_sorted same exact_bytes
    where
      own_same : (unit : List ℕ) → IsUnitName unit → has names unit ≡ is_some (own_text leaves system unit)
      own_same unit named = their.exact unit ∙ ap is_some (are.own unit named)

      same : (unit : List ℕ) → has names unit ≡ has (unit_names leaves system) unit
      same unit = same_tests (has names unit) (has (unit_names leaves system) unit)
          (λ there. (names_exact unit).1 (their.named unit there, sym (own_same unit (their.named unit there)) ∙ there))
          (λ there. let is = (names_exact unit).0 there in own_same unit is.0 ∙ is.1)

  -- what was found of the count of the names that were read is what is past
  pub past_read : (units taken : List Unit) (names listed : List (List ℕ)) (found : Option ℕ) → AreUnitsOf leaves system units → taken ≡ units → AreNamesOf taken names →
      listed ≡ names → found ≡ past units_max (length listed) → units_past leaves system ≡ found
  past_read units taken names listed found are same their all is =
      ap (λ ns. past units_max (length ns)) (sym (all ∙ kept_names units names (are_defs leaves system units are) (subst (λ us. AreNamesOf us names) same their))) ∙ sym is

-- a fault of a count names one count
pub same_count : {X : Type 0} (count other : ℕ) → ◌≡◌ {A = Result X DefsFault} (Err (Many count)) (Err (Many other)) → count ≡ other
same_count count other is = cc
