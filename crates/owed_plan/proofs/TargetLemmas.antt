-- Tests on names tell whether the marks of the targets and the lists are steady.
use Rattle.std.proofs.Common.{◌≡◌, ◌≢◌, ◌↔◌, ◌&&◌, Bool, true, false, IsTrue, List, None, not, sym, ap, ◌∙◌}
use Rattle.std.specs.List.{list_any}
use Rattle.std.proofs.lemmas.Bool.{and_from, and_parts, both_ways, false_from_ne_true, not-true, not_from_false}
use Rattle.host_trait.specs.declared.unit_state.State.{State}
use Rattle.host_trait.proofs.NameOrder.{passes_among}
use Rattle.log_text.specs.declared.lists.Lists.{Lists}
use Rattle.log_text.specs.declared.lists.Which.{Which}
use Rattle.log_text.specs.declared.lists.Which.TheVariants.{Starts}
use Rattle.log_text.specs.Lists.{list_names, record_order}
use Rattle.owed_plan.specs.Lists.{is_starts}
use Rattle.owed_plan.specs.Pull.{Pulled}
use Rattle.owed_plan.specs.Steady.{IsSteady, IsStoppedForGood, has_for_good, has_target, is_steady, is_target}
use Rattle.owed_plan.specs.Systems.{systems_in}
use Rattle.owed_plan.proofs.ActiveLemmas.{one_of}
use Rattle.owed_plan.proofs.KindLemmas.{passed}
use Rattle.owed_plan.proofs.TableLemmas.{each_fails, other_from_test, other_to_test}
use Rattle.switch_names.specs.Names.{IsListOf, Name, has}
use Rattle.switch_names.specs.declared.unit_kind.UnitKind.{UnitKind}
use Rattle.switch_names.specs.declared.unit_kind.UnitKind.TheVariants.{Target}
use Rattle.unit_decide.specs.declared.facts.Facts.{Facts}
use Rattle.unit_decide.specs.Facts.{facts_of}
use Rattle.unit_decide.specs.Kinds.{is_kind}
use Rattle.unit_decide.proofs.TableLemmas.{target_from_test}
use Rattle.unit_defs.specs.declared.unit.Unit.{Unit}
use Rattle.unit_defs.specs.Defs.{found_in}

-- a test that finds none among names, and what it tells of a name
none_from : (test : Name → Bool) (P : Name → Type 0) (names : List Name) → ((unit : Name) → P unit → test unit ≡ true) → list_any test names ≡ false → (unit : Name) → has names unit ≡ true → P unit → ⊥
none_from test P names tells none unit found holds = both_ways (list_any test names) none (passes_among test names unit found (tells unit holds))

none_to : (test : Name → Bool) (P : Name → Type 0) (names : List Name) → ((unit : Name) → test unit ≡ true → P unit) → ((unit : Name) → has names unit ≡ true → P unit → ⊥) → list_any test names ≡ false
none_to test P names tells lacks =
    false_from_ne_true (list_any test names) (λ some. let one = one_of test names some in lacks one.0 one.1 (tells one.0 one.2))

module _ (old new : List Unit) where
  for_good_from : (unit : Name) → has_for_good new unit ≡ true → IsStoppedForGood (systems_in old new) unit
  for_good_from unit is =
      let f : Facts = facts_of None (found_in new unit) unit in
      let last = and_parts (is_kind f.kind Target && f.in_new && f.stop_on_reconfiguration) (not f.may_start) is in
      let third = and_parts (is_kind f.kind Target && f.in_new) f.stop_on_reconfiguration last.0 in
      let second = and_parts (is_kind f.kind Target) f.in_new third.0 in
      (second.1, target_from_test f.kind second.0, third.1, not-true f.may_start last.1)

  for_good_to : (unit : Name) → IsStoppedForGood (systems_in old new) unit → has_for_good new unit ≡ true
  for_good_to unit is =
      let f : Facts = facts_of None (found_in new unit) unit in
      and_from (is_kind f.kind Target && f.in_new && f.stop_on_reconfiguration) (not f.may_start)
      (and_from (is_kind f.kind Target && f.in_new) f.stop_on_reconfiguration
      (and_from (is_kind f.kind Target) f.in_new (ap (λ (kind : UnitKind). is_kind kind Target) is.1) is.0) is.2)
      (not_from_false f.may_start is.3)

  abbrev IsTarget : Name → Type 0
  IsTarget unit = ((systems_in old new).facts unit).kind ≡ Target

  target_from : (unit : Name) → is_target unit ≡ true → IsTarget unit
  target_from unit is = target_from_test ((systems_in old new).facts unit).kind is

  target_to : (unit : Name) → IsTarget unit → is_target unit ≡ true
  target_to unit is = ap (λ (kind : UnitKind). is_kind kind Target) is

  -- ---- the lists of other units than those to start

  others_from : (lists : Lists) → list_any (has_target lists) record_order ≡ false → (which : Which) → which ≢ Starts → (unit : Name) → has (list_names lists which) unit ≡ true → IsTarget unit → ⊥
  others_from lists none which other unit listed target =
      both_ways (has_target lists which) (each_fails (has_target lists) none which)
      (and_from (not (is_starts which)) (list_any is_target (list_names lists which)) (not_from_false (is_starts which) (other_to_test which other))
      (passes_among is_target (list_names lists which) unit listed (target_to unit target)))

  others_to : (lists : Lists) → ((which : Which) → which ≢ Starts → (unit : Name) → has (list_names lists which) unit ≡ true → IsTarget unit → ⊥) → list_any (has_target lists) record_order ≡ false
  others_to lists lacks = false_from_ne_true (list_any (has_target lists) record_order) (λ found.
      let which = passed (has_target lists) found in
      let parts = and_parts (not (is_starts which.0)) (list_any is_target (list_names lists which.0)) which.1 in
      let one = one_of is_target (list_names lists which.0) parts.1 in
      lacks which.0 (other_from_test which.0 (not-true (is_starts which.0) parts.0)) one.0 one.1 (target_from one.0 one.2))

  module _ (states : Name → State) (lists : Lists) (pulled : List Name) (are : IsListOf pulled (Pulled (systems_in old new) states lists)) where
    steady_from : is_steady new lists pulled ≡ true → IsSteady (systems_in old new) states lists
    steady_from is =
        let no_pull = not (list_any (has_for_good new) pulled) in
        let no_start = not (list_any (has_for_good new) lists.starts) in
        let last = and_parts (no_pull && no_start) (not (list_any (has_target lists) record_order)) is in
        let second = and_parts no_pull no_start last.0 in
        record {
          pull = λ unit reached.
              none_from (has_for_good new) (IsStoppedForGood (systems_in old new)) pulled for_good_to (not-true (list_any (has_for_good new) pulled) second.0) unit ((are.exact unit).1 reached);
          starts = none_from (has_for_good new) (IsStoppedForGood (systems_in old new)) lists.starts for_good_to (not-true (list_any (has_for_good new) lists.starts) second.1);
          others = others_from lists (not-true (list_any (has_target lists) record_order) last.1);
        }

    steady_to : IsSteady (systems_in old new) states lists → is_steady new lists pulled ≡ true
    steady_to is =
        let pull = none_to (has_for_good new) (IsStoppedForGood (systems_in old new)) pulled for_good_from (λ unit found. is.pull unit ((are.exact unit).0 found)) in
        let starts = none_to (has_for_good new) (IsStoppedForGood (systems_in old new)) lists.starts for_good_from is.starts in
        let others = others_to lists is.others in
        λ i. not (pull i) && not (starts i) && not (others i)

    pub steady_told : (told : Bool) → told ≡ is_steady new lists pulled → IsTrue told ↔ IsSteady (systems_in old new) states lists
    steady_told told same = (λ is. steady_from (sym same ∙ is), λ steady. same ∙ steady_to steady)
