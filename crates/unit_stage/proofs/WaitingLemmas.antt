-- The lists of a world, as a switch to a system takes them.
use Rattle.std.proofs.Common.{◌≡◌, ◌≢◌, ◌&&◌, ◌||◌, ◌∷◌, Bool, true, false, cond, IsTrue, List, Option, is_some, refl, sym, ap, subst, ◌∙◌, inl, inr, ⊎_elim}
use Rattle.std.proofs.lemmas.Bool.{and_parts, both_ways, cases_Bool, or_cases, or_left, or_right}
use Rattle.std.specs.List.Sorted.{IsStrictlySortedBy}
use Rattle.host_trait.specs.States.{state_of}
use Rattle.host_trait.specs.World.{Leaves, WorldState, bytes_cmp}
use Rattle.host_trait.proofs.NameOrder.{name_exact}
use Rattle.log_text.specs.declared.lists.Lists.{Lists}
use Rattle.log_text.specs.declared.lists.Which.{Which}
use Rattle.log_text.specs.declared.lists.Which.TheVariants.{Starts}
use Rattle.log_text.specs.Lists.{list_names, with_list}
use Rattle.log_text.proofs.WhichLemmas.{same_by_names}
use Rattle.owed_lists.proofs.ListLemmas.{one_list}
use Rattle.owed_lists.proofs.OrderLemmas.{has_ordered, ordered, ordered_sorted}
use Rattle.owed_log.specs.Standing.{AreListsAt}
use Rattle.owed_log.proofs.ListLemmas.{one_lists, some_lists, starts_sorted}
use Rattle.owed_plan.specs.declared.owed.Owed.{Owed}
use Rattle.owed_plan.specs.Called.{IsLeftOf}
use Rattle.owed_plan.specs.Collected.{IsListBy}
use Rattle.owed_plan.specs.Lists.{OnList}
use Rattle.owed_plan.specs.Systems.{Systems, systems_at}
use Rattle.owed_plan.proofs.CoreLemmas.{owed_listed}
use Rattle.owed_plan.proofs.KindLemmas.{starts_or_other}
use Rattle.switch_names.specs.Names as names
use Rattle.switch_names.specs.Names.{Name, has, is_name}
use Rattle.switch_names.specs.UnitKind.{kind_of}
use Rattle.switch_names.specs.UnitName.{IsUnitName}
use Rattle.unit_defs.specs.declared.unit.Unit.{Unit}
use Rattle.unit_defs.specs.Defs.{AreDefsOf, found_in}
use Rattle.unit_defs.specs.Units.{text_of}
use Rattle.unit_text.specs.declared.assignment.Assignment.{Assignment}
use Rattle.owed_plan.proofs.TableLemmas.{other_names}
use Rattle.unit_stage.specs.Known.{AreTaken}
use Rattle.unit_stage.specs.Plan.{IsOwedIn}
use Rattle.unit_stage.specs.System.{current_system}
use Rattle.unit_stage.specs.Waiting.{AreListsFor, start_up_target, waits_besides}

-- ---- a world has one set of lists

by_test : (list : List Name) (test : Name → Bool) → IsListBy list test → names.IsListOf list (λ unit. IsTrue (test unit))
by_test list test is = record { sorted = is.sorted; exact = λ unit. (λ found. sym (is.exact unit) ∙ found, λ passes. is.exact unit ∙ passes) }

same_by : (one other : List Name) (test : Name → Bool) → IsListBy one test → IsListBy other test → one ≡ other
same_by one other test is also = one_list one other _ (by_test one test is) (by_test other test also)

-- what holds of the units to start and of each other list holds of each
by_start : (P : Which → Type 0) → P Starts → ((which : Which) → which ≢ Starts → P which) → (which : Which) → P which
by_start P first others which =
    elim (starts_or_other which) [
      | inl starts ↦ subst P (sym starts) first
      | inr other ↦ others which other
    ]

pub same_waiting : (start_up : Bool) (leaves : Leaves) (system : Name) (one other : Lists) → AreListsFor start_up leaves system one → AreListsFor start_up leaves system other → one ≡ other
same_waiting start_up leaves system one other is also =
    let stored : is.stored ≡ also.stored = one_lists leaves is.stored also.stored is.standing also.standing in
    let starts : one.starts ≡ other.starts =
    same_by one.starts other.starts _ is.starts (subst (λ (l : Lists). IsListBy other.starts (λ unit. waits_besides start_up leaves system unit || has l.starts unit)) (sym stored) also.starts) in
    let others : (which : Which) → which ≢ Starts → list_names one which ≡ list_names other which =
    λ which no_start. is.others which no_start ∙ ap (λ (l : Lists). list_names l which) stored ∙ sym (also.others which no_start) in
    same_by_names one other (by_start (λ which. list_names one which ≡ list_names other which) starts others)

-- ---- the target joined to some names

-- these names, and the target where the machine starts up and the system defines it
pub joined : Bool → Leaves → Name → List Name → List Name
joined start_up leaves system list = ordered (cond (start_up && is_some (text_of leaves system start_up_target)) (start_up_target ∷ list) list)

has_besides : (b n t : Bool) (list : List Name) (unit : Name) → is_name unit start_up_target ≡ n → (n ≡ true → t ≡ b) →
    has (cond b (start_up_target ∷ list) list) unit ≡ ((n && t) || has list unit)
has_besides true true t list unit is same = ap (λ x. x || has list unit) is ∙ sym (ap (λ x. x || has list unit) (same refl))
has_besides true false t list unit is same = ap (λ x. x || has list unit) is
has_besides false true t list unit is same = sym (ap (λ x. x || has list unit) (same refl))
has_besides false false t list unit is same = refl

has_cond : (start_up : Bool) (leaves : Leaves) (system : Name) (list : List Name) (unit : Name) →
    has (cond (start_up && is_some (text_of leaves system start_up_target)) (start_up_target ∷ list) list) unit ≡ (waits_besides start_up leaves system unit || has list unit)
has_cond true leaves system list unit =
    has_besides (is_some (text_of leaves system start_up_target)) (is_name unit start_up_target) (is_some (text_of leaves system unit)) list unit refl
    (λ is. ap (λ name. is_some (text_of leaves system name)) (name_exact unit start_up_target is))
has_cond false leaves system list unit = refl

module _ (start_up : Bool) (leaves : Leaves) (system : Name) (list : List Name) where
  pub joined_sorted : IsStrictlySortedBy bytes_cmp (joined start_up leaves system list)
  unfolding joined
  joined_sorted = ordered_sorted (cond (start_up && is_some (text_of leaves system start_up_target)) (start_up_target ∷ list) list)

  pub has_joined : (unit : Name) → has (joined start_up leaves system list) unit ≡ (waits_besides start_up leaves system unit || has list unit)
  unfolding joined
  has_joined unit =
      has_ordered (cond (start_up && is_some (text_of leaves system start_up_target)) (start_up_target ∷ list) list) unit ∙ has_cond start_up leaves system list unit

  -- joined to the list that stands, it is the list that a switch takes
  pub joined_list : IsListBy (joined start_up leaves system list) (λ unit. waits_besides start_up leaves system unit || has list unit)
  joined_list = record { sorted = joined_sorted; exact = λ unit. has_joined unit }

-- each world has lists
pub waiting_in : (start_up : Bool) (leaves : Leaves) (system : Name) → (lists : Lists) × AreListsFor start_up leaves system lists
waiting_in start_up leaves system =
    let stored = some_lists leaves in (
      with_list stored.0 Starts (joined start_up leaves system stored.0.starts),
      record {
        stored = stored.0;
        standing = stored.1;
        starts = joined_list start_up leaves system stored.0.starts;
        others = other_names stored.0 (joined start_up leaves system stored.0.starts);
      },
    )

-- ---- what waits besides is owed a start

-- in worlds with the same new system the same waits besides
pub besides_same : (start_up : Bool) (leaves other : Leaves) (old was : Option Name) (system : Name) → systems_at leaves old system ≡ systems_at other was system → (unit : Name) →
    waits_besides start_up leaves system unit ≡ waits_besides start_up other system unit
besides_same start_up leaves other old was system same unit = ap (λ (s : Systems). start_up && (is_name unit start_up_target && (s.facts unit).in_new)) same

besides_parts : (start_up : Bool) (leaves : Leaves) (system unit : Name) → waits_besides start_up leaves system unit ≡ true → is_some (text_of leaves system unit) ≡ true
besides_parts start_up leaves system unit is =
    (and_parts (is_name unit start_up_target) (is_some (text_of leaves system unit)) (and_parts start_up (is_name unit start_up_target && is_some (text_of leaves system unit)) is).1).1

module _ (start_up : Bool) (system : Name) (lists : Lists) (owed : Owed) (w : WorldState) (owes : IsOwedIn start_up system w lists owed) where
  pub besides_owed : (unit : Name) → waits_besides start_up w.leaves system unit ≡ true → has owed.lists.starts unit ≡ true
  besides_owed unit is =
      ((owes.is_owed (OnList Starts)).exact unit).1
      (owed_listed (systems_at w.leaves (current_system w.leaves) system) (state_of w.manager.states) lists Starts unit
      (owes.listed.starts.exact unit ∙ or_left (waits_besides start_up w.leaves system unit) (has owes.listed.stored.starts unit) is)
      (besides_parts start_up w.leaves system unit is))

-- ---- lists that were recorded

still : (besides listed owed : Bool) → owed ≡ listed → (besides ≡ true → owed ≡ true) → owed ≡ (besides || listed)
still true listed owed same is = is refl
still false listed owed same is = same

module _ (start_up : Bool) (leaves : Leaves) (system : Name) (names : List Name) (owed : (unit : Name) → waits_besides start_up leaves system unit ≡ true → has names unit ≡ true) where
  -- what is owed a start, once it is recorded, is what a switch takes
  pub recorded_list : IsStrictlySortedBy bytes_cmp names → IsListBy names (λ unit. waits_besides start_up leaves system unit || has names unit)
  recorded_list sorted = record {
    sorted = sorted;
    exact = λ unit. still (waits_besides start_up leaves system unit) (has names unit) (has names unit) refl (owed unit);
  }

  -- and what is left of it, with what waits besides, is left of it
  pub left_joined : (left : List Name) (IsDone : Name → Type 0) → IsStrictlySortedBy bytes_cmp names → IsLeftOf names left IsDone → IsLeftOf names (joined start_up leaves system left) IsDone
  left_joined left IsDone sorted (IsLeftOf.Stands same) = IsLeftOf.Stands
      (same_by (joined start_up leaves system left) names (has names)
      (record {
        sorted = joined_sorted start_up leaves system left;
        exact = λ unit.
            has_joined start_up leaves system left unit
            ∙ sym (still (waits_besides start_up leaves system unit) (has left unit) (has names unit) (ap (λ (ns : List Name). has ns unit) (sym same)) (owed unit));
      })
      (record { sorted = sorted; exact = λ unit. refl }))
  left_joined left IsDone sorted (IsLeftOf.Removed within done) = IsLeftOf.Removed
      (λ unit found. ⊎_elim (owed unit) (within unit) (or_cases (waits_besides start_up leaves system unit) (has left unit) (sym (has_joined start_up leaves system left unit) ∙ found)))
      done

-- ---- the lists that are read

module _ (leaves : Leaves) (system : Name) (new : List Unit) (defs : AreDefsOf leaves system new) where
  is_unit_name : IsUnitName start_up_target
  unfolding start_up_target kind_of
  is_unit_name = refl

  found_there : (unit : Name) → (is_name unit start_up_target && is_some (found_in new unit)) ≡ (is_name unit start_up_target && is_some (text_of leaves system unit))
  found_there unit = elim (cases_Bool (is_name unit start_up_target)) [
    | inl is ↦ ap (λ (o : Option (List Assignment)). is_name unit start_up_target && is_some o) (defs.found unit (subst IsUnitName (sym (name_exact unit start_up_target is)) is_unit_name))
    | inr other ↦ ap (λ b. b && is_some (found_in new unit)) other ∙ sym (ap (λ b. b && is_some (text_of leaves system unit)) other)
  ]

  -- the lists that stand, with the target, are those that a switch takes
  pub lists_taken : (start_up : Bool) (stored lists : Lists) → AreListsAt leaves stored → AreTaken start_up new stored lists → AreListsFor start_up leaves system lists
  lists_taken start_up stored lists are taken =
      let starts = taken.starts (starts_sorted leaves stored are) in
      record {
        stored = stored;
        standing = are;
        starts = record { sorted = starts.sorted; exact = λ unit. starts.exact unit ∙ ap (λ b. (start_up && b) || has stored.starts unit) (found_there unit) };
        others = taken.others;
      }

-- ---- the target is joined

none_besides : (start_up : Bool) (new : List Unit) (unit : Name) → is_some (found_in new start_up_target) ≡ false → (start_up && (is_name unit start_up_target && is_some (found_in new unit))) ≡ true → ⊥
none_besides start_up new unit none is =
    let parts = and_parts (is_name unit start_up_target) (is_some (found_in new unit)) (and_parts start_up (is_name unit start_up_target && is_some (found_in new unit)) is).1 in
    both_ways _ none (sym (ap (λ name. is_some (found_in new name)) (name_exact unit start_up_target parts.0)) ∙ parts.1)

-- where the system doesn't define it, the lists stay
pub taken_as : (start_up : Bool) (new : List Unit) (stored : Lists) (target : Name) → target ≡ start_up_target → is_some (found_in new target) ≡ false → AreTaken start_up new stored stored
taken_as start_up new stored target is none = record {
  starts = λ sorted. record {
    sorted = sorted;
    exact = λ unit. still (start_up && (is_name unit start_up_target && is_some (found_in new unit))) (has stored.starts unit) (has stored.starts unit) refl
        (λ besides. absurd (none_besides start_up new unit (sym (ap (λ name. is_some (found_in new name)) is) ∙ none) besides));
  };
  others = λ which no_start. refl;
}

joined_test : (n f h : Bool) → (n ≡ true → f ≡ true) → (h || n) ≡ ((n && f) || h)
joined_test true f h there = or_right h true refl ∙ sym (or_left (true && f) h (there refl))
joined_test false f true there = refl
joined_test false f false there = refl

-- where it does, the target is among the units to start
pub taken_with : (new : List Unit) (stored : Lists) (target : Name) (list : List Name) → target ≡ start_up_target → is_some (found_in new target) ≡ true → IsStrictlySortedBy bytes_cmp list →
    ((unit : Name) → has list unit ≡ (has stored.starts unit || is_name unit target)) → AreTaken true new stored (with_list stored Starts list)
taken_with new stored target list is some sorted has_list = record {
  starts = λ old. record {
    sorted = sorted;
    exact = λ unit.
        has_list unit ∙ ap (λ name. has stored.starts unit || is_name unit name) is
        ∙ joined_test (is_name unit start_up_target) (is_some (found_in new unit)) (has stored.starts unit)
        (λ same. ap (λ name. is_some (found_in new name)) (name_exact unit start_up_target same ∙ sym is) ∙ some);
  };
  others = other_names stored list;
}
