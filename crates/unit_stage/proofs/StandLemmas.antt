-- What stands at the places of the units' part, step by step.
use Rattle.std.proofs.Common.{◌≡◌, ◌≢◌, ◌∷◌, ℕ, true, false, List, [], take, Option, Some, refl, sym, ap, subst, ◌∙◌, inl, inr}
use Rattle.std.proofs.lemmas.Bool.{both_ways}
use Rattle.std.specs.FinMap.{get}
use Rattle.std.specs.List.{flat_map, list_any}
use Rattle.std.specs.Ordering.{eq_by_cmp}
use Rattle.host_trait.specs.Change.{IsMoment}
use Rattle.host_trait.specs.declared.leaf.LeafKind.{LeafKind}
use Rattle.host_trait.specs.World.{Leaves, WorldState, bytes_cmp, seen}
use Rattle.host_trait.proofs.NameOrder.{name_itself}
use Rattle.host_trait.proofs.Places.{at_same}
use Rattle.host_trait.proofs.Seen.{other_of, seen_at}
use Rattle.host_trait.proofs.Sound.{get_other}
use Rattle.log_text.specs.declared.lists.Lists.{Lists}
use Rattle.log_text.specs.declared.lists.Which.{Which}
use Rattle.log_text.specs.declared.lists.Which.TheVariants.{Starts, Restarts, Reloads}
use Rattle.log_text.specs.Lists.{no_lists, with_list}
use Rattle.owed_lists.specs.Lists.{place_of}
use Rattle.owed_log.specs.declared.log_write.LogWrite.{LogWrite}
use Rattle.owed_log.specs.Laws.{AreAlone}
use Rattle.owed_log.specs.Places.{log_place, old_places}
use Rattle.owed_log.specs.Standing.{AreListsAt}
use Rattle.owed_log.specs.Writing.{IsRecordMoment, clearing, recorded}
use Rattle.owed_log.proofs.BesideLemmas.{clearing_beside, clearing_manager, record_beside, recorded_beside}
use Rattle.owed_log.proofs.ContentLemmas.{apart_from, log_other}
use Rattle.owed_log.proofs.MomentLemmas.{cleared_law}
use Rattle.owed_plan.specs.declared.duty.Duty.{Duty}
use Rattle.owed_plan.specs.Store.{AreSameInStore, IsInStore}
use Rattle.switch_names.specs.Names.{Name, is_name}
use Rattle.switch_parts.specs.Store.{is_in_store}
use Rattle.unit_stage.specs.Acts.{performed, with_calls}
use Rattle.unit_stage.specs.Steps.{AreSameUnits, HasLogFor, with_all_given, with_cleared, with_current, with_given, with_loaded}
use Rattle.unit_stage.specs.System.{current_place, system_leaf}
use Rattle.unit_stage.proofs.CallLemmas.{performed-append}
use Rattle.unit_stage.proofs.ElsewhereLemmas.{own_current, own_list, own_log}
use Rattle.unit_stage.proofs.ListsLemmas.{AreListLeaves, AreSameLists, alone_leaves, alone_same, leaves_same, lists_same}
use Rattle.unit_stage.proofs.OwnedLemmas.{owned_not_stage}

-- the link and the lists are these, and at the lists' places stands what stood at first, or nothing, or a file
pub record Stand (first leaves : Leaves) (link : Option LeafKind) (lists : Lists) : Type 0 where
  pub current : get leaves current_place ≡ link
  pub listed : AreListsAt leaves lists
  pub written : AreListLeaves first leaves

pub alone_stands : (first leaves : Leaves) (link : Option LeafKind) (lists : Lists) → get leaves current_place ≡ link → AreAlone leaves lists → Stand first leaves link lists
alone_stands first leaves link lists current alone = record { current = current; listed = alone.are; written = alone_leaves first leaves lists alone }

-- ---- places

current_log : is_name current_place log_place ≡ false
unfolding current_place log_place
current_log = refl

pub current_not_log : current_place ≢ log_place
current_not_log same = both_ways _ current_log (subst (λ x. is_name current_place x ≡ true) same (name_itself current_place))

current_list : (which : Which) → is_name current_place (place_of which) ≡ false
unfolding current_place place_of
current_list Starts = refl
current_list Restarts = refl
current_list Reloads = refl

current_not_old : (count : ℕ) → list_any (is_name current_place) (take count old_places) ≡ false
current_not_old = apart_from current_place current_list

log_current : eq_by_cmp bytes_cmp log_place current_place ≡ false
unfolding current_place log_place
log_current = refl

list_current : (which : Which) → eq_by_cmp bytes_cmp (place_of which) current_place ≡ false
unfolding current_place place_of
list_current Starts = refl
list_current Restarts = refl
list_current Reloads = refl

current_not_stored : is_in_store current_place ≡ false
unfolding current_place is_in_store
current_not_stored = refl

-- ---- the link

pub record_current : (write : LogWrite) (w m : WorldState) → IsRecordMoment write w m → get m.leaves current_place ≡ get w.leaves current_place
record_current write w m moment = record_beside current_place (owned_not_stage current_place own_current) current_not_log current_not_old write w m moment

pub recorded_current : (write : LogWrite) (w : WorldState) → get (recorded write w).leaves current_place ≡ get w.leaves current_place
recorded_current write w = recorded_beside current_place (owned_not_stage current_place own_current) current_not_log current_not_old write w

pub cleared_current : (which : Which) (w m : WorldState) → IsMoment (clearing which) w m → get m.leaves current_place ≡ get w.leaves current_place
cleared_current which w m moment = clearing_beside which w m current_place current_not_log moment

-- the link is put, and the lists stay
module _ (system : Name) (v : WorldState) where
  pub current_here : get (with_current system v).leaves current_place ≡ Some (system_leaf system)
  current_here = at_same v.leaves current_place (system_leaf system)

  pub lists_beside : AreSameLists v.leaves (with_current system v).leaves
  lists_beside = record {
    log = get_other v.leaves current_place log_place (system_leaf system) log_current;
    old = λ which. get_other v.leaves current_place (place_of which) (system_leaf system) (list_current which);
  }

  not_current : (q : Name) → IsInStore q → eq_by_cmp bytes_cmp q current_place ≡ false
  not_current q inside = other_of q current_place (λ same. both_ways _ current_not_stored (subst (λ x. is_in_store x ≡ true) same inside))

  pub store_beside : AreSameInStore (with_current system v).leaves v.leaves
  store_beside q inside = get_other v.leaves current_place q (system_leaf system) (not_current q inside)

  -- also where the definitions are loaded
  pub loaded_log : (u : WorldState) → seen u ≡ seen (with_loaded system v) → get u.leaves log_place ≡ get v.leaves log_place
  loaded_log u came = seen_at u (with_loaded system v) came log_place log_other ∙ lists_beside.log

  pub current_alone : (lists : Lists) → AreAlone v.leaves lists → AreAlone (with_current system v).leaves lists
  current_alone lists alone = alone_same v.leaves (with_current system v).leaves store_beside lists_beside lists alone

-- ---- a list is cleared

-- where it has calls, or its names are none; the list of the starts where it is the last one
pub given_alone : (which : Which) (calls : List Duty) (x : WorldState) (lists : Lists) → AreAlone x.leaves lists → (which ≢ Starts → calls ≡ [] → with_list lists which [] ≡ lists) →
    (which ≡ Starts → with_list lists which [] ≡ no_lists) → HasLogFor which calls x.leaves → AreAlone (with_given which calls x).leaves (with_list lists which [])
given_alone Starts calls x lists alone none last log = cleared_law Starts (with_calls calls x) lists alone (last refl)
given_alone which [] x lists alone none last log = subst (AreAlone x.leaves) (sym (none (λ same. cc same) refl)) alone
given_alone which (call ∷ rest) x lists alone none last log = cleared_law which (with_calls (call ∷ rest) x) lists alone log

cleared_manager : (which : Which) (calls : List Duty) (x : WorldState) → (with_cleared which calls x).manager ≡ performed calls x.manager
cleared_manager which calls x = clearing_manager which (with_calls calls x) (with_cleared which calls x) (inr (inl refl))

pub given_manager : (which : Which) (calls : List Duty) (x : WorldState) → (with_given which calls x).manager ≡ performed calls x.manager
given_manager Starts calls x = cleared_manager Starts calls x
given_manager which [] x = refl
given_manager which (call ∷ rest) x = cleared_manager which (call ∷ rest) x

cleared_link : (which : Which) (calls : List Duty) (x : WorldState) → get (with_cleared which calls x).leaves current_place ≡ get x.leaves current_place
cleared_link which calls x = cleared_current which (with_calls calls x) (with_cleared which calls x) (inr (inl refl))

given_current : (which : Which) (calls : List Duty) (x : WorldState) → get (with_given which calls x).leaves current_place ≡ get x.leaves current_place
given_current Starts calls x = cleared_link Starts calls x
given_current which [] x = refl
given_current which (call ∷ rest) x = cleared_link which (call ∷ rest) x

-- and so of several lists
module _ (calls : Which → List Duty) where
  pub all_given_manager : (order : List Which) (x : WorldState) → (with_all_given calls order x).manager ≡ performed (flat_map calls order) x.manager
  all_given_manager [] x = refl
  all_given_manager (which ∷ order) x =
      all_given_manager order (with_given which (calls which) x) ∙ ap (performed (flat_map calls order)) (given_manager which (calls which) x)
      ∙ sym (performed-append (calls which) (flat_map calls order) x.manager)

  pub all_given_current : (order : List Which) (x : WorldState) → get (with_all_given calls order x).leaves current_place ≡ get x.leaves current_place
  all_given_current [] x = refl
  all_given_current (which ∷ order) x = all_given_current order (with_given which (calls which) x) ∙ given_current which (calls which) x

-- ---- worlds with the same units

pub same_lists_of : (u m : WorldState) → AreSameUnits u m → AreSameLists u.leaves m.leaves
same_lists_of u m same = record {
  log = same.leaves log_place own_log;
  old = λ which. same.leaves (place_of which) (own_list which);
}

module _ (first : Leaves) (u m : WorldState) (same : AreSameUnits u m) (store : AreSameInStore m.leaves u.leaves) where
  pub same_stands : (link : Option LeafKind) (lists : Lists) → Stand first u.leaves link lists → Stand first m.leaves link lists
  same_stands link lists stand = record {
    current = same.leaves current_place own_current ∙ stand.current;
    listed = lists_same u.leaves m.leaves store (same_lists_of u m same) lists stand.listed;
    written = leaves_same first u.leaves m.leaves (same_lists_of u m same) stand.written;
  }
