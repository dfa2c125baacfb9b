-- The law in lists, and that what is owed is one collection of lists.
use Rattle.std.proofs.Common.{◌≡◌, ◌↔◌, Bool, true, List, filter, sym, ap, ◌∙◌}
use Rattle.std.specs.Cmp.Lexicographic.{slice_cmp}
use Rattle.std.specs.Ordering.{nat_cmp}
use Rattle.std.proofs.lemmas.List.Kept.{IsStrictlySortedBy-filter}
use Rattle.std.proofs.lemmas.Bool.{and_from, and_parts}
use Rattle.host_trait.specs.declared.unit_state.State.{State}
use Rattle.owed_plan.specs.Law.{ListLaw, SameOwed, rest_of}
use Rattle.host_trait.specs.Manager.{is_active}
use Rattle.host_trait.proofs.NameOrder.{has_filter}
use Rattle.host_trait.proofs.StateMaps.{active_from_test}
use Rattle.log_text.specs.declared.lists.Lists.{Lists}
use Rattle.log_text.specs.Lists.{list_names}
use Rattle.log_text.proofs.WhichLemmas.{same_by_names}
use Rattle.owed_lists.proofs.ListLemmas.{one_list}
use Rattle.owed_plan.specs.Lists.{Debt, OnList, ToStop, owed_names}
use Rattle.owed_plan.specs.Owed.{IsDue, IsOwed, IsPlan, Stops, Waits}
use Rattle.owed_plan.specs.declared.owed.Owed.{Owed}
use Rattle.switch_names.specs.Names.{IsListOf, Name, has}
use Rattle.owed_plan.specs.Systems.{Systems}
use Rattle.owed_plan.proofs.PrefixLemmas.{law}

-- two lists of what is owed this are one
pub same_names : (systems : Systems) (states : Name → State) (lists : Lists) (one other : Owed) → IsOwed systems states lists one → IsOwed systems states lists other → (debt : Debt) → owed_names one debt ≡ owed_names other debt
same_names systems states lists one other is also debt = one_list (owed_names one debt) (owed_names other debt) (IsDue systems states lists debt) (is debt) (also debt)

-- the lists of what is owed are one collection
pub same_lists : (systems : Systems) (states : Name → State) (lists : Lists) (one other : Owed) → IsOwed systems states lists one → IsOwed systems states lists other → one.lists ≡ other.lists
same_lists systems states lists one other is also = same_by_names one.lists other.lists (λ which. same_names systems states lists one other is also (OnList which))

pub one_owed : (systems : Systems) (states : Name → State) (lists : Lists) (one other : Owed) → IsPlan systems states lists one → IsPlan systems states lists other → one ≡ other
one_owed systems states lists one other is also =
    λ i. record {
      stops = same_names systems states lists one other is.is_owed also.is_owed ToStop i;
      lists = same_lists systems states lists one other is.is_owed also.is_owed i;
      left = one_list one.left other.left _ is.left also.left i;
    }

-- a list of what has P is one of what has Q where both are the same
same_list : (names : List Name) (P Q : Name → Type 0) → ((unit : Name) → Q unit ↔ P unit) → IsListOf names P → IsListOf names Q
same_list names P Q same list = record {
  sorted = list.sorted;
  exact = λ unit. (λ found. (same unit).1 ((list.exact unit).0 found), λ holds. (list.exact unit).1 ((same unit).0 holds));
}

-- the names of a list that pass a test
part_list : (test : Name → Bool) (names : List Name) (P Q : Name → Type 0) → ((unit : Name) → Q unit → P unit × (test unit ≡ true)) → ((unit : Name) → P unit → test unit ≡ true → Q unit) → IsListOf names P → IsListOf (filter test names) Q
part_list test names P Q from to list = record {
  sorted = IsStrictlySortedBy-filter (slice_cmp nat_cmp) test names list.sorted;
  exact = λ unit. (
    λ found.
        let both = and_parts (test unit) (has names unit) (sym (has_filter test names unit) ∙ found) in
        to unit ((list.exact unit).0 both.1) both.0,
    λ holds.
        let parts = from unit holds in
        has_filter test names unit ∙ and_from (test unit) (has names unit) parts.1 ((list.exact unit).1 parts.0),
  );
}

rest_owed : (systems : Systems) (states later : Name → State) (lists kept : Lists) (owed : Owed) → IsOwed systems states lists owed → SameOwed systems states later lists kept → IsOwed systems later kept (rest_of later owed)
rest_owed systems states later lists kept owed is same ToStop =
    part_list (λ unit. is_active (later unit)) owed.stops (Stops systems states lists) (Stops systems later kept)
    (λ unit stops. let both = (same.stops unit).0 stops in (both.0, ap is_active both.1))
    (λ unit stops active. (same.stops unit).1 (stops, active_from_test (later unit) active))
    (is ToStop)
rest_owed systems states later lists kept owed is same (OnList which) =
    same_list (list_names owed.lists which) (Waits systems states lists which) (Waits systems later kept which) (same.others which) (is (OnList which))

pub list_law : ListLaw
list_law systems states later lists kept owed count sound is_owed are_stopped is_recorded =
    rest_owed systems states later lists kept owed is_owed (law systems states later lists kept owed count sound is_owed are_stopped is_recorded)
