-- Store paths that are dead.
use Rattle.std.proofs.Common.{◌≡◌, ◌≢◌, ◌||◌, not, Bool, true, false, List, [], filter, Option, None, Some, is_none, sym, ap, subst, ◌∙◌, inl, inr}
use Rattle.std.proofs.lemmas.Bool.{and_from, and_parts, both_ways, cases_Bool, not-true, not_from_false}
use Rattle.std.proofs.lemmas.List.Kept.{IsStrictlySortedBy-filter}
use Rattle.std.specs.List.{AllByRecursion}
use Rattle.std.specs.List.Sorted.{IsStrictlySortedBy}
use Rattle.host_trait.specs.World.{WorldState, bytes_cmp}
use Rattle.host_trait.proofs.NameOrder.{all_named, has_filter}
use Rattle.switch_names.specs.declared.name_fault.NameFault.{NameFault}
use Rattle.switch_names.specs.Names.{IsListOf, Name, has}
use Rattle.switch_names.specs.SystemName.{system_fault}
use Rattle.store_live.specs.Grown.{AreAll, AtSome, IsPathOf, is_dead_by}
use Rattle.store_live.specs.Live.{IsDead, IsRoot, Live}
use Rattle.store_live.specs.StorePaths.{IsStored, is_store_path}

is_none_or : (o : Option NameFault) → is_none o ≡ false → o ≢ None
is_none_or None is = absurd cc
is_none_or (Some x) is = λ no. absurd (let none : Some x ≡ None = no in cc)

-- those of all store paths that are systems' and not among the live ones are the dead ones
pub dead_list : (skips : Name → Bool) (w : WorldState) (stored live dead : List Name) → IsStrictlySortedBy bytes_cmp stored → AreAll stored (IsStored w.leaves) → AreAll live (Live skips w) →
    dead ≡ filter (is_dead_by live) stored → IsListOf dead (IsDead skips w)
dead_list skips w stored live dead sorted all lives are = record {
  sorted = subst (IsStrictlySortedBy bytes_cmp) (sym are) (IsStrictlySortedBy-filter bytes_cmp (is_dead_by live) stored sorted);
  exact = λ x. (λ is. found x (ap (λ l. has l x) (sym are) ∙ is), λ dead. ap (λ l. has l x) are ∙ by x dead);
}
  where
    found : (x : Name) → has (filter (is_dead_by live) stored) x ≡ true → IsDead skips w x
    found x is =
        let parts = and_parts (is_dead_by live x) (has stored x) (sym (has_filter (is_dead_by live) stored x) ∙ is) in
        let test = and_parts (not (has live x)) (is_none (system_fault x)) parts.0 in
        record { stored = (all x).0 parts.1; unreached = λ reached. both_ways _ (not-true _ test.0) ((lives x).1 reached) }

    by : (x : Name) → IsDead skips w x → has (filter (is_dead_by live) stored) x ≡ true
    by x dead = has_filter (is_dead_by live) stored x ∙ and_from (is_dead_by live x) (has stored x) (and_from (not (has live x)) (is_none (system_fault x)) apart system) ((all x).1 dead.stored)
      where
        apart : not (has live x) ≡ true
        apart = elim (cases_Bool (has live x)) [
          | inl there ↦ absurd (dead.unreached ((lives x).0 there))
          | inr other ↦ not_from_false (has live x) other
        ]

        system : is_none (system_fault x) ≡ true
        system = elim (cases_Bool (is_none (system_fault x))) [
          | inl none ↦ none
          | inr some ↦ absurd (dead.unreached (Live.FromRoot x dead.stored (IsRoot.Foreign (is_none_or (system_fault x) some))))
        ]

-- each of them is a store path
pub paths_all : (stored places : List Name) → AreAll stored (AtSome places IsPathOf) → AllByRecursion (λ x. is_store_path x ≡ true) stored
paths_all stored places all = all_named (λ x. is_store_path x ≡ true) stored (λ x there. ((all x).0 there).holds.path)

-- a set of the names of a list has them
pub same_set : (set names : List Name) (old : List Name) → old ≡ [] → ((x : Name) → has set x ≡ (has old x || has names x)) → has set ≡ has names
same_set set names old none added = λ i x. (added x ∙ ap (λ l. has l x || has names x) none) i
