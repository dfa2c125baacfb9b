-- Each world has one set of lists.
use Rattle.std.proofs.Common.{◌≡◌, ℕ, IsTrue, List, Option, sym, subst, ◌∙◌}
use Rattle.std.specs.Cmp.{both_ways}
use Rattle.std.proofs.lemmas.Map.Lookups.{btree_set_from_contains, exact_bytes}
use Rattle.host_trait.specs.World.{Leaves, content_of}
use Rattle.host_trait.proofs.Places.{bytes_total}
use Rattle.log_text.specs.declared.lists.Lists.{Lists}
use Rattle.log_text.specs.declared.lists.Which.{Which}
use Rattle.log_text.specs.declared.lists.Which.TheVariants.{Starts, Restarts, Reloads}
use Rattle.log_text.specs.Lists.{list_names}
use Rattle.log_text.proofs.WhichLemmas.{lists_with, names_with, same_by_names}
use Rattle.owed_lists.specs.Lists.{AreListsOf, IsListOf, names_in, place_of}
use Rattle.owed_lists.proofs.OrderLemmas.{has_ordered, ordered, ordered_sorted}
use Rattle.switch_names.specs.Names as names
use Rattle.switch_names.specs.Names.{Name, has}

-- a set of names has one list
pub one_list : (list other : List Name) (P : Name → Type 0) → names.IsListOf list P → names.IsListOf other P → list ≡ other
one_list list other P one also =
    btree_set_from_contains bytes_total (record { keys = list }) (record { keys = other }) one.sorted also.sorted
    (λ unit. both_ways (has list unit) (has other unit) (λ found. (also.exact unit).1 ((one.exact unit).0 found)) (λ found. (one.exact unit).1 ((also.exact unit).0 found)))
    exact_bytes

-- the names of a content, as a set
of_content : (content : Option (List ℕ)) (list : List Name) → IsListOf content list → names.IsListOf list (λ unit. IsTrue (has (names_in content) unit))
of_content content list is = record {
  sorted = is.sorted;
  exact = λ unit. (λ found. sym (is.exact unit) ∙ found, λ found. is.exact unit ∙ found);
}

same_list : (content : Option (List ℕ)) (one other : List Name) → IsListOf content one → IsListOf content other → one ≡ other
same_list content one other is also = one_list one other _ (of_content content one is) (of_content content other also)

pub same_lists : (leaves : Leaves) (one other : Lists) → AreListsOf leaves one → AreListsOf leaves other → one ≡ other
same_lists leaves one other is also = same_by_names one other (λ which. same_list _ (list_names one which) (list_names other which) (is which) (also which))

-- ---- the lists that a world has

abbrev list_in : Option (List ℕ) → List Name
list_in content = ordered (names_in content)

is_list_in : (content : Option (List ℕ)) → IsListOf content (list_in content)
is_list_in content = record { sorted = ordered_sorted (names_in content); exact = has_ordered (names_in content) }

pub lists_in : (leaves : Leaves) → (lists : Lists) × AreListsOf leaves lists
lists_in leaves =
    let names : Which → List Name = λ which. list_in (content_of leaves (place_of which)) in
    (lists_with names, λ which. subst (IsListOf (content_of leaves (place_of which))) (sym (names_with names which)) (is_list_in (content_of leaves (place_of which))))

-- lists are those of a world where each of them is
pub lists_are :
    (leaves : Leaves) (lists : Lists) → IsListOf (content_of leaves (place_of Starts)) lists.starts → IsListOf (content_of leaves (place_of Restarts)) lists.restarts →
    IsListOf (content_of leaves (place_of Reloads)) lists.reloads → AreListsOf leaves lists
lists_are leaves lists starts restarts reloads Starts = starts
lists_are leaves lists starts restarts reloads Restarts = restarts
lists_are leaves lists starts restarts reloads Reloads = reloads
