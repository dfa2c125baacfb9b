-- Lists are told by the names of each.
use Rattle.std.proofs.Common.{◌≡◌, ◌≤◌, ℕ, List, [], length, refl, subst, take}
use Rattle.std.proofs.lemmas.List.{take_all}
use Rattle.std.specs.List.{AllByRecursion}
use Rattle.switch_names.specs.Names.{Name}
use Rattle.log_text.specs.declared.lists.Lists.{Lists}
use Rattle.log_text.specs.declared.lists.Which.{Which}
use Rattle.log_text.specs.declared.lists.Which.TheVariants.{Starts, Restarts, Reloads}
use Rattle.log_text.specs.Lists.{list_names, no_lists, record_order}

-- each list is in the order in which they are recorded
pub each_in_order : (P : Which → Type 0) → AllByRecursion P record_order → (which : Which) → P which
each_in_order P all Starts = all.0
each_in_order P all Restarts = all.1.0
each_in_order P all Reloads = all.1.1.0

-- once all of the order has been gone through
pub each_recorded : (P : Which → Type 0) (count : ℕ) → length record_order ≤ count → AllByRecursion P (take count record_order) → (which : Which) → P which
each_recorded P count all_there all = each_in_order P (subst (AllByRecursion P) (take_all count record_order all_there) all)

pub no_names : (which : Which) → list_names no_lists which ≡ []
no_names Starts = refl
no_names Restarts = refl
no_names Reloads = refl

-- the lists of these names
abbrev pub lists_with : (Which → List Name) → Lists
lists_with names = record { starts = names Starts; restarts = names Restarts; reloads = names Reloads }

pub names_with : (names : Which → List Name) (which : Which) → list_names (lists_with names) which ≡ names which
names_with names Starts = refl
names_with names Restarts = refl
names_with names Reloads = refl

pub same_by_names : (one other : Lists) → ((which : Which) → list_names one which ≡ list_names other which) → one ≡ other
same_by_names one other same = λ i. lists_with (λ which. same which i)
