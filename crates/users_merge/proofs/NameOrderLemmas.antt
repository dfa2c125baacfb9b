-- Names in order.
use Rattle.std.proofs.Common.{◌≡◌, ◌||◌, List, [], ◌∷◌, ◌++◌, map, is_some, refl, sym, ap, ◌∙◌}
use Rattle.std.specs.FinMap.{contains_key-keys, from_entries, get-from_entries}
use Rattle.std.specs.FinMap.Entries.{is_some-find}
use Rattle.std.specs.List.Sorted.{IsStrictlySortedBy}
use Rattle.std.proofs.lemmas.Map.Lookups.{btree_set_from_contains, exact_bytes}
use Rattle.host_trait.specs.Bytes.{bytes_cmp}
use Rattle.host_trait.proofs.KeyOrder.{keys_sorted}
use Rattle.host_trait.proofs.Places.{bytes_total}
use Rattle.switch_names.specs.Names.{Name, has}
use Rattle.users_merge.specs.Stored.{ordered}
use Rattle.users_merge.proofs.NameLemmas.{has-append}

abbrev keyed : List Name → List (Name × Unit {0})
keyed names = map (λ name. (name, tt)) names

keys_keyed : (names : List Name) → map (λ (e : Name × Unit {0}). e.0) (keyed names) ≡ names
keys_keyed [] = refl
keys_keyed (name ∷ names) = ap (λ rest. name ∷ rest) (keys_keyed names)

-- in order there are the same names
pub ordered_has : (names : List Name) (name : Name) → has (ordered names) name ≡ has names name
unfolding ordered
ordered_has names name =
    sym (contains_key-keys (from_entries {R = bytes_cmp} (keyed names)) name) ∙ ap is_some (get-from_entries bytes_total (keyed names) name)
    ∙ is_some-find bytes_cmp name (keyed names) ∙ ap (λ (ns : List Name). has ns name) (keys_keyed names)

pub ordered_sorted : (names : List Name) → IsStrictlySortedBy bytes_cmp (ordered names)
unfolding ordered
ordered_sorted names = keys_sorted (from_entries (keyed names))

-- a list in order that has the same names is these in order
pub is_ordered : (list names : List Name) → IsStrictlySortedBy bytes_cmp list → ((name : Name) → has list name ≡ has names name) → list ≡ ordered names
is_ordered list names sorted same =
    btree_set_from_contains bytes_total (record { keys = list }) (record { keys = ordered names }) sorted (ordered_sorted names) (λ name. same name ∙ sym (ordered_has names name)) exact_bytes

-- names that were there, with those that are there now
pub is_union : (list before now : List Name) → IsStrictlySortedBy bytes_cmp list → ((name : Name) → has list name ≡ (has before name || has now name)) → list ≡ ordered (before ++ ordered now)
is_union list before now sorted same =
    is_ordered list (before ++ ordered now) sorted (λ name. same name ∙ ap (λ b. has before name || b) (sym (ordered_has now name)) ∙ sym (has-append before (ordered now) name))
