-- The names of the clean lists, in byte order and each once.
use Rattle.std.proofs.Common.{◌≡◌, ◌||◌, Bool, true, false, cond, List, [], ◌∷◌, ◌++◌, map, filter, Option, Some, is_some, refl, sym, ap, ◌∙◌}
use Rattle.std.proofs.lemmas.List.Folds.{list_any-append}
use Rattle.std.proofs.lemmas.Map.Lookups.{btree_set_from_contains, exact_bytes}
use Rattle.std.specs.Cmp.{both_ways as same_test}
use Rattle.std.specs.FinMap.{contains_key-keys, from_entries, get, get-empty, get-insert}
use Rattle.std.specs.List.{AllByRecursion}
use Rattle.std.specs.List.Sorted.{IsStrictlySortedBy}
use Rattle.std.specs.declared.cmp.Ordering.TheVariants.{Less}
use Rattle.switch_names.specs.Names.{Name, has, is_name}
use Rattle.host_trait.specs.World.{Leaves, bytes_cmp}
use Rattle.host_trait.proofs.KeyOrder.{keys_sorted}
use Rattle.host_trait.proofs.Places.{bytes_total}
use Rattle.etc_manifest.specs.declared.item.Item.{Item}
use Rattle.etc_manifest.specs.Manifest.{places}
use Rattle.etc_clean.specs.CleanList.{clean_leaf, clean_of}
use Rattle.etc_clean.specs.Farm.{placed}
use Rattle.etc_clean.specs.Keeps.{IsFirstList}
use Rattle.etc_clean.proofs.CleanLemmas.{read_back_law}
use Rattle.etc_farm.specs.Lists.{first_list, in_order}
use Rattle.etc_farm.specs.Steps.{IsFirstNames}

-- ---- names in byte order

added_some : (o : Option (Unit {0})) (added : Bool) → is_some (cond added (Some tt) o) ≡ (added || is_some o)
added_some o true = refl
added_some o false = refl

in_set : (names : List Name) (q : Name) → is_some (get (from_entries {R = bytes_cmp} (map (λ name. (name, tt {0})) names)) q) ≡ has names q
in_set [] q = ap (λ (o : Option (Unit {0})). is_some o) (get-empty bytes_cmp q)
in_set (name ∷ names) q =
    let rest = from_entries {R = bytes_cmp} (map (λ x. (x, tt {0})) names) in
    ap (λ (o : Option (Unit {0})). is_some o) (get-insert bytes_total rest name tt q) ∙ added_some (get rest q) (is_name q name) ∙ ap (λ b. is_name q name || b) (in_set names q)

in_order_has : (names : List Name) (q : Name) → has (in_order names) q ≡ has names q
in_order_has names q = sym (contains_key-keys (from_entries {R = bytes_cmp} (map (λ name. (name, tt {0})) names)) q) ∙ in_set names q

in_order_sorted : (names : List Name) → IsStrictlySortedBy bytes_cmp (in_order names)
in_order_sorted names = keys_sorted (from_entries {R = bytes_cmp} (map (λ name. (name, tt {0})) names))

-- names in order that are those of another list are that list in order
pub same_in_order : (ordered names : List Name) → IsStrictlySortedBy bytes_cmp ordered → ((q : Name) → has ordered q ≡ has names q) → ordered ≡ in_order names
same_in_order ordered names sorted same =
    btree_set_from_contains bytes_total (record { keys = ordered }) (record { keys = in_order names }) sorted (in_order_sorted names) (λ q. same q ∙ sym (in_order_has names q)) exact_bytes

-- lists with the same names are one in order
pub in_order_same : (names others : List Name) → ((q : Name) → has names q ≡ has others q) → in_order names ≡ in_order others
in_order_same names others same = same_in_order (in_order names) others (in_order_sorted names) (λ q. in_order_has names q ∙ same q)

or_itself : (a : Bool) → a ≡ (a || a)
or_itself true = refl
or_itself false = refl

-- names in order that are told twice are the same in order
pub in_order_twice : (names : List Name) → IsStrictlySortedBy bytes_cmp names → names ≡ in_order (names ++ names)
in_order_twice names sorted = same_in_order names (names ++ names) sorted (λ q. or_itself (has names q) ∙ sym (list_any-append (is_name q) names names))

-- ---- the first clean list

-- the names that the first clean list has to have
pub first_has : (items : List Item) (leaves : Leaves) (names : List Name) → IsFirstNames items leaves names → (q : Name) → has names q ≡ (has (clean_of leaves) q || has (placed items leaves) q)
first_has items leaves names are q =
    same_test (has names q) (has (clean_of leaves) q || has (placed items leaves) q) (λ there. (are.list.exact q).0 there) (λ is. (are.list.exact q).1 is)

-- the list that has them is read as it is written
pub first_starts : (items : List Item) (leaves : Leaves) (names : List Name) → IsFirstNames items leaves names → IsFirstList items leaves names
first_starts items leaves names are q = ap (λ (ns : List Name). has ns q) (read_back_law names are.clean) ∙ first_has items leaves names are q

-- and it is the first clean list
pub first_is : (items : List Item) (leaves : Leaves) (names : List Name) → IsFirstNames items leaves names → clean_leaf names ≡ first_list items leaves
first_is items leaves names are = ap clean_leaf (same_in_order names (clean_of leaves ++ placed items leaves) are.list.sorted (λ q.
    first_has items leaves names are q ∙ sym (list_any-append (is_name q) (clean_of leaves) (placed items leaves))))

-- ---- the last clean list

all_passing : (P : Name → Type 0) (test : Item → Bool) (items : List Item) → AllByRecursion P (places items) → AllByRecursion P (map (λ (item : Item). item.place) (filter test items))
all_passing P test [] all = tt
all_passing P test (item ∷ items) all = by (test item) (all_passing P test items all.1)
  where
    by : (b : Bool) → AllByRecursion P (map (λ (i : Item). i.place) (filter test items)) → AllByRecursion P (map (λ (i : Item). i.place) (cond b (item ∷ filter test items) (filter test items)))
    by true rest = (all.0, rest)
    by false rest = rest

-- the places of some entries stand in byte order where those of all do
passing_sorted : (test : Item → Bool) (items : List Item) → IsStrictlySortedBy bytes_cmp (places items) → IsStrictlySortedBy bytes_cmp (map (λ (item : Item). item.place) (filter test items))
unfolding IsStrictlySortedBy
passing_sorted test [] sorted = sorted
passing_sorted test (item ∷ items) sorted = by (test item) (all_passing (λ b. bytes_cmp item.place b ≡ Less) test items sorted.0) (passing_sorted test items sorted.1)
  where
    by : (b : Bool) → AllByRecursion (λ q. bytes_cmp item.place q ≡ Less) (map (λ (i : Item). i.place) (filter test items)) →
        IsStrictlySortedBy bytes_cmp (map (λ (i : Item). i.place) (filter test items)) →
        IsStrictlySortedBy bytes_cmp (map (λ (i : Item). i.place) (cond b (item ∷ filter test items) (filter test items)))
    by true above rest = (above, rest)
    by false above rest = rest

pub placed_sorted : (items : List Item) (leaves : Leaves) → IsStrictlySortedBy bytes_cmp (places items) → IsStrictlySortedBy bytes_cmp (placed items leaves)
placed_sorted items leaves sorted = passing_sorted _ items sorted
