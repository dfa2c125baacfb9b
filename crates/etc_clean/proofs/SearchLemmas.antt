-- Searches among names in byte order.
use Rattle.std.proofs.Common.{◌≡◌, ℕ, zero, suc, ◌||◌, Bool, true, false, cond, List, [], ◌∷◌, ◌++◌, length, take, drop, map, Option, None, Some, is_some, option_map, MatchOption, IsNone, IfSome, Result, Ok, Err, refl, sym, ap, subst, ◌∙◌, inl, inr, ⊎_elim}
use Rattle.std.proofs.lemmas.Bool.{both_ways, cases_Bool, or_left, or_right}
use Rattle.std.proofs.lemmas.Cmp.{tied_itself}
use Rattle.std.proofs.lemmas.List.{append-nil}
use Rattle.std.proofs.lemmas.Option.{slice_get_past, slice_get_read}
use Rattle.std.specs.Borrow.{Bor}
use Rattle.std.specs.Slice.{IsItemAt}
use Rattle.std.specs.List.{AllByRecursion, find, list_any, slice_get}
use Rattle.std.specs.List.Sorted.{IsBinarySearchResult, IsSearchInRange, IsStrictlySortedBy}
use Rattle.std.specs.Option.{option_copied}
use Rattle.std.specs.Result.{is_ok}
use Rattle.std.specs.declared.cmp.Ordering.TheVariants.{Less}
use Rattle.switch_names.specs.Names.{Name, has, is_name}
use Rattle.switch_names.specs.Path.{IsParentOf, is_below, slash}
use Rattle.host_trait.specs.World.{bytes_cmp}
use Rattle.host_trait.proofs.Fronts.{begins, begins_there, begins_with, below_is_front, between, lower_begins}
use Rattle.host_trait.proofs.Orders.{AreAbove, AreBelow, found_name, missing_name}
use Rattle.host_trait.proofs.Places.{bytes_total, itself}
use Rattle.host_trait.proofs.Seen.{other_of}
use Rattle.host_trait.proofs.NameOrder.{passes_among, less_not_equal}
use Rattle.host_trait.proofs.Above as above
use Rattle.etc_manifest.specs.declared.item.Item.{Item}
use Rattle.etc_manifest.specs.declared.item.ItemKind.{ItemKind}
use Rattle.etc_manifest.specs.Manifest.{entry, places}
use Rattle.etc_clean.proofs.ListLemmas.{none_among}

-- ---- a name among others

pub has_at : (ks : List Name) (at : ℕ) (name : Name) → slice_get ks at ≡ Some name → has ks name ≡ true
has_at [] zero name is = absurd (cc)
has_at [] (suc at) name is = absurd (cc)
has_at (k ∷ ks) zero name is = or_left (is_name name k) (has ks name) (let same : k ≡ name = cc in subst (λ x. is_name name x ≡ true) (sym same) (itself name))
has_at (k ∷ ks) (suc at) name is = or_right (is_name name k) (has ks name) (has_at ks at name is)

pub lower_other : (k name : Name) → bytes_cmp k name ≡ Less → is_name name k ≡ false
lower_other k name less = other_of name k (λ same. less_not_equal (bytes_cmp k k) (subst (λ x. bytes_cmp k x ≡ Less) same less) (tied_itself bytes_total k))

higher_other : (k name : Name) → bytes_cmp name k ≡ Less → is_name name k ≡ false
higher_other k name less = other_of name k (λ same. less_not_equal (bytes_cmp name name) (subst (λ x. bytes_cmp name x ≡ Less) (sym same) less) (tied_itself bytes_total name))

module _ {X : Type 0} (key : X → Name) where
  none_above : (xs : List X) (name : Name) → AllByRecursion (λ x. bytes_cmp name (key x) ≡ Less) xs → has (map key xs) name ≡ false
  none_above [] name above = refl
  none_above (x ∷ xs) name above = ap (λ b. b || has (map key xs) name) (higher_other (key x) name above.0) ∙ none_above xs name above.1

  none_at_cut : (xs : List X) (at : ℕ) (name : Name) → AllByRecursion (λ x. bytes_cmp (key x) name ≡ Less) (take at xs) → AllByRecursion (λ x. bytes_cmp name (key x) ≡ Less) (drop at xs) → has (map key xs) name ≡ false
  none_at_cut [] at name below above = refl
  none_at_cut (x ∷ xs) zero name below above = none_above (x ∷ xs) name above
  none_at_cut (x ∷ xs) (suc at) name below above = ap (λ b. b || has (map key xs) name) (lower_other (key x) name below.0) ∙ none_at_cut xs at name below.1 above

  -- a binary search finds a name where it is there
  pub searched : (xs : List X) (name : Name) (r : Result ℕ ℕ) → IsStrictlySortedBy bytes_cmp (map key xs) → IsSearchInRange r (length xs) →
      IsBinarySearchResult (λ x. bytes_cmp (key x) name) xs r → is_ok r ≡ has (map key xs) name
  searched xs name (Ok at) sorted within is = sym (has_at (map key xs) at name (found_name key xs name (Ok at) within is))
  searched xs name (Err at) sorted within is =
      let cut = missing_name key xs name (Err at) sorted within is in sym (none_at_cut xs at name cut.1 cut.2)

pub map_self : {X : Type 0} (xs : List X) → map (λ x. x) xs ≡ xs
map_self [] = refl
map_self (x ∷ xs) = ap (λ ys. x ∷ ys) (map_self xs)

pub searched_name : (names : List Name) (name : Name) (r : Result ℕ ℕ) → IsStrictlySortedBy bytes_cmp names → IsSearchInRange r (length names) →
    IsBinarySearchResult (λ x. bytes_cmp x name) names r → is_ok r ≡ has names name
searched_name names name r sorted within is =
    searched (λ x. x) names name r (subst (IsStrictlySortedBy bytes_cmp) (sym (map_self names)) sorted) within is ∙ ap (λ (ns : List Name). has ns name) (map_self names)

-- what is lent at a place is what stands there
pub item_at : {X : Type 0} (xs : List X) (at : ℕ) (lent : Option (Bor X)) → IsItemAt xs at lent → slice_get xs at ≡ option_copied lent
item_at xs at None is = slice_get_past xs at is.3
item_at xs at (Some item) is = slice_get_read xs (length xs) at item.now refl is.3.0 is.1

-- ---- an item at a name

less_at : (a : Name) (items : List Item) (at : ℕ) (item : Item) → AllByRecursion (λ b. bytes_cmp a b ≡ Less) (places items) → slice_get items at ≡ Some item → bytes_cmp a item.place ≡ Less
less_at a [] zero item above is = absurd (cc)
less_at a [] (suc at) item above is = absurd (cc)
less_at a (first ∷ items) zero item above is = let same : first ≡ item = cc in subst (λ (x : Item). bytes_cmp a x.place ≡ Less) same above.0
less_at a (first ∷ items) (suc at) item above is = less_at a items at item above.1 is

-- in order, the entry of an item's place is the item
pub entry_of_found : (items : List Item) (at : ℕ) (item : Item) → IsStrictlySortedBy bytes_cmp (places items) → slice_get items at ≡ Some item → entry items item.place ≡ Some item.kind
unfolding IsStrictlySortedBy
entry_of_found [] zero item sorted is = absurd (cc)
entry_of_found [] (suc at) item sorted is = absurd (cc)
entry_of_found (first ∷ items) zero item sorted is =
    let same : first ≡ item = cc in
    subst (λ (x : Item). option_map (λ (i : Item). i.kind) (cond (is_name item.place x.place) (Some x) (find (λ (i : Item). is_name item.place i.place) items)) ≡ Some item.kind) (sym same)
    (ap (λ b. option_map (λ (i : Item). i.kind) (cond b (Some item) (find (λ (i : Item). is_name item.place i.place) items))) (itself item.place))
entry_of_found (first ∷ items) (suc at) item sorted is =
    ap (λ b. option_map (λ (i : Item). i.kind) (cond b (Some first) (find (λ (i : Item). is_name item.place i.place) items))) (lower_other first.place item.place (less_at first.place items at item sorted.0 is))
    ∙ entry_of_found items at item sorted.1 is

get_map : (items : List Item) (at : ℕ) → slice_get (places items) at ≡ option_map (λ (item : Item). item.place) (slice_get items at)
get_map [] zero = refl
get_map [] (suc at) = refl
get_map (item ∷ items) zero = refl
get_map (item ∷ items) (suc at) = get_map items at

-- what is lent where a name was found is its item
pub lent_at : (items : List Item) (at : ℕ) (name : Name) (lent : Option (Bor Item)) → IsStrictlySortedBy bytes_cmp (places items) → IsItemAt items at lent → slice_get (places items) at ≡ Some name →
    MatchOption lent (entry items name ≡ None) (λ item. (item.now.place ≡ name) × (entry items name ≡ Some item.now.kind))
lent_at items at name None sorted is found =
    let none : None ≡ Some name = sym (get_map items at ∙ ap (option_map (λ (item : Item). item.place)) (item_at items at None is)) ∙ found in absurd (cc)
lent_at items at name (Some item) sorted is found =
    let there : slice_get items at ≡ Some item.now = item_at items at (Some item) is in
    let named : Some item.now.place ≡ Some name = sym (get_map items at ∙ ap (option_map (λ (item : Item). item.place)) there) ∙ found in
    let same : item.now.place ≡ name = cc in
    (same, ap (entry items) (sym same) ∙ entry_of_found items at item.now sorted there)

-- where no entry stands, nothing is wanted
pub none_wanted : (o : Option ItemKind) → is_some o ≡ false → o ≡ None
none_wanted None is = refl
none_wanted (Some kind) is = absurd (both_ways _ is refl)

-- ---- names that begin with a text

-- whether the first of some names begins with a text
abbrev pub first_begins : List ℕ → List Name → Bool
first_begins front [] = false
first_begins front (k ∷ ks) = begins front k

none_after : (front k : Name) (ks : List Name) → bytes_cmp front k ≡ Less → AreAbove ks k → begins front k ≡ false → list_any (begins front) ks ≡ false
none_after front k [] low above none = refl
none_after front k (l ∷ ks) low above none = elim (cases_Bool (begins front l)) [
  | inl is ↦ let with = begins_with front l is in absurd (both_ways _ none (between front k with.0 low (subst (λ x. bytes_cmp k x ≡ Less) with.1 above.0)))
  | inr other ↦ ap (λ b. b || list_any (begins front) ks) other ∙ none_after front k ks low above.1 none
]

first_counts : (front k : Name) (ks : List Name) (b : Bool) → begins front k ≡ b → bytes_cmp front k ≡ Less → AreAbove ks k → (begins front k || list_any (begins front) ks) ≡ begins front k
first_counts front k ks true is low above = ap (λ b. b || list_any (begins front) ks) is ∙ sym is
first_counts front k ks false is low above = ap (λ b. b || list_any (begins front) ks) is ∙ none_after front k ks low above is ∙ sym is

-- in order, the first name past a text tells whether one begins with it
front_at_cut : (front : List ℕ) (names : List Name) (at : ℕ) → IsStrictlySortedBy bytes_cmp names → AreBelow (take at names) front → AreAbove (drop at names) front →
    list_any (begins front) names ≡ first_begins front (drop at names)
unfolding IsStrictlySortedBy
front_at_cut front [] zero sorted below above = refl
front_at_cut front [] (suc at) sorted below above = refl
front_at_cut front (k ∷ ks) zero sorted below above = first_counts front k ks (begins front k) refl above.0 sorted.0
front_at_cut front (k ∷ ks) (suc at) sorted below above = ap (λ b. b || list_any (begins front) ks) (lower_begins front k below.0) ∙ front_at_cut front ks at sorted.1 below.1 above

first_some : (front : List ℕ) (names : List Name) (at : ℕ) (k : Name) → slice_get names at ≡ Some k → first_begins front (drop at names) ≡ begins front k
first_some front [] zero k is = absurd (cc)
first_some front [] (suc at) k is = absurd (cc)
first_some front (l ∷ names) zero k is = let same : l ≡ k = cc in ap (begins front) same
first_some front (l ∷ names) (suc at) k is = first_some front names at k is

first_none : (front : List ℕ) (names : List Name) (at : ℕ) → slice_get names at ≡ None → first_begins front (drop at names) ≡ false
first_none front [] zero is = refl
first_none front [] (suc at) is = refl
first_none front (l ∷ names) zero is = absurd (cc)
first_none front (l ∷ names) (suc at) is = first_none front names at is

module _ (front : List ℕ) (names : List Name) (sorted : IsStrictlySortedBy bytes_cmp names) where
  in_self : IsStrictlySortedBy bytes_cmp (map (λ x. x) names)
  in_self = subst (IsStrictlySortedBy bytes_cmp) (sym (map_self names)) sorted

  pub front_found : (at : ℕ) → IsSearchInRange (Ok at) (length names) → IsBinarySearchResult (λ x. bytes_cmp x front) names (Ok at) → true ≡ list_any (begins front) names
  front_found at within is =
      sym (passes_among (begins front) names front
      (has_at names at front (subst (λ (ns : List Name). slice_get ns at ≡ Some front) (map_self names) (found_name (λ x. x) names front (Ok at) within is)))
      (subst (λ x. begins front x ≡ true) (append-nil front) (begins_there front [])))

  pub front_cut : (at : ℕ) → IsSearchInRange (Err at) (length names) → IsBinarySearchResult (λ x. bytes_cmp x front) names (Err at) → list_any (begins front) names ≡ first_begins front (drop at names)
  front_cut at within is =
      let cut = missing_name (λ x. x) names front (Err at) in_self within is in front_at_cut front names at sorted cut.1 cut.2

  pub front_some : (at : ℕ) (k : Name) → IsSearchInRange (Err at) (length names) → IsBinarySearchResult (λ x. bytes_cmp x front) names (Err at) → slice_get names at ≡ Some k → begins front k ≡ list_any (begins front) names
  front_some at k within is there = sym (front_cut at within is ∙ first_some front names at k there)

  pub front_none : (at : ℕ) → IsSearchInRange (Err at) (length names) → IsBinarySearchResult (λ x. bytes_cmp x front) names (Err at) → slice_get names at ≡ None → false ≡ list_any (begins front) names
  front_none at within is there = sym (front_cut at within is ∙ first_none front names at there)

-- ---- names below another

pub any_below : (name : Name) (names : List Name) → list_any (begins (name ++ slash ∷ [])) names ≡ list_any (λ q. is_below q name) names
any_below name names = λ i. list_any (λ q. below_is_front name q i) names

-- ---- names above another

-- above a path, there are names at most where it is left to look
abbrev pub IsFreeBut : List Name → Name → Option Name → Type 0
IsFreeBut names name next = above.IsFreeBut (λ q. has names q ≡ false) name next

pub free_next : (names : List Name) (name place : Name) (next : Option Name) → IsFreeBut names name (Some place) → has names place ≡ false →
    (IsNone next → (q : Name) → is_below place q ≡ false) → IfSome next (IsParentOf place) → IsFreeBut names name next
free_next names name place next free gone none some = above.free_next (λ q. has names q ≡ false) name place next free gone none some

pub free_last : (names : List Name) (name : Name) → IsFreeBut names name None → list_any (λ q. is_below name q) names ≡ false
free_last names name free = none_among (λ q. is_below name q) names (λ q there. elim (cases_Bool (is_below name q)) [
  | inl line ↦ absurd (⊎_elim (λ empty. both_ways _ empty there) (λ left. left) (free q line))
  | inr other ↦ other
])

pub above_found : (names : List Name) (name place : Name) → is_below name place ≡ true → has names place ≡ true → true ≡ list_any (λ q. is_below name q) names
above_found names name place above there = sym (passes_among (λ q. is_below name q) names place there above)
