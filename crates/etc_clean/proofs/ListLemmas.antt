-- Lists of names that are filtered, and names below etc in their order.
use Rattle.std.proofs.Common.{◌≡◌, ℕ, ◌&&◌, ◌||◌, Bool, true, false, cond, List, [], ◌∷◌, ◌++◌, ◌+◌, ◌<◌, length, get_or, take, map, codes, refl, sym, ap, subst, ◌∙◌}
use Rattle.std.proofs.lemmas.Bool.{both_ways, or_right}
use Rattle.std.proofs.lemmas.List.{map-append, take_more}
use Rattle.std.proofs.lemmas.List.Elements.{filter-append}
use Rattle.std.proofs.lemmas.List.Folds.{list_any-append}
use Rattle.std.proofs.Math.Bool.{or-false}
use Rattle.std.specs.FinMap.{keys}
use Rattle.std.specs.List.{filter, list_any}
use Rattle.std.specs.List.Sorted.{IsStrictlySortedBy}
use Rattle.std.specs.declared.cmp.Ordering.TheVariants.{Less}
use Rattle.switch_names.specs.Names.{Name, has, is_name}
use Rattle.switch_names.specs.Path.{is_below}
use Rattle.switch_names.proofs.Below.{below_front}
use Rattle.host_trait.specs.World.{Leaves, bytes_cmp, is_listed, is_path, listed, stage}
use Rattle.host_trait.proofs.KeyOrder.{keys_sorted}
use Rattle.host_trait.proofs.Orders.{AreAbove}
use Rattle.host_trait.proofs.Places.{itself}
use Rattle.host_trait.proofs.UnitSets.{has_added}
use Rattle.host_trait.proofs.Listings.{listed_by}
use Rattle.etc_clean.specs.Names.{etc_folder, etc_names, is_in_etc, name_of, names_below, place}
use Rattle.etc_clean.proofs.NameLemmas.{in_etc, place_cmp}

-- ---- filters

module _ (p : Name → Bool) (k : Name) (ks : List Name) where
  filtered : (b : Bool) → p k ≡ b → filter p (k ∷ ks) ≡ cond b (k ∷ filter p ks) (filter p ks)
  filtered b is = ap (λ b. cond b (k ∷ filter p ks) (filter p ks)) is

-- a test of those that pass another
pub any_filter : (test p : Name → Bool) (ks : List Name) → list_any test (filter p ks) ≡ list_any (λ k. p k && test k) ks
any_filter test p [] = refl
any_filter test p (k ∷ ks) = by (p k) refl (any_filter test p ks)
  where
    by : (b : Bool) → p k ≡ b → list_any test (filter p ks) ≡ list_any (λ k. p k && test k) ks → list_any test (filter p (k ∷ ks)) ≡ ((p k && test k) || list_any (λ k. p k && test k) ks)
    by true is rest = ap (list_any test) (filtered p k ks true is) ∙ ap (λ b. test k || b) rest ∙ sym (ap (λ b. (b && test k) || list_any (λ k. p k && test k) ks) is)
    by false is rest = ap (list_any test) (filtered p k ks false is) ∙ rest ∙ sym (ap (λ b. (b && test k) || list_any (λ k. p k && test k) ks) is)

-- two tests that agree at each name of a list
pub any_among : (p t : Name → Bool) (ks : List Name) → ((k : Name) → has ks k ≡ true → p k ≡ t k) → list_any p ks ≡ list_any t ks
any_among p t [] agree = refl
any_among p t (k ∷ ks) agree =
    ap (λ b. b || list_any p ks) (agree k (ap (λ b. b || has ks k) (itself k)))
    ∙ ap (λ b. t k || b) (any_among p t ks (λ q is. agree q (or_right (is_name q k) (has ks q) is)))

pub none_among : (p : Name → Bool) (ks : List Name) → ((k : Name) → has ks k ≡ true → p k ≡ false) → list_any p ks ≡ false
none_among p [] lacks = refl
none_among p (k ∷ ks) lacks =
    ap (λ b. b || list_any p ks) (lacks k (ap (λ b. b || has ks k) (itself k)))
    ∙ none_among p ks (λ q is. lacks q (or_right (is_name q k) (has ks q) is))

-- a filter by what another lets through as well
filter_twice : (p t : List ℕ → Bool) (ks : List (List ℕ)) → ((k : List ℕ) → p k ≡ true → t k ≡ true) → filter p (filter t ks) ≡ filter p ks
filter_twice p t [] passes = refl
filter_twice p t (k ∷ ks) passes = by (t k) (p k) refl refl (filter_twice p t ks passes)
  where
    by : (b c : Bool) → t k ≡ b → p k ≡ c → filter p (filter t ks) ≡ filter p ks → filter p (filter t (k ∷ ks)) ≡ filter p (k ∷ ks)
    by true true i j rest =
        ap (filter p) (filtered t k ks true i) ∙ filtered p k (filter t ks) true j ∙ ap (λ l. k ∷ l) rest ∙ sym (filtered p k ks true j)
    by true false i j rest =
        ap (filter p) (filtered t k ks true i) ∙ filtered p k (filter t ks) false j ∙ rest ∙ sym (filtered p k ks false j)
    by false true i j rest = absurd (both_ways (t k) i (passes k j))
    by false false i j rest = ap (filter p) (filtered t k ks false i) ∙ rest ∙ sym (filtered p k ks false j)

-- ---- names below etc

pub names_append : (ks ls : List (List ℕ)) → names_below (ks ++ ls) ≡ names_below ks ++ names_below ls
names_append ks ls = ap (map name_of) (filter-append is_in_etc ks ls) ∙ map-append name_of (filter is_in_etc ks) (filter is_in_etc ls)

name_less : (k l : List ℕ) → is_in_etc k ≡ true → is_in_etc l ≡ true → bytes_cmp k l ≡ Less → bytes_cmp (name_of k) (name_of l) ≡ Less
name_less k l first second less =
    sym (place_cmp (name_of k) (name_of l)) ∙ ap (λ p. bytes_cmp p (place (name_of l))) (sym (in_etc k first)) ∙ ap (bytes_cmp k) (sym (in_etc l second)) ∙ less

above_step : (k l : List ℕ) (ls : List (List ℕ)) (b : Bool) → is_in_etc l ≡ b → is_in_etc k ≡ true → bytes_cmp k l ≡ Less → AreAbove (names_below ls) (name_of k) → AreAbove (names_below (l ∷ ls)) (name_of k)
above_step k l ls true is inside less rest = subst (λ c. AreAbove (map name_of (cond c (l ∷ filter is_in_etc ls) (filter is_in_etc ls))) (name_of k)) (sym is) (name_less k l inside is less, rest)
above_step k l ls false is inside less rest = subst (λ c. AreAbove (map name_of (cond c (l ∷ filter is_in_etc ls) (filter is_in_etc ls))) (name_of k)) (sym is) rest

names_above : (k : List ℕ) (ls : List (List ℕ)) → is_in_etc k ≡ true → AreAbove ls k → AreAbove (names_below ls) (name_of k)
names_above k [] inside above = tt
names_above k (l ∷ ls) inside above = above_step k l ls (is_in_etc l) refl inside above.0 (names_above k ls inside above.1)

sorted_step : (k : List ℕ) (ks : List (List ℕ)) (b : Bool) → is_in_etc k ≡ b → AreAbove ks k → IsStrictlySortedBy bytes_cmp (names_below ks) → IsStrictlySortedBy bytes_cmp (names_below (k ∷ ks))
unfolding IsStrictlySortedBy
sorted_step k ks true is above rest = subst (λ c. IsStrictlySortedBy bytes_cmp (map name_of (cond c (k ∷ filter is_in_etc ks) (filter is_in_etc ks)))) (sym is) (names_above k ks is above, rest)
sorted_step k ks false is above rest = subst (λ c. IsStrictlySortedBy bytes_cmp (map name_of (cond c (k ∷ filter is_in_etc ks) (filter is_in_etc ks)))) (sym is) rest

sorted_names : (ks : List (List ℕ)) → IsStrictlySortedBy bytes_cmp ks → IsStrictlySortedBy bytes_cmp (names_below ks)
unfolding IsStrictlySortedBy
sorted_names [] sorted = tt
sorted_names (k ∷ ks) sorted = sorted_step k ks (is_in_etc k) refl sorted.0 (sorted_names ks sorted.1)

pub etc_names_sorted : (leaves : Leaves) → IsStrictlySortedBy bytes_cmp (etc_names leaves)
etc_names_sorted leaves = sorted_names (keys leaves) (keys_sorted leaves)

pub place_not_stage : (q : Name) → is_path (place q) stage ≡ false
unfolding place stage
place_not_stage q = refl

place_below : (q : Name) → is_below (place q) etc_folder ≡ true
unfolding place etc_folder
place_below q = below_front (codes "etc") q

etc_listed : (k : List ℕ) → is_in_etc k ≡ true → is_listed etc_folder k ≡ true
etc_listed k inside =
    subst (λ p. is_listed etc_folder p ≡ true) (sym (in_etc k inside))
    (listed_by (is_path (place (name_of k)) etc_folder) (is_below (place (name_of k)) etc_folder) (is_path (place (name_of k)) stage) (place_below (name_of k)) (place_not_stage (name_of k)))

-- the list of the folder has all names below etc
pub listed_names : (leaves : Leaves) → names_below (listed etc_folder leaves) ≡ etc_names leaves
listed_names leaves = ap (map name_of) (filter_twice is_in_etc (is_listed etc_folder) (keys leaves) etc_listed)

-- ---- sets of names

-- a name is added to the set of the names so far
pub set_next : (names : List Name) (i : ℕ) (name key : Name) (old new : List Name) (q : Name) → i < length names → name ≡ get_or names i name → key ≡ name →
    has old q ≡ has (take i names) q → has new q ≡ cond (is_name key q) true (has old q) → has new q ≡ has (take (i + 1) names) q
set_next names i name key old new q inside is same before updated =
    has_added old new key q updated
    ∙ ap (λ b. b || is_name q key) before
    ∙ ap (λ k. has (take i names) q || is_name q k) same
    ∙ sym (ap (λ (ns : List Name). has ns q) (take_more names i name inside ∙ ap (λ k. take i names ++ k ∷ []) (sym is))
    ∙ list_any-append (is_name q) (take i names) (name ∷ [])
    ∙ ap (λ b. has (take i names) q || b) (or-false (is_name q name)))
