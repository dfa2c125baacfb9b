-- Names in byte order.
use Rattle.std.proofs.Common.{◌≡◌, ℕ, zero, suc, ◌+◌, ◌-◌, ◌<◌, ◌||◌, ◌&&◌, Bool, true, false, cond, List, [], ◌∷◌, ◌++◌, length, get_or, take, drop, map, Bor, codes, nat_eq, Option, None, Some, IfSome, Result, Ok, Err, refl, sym, ap, subst, ◌∙◌, inl, inr, arith, append_assoc}
use Rattle.std.specs.FinMap.{nat_cmp-IsAntisymmetric}
use Rattle.std.specs.List.{AllByRecursion, cons_option, filter, filter_map, slice_get, starts_with}
use Rattle.std.specs.Slice.{IsItemAt}
use Rattle.std.specs.List.Retain.{DiffersFromLast, IsFiltered}
use Rattle.std.specs.List.Sorted.{IsBinarySearchResult, IsSearchInRange, IsSorted, IsStrictlySortedBy}
use Rattle.std.specs.Cmp.Lexicographic.{pointwise, texts_ties}
use Rattle.std.specs.Ordering.{is_eq, nat_cmp, ordering_reverse, ordering_then}
use Rattle.std.specs.Result.{is_ok}
use Rattle.std.specs.declared.cmp.Ordering.{Ordering}
use Rattle.std.specs.declared.cmp.Ordering.TheVariants.{Less, Equal, Greater}
use Rattle.std.proofs.lemmas.Bool.{both_ways, or_right}
use Rattle.std.proofs.lemmas.Bool.Decides.{Decides-eqb}
use Rattle.std.proofs.lemmas.Cmp.{nat_cmp_total, tied_itself}
use Rattle.std.proofs.Math.Seq.{drop-cons}
use Rattle.std.proofs.lemmas.List.{append-nil, take-append-drop, take_more}
use Rattle.std.proofs.lemmas.List.Elements.{filter_map-append}
use Rattle.std.proofs.lemmas.List.Filters.{dedup_is}
use Rattle.std.proofs.lemmas.List.Folds.{list_any-append}
use Rattle.std.proofs.lemmas.List.Kept.{IsStrictlySortedBy-dedup}
use Rattle.std.proofs.lemmas.Option.{slice_get_past, slice_get_read}
use Rattle.std.proofs.lemmas.Slice.Eq.{starts_is}
use Rattle.switch_names.specs.Names.{has, is_name}
use Rattle.switch_names.specs.Path.{name_below, slash}
use Rattle.switch_names.proofs.Below.{name_below-cut, name_below-uncut}
use Rattle.switch_names.proofs.Names.{name_turned}
use Rattle.switch_names.proofs.Cuts.{front_is, front_there}
use Rattle.host_trait.specs.Bytes.{bytes_cmp}
use Rattle.host_trait.proofs.Orders.{AreAbove, AreBelow, missing_name, sorted_below, sorted_insert, all_below}
use Rattle.host_trait.proofs.Places.{bytes_exact, bytes_total, same_or_other}
use Rattle.host_trait.proofs.NameOrder.{name_exact, name_from, less_is_other, above_lack}
use Rattle.switch_names.specs.Texts.{after_front}
use Rattle.etc_manifest.specs.Place.{first_name, is_reserved, path_in, reserved_names}

-- ---- a filter of names

pub has_filter : (p : List ℕ → Bool) (names : List (List ℕ)) (name : List ℕ) → has (filter p names) name ≡ (has names name && p name)
has_filter p [] name = refl
has_filter p (n ∷ names) name = by (p n) (is_name name n) refl refl (has_filter p names name)
  where
    by : (b c : Bool) → p n ≡ b → is_name name n ≡ c → has (filter p names) name ≡ (has names name && p name) →
        has (cond (p n) (n ∷ filter p names) (filter p names)) name ≡ ((is_name name n || has names name) && p name)
    by true true passes same rest =
        ap (λ b. has (cond b (n ∷ filter p names) (filter p names)) name) passes
        ∙ ap (λ c. c || has (filter p names) name) same
        ∙ sym (ap (λ c. (c || has names name) && p name) same ∙ ap p (name_exact name n same) ∙ passes)
    by true false passes same rest =
        ap (λ b. has (cond b (n ∷ filter p names) (filter p names)) name) passes
        ∙ ap (λ c. c || has (filter p names) name) same
        ∙ rest
        ∙ sym (ap (λ c. (c || has names name) && p name) same)
    by false true passes same rest =
        ap (λ b. has (cond b (n ∷ filter p names) (filter p names)) name) passes
        ∙ rest
        ∙ ap (λ b. has names name && b) (ap p (name_exact name n same) ∙ passes)
        ∙ none (has names name)
        ∙ sym (ap (λ c. (c || has names name) && p name) same ∙ ap p (name_exact name n same) ∙ passes)
      where
        none : (b : Bool) → (b && false) ≡ false
        none true = refl
        none false = refl
    by false false passes same rest =
        ap (λ b. has (cond b (n ∷ filter p names) (filter p names)) name) passes
        ∙ rest
        ∙ sym (ap (λ c. (c || has names name) && p name) same)

-- ---- names after a front

-- what a path has after a folder and a slash is what follows these two
pub below_is_after : (folder path : List ℕ) → name_below folder path ≡ after_front (path_in folder []) path
below_is_after folder path = by (after_front (path_in folder []) path) refl
  where
    by : (o : Option (List ℕ)) → after_front (path_in folder []) path ≡ o → name_below folder path ≡ o
    by None is =
        sym (name_below-uncut path folder (λ name cut.
        let there = sym is ∙ ap (after_front (path_in folder [])) (cut ∙ sym (append_assoc folder (slash ∷ []) name)) ∙ front_there (path_in folder []) name in absurd (cc)))
    by (Some name) is = sym (name_below-cut path folder name (front_is (path_in folder []) path name is ∙ append_assoc folder (slash ∷ []) name))

-- a front that two names share is passed over
pub front_same : (front a b : List ℕ) → bytes_cmp (front ++ a) (front ++ b) ≡ bytes_cmp a b
front_same [] a b = refl
front_same (x ∷ front) a b = ap (λ o. ordering_then o (bytes_cmp (front ++ a) (front ++ b))) (itself x) ∙ front_same front a b
  where
    itself : (n : ℕ) → nat_cmp n n ≡ Equal
    itself n = tied_itself nat_cmp_total n

module _ (front : List ℕ) where
  above_after : (path name : List ℕ) (paths : List (List ℕ)) → path ≡ front ++ name → AllByRecursion (λ b. bytes_cmp path b ≡ Less) paths →
      AllByRecursion (λ b. bytes_cmp name b ≡ Less) (filter_map (after_front front) paths)
  above_after path name [] is above = tt
  above_after path name (p ∷ paths) is above = by (after_front front p) refl (above_after path name paths is above.1)
    where
      by : (o : Option (List ℕ)) → after_front front p ≡ o → AllByRecursion (λ b. bytes_cmp name b ≡ Less) (filter_map (after_front front) paths) →
          AllByRecursion (λ b. bytes_cmp name b ≡ Less) (cons_option o (filter_map (after_front front) paths))
      by None is_p rest = rest
      by (Some n) is_p rest = (
        sym (front_same front name n) ∙ sym (λ i. bytes_cmp (is i) (front_is front p n is_p i)) ∙ above.0,
        rest,
      )

  -- names after a front are in the order of the paths
  pub sorted_after : (paths : List (List ℕ)) → IsStrictlySortedBy bytes_cmp paths → IsStrictlySortedBy bytes_cmp (filter_map (after_front front) paths)
  unfolding IsStrictlySortedBy
  sorted_after [] sorted = tt
  sorted_after (p ∷ paths) sorted = by (after_front front p) refl (sorted_after paths sorted.1)
    where
      by : (o : Option (List ℕ)) → after_front front p ≡ o → IsStrictlySortedBy bytes_cmp (filter_map (after_front front) paths) →
          IsStrictlySortedBy bytes_cmp (cons_option o (filter_map (after_front front) paths))
      by None is rest = rest
      by (Some n) is rest = (above_after p n paths (front_is front p n is) sorted.0, rest)

  -- a name is among them exactly where its path is among the paths
  pub has_after : (paths : List (List ℕ)) (name : List ℕ) → has (filter_map (after_front front) paths) name ≡ has paths (front ++ name)
  has_after [] name = refl
  has_after (p ∷ paths) name = by (after_front front p) refl (has_after paths name)
    where
      by : (o : Option (List ℕ)) → after_front front p ≡ o → has (filter_map (after_front front) paths) name ≡ has paths (front ++ name) →
          has (cons_option o (filter_map (after_front front) paths)) name ≡ (is_name (front ++ name) p || has paths (front ++ name))
      by None is rest = rest ∙ sym (ap (λ b. b || has paths (front ++ name)) (lacks (is_name (front ++ name) p) refl))
        where
          lacks : (b : Bool) → is_name (front ++ name) p ≡ b → b ≡ false
          lacks true same =
              let some : None ≡ Some name = sym is ∙ ap (after_front front) (sym (name_exact (front ++ name) p same)) ∙ front_there front name in absurd (cc)
          lacks false same = refl
      by (Some n) is rest =
          (λ i. ap is_eq (sym (front_same front name n) ∙ ap (bytes_cmp (front ++ name)) (sym (front_is front p n is))) i || rest i)

-- ---- names that are added in order

-- one name more
more_after : (front : List ℕ) (before : List (List ℕ)) (path : List ℕ) (after : List (List ℕ)) (name : List ℕ) → Some name ≡ after_front front path →
    filter_map (after_front front) (before ++ path ∷ after) ≡ filter_map (after_front front) before ++ name ∷ filter_map (after_front front) after
more_after front before path after name is =
    filter_map-append (after_front front) before (path ∷ after)
    ∙ ap (λ o. filter_map (after_front front) before ++ cons_option o (filter_map (after_front front) after)) (sym is)

-- a path without the front adds no name
pub none_after : (front : List ℕ) (before : List (List ℕ)) (path : List ℕ) → None ≡ after_front front path →
    filter_map (after_front front) (before ++ path ∷ []) ≡ filter_map (after_front front) before
none_after front before path is =
    filter_map-append (after_front front) before (path ∷ [])
    ∙ ap (λ o. filter_map (after_front front) before ++ cons_option o []) (sym is)
    ∙ append-nil (filter_map (after_front front) before)

module _ (front : List ℕ) (paths : List (List ℕ)) (i : ℕ) (path : List ℕ) (within : i < length paths) (is : path ≡ get_or paths i path) where
  split : paths ≡ take i paths ++ path ∷ drop (i + 1) paths
  split =
      let next : suc i ≡ i + 1 = omega arith in
      sym (take-append-drop i paths)
      ∙ ap (λ ps. take i paths ++ ps) (drop-cons paths i path within ∙ ap (λ p. p ∷ drop (suc i) paths) (sym is) ∙ ap (λ n. path ∷ drop n paths) next)

  taken : take (i + 1) paths ≡ take i paths ++ path ∷ []
  taken = take_more paths i path within ∙ ap (λ p. take i paths ++ p ∷ []) (sym is)

  -- the name of one path more is added at the end
  pub next_after : (name : List ℕ) (old new : List (List ℕ)) → Some name ≡ after_front front path → old ≡ filter_map (after_front front) (take i paths) → new ≡ old ++ name ∷ [] →
      new ≡ filter_map (after_front front) (take (i + 1) paths)
  next_after name old new named so_far pushed =
      pushed ∙ ap (λ names. names ++ name ∷ []) so_far ∙ sym (more_after front (take i paths) path [] name named) ∙ ap (filter_map (after_front front)) (sym taken)

  -- and comes after them, where the paths are in order
  pub comes_after : (name : List ℕ) (old : List (List ℕ)) → Some name ≡ after_front front path → old ≡ filter_map (after_front front) (take i paths) → IsStrictlySortedBy bytes_cmp paths → AreBelow old name
  comes_after name old named so_far sorted =
      let all = subst (IsStrictlySortedBy bytes_cmp) (ap (filter_map (after_front front)) split ∙ more_after front (take i paths) path (drop (i + 1) paths) name named) (sorted_after front paths sorted) in
      subst (λ names. AreBelow names name) (sym so_far) (sorted_below (filter_map (after_front front) (take i paths)) name (filter_map (after_front front) (drop (i + 1) paths)) all)

  -- a path without the front leaves the names as they are
  pub same_after : (old : List (List ℕ)) → None ≡ after_front front path → old ≡ filter_map (after_front front) (take i paths) → old ≡ filter_map (after_front front) (take (i + 1) paths)
  same_after old named so_far = so_far ∙ sym (none_after front (take i paths) path named) ∙ ap (filter_map (after_front front)) (sym taken)

-- ---- a search among names in order

has_at : (names : List (List ℕ)) (at : ℕ) (name : List ℕ) → at < length names → ((d : List ℕ) → get_or names at d ≡ name) → has names name ≡ true
has_at [] at name within is = absurd (omega arith)
has_at (n ∷ names) zero name within is = ap (λ b. b || has names name) (name_from name n (sym (is n)))
has_at (n ∷ names) (suc at) name within is = or_right (is_name name n) (has names name) (has_at names at name (omega arith) is)

below_lack : (name : List ℕ) (names : List (List ℕ)) → AllByRecursion (λ b. bytes_cmp b name ≡ Less) names → has names name ≡ false
below_lack name [] below = refl
below_lack name (n ∷ names) below = ap (λ b. b || has names name) (name_turned name n ∙ less_is_other n name below.0) ∙ below_lack name names below.1

map_self : (names : List (List ℕ)) → map (λ name. name) names ≡ names
map_self [] = refl
map_self (n ∷ names) = ap (λ ns. n ∷ ns) (map_self names)

-- a search finds a name exactly where it is there
pub searched : (names : List (List ℕ)) (name : List ℕ) (r : Result ℕ ℕ) → IsStrictlySortedBy bytes_cmp names → IsSearchInRange r (length names) →
    IsBinarySearchResult (λ other. bytes_cmp other name) names r → is_ok r ≡ has names name
searched names name (Ok at) sorted within found = sym (has_at names at name within (λ d. bytes_exact (get_or names at d) name (found d)))
searched names name (Err at) sorted within found =
    let cut = missing_name (λ n. n) names name (Err at) (subst (IsStrictlySortedBy bytes_cmp) (sym (map_self names)) sorted) within found in
    sym (ap (λ ns. has ns name) (sym (take-append-drop at names)) ∙ list_any-append (is_name name) (take at names) (drop at names)
    ∙ (λ i. below_lack name (take at names) cut.1 i || above_lack name (drop at names) cut.2 i))

-- what holds of all names holds of the one at a place
all_at : (P : List ℕ → Type 0) (names : List (List ℕ)) (at : ℕ) (name : List ℕ) → AllByRecursion P names → slice_get names at ≡ Some name → P name
all_at P [] at name all there = absurd (cc)
all_at P (n ∷ names) zero name all there = let same : n ≡ name = cc in subst P same all.0
all_at P (n ∷ names) (suc at) name all there = all_at P names at name all.1 there

-- a name that stands at a place is the one that is read there
pub name_at : (names : List (List ℕ)) (at : ℕ) (one name : List ℕ) → at < length names → one ≡ get_or names at one → slice_get names at ≡ Some name → one ≡ name
name_at names at one name within is there = let both : Some one ≡ Some name = sym (slice_get_read names (length names) at one refl within is) ∙ there in cc

-- ---- names that come after others

-- what is above the last name is above all
pub below_past : (names : List (List ℕ)) (last name : List ℕ) → IsStrictlySortedBy bytes_cmp names → slice_get names (length names - 1) ≡ Some last → bytes_cmp last name ≡ Less → AreBelow names name
unfolding IsStrictlySortedBy
below_past [] last name sorted there less = absurd (cc)
below_past (n ∷ []) last name sorted there less = let same : n ≡ last = cc in (subst (λ k. bytes_cmp k name ≡ Less) (sym same) less, tt)
below_past (n ∷ m ∷ names) last name sorted there less =
    let at : length (n ∷ m ∷ names) - 1 ≡ suc (length (m ∷ names) - 1) = omega arith in
    let rest = below_past (m ∷ names) last name sorted.1 (sym (ap (slice_get (n ∷ m ∷ names)) at) ∙ there) less in
    (bytes_total.trans n m name sorted.0.0 rest.0, rest)

-- a name comes not last where the last isn't below it
pub not_last : {X : Type 0} (names : List (List ℕ)) (last name : List ℕ) → slice_get names (length names - 1) ≡ Some last → (bytes_cmp last name ≡ Less → ⊥) → AreBelow names name → X
not_last names last name there other below = absurd (other (all_at (λ k. bytes_cmp k name ≡ Less) names (length names - 1) last below there))

-- names in order stay so with one that comes after them
pub sorted_more : (names new : List (List ℕ)) (name : List ℕ) → IsStrictlySortedBy bytes_cmp names → AreBelow names name → new ≡ names ++ name ∷ [] → IsStrictlySortedBy bytes_cmp new
sorted_more names new name sorted below pushed =
    subst (IsStrictlySortedBy bytes_cmp) (sym pushed) (sorted_insert names name [] (subst (IsStrictlySortedBy bytes_cmp) (sym (append-nil names)) sorted) below tt)

-- sorted names are in order, each once, when those that are repeated are let go
pub sorted_once : (names new : List (List ℕ)) → IsSorted bytes_cmp names → IsFiltered (DiffersFromLast (pointwise nat_eq)) [] names new → IsStrictlySortedBy bytes_cmp new
sorted_once names new sorted once =
    subst (IsStrictlySortedBy bytes_cmp) (sym (dedup_is (pointwise nat_eq) names new once)) (IsStrictlySortedBy-dedup bytes_total texts_ties names sorted)

-- ---- names that begin with another

begins_there : (front rest : List ℕ) → starts_with nat_eq (front ++ rest) front ≡ true
begins_there front rest = (starts_is Decides-eqb (front ++ rest) front (starts_with nat_eq (front ++ rest) front) refl).1 rest refl

between_step : (x y : ℕ) (front a rest : List ℕ) (o : Ordering) → nat_cmp x y ≡ o → (bytes_cmp front a ≡ Less → bytes_cmp a (front ++ rest) ≡ Less → (more : List ℕ) × (a ≡ front ++ more)) →
    ordering_then o (bytes_cmp front a) ≡ Less → ordering_then (nat_cmp y x) (bytes_cmp a (front ++ rest)) ≡ Less → (more : List ℕ) × (y ∷ a ≡ x ∷ front ++ more)
between_step x y front a rest Less is further low high =
    let greater : nat_cmp y x ≡ Greater = nat_cmp_total.antisymm y x ∙ ap ordering_reverse is in
    absurd (let wrong : Greater ≡ Less = sym (ap (λ o. ordering_then o (bytes_cmp a (front ++ rest))) greater) ∙ high in cc)
between_step x y front a rest Greater is further low high = absurd (cc)
between_step x y front a rest Equal is further low high =
    let same : x ≡ y = nat_cmp-IsAntisymmetric x y is in
    let tied : nat_cmp y x ≡ Equal = nat_cmp_total.antisymm y x ∙ ap ordering_reverse is in
    let more = further low (sym (ap (λ o. ordering_then o (bytes_cmp a (front ++ rest))) tied) ∙ high) in
    (more.0, (λ i. sym same i ∷ more.1 i))

-- what stands between a name and one that begins with it begins with it too
between : (front a rest : List ℕ) → bytes_cmp front a ≡ Less → bytes_cmp a (front ++ rest) ≡ Less → (more : List ℕ) × (a ≡ front ++ more)
between [] a rest low high = (a, refl)
between (x ∷ front) [] rest low high = absurd (cc)
between (x ∷ front) (y ∷ a) rest low high = between_step x y front a rest (nat_cmp x y) refl (between front a rest) low high

longer_above : (name end : List ℕ) → 0 < length end → bytes_cmp name (name ++ end) ≡ Less
longer_above [] [] more = absurd (omega arith)
longer_above [] (x ∷ end) more = refl
longer_above (x ∷ name) end more = ap (λ o. ordering_then o (bytes_cmp name (name ++ end))) (tied_itself nat_cmp_total x) ∙ longer_above name end more

-- where the next name doesn't begin with a name, none after it does
none_next : (names : List (List ℕ)) (name end : List ℕ) → IsStrictlySortedBy bytes_cmp names → AreAbove names name → IfSome (slice_get names 0) (λ next. starts_with nat_eq next name ≡ false) → has names (name ++ end) ≡ false
unfolding IsStrictlySortedBy
none_next [] name end sorted above next = refl
none_next (n ∷ names) name end sorted above next = by (bytes_cmp (name ++ end) n) refl
  where
    no_more : (more : List ℕ) → n ≡ name ++ more → ⊥
    no_more more same = both_ways _ next (ap (λ k. starts_with nat_eq k name) same ∙ begins_there name more)

    by : (o : Ordering) → bytes_cmp (name ++ end) n ≡ o → has (n ∷ names) (name ++ end) ≡ false
    by Less is = above_lack (name ++ end) (n ∷ names) (is, all_below (name ++ end) n names is sorted.0)
    by Equal is = absurd (no_more end (sym (bytes_exact (name ++ end) n is)))
    by Greater is = absurd (let more = between name n end above.0 (bytes_total.antisymm n (name ++ end) ∙ ap ordering_reverse is) in no_more more.0 more.1)

lacks_longer : (names : List (List ℕ)) (at : ℕ) (name end : List ℕ) → IsStrictlySortedBy bytes_cmp names → slice_get names at ≡ Some name →
    IfSome (slice_get names (suc at)) (λ next. starts_with nat_eq next name ≡ false) → 0 < length end → has names (name ++ end) ≡ false
unfolding IsStrictlySortedBy
lacks_longer [] at name end sorted there next more = refl
lacks_longer (n ∷ names) zero name end sorted there next more =
    let same : n ≡ name = cc in
    let less = subst (λ k. bytes_cmp k (name ++ end) ≡ Less) (sym same) (longer_above name end more) in
    ap (λ b. b || has names (name ++ end)) (name_turned (name ++ end) n ∙ less_is_other n (name ++ end) less)
    ∙ none_next names name end sorted.1 (subst (AreAbove names) same sorted.0) next
lacks_longer (n ∷ names) (suc at) name end sorted there next more =
    let less = bytes_total.trans n name (name ++ end) (all_at (λ k. bytes_cmp n k ≡ Less) names at name sorted.0 there) (longer_above name end more) in
    ap (λ b. b || has names (name ++ end)) (name_turned (name ++ end) n ∙ less_is_other n (name ++ end) less)
    ∙ lacks_longer names at name end sorted.1 there next more

-- where the name that is lent after one doesn't begin with it, none does
pub none_longer : (names : List (List ℕ)) (at : ℕ) (name : List ℕ) (lent : Option (Bor (List ℕ))) → IsStrictlySortedBy bytes_cmp names → slice_get names at ≡ Some name → IsItemAt names (at + 1) lent →
    IfSome lent (λ next. starts_with nat_eq next.now name ≡ false) → (end : List ℕ) → 0 < length end → has names (name ++ end) ≡ false
none_longer names at name lent sorted there is next = λ end more. lacks_longer names at name end sorted there (by lent is next) more
  where
    after : suc at ≡ at + 1
    after = omega arith

    by : (lent : Option (Bor (List ℕ))) → IsItemAt names (at + 1) lent → IfSome lent (λ next. starts_with nat_eq next.now name ≡ false) → IfSome (slice_get names (suc at)) (λ next. starts_with nat_eq next name ≡ false)
    by None is next = subst (λ o. IfSome o (λ q. starts_with nat_eq q name ≡ false)) (sym (ap (slice_get names) after ∙ slice_get_past names (at + 1) is.3)) tt
    by (Some lent) is next =
        subst (λ o. IfSome o (λ q. starts_with nat_eq q name ≡ false)) (sym (ap (slice_get names) after ∙ slice_get_read names (length names) (at + 1) lent.now refl is.3.0 is.1)) next

-- a name that is no other
pub other_name : (a b : List ℕ) → (a ≡ b → ⊥) → is_name a b ≡ false
other_name a b differs = elim (same_or_other a b) [
  | inl same ↦ absurd (differs same)
  | inr other ↦ other
]

-- a name whose first is none of the seven isn't reserved
pub unreserved : (first name : List ℕ) → first ≡ first_name name →
    (first ≡ codes "static" → ⊥) → (first ≡ codes ".clean" → ⊥) → (first ≡ codes "passwd" → ⊥) → (first ≡ codes "group" → ⊥) → (first ≡ codes "shadow" → ⊥) →
    (first ≡ codes "subuid" → ⊥) → (first ≡ codes "subgid" → ⊥) → false ≡ is_reserved name
unfolding reserved_names
unreserved first name same static clean passwd group shadow subuid subgid =
    sym (
    ap (has reserved_names) (sym same)
    ∙ (λ i.
    other_name first (codes "static") static i || (other_name first (codes ".clean") clean i || (other_name first (codes "passwd") passwd i
    || (other_name first (codes "group") group i || (other_name first (codes "shadow") shadow i || (other_name first (codes "subuid") subuid i
    || (other_name first (codes "subgid") subgid i || false))))))))
