-- The units by their places.
use Rattle.std.proofs.Common.{◌≡◌, ◌≢◌, ◌⊎◌, ◌<◌, ◌++◌, ◌||◌, cond, ℕ, zero, suc, Bool, true, false, List, [], ◌∷◌, length, take, drop, map, filter, None, Some, Ok, Err, refl, sym, ap, subst, ◌∙◌, inl, inr, ⊎_elim, replicate, slice_index_or, arith}
use Rattle.std.specs.List.{AllByRecursion, list_any, slice_get}
use Rattle.std.specs.List.Sorted.{IsBinarySearchResult, IsSearchInRange, IsStrictlySortedBy}
use Rattle.std.specs.declared.cmp.Ordering.TheVariants.{Less}
use Rattle.std.proofs.lemmas.List.{map-append, take-append-drop}
use Rattle.std.proofs.lemmas.List.Folds.{list_any-append}
use Rattle.std.proofs.lemmas.Map.Keys.{Less-from_sorted}
use Rattle.std.proofs.lemmas.Option.{get_or_from_slice_get, slice_get-get_or, slice_get_within}
use Rattle.host_trait.specs.Bytes.{bytes_cmp}
use Rattle.host_trait.proofs.NameOrder.{above_lack, less_is_other, name_exact, name_itself}
use Rattle.host_trait.proofs.Orders.{found_name, missing_name}
use Rattle.switch_names.proofs.Names.{name_turned}
use Rattle.start_order.specs.declared.edge.Edge.{Edge}
use Rattle.start_order.specs.Graph.{ArePlaces, AreRows, IsPushed, afters_of, befores_of, unit_at}
use Rattle.start_order.proofs.OrderLemmas.{never_both}
use Rattle.switch_names.specs.Names.{Name, has, is_name}

-- ---- places

map_itself : (xs : List Name) → map (λ x. x) xs ≡ xs
map_itself [] = refl
map_itself (x ∷ xs) = ap (λ rest. x ∷ rest) (map_itself xs)

pub found_place : (names : List Name) (name : Name) (at : ℕ) → IsSearchInRange (Ok at) (length names) → IsBinarySearchResult (λ other. bytes_cmp other name) names (Ok at) → slice_get names at ≡ Some name
found_place names name at within h = ap (λ all. slice_get all at) (sym (map_itself names)) ∙ found_name (λ x. x) names name (Ok at) within h

none_below : (names : List Name) (name : Name) → AllByRecursion (λ other. bytes_cmp other name ≡ Less) names → has names name ≡ false
none_below [] name below = refl
none_below (one ∷ names) name below = ap (λ b. b || has names name) (name_turned name one ∙ less_is_other one name below.0) ∙ none_below names name below.1

-- a search for a name that is there finds it
pub never_missing : (names : List Name) (name : Name) (at : ℕ) → IsStrictlySortedBy bytes_cmp names → has names name ≡ true → IsSearchInRange (Err at) (length names) →
    IsBinarySearchResult (λ other. bytes_cmp other name) names (Err at) → ⊥
never_missing names name at sorted there within h =
    let parts = missing_name (λ x. x) names name (Err at) (subst (IsStrictlySortedBy bytes_cmp) (sym (map_itself names)) sorted) within h in
    never_both (has names name) there (ap (λ all. has all name) (sym (take-append-drop at names)) ∙ list_any-append (is_name name) (take at names) (drop at names)
    ∙ ap (λ b. b || has (drop at names) name) (none_below (take at names) name parts.1) ∙ above_lack name (drop at names) parts.2)

not_twice : (names : List Name) (j k : ℕ) (name : Name) → IsStrictlySortedBy bytes_cmp names → slice_get names j ≡ Some name → slice_get names k ≡ Some name → j < k → ⊥
not_twice names j k name sorted first second less =
    let under = Less-from_sorted bytes_cmp names j k name sorted less (slice_get_within names k name second) in
    let below : bytes_cmp name name ≡ Less =
    subst (λ n. bytes_cmp n name ≡ Less) (get_or_from_slice_get names j name name first) (subst (λ n. bytes_cmp (slice_index_or names j name) n ≡ Less) (get_or_from_slice_get names k name name second) under) in
    never_both (is_name name name) (name_itself name) (less_is_other name name below)

pub same_or_other : (j k : ℕ) → (j ≡ k) ⊎ (j ≢ k)
same_or_other zero zero = inl refl
same_or_other zero (suc k) = inr (λ same. omega (arith, same))
same_or_other (suc j) zero = inr (λ same. omega (arith, same))
same_or_other (suc j) (suc k) = ⊎_elim (λ same. inl (ap suc same)) (λ other. inr (λ same. other (omega (arith, same)))) (same_or_other j k)

-- a name stands at one place
pub one_place : (names : List Name) (j k : ℕ) (name : Name) → IsStrictlySortedBy bytes_cmp names → slice_get names j ≡ Some name → slice_get names k ≡ Some name → j ≡ k
one_place names j k name sorted first second =
    ⊎_elim (λ same. same) (λ other. absurd (other (by_order (not_twice names j k name sorted first second) (not_twice names k j name sorted second first)))) (same_or_other j k)
  where
    by_order : (j < k → ⊥) → (k < j → ⊥) → j ≡ k
    by_order one two = ⊎_elim (λ same. same) (λ other. absurd (not_apart other one two)) (same_or_other j k)
      where
        not_apart : j ≢ k → (j < k → ⊥) → (k < j → ⊥) → ⊥
        not_apart other one two = apart j k other one two
          where
            apart : (j k : ℕ) → j ≢ k → (j < k → ⊥) → (k < j → ⊥) → ⊥
            apart zero zero other one two = other refl
            apart zero (suc k) other one two = one (omega arith)
            apart (suc j) zero other one two = two (omega arith)
            apart (suc j) (suc k) other one two = apart j k (λ same. other (ap suc same)) (λ less. one (omega (arith, less))) (λ less. two (omega (arith, less)))

-- ---- rows

-- the place that stands at a place of a row is that of the name that stands there
pub place_is : (units : List Name) (row : List ℕ) (names : List Name) (k place : ℕ) → ArePlaces units row names → slice_get row k ≡ Some place → (name : Name) × (slice_get names k ≡ Some name) × (slice_get units place ≡ Some name)
place_is units [] names k place are at = absurd (let no : None ≡ Some place = at in cc)
place_is units (p ∷ row) [] k place are at = absurd (cc)
place_is units (p ∷ row) (name ∷ names) zero place are at =
    let one : slice_get units p ≡ Some name = cc in
    let same : p ≡ place = cc in
    (name, refl, subst (λ q. slice_get units q ≡ Some name) same one)
place_is units (p ∷ row) (name ∷ names) (suc k) place are at =
    let rest : ArePlaces units row names = cc in
    place_is units row names k place rest at

pub place_within : (units : List Name) (row : List ℕ) (names : List Name) (k place : ℕ) → ArePlaces units row names → slice_get row k ≡ Some place → place < length units
place_within units row names k place are at = let is = place_is units row names k place are at in slice_get_within units place is.0 is.2

pub places_within : (units : List Name) (row : List ℕ) (names : List Name) (k d : ℕ) → ArePlaces units row names → k < length row → slice_index_or row k d < length units
places_within units row names k d are less = place_within units row names k (slice_index_or row k d) are (slice_get-get_or row k d less)

pub unit_there : (units : List Name) (at : ℕ) → at < length units → slice_get units at ≡ Some (unit_at units at)
unit_there units at within = slice_get-get_or units at [] within

pub row_places : (units : List Name) (rows : List (List ℕ)) (names_of : Name → List Name) (at : ℕ) (row : List ℕ) → AreRows units rows names_of → at < length units → slice_get rows at ≡ Some row →
    ArePlaces units row (names_of (unit_at units at))
row_places units rows names_of at row are within here = are.each at (unit_at units at) row (unit_there units at within) here

more_places : (units : List Name) (row : List ℕ) (names : List Name) (place : ℕ) (name : Name) → ArePlaces units row names → slice_get units place ≡ Some name → ArePlaces units (row ++ place ∷ []) (names ++ name ∷ [])
more_places units row names place name are at =
    map-append (slice_get units) row (place ∷ []) ∙ ap (λ front. front ++ slice_get units place ∷ []) are ∙ ap (λ o. map (λ n. Some n) names ++ o ∷ []) at ∙ sym (map-append (λ n. Some n) names (name ∷ []))

-- ---- how the rows are made

pub no_row : {X : Type 0} (count k : ℕ) (y x : X) → slice_get (replicate count y) k ≡ Some x → y ≡ x
no_row zero k y x at = absurd (let no : None ≡ Some x = at in cc)
no_row (suc count) zero y x at = cc
no_row (suc count) (suc k) y x at = no_row count k y x at

pub empty : (units : List Name) (rows : List (List ℕ)) (names_of : Name → List Name) → length rows ≡ length units → rows ≡ replicate (length units) [] → ((unit : Name) → names_of unit ≡ []) → AreRows units rows names_of
empty units rows names_of many are none = record {
  many = many;
  each = λ k unit row at there.
      let is : [] ≡ row = no_row (length units) k [] row (sym (ap (λ all. slice_get all k) are) ∙ there) in
      subst (λ r. ArePlaces units r (names_of unit)) is (subst (ArePlaces units []) (sym (none unit)) refl);
}

other_name : (units : List Name) (k at : ℕ) (unit name : Name) → slice_get units k ≡ Some unit → slice_get units at ≡ Some name → IsStrictlySortedBy bytes_cmp units → k ≢ at → (b : Bool) → is_name unit name ≡ b → b ≡ false
other_name units k at unit name first second sorted apart false is = refl
other_name units k at unit name first second sorted apart true is =
    absurd (apart (one_place units k at name sorted (first ∙ ap (λ n. Some n) (name_exact unit name is)) second))

-- a row has one place more, where its unit has one name more
pub pushed_rows : (units : List Name) (rows more : List (List ℕ)) (at place : ℕ) (name other : Name) (names_of further : Name → List Name) → IsStrictlySortedBy bytes_cmp units →
    AreRows units rows names_of → slice_get units at ≡ Some name → slice_get units place ≡ Some other → IsPushed rows at place more →
    ((unit : Name) → further unit ≡ cond (is_name unit name) (names_of unit ++ other ∷ []) (names_of unit)) → AreRows units more further
pushed_rows units rows more at place name other names_of further sorted are here there pushed is = record {
  many = pushed.many ∙ are.many;
  each = λ k unit row first second. ⊎_elim (λ same. at_it k unit row first second same) (λ apart. elsewhere k unit row first second apart) (same_or_other k at);
}
  where
    at_it : (k : ℕ) (unit : Name) (row : List ℕ) → slice_get units k ≡ Some unit → slice_get more k ≡ Some row → k ≡ at → ArePlaces units row (further unit)
    at_it k unit row first second same =
        let same_unit : unit ≡ name = let both : Some unit ≡ Some name = sym first ∙ ap (slice_get units) same ∙ here in cc in
        let within = slice_get_within units at name here in
        let old = slice_index_or rows at [] in
        let was : slice_get rows at ≡ Some old = slice_get-get_or rows at [] (omega (arith, within, are.many)) in
        let now : old ++ place ∷ [] ≡ row = let both : Some (old ++ place ∷ []) ≡ Some row = sym (pushed.here old was) ∙ ap (slice_get more) (sym same) ∙ second in cc in
        let names : further unit ≡ names_of unit ++ other ∷ [] = is unit ∙ ap (λ b. cond b (names_of unit ++ other ∷ []) (names_of unit)) (ap (is_name unit) (sym same_unit) ∙ name_itself unit) in
        subst (λ r. ArePlaces units r (further unit)) now (subst (ArePlaces units (old ++ place ∷ [])) (sym names)
        (more_places units old (names_of unit) place other (are.each k unit old first (ap (slice_get rows) same ∙ was)) there))

    elsewhere : (k : ℕ) (unit : Name) (row : List ℕ) → slice_get units k ≡ Some unit → slice_get more k ≡ Some row → k ≢ at → ArePlaces units row (further unit)
    elsewhere k unit row first second apart =
        let not_it : is_name unit name ≡ false = other_name units k at unit name first here sorted apart (is_name unit name) refl in
        let names : further unit ≡ names_of unit = is unit ∙ ap (λ b. cond b (names_of unit ++ other ∷ []) (names_of unit)) not_it in
        subst (ArePlaces units row) (sym names) (are.each k unit row first (sym (pushed.others k apart) ∙ second))

-- what is before a unit by one edge more
pub befores_behind : (edges : List Edge) (edge : Edge) (unit : Name) → befores_of (edges ++ edge ∷ []) unit ≡ cond (is_name unit edge.after) (befores_of edges unit ++ edge.before ∷ []) (befores_of edges unit)
befores_behind [] edge unit = one (is_name unit edge.after)
  where
    one : (b : Bool) → map (λ (e : Edge). e.before) (cond b (edge ∷ []) []) ≡ cond b (edge.before ∷ []) []
    one true = refl
    one false = refl
befores_behind (e ∷ edges) edge unit = step (is_name unit e.after) (is_name unit edge.after) (befores_behind edges edge unit)
  where
    step : (a b : Bool) → befores_of (edges ++ edge ∷ []) unit ≡ cond b (befores_of edges unit ++ edge.before ∷ []) (befores_of edges unit) →
        map (λ (k : Edge). k.before) (cond a (e ∷ filter (λ (k : Edge). is_name unit k.after) (edges ++ edge ∷ [])) (filter (λ (k : Edge). is_name unit k.after) (edges ++ edge ∷ [])))
        ≡ cond b (map (λ (k : Edge). k.before) (cond a (e ∷ filter (λ (k : Edge). is_name unit k.after) edges) (filter (λ (k : Edge). is_name unit k.after) edges)) ++ edge.before ∷ [])
        (map (λ (k : Edge). k.before) (cond a (e ∷ filter (λ (k : Edge). is_name unit k.after) edges) (filter (λ (k : Edge). is_name unit k.after) edges)))
    step true true rest = ap (λ names. e.before ∷ names) rest
    step true false rest = ap (λ names. e.before ∷ names) rest
    step false true rest = rest
    step false false rest = rest

pub afters_behind : (edges : List Edge) (edge : Edge) (unit : Name) → afters_of (edges ++ edge ∷ []) unit ≡ cond (is_name unit edge.before) (afters_of edges unit ++ edge.after ∷ []) (afters_of edges unit)
afters_behind [] edge unit = one (is_name unit edge.before)
  where
    one : (b : Bool) → map (λ (e : Edge). e.after) (cond b (edge ∷ []) []) ≡ cond b (edge.after ∷ []) []
    one true = refl
    one false = refl
afters_behind (e ∷ edges) edge unit = step (is_name unit e.before) (is_name unit edge.before) (afters_behind edges edge unit)
  where
    step : (a b : Bool) → afters_of (edges ++ edge ∷ []) unit ≡ cond b (afters_of edges unit ++ edge.after ∷ []) (afters_of edges unit) →
        map (λ (k : Edge). k.after) (cond a (e ∷ filter (λ (k : Edge). is_name unit k.before) (edges ++ edge ∷ [])) (filter (λ (k : Edge). is_name unit k.before) (edges ++ edge ∷ [])))
        ≡ cond b (map (λ (k : Edge). k.after) (cond a (e ∷ filter (λ (k : Edge). is_name unit k.before) edges) (filter (λ (k : Edge). is_name unit k.before) edges)) ++ edge.after ∷ [])
        (map (λ (k : Edge). k.after) (cond a (e ∷ filter (λ (k : Edge). is_name unit k.before) edges) (filter (λ (k : Edge). is_name unit k.before) edges)))
    step true true rest = ap (λ names. e.after ∷ names) rest
    step true false rest = ap (λ names. e.after ∷ names) rest
    step false true rest = rest
    step false false rest = rest

-- what is so of a name is so of one at a place of its row
pub any_places : (units : List Name) (test : Name → Bool) (row : List ℕ) (names : List Name) → ArePlaces units row names → list_any (λ place. test (unit_at units place)) row ≡ list_any test names
any_places units test [] [] are = refl
any_places units test [] (name ∷ names) are = absurd (cc)
any_places units test (place ∷ row) [] are = absurd (cc)
any_places units test (place ∷ row) (name ∷ names) are =
    let here : slice_get units place ≡ Some name = cc in
    let rest : ArePlaces units row names = cc in
    ap (λ n. test n || list_any (λ p. test (unit_at units p)) row) (get_or_from_slice_get units place name [] here) ∙ ap (λ b. test name || b) (any_places units test row names rest)
