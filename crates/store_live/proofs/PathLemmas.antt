-- Store paths, and what lies in them.
use Rattle.std.proofs.Common.{◌≡◌, ◌≢◌, ◌⊎◌, ◌↔◌, ℕ, suc, ◌+◌, ◌≤◌, ◌&&◌, ◌||◌, not, Bool, true, false, cond, codes, List, [], ◌∷◌, ◌++◌, length, take, drop, Option, None, Some, IfSome, IsSome, is_none, refl, sym, ap, subst, ◌∙◌, inl, inr, arith, append-nil}
use Rattle.std.proofs.Math.Bool.{and-false}
use Rattle.std.proofs.lemmas.Bool.{and_from, and_parts, both_ways, cases_Bool, cases_lt, not-true, not_from_false, or_cases, or_left, or_right}
use Rattle.std.specs.Cmp.Lexicographic.{nat_list_eq_equiv, same_text}
use Rattle.std.specs.FinMap.{get, keys}
use Rattle.std.specs.List.{AllByRecursion, before_first, list_any, position_or_len}
use Rattle.host_trait.specs.World.{AreTops, Leaves, is_listed, is_path, listed, stage}
use Rattle.host_trait.proofs.FirstNames.{cut_at_first, first_of_names}
use Rattle.host_trait.proofs.Fronts.{begins, begins_there, begins_with}
use Rattle.host_trait.proofs.KeyTests.{leaf_passes, one_passes}
use Rattle.host_trait.proofs.NameOrder.{has_filter, name_exact, name_itself}
use Rattle.switch_names.specs.Names.{Name, has, is_name}
use Rattle.switch_names.specs.Path.{is_below, is_slash, name_below, slash}
use Rattle.switch_names.specs.SystemName.{store_folder, store_name, system_fault, system_path}
use Rattle.switch_names.proofs.Below.{below_front, rest_below}
use Rattle.switch_names.proofs.Joined.{drop_joined}
use Rattle.store_live.specs.Grown.{AreAll, AtSome, IsListedAt, IsPathOf, is_dead_by}
use Rattle.store_live.specs.StorePaths.{IsPlace, IsStored, is_at, is_store_path}

-- ---- first names

all_taken : (text : List ℕ) → take (length text) text ≡ text
all_taken [] = refl
all_taken (b ∷ text) = ap (λ t. b ∷ t) (all_taken text)

pub first_whole : (text : List ℕ) → position_or_len is_slash text ≡ length text → text ≡ before_first is_slash text
first_whole text none = sym (ap (λ n. take n text) none ∙ all_taken text)

-- a text is its first name, or that and a slash and more
first_cut : (text : List ℕ) → (text ≡ before_first is_slash text) ⊎ ((more : List ℕ) × (text ≡ before_first is_slash text ++ slash ∷ more))
first_cut text = elim (cases_lt (position_or_len is_slash text) (length text)) [
  | inl less ↦ inr (_, cut_at_first text less)
  | inr over ↦ inl (first_whole text (omega (arith, over, at_most text)))
]
  where
    at_most : (text : List ℕ) → position_or_len is_slash text ≤ length text
    at_most [] = omega arith
    at_most (b ∷ text) = by (is_slash b) (position_or_len is_slash text) (at_most text)
      where
        by : (c : Bool) (p : ℕ) → p ≤ length text → cond (not c) (1 + p) 0 ≤ suc (length text)
        by true p less = omega arith
        by false p less = omega (arith, less)

first_free : (text : List ℕ) → list_any is_slash (before_first is_slash text) ≡ false
first_free [] = refl
first_free (b ∷ text) = by (is_slash b) refl (position_or_len is_slash text) (first_free text)
  where
    by : (c : Bool) → is_slash b ≡ c → (p : ℕ) → list_any is_slash (take p text) ≡ false → list_any is_slash (take (cond (not c) (1 + p) 0) (b ∷ text)) ≡ false
    by true is p free = refl
    by false is p free =
        let next : 1 + p ≡ suc p = omega arith in
        ap (λ n. list_any is_slash (take n (b ∷ text))) next ∙ ap (λ c. c || list_any is_slash (take p text)) is ∙ free

-- a name without a slash is the first one of what begins with it and ends there, or goes on with a slash
first_of : (name rest : List ℕ) → list_any is_slash name ≡ false → (rest ≡ []) ⊎ ((more : List ℕ) × (rest ≡ slash ∷ more)) → before_first is_slash (name ++ rest) ≡ name
first_of [] rest free ends = elim ends [
  | inl none ↦ ap (before_first is_slash) none
  | inr on ↦ ap (before_first is_slash) on.1
]
first_of (b ∷ name) rest free ends =
    let parts = by (is_slash b) (list_any is_slash name) free in
    let next : 1 + position_or_len is_slash (name ++ rest) ≡ suc (position_or_len is_slash (name ++ rest)) = omega arith in
    ap (λ c. take (cond (not c) (1 + position_or_len is_slash (name ++ rest)) 0) (b ∷ (name ++ rest))) parts.0 ∙ ap (λ n. take n (b ∷ (name ++ rest))) next
    ∙ ap (λ t. b ∷ t) (first_of name rest parts.1 ends)
  where
    by : (c d : Bool) → (c || d) ≡ false → (c ≡ false) × (d ≡ false)
    by true d is = absurd cc
    by false d is = (refl, is)

-- ---- paths in the store

abbrev pub store : List ℕ
store = codes "nix/store"

-- a store path is the store, a slash and a name
store_path_cut : (x : Name) → is_store_path x ≡ true → x ≡ store ++ slash ∷ store_name x
store_path_cut x is = let with = begins_with store_folder x (and_parts (begins store_folder x) _ is).0 in
    with.1 ∙ ap (λ r. store ++ slash ∷ r) (sym (ap store_name with.1))

store_path_free : (x : Name) → is_store_path x ≡ true → list_any is_slash (store_name x) ≡ false
store_path_free x is = not-true _ (and_parts (begins store_folder x) _ is).1

-- a path with what follows in a place that lies at it
inside_cut : (x q : Name) → is_at x q ≡ true → (rest : List ℕ) × (q ≡ x ++ rest) × ((rest ≡ []) ⊎ ((more : List ℕ) × (rest ≡ slash ∷ more)))
inside_cut x q is = elim (or_cases (is_path q x) (is_below q x) is) [
  | inl same ↦ ([], same_text q x (sym same) ∙ sym (append-nil x), inl refl)
  | inr below ↦ let rest = rest_below q x below in (slash ∷ rest.0, rest.1, inr (rest.0, refl))
]

-- the store path in which a place lies is told by the place
path_is : (x q : Name) → is_store_path x ≡ true → is_at x q ≡ true → store_name x ≡ before_first is_slash (store_name q)
path_is x q is at =
    let with = inside_cut x q at in
    let whole : q ≡ store ++ slash ∷ (store_name x ++ with.0) = with.1 ∙ ap (λ y. y ++ with.0) (store_path_cut x is) in
    sym (ap (λ y. before_first is_slash (store_name y)) whole ∙ first_of (store_name x) with.0 (store_path_free x is) with.2)

pub one_path : (x y q : Name) → is_store_path x ≡ true → is_store_path y ≡ true → is_at x q ≡ true → is_at y q ≡ true → x ≡ y
one_path x y q is also at there =
    store_path_cut x is ∙ ap (λ n. store ++ slash ∷ n) (path_is x q is at ∙ sym (path_is y q also there)) ∙ sym (store_path_cut y also)

-- what lies in a store path begins with the store's folder
pub inside_begins : (x q : Name) → is_store_path x ≡ true → is_at x q ≡ true → begins store_folder q ≡ true
inside_begins x q is at =
    let with = inside_cut x q at in
    let whole : q ≡ store ++ slash ∷ (store_name x ++ with.0) = with.1 ∙ ap (λ y. y ++ with.0) (store_path_cut x is) in
    subst (λ y. begins store_folder y ≡ true) (sym whole) (begins_there store_folder (store_name x ++ with.0))

-- what lies in a store path lies below the store
pub in_store : (x q : Name) → is_store_path x ≡ true → is_at x q ≡ true → is_below q store ≡ true
in_store x q is at =
    let with = inside_cut x q at in
    let whole : q ≡ store ++ slash ∷ (store_name x ++ with.0) = with.1 ∙ ap (λ y. y ++ with.0) (store_path_cut x is) in
    ap (λ y. is_below y store) whole ∙ below_front store (store_name x ++ with.0)

below_parts : (b : Bool) (rest more : List ℕ) → cond b (Some more) None ≡ Some rest → (b ≡ true) × (more ≡ rest)
below_parts true rest more is = (refl, cc)
below_parts false rest more is = absurd cc

-- the path of a place below the store
pub path_there : (place rest first path : Name) → name_below store place ≡ Some rest → first ≡ before_first is_slash rest → path ≡ store ++ slash ∷ first → IsPathOf place path
path_there place rest first path below is_first joined =
    let parts = below_parts (is_below place store) rest (drop (length store + 1) place) below in
    let cut = rest_below place store parts.0 in
    let same : cut.0 ≡ rest = sym (drop_joined store cut.0) ∙ ap (drop (length store + 1)) (sym cut.1) ∙ parts.1 in
    let name = before_first is_slash rest in
    let x : List ℕ = store ++ slash ∷ name in
    let there : place ≡ store ++ slash ∷ rest = cut.1 ∙ ap (λ r. store ++ slash ∷ r) same in
    subst (IsPathOf place) (sym (joined ∙ ap (λ n. store ++ slash ∷ n) is_first))
    record {
      path = and_from (begins store_folder x) (not (list_any is_slash name)) (begins_there store_folder name) (not_from_false (list_any is_slash name) (first_free rest));
      inside = elim (first_cut rest) [
        | inl whole ↦ or_left _ (is_below place x) (subst (λ y. is_path place y ≡ true) (there ∙ ap (λ r. store ++ slash ∷ r) whole) (nat_list_eq_equiv.refl place))
        | inr more ↦ or_right (is_path place x) _ (ap (λ y. is_below y x) (there ∙ ap (λ r. store ++ slash ∷ r) more.1) ∙ below_front x more.0)
      ];
    }

pub some_path : (place : Name) (r : Option Name) (path : Name) → r ≡ Some path → IfSome r (IsPathOf place) → IsPathOf place path
some_path place None path is of = absurd cc
some_path place (Some x) path is of = subst (IsPathOf place) (let same : x ≡ path = cc in same) of

-- where it isn't below the store, it lies in no store path
pub no_path : (place : Name) → name_below store place ≡ None → (x : Name) → is_store_path x ≡ true → is_at x place ≡ false
no_path place none x is = elim (cases_Bool (is_at x place)) [
  | inl at ↦ absurd (let no : Some _ ≡ None = sym (ap (λ b. cond b (Some (drop (length store + 1) place)) None) (in_store x place is at)) ∙ none in cc)
  | inr other ↦ other
]

-- ---- the paths of all leaves

pub stands_in : (leaves : Leaves) (q : Name) → IsSome (get leaves q) → has (keys leaves) q ≡ true
stands_in leaves q stands = one_passes (is_name q) leaves q (name_itself q) stands

pub in_stands : (leaves : Leaves) (q : Name) → has (keys leaves) q ≡ true → IsSome (get leaves q)
in_stands leaves q there = let found = leaf_passes (is_name q) leaves there in subst (λ p. IsSome (get leaves p)) (sym (name_exact q found.0 found.1)) found.2

not_stage : (q : Name) → q ≢ stage → is_path q stage ≡ false
not_stage q other = elim (cases_Bool (is_path q stage)) [ inl same ↦ absurd (other (same_text q stage (sym same))) | inr apart ↦ apart ]

-- what is listed below a path
pub listed_is : (under : Name) (leaves : Leaves) (q : Name) → has (listed under leaves) q ≡ true → (is_at under q ≡ true) × IsPlace leaves q
listed_is under leaves q is =
    let parts = and_parts (is_listed under q) (has (keys leaves) q) (sym (has_filter (is_listed under) (keys leaves) q) ∙ is) in
    let test = and_parts (is_path q under || is_below q under) (not (is_path q stage)) parts.0 in
    (test.0, record { stands = in_stands leaves q parts.1; other = λ same. both_ways _ (not-true _ test.1) (subst (λ s. is_path q s ≡ true) same (nat_list_eq_equiv.refl q)) })

pub is_in_listed : (under : Name) (leaves : Leaves) (q : Name) → is_at under q ≡ true → IsPlace leaves q → has (listed under leaves) q ≡ true
is_in_listed under leaves q at place =
    has_filter (is_listed under) (keys leaves) q
    ∙ and_from (is_listed under q) (has (keys leaves) q) (and_from _ (not (is_path q stage)) at (not_from_false (is_path q stage) (not_stage q place.other))) (stands_in leaves q place.stands)

-- all that is listed below the first names are all places
pub places_are : (leaves : Leaves) (tops : List Name) → AreTops leaves tops → (q : Name) → AtSome tops (IsListedAt leaves) q ↔ IsPlace leaves q
places_are leaves tops are q = (λ at. (listed_is at.place leaves q at.holds).1, by)
  where
    by : IsPlace leaves q → AtSome tops (IsListedAt leaves) q
    by place =
        let top = before_first is_slash q in
        record {
          place = top;
          listed = (are.exact top).1 (q, place.stands, place.other, first_of_names q);
          holds = is_in_listed top leaves q (elim (first_cut q) [
            | inl whole ↦ or_left (is_path q top) _ (subst (λ t. is_path q t ≡ true) whole (nat_list_eq_equiv.refl q))
            | inr more ↦ or_right (is_path q top) _ (ap (λ t. is_below t top) more.1 ∙ below_front top more.0)
          ]) place;
        }

-- the stage lies in none
pub no_stage : (x q : Name) → is_store_path x ≡ true → is_at x q ≡ true → q ≢ stage
unfolding stage
no_stage x q is at same = let below = in_store x q is at in absurd (let no : is_below stage store ≡ true = subst (λ y. is_below y store ≡ true) same below in cc)

-- the store paths of all places are those that are stored
pub stored_are : (leaves : Leaves) (places : List Name) → AreAll places (IsPlace leaves) → (x : Name) → AtSome places IsPathOf x ↔ IsStored leaves x
stored_are leaves places all x = (
  λ at. record { path = at.holds.path; leaf = at.place; stands = ((all at.place).0 at.listed).stands; inside = at.holds.inside },
  λ stored. record { place = stored.leaf; listed = (all stored.leaf).1 record { stands = stored.stands; other = no_stage x stored.leaf stored.path stored.inside }; holds = record { path = stored.path; inside = stored.inside } },
)

-- ---- systems

-- a store path begins with no slash
pub same_system : (x : Name) → is_store_path x ≡ true → system_path x ≡ x
same_system x is = ap system_path (store_path_cut x is) ∙ sym (store_path_cut x is)

pub not_dead_by : (live : List Name) (x : Name) → is_none (system_fault x) ≡ false → is_dead_by live x ≡ false
not_dead_by live x faulty = ap (λ b. not (has live x) && b) faulty ∙ and-false (not (has live x))

pub dead_by : (live : List Name) (x : Name) → has live x ≡ false → system_fault x ≡ None → is_dead_by live x ≡ true
dead_by live x apart none = and_from (not (has live x)) (is_none (system_fault x)) (not_from_false (has live x) apart) (ap is_none none)

-- what each store path begins with
pub in_folder : (names : List Name) → AllByRecursion (λ x. is_store_path x ≡ true) names → AllByRecursion (λ x. begins store_folder x ≡ true) names
in_folder [] all = tt
in_folder (x ∷ names) all = ((and_parts (begins store_folder x) _ all.0).0, in_folder names all.1)
