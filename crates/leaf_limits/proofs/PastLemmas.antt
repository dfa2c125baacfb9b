-- The first content that is taken and too long, as the least of the places that are read.
use Rattle.std.proofs.Common.{◌≡◌, ◌≤◌, ◌<◌, ◌&&◌, ◌||◌, ℕ, Bool, true, false, cond, List, [], ◌∷◌, length, nat_lt, Option, None, Some, IsSome, option_map, unwrap_or, refl, sym, ap, subst, ◌∙◌, inl, inr, arith}
use Rattle.std.proofs.lemmas.Bool.{and_parts, both_ways, cases_Bool, lt-ltb, ltb-true}
use Rattle.std.specs.FinMap.{contains_key-keys, get, keys}
use Rattle.std.specs.List.{find}
use Rattle.std.specs.List.Sorted.{IsStrictlySortedBy}
use Rattle.std.specs.declared.cmp.Ordering.TheVariants.{Less}
use Rattle.host_trait.specs.declared.leaf.LeafKind.{LeafKind}
use Rattle.host_trait.specs.World.{Leaves, bytes_cmp, content_of}
use Rattle.host_trait.proofs.KeyOrder.{keys_sorted}
use Rattle.host_trait.proofs.NameOrder.{above_all, less_is_other, name_exact, not_both_less}
use Rattle.leaf_limits.specs.declared.too_long.TooLong.{TooLong}
use Rattle.leaf_limits.specs.Limits.{AreTaken, IsFirstOf, IsFirstTooLong, is_long, leaf_max, length_at, long_past}
use Rattle.switch_names.specs.Names.{Name, has, is_name}

-- where no name passes, none is found
pub none_found : (test : Name → Bool) (names : List Name) → ((q : Name) → test q ≡ false) → find test names ≡ None
none_found test [] none = refl
none_found test (q ∷ names) none = ap (λ b. cond b (Some q) (find test names)) (none q) ∙ none_found test names none

or_right_of : (a b : Bool) → a ≡ false → (a || b) ≡ true → b ≡ true
or_right_of a b none is = sym (ap (λ x. x || b) none) ∙ is

-- in a list in order the least that passes is found
pub least_found :
    (test : Name → Bool) (at : Name) (names : List Name) → IsStrictlySortedBy bytes_cmp names → has names at ≡ true → test at ≡ true →
    ((q : Name) → bytes_cmp q at ≡ Less → test q ≡ false) → find test names ≡ Some at
unfolding IsStrictlySortedBy
least_found test at [] sorted there passes before = absurd cc
least_found test at (q ∷ names) sorted there passes before = elim (cases_Bool (is_name at q)) [
  | inl same ↦
      let is = name_exact at q same in ap (λ b. cond b (Some q) (find test names)) (ap test (sym is) ∙ passes) ∙ ap Some (sym is)
  | inr other ↦
      let rest = or_right_of (is_name at q) (has names at) other there in
      ap (λ b. cond b (Some q) (find test names)) (before q (above_all q at names sorted.0 rest)) ∙ least_found test at names sorted.1 rest passes before
]

-- a content that is too long is there
pub is_there : (leaves : Leaves) (q : Name) → leaf_max < length_at leaves q → IsSome (content_of leaves q)
is_there leaves q past = by (content_of leaves q) past
  where
    by : (content : Option (List ℕ)) → leaf_max < length (unwrap_or content []) → IsSome content
    by None past = absurd (omega (arith, past))
    by (Some bytes) past = refl

-- a place with a content is one of the leaves
pub is_key : (leaves : Leaves) (q : Name) → IsSome (content_of leaves q) → has (keys leaves) q ≡ true
is_key leaves q there = sym (contains_key-keys leaves q) ∙ by (get leaves q) there
  where
    by : (leaf : Option LeafKind) → IsSome (Rattle.host_trait.specs.World.leaf_content leaves leaf) → IsSome leaf
    by None there = there
    by (Some leaf) there = refl

long_is : (leaves : Leaves) (q : Name) → is_long leaves q ≡ true → leaf_max < length_at leaves q
long_is leaves q long = ltb-true leaf_max (length_at leaves q) long

long_from : (leaves : Leaves) (q : Name) → leaf_max < length_at leaves q → is_long leaves q ≡ true
long_from leaves q past = lt-ltb leaf_max (length_at leaves q) past

module _ (places : List Name) (is_taken : Name → Bool) (leaves : Leaves) (taken : AreTaken places is_taken leaves) where
  abbrev test : Name → Bool
  test q = is_taken q && is_long leaves q

  -- one that passes is among the places, and too long
  passing : (q : Name) → test q ≡ true → (has places q ≡ true) × (leaf_max < length_at leaves q)
  passing q is =
      let past = long_is leaves q (and_parts (is_taken q) (is_long leaves q) is).1 in
      (taken q (is_there leaves q past) ∙ (and_parts (is_taken q) (is_long leaves q) is).0, past)

  fails : (q : Name) → (has places q ≡ true → length_at leaves q ≤ leaf_max) → test q ≡ false
  fails q within = elim (cases_Bool (test q)) [
    | inl is ↦ let there = passing q is in absurd (let low = within there.0 in let past = there.1 in omega (arith, low, past))
    | inr none ↦ none
  ]

  pub first_past : (found : Option TooLong) → IsFirstOf places leaves found → option_map (λ (long : TooLong). long.count) found ≡ long_past is_taken leaves
  first_past None within = ap (option_map (length_at leaves)) (sym (none_found test (keys leaves) (λ q. fails q (within q))))
  first_past (Some long) is =
      let past : leaf_max < length_at leaves long.at = subst (λ n. leaf_max < n) is.count is.past in
      let there = is_there leaves long.at past in
      let passes : test long.at ≡ true = ap (λ b. b && is_long leaves long.at) (sym (taken long.at there) ∙ is.among) ∙ long_from leaves long.at past in
      ap Some is.count ∙ ap (option_map (length_at leaves))
      (sym (least_found test long.at (keys leaves) (keys_sorted leaves) (is_key leaves long.at there) passes (λ q less. fails q (λ among. is.first q among less))))

-- ---- none is too long

module _ (is_taken : Name → Bool) (leaves : Leaves) where
  none_mapped : (o : Option Name) → option_map (length_at leaves) o ≡ None → o ≡ None
  none_mapped None none = refl
  none_mapped (Some q) none = absurd cc

  no_key : (names : List Name) → find (λ q. is_taken q && is_long leaves q) names ≡ None → (q : Name) → has names q ≡ true → (is_taken q && is_long leaves q) ≡ false
  no_key [] none q there = absurd cc
  no_key (k ∷ names) none q there = elim (cases_Bool (is_taken k && is_long leaves k)) [
    | inl is ↦ absurd (let some : Some k ≡ None = sym (ap (λ b. cond b (Some k) (find (λ q. is_taken q && is_long leaves q) names)) is) ∙ none in cc)
    | inr not ↦ elim (cases_Bool (is_name q k)) [
      | inl same ↦ ap (λ x. is_taken x && is_long leaves x) (name_exact q k same) ∙ not
      | inr other ↦ no_key names (sym (ap (λ b. cond b (Some k) (find (λ q. is_taken q && is_long leaves q) names)) not) ∙ none) q (or_right_of (is_name q k) (has names q) other there)
    ]
  ]

  -- then each that is taken is within the limit
  pub none_long : long_past is_taken leaves ≡ None → (q : Name) → is_taken q ≡ true → is_long leaves q ≡ false
  none_long none q taken = elim (cases_Bool (is_long leaves q)) [
    | inl long ↦
        let there = is_key leaves q (is_there leaves q (long_is leaves q long)) in
        absurd (both_ways (is_taken q && is_long leaves q) (no_key (keys leaves) (none_mapped (find (λ q. is_taken q && is_long leaves q) (keys leaves)) none) q there) (ap (λ b. b && is_long leaves q) taken ∙ long))
    | inr not ↦ not
  ]

  -- and where each is, none is
  pub nothing_past : ((q : Name) → is_taken q ≡ true → is_long leaves q ≡ false) → long_past is_taken leaves ≡ None
  nothing_past within = ap (option_map (length_at leaves)) (none_found (λ q. is_taken q && is_long leaves q) (keys leaves) fails)
    where
      fails : (q : Name) → (is_taken q && is_long leaves q) ≡ false
      fails q = elim (cases_Bool (is_taken q)) [
        | inl taken ↦ ap (λ b. b && is_long leaves q) taken ∙ within q taken
        | inr not ↦ ap (λ b. b && is_long leaves q) not
      ]

-- none is, where the contents that are taken are the same
pub still_none_past :
    (is_taken : Name → Bool) (w m : Leaves) → ((q : Name) → is_taken q ≡ true → content_of m q ≡ content_of w q) → long_past is_taken w ≡ None → long_past is_taken m ≡ None
still_none_past is_taken w m same none =
    nothing_past is_taken m
    (λ q taken. ap (λ (content : Option (List ℕ)). nat_lt leaf_max (length (unwrap_or content []))) (same q taken) ∙ none_long is_taken w none q taken)

-- what is within the limit isn't too long, and the other way round
pub long_not : (leaves : Leaves) (q : Name) → length_at leaves q ≤ leaf_max → is_long leaves q ≡ false
long_not leaves q within = elim (cases_Bool (is_long leaves q)) [
  | inl long ↦ absurd (let past = long_is leaves q long in omega (arith, past, within))
  | inr not ↦ not
]

pub long_within : (leaves : Leaves) (q : Name) → is_long leaves q ≡ false → length_at leaves q ≤ leaf_max
long_within leaves q not = omega (arith, over)
  where
    over : leaf_max < length_at leaves q → ⊥
    over past = both_ways (is_long leaves q) not (long_from leaves q past)

-- ---- one is too long

-- what is found passes, and none before it does
found_least :
    (test : Name → Bool) (at : Name) (names : List Name) → IsStrictlySortedBy bytes_cmp names → find test names ≡ Some at →
    (test at ≡ true) × ((q : Name) → has names q ≡ true → bytes_cmp q at ≡ Less → test q ≡ false)
unfolding IsStrictlySortedBy
found_least test at [] sorted found = absurd cc
found_least test at (k ∷ names) sorted found = elim (cases_Bool (test k)) [
  | inl is ↦
      let same : Some k ≡ Some at = sym (ap (λ b. cond b (Some k) (find test names)) is) ∙ found in
      let at_is : k ≡ at = cc in (
        ap test (sym at_is) ∙ is,
        λ q there less.
            let below : bytes_cmp q k ≡ Less = subst (λ x. bytes_cmp q x ≡ Less) (sym at_is) less in
            elim (cases_Bool (is_name q k)) [
              | inl itself ↦ absurd (both_ways (is_name q k) (less_is_other q k below) itself)
              | inr other ↦ absurd (not_both_less q k below (above_all k q names sorted.0 (or_right_of (is_name q k) (has names q) other there)))
            ],
      )
  | inr not ↦
      let rest = found_least test at names sorted.1 (sym (ap (λ b. cond b (Some k) (find test names)) not) ∙ found) in (
        rest.0,
        λ q there less. elim (cases_Bool (is_name q k)) [
          | inl itself ↦ ap test (name_exact q k itself) ∙ not
          | inr other ↦ rest.1 q (or_right_of (is_name q k) (has names q) other there) less
        ],
      )
]

-- the first of some places that is too long, where a length is told
pub past_first : (places : List Name) (leaves : Leaves) (count : ℕ) → long_past (has places) leaves ≡ Some count → (long : TooLong) × IsFirstTooLong places leaves long × (long.count ≡ count)
past_first places leaves count is = by (find test (keys leaves)) refl is
  where
    test : Name → Bool
    test q = has places q && is_long leaves q

    by : (found : Option Name) → find test (keys leaves) ≡ found → option_map (length_at leaves) found ≡ Some count → (long : TooLong) × IsFirstTooLong places leaves long × (long.count ≡ count)
    by None found told = absurd cc
    by (Some at) found told =
        let least = found_least test at (keys leaves) (keys_sorted leaves) found in
        let parts = and_parts (has places at) (is_long leaves at) least.0 in (
          record { at = at; count = length_at leaves at },
          record {
            among = parts.0;
            count = refl;
            past = long_is leaves at parts.1;
            first = λ q there less. long_within leaves q (elim (cases_Bool (is_long leaves q)) [
              | inl long ↦
                  absurd (both_ways (test q) (least.1 q (is_key leaves q (is_there leaves q (long_is leaves q long))) less) (ap (λ b. b && is_long leaves q) there ∙ long))
              | inr not ↦ not
            ]);
          },
          (let same : Some (length_at leaves at) ≡ Some count = told in cc),
        )
