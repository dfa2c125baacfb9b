-- The greatest of some names that isn't above a text, by a search.
use Rattle.std.proofs.Common.{◌≡◌, ◌⊎◌, ℕ, zero, suc, ◌<◌, ◌≤◌, not, true, false, List, [], ◌∷◌, length, take, get_or, slice_get, get_or-take, length-take-le, Bor, Option, None, Some, IsNone, IfSome, ◌-◌, refl, sym, ap, subst, ◌∙◌, inl, inr, arith}
use Rattle.std.proofs.lemmas.Bool.{both_ways, cases_lt, or_cases}
use Rattle.std.proofs.lemmas.Cmp.{tied_itself}
use Rattle.std.proofs.lemmas.List.Folds.{list_any_at}
use Rattle.std.proofs.lemmas.Map.Keys.{Less-from_sorted}
use Rattle.std.proofs.lemmas.Option.{get_or_from_slice_get, slice_get-get_or, slice_get_past}
use Rattle.std.specs.List.{AllWithin}
use Rattle.std.specs.Option.{option_copied}
use Rattle.std.specs.List.Sorted.{IsPartitionedBy, IsStrictlySortedBy}
use Rattle.std.specs.Ordering.{is_gt}
use Rattle.std.specs.declared.cmp.Ordering.{Ordering}
use Rattle.std.specs.declared.cmp.Ordering.TheVariants.{Less, Equal, Greater}
use Rattle.host_trait.specs.World.{bytes_cmp}
use Rattle.host_trait.proofs.NameOrder.{name_exact, name_itself}
use Rattle.host_trait.proofs.Places.{bytes_exact, bytes_total}
use Rattle.switch_names.specs.Names.{Name, has, is_name}
use Rattle.store_names.specs.Beginnings.{IsGreatest, is_up_to}

-- where a name stands in a list
pub index_of : (names : List Name) (name : Name) → has names name ≡ true → (k : ℕ) × (k < length names) × ((d : Name) → get_or names k d ≡ name)
index_of [] name is = absurd cc
index_of (first ∷ names) name is = elim (or_cases (is_name name first) (has names name) is) [
  | inl same ↦ (zero, omega arith, λ d. sym (name_exact name first same))
  | inr later ↦ let rest = index_of names name later in (suc rest.0, omega (arith, rest.1), rest.2)
]

pub named_at : (names : List Name) (k : ℕ) (d : Name) → k < length names → has names (get_or names k d) ≡ true
named_at names k d within = list_any_at (is_name (get_or names k d)) names k d within (name_itself (get_or names k d))

pub up_to_itself : (name : Name) → is_up_to name name ≡ true
up_to_itself name = ap (λ r. not (is_gt r)) (tied_itself bytes_total name)

pub less_up_to : (one other : Name) → bytes_cmp one other ≡ Less → is_up_to other one ≡ true
less_up_to one other less = ap (λ r. not (is_gt r)) less

-- what is below another isn't above what that one isn't above
below_up_to : (low high text : Name) → bytes_cmp low high ≡ Less → is_up_to text high ≡ true → is_up_to text low ≡ true
below_up_to low high text less is = by (bytes_cmp high text) refl is
  where
    by : (r : Ordering) → bytes_cmp high text ≡ r → not (is_gt r) ≡ true → is_up_to text low ≡ true
    by Less next is = less_up_to low text (bytes_total.trans low high text less next)
    by Equal same is = subst (λ t. is_up_to t low ≡ true) (bytes_exact high text same) (less_up_to low high less)
    by Greater more is = absurd cc

equal_or_less : (i j : ℕ) → i ≤ j → (i ≡ j) ⊎ (i < j)
equal_or_less i j low = elim (cases_lt i j) [
  | inl less ↦ inr less
  | inr more ↦ inl (omega (arith, low, more))
]

module _ (names : List Name) (text : List ℕ) (sorted : IsStrictlySortedBy bytes_cmp names) where
  -- the names that aren't above it come first
  pub parted : IsPartitionedBy (is_up_to text) names
  parted i j d low within is = elim (equal_or_less i j low) [
    | inl same ↦ subst (λ k. is_up_to text (get_or names k d) ≡ true) (sym same) is
    | inr less ↦ below_up_to (get_or names i d) (get_or names j d) text (Less-from_sorted bytes_cmp names i j d sorted less within) is
  ]

  module _ (count : ℕ) (within : count ≤ length names) (low : AllWithin (λ y. is_up_to text y ≡ true) names 0 count) (high : AllWithin (λ y. is_up_to text y ≡ false) names count (length names)) where
    -- where there are none of them, each name is above it
    pub none_up_to : count ≡ 0 → (name : Name) → has names name ≡ true → is_up_to text name ≡ false
    none_up_to none name is =
        let k = index_of names name is in
        subst (λ x. is_up_to text x ≡ false) (k.2 name) (high k.0 name (omega (arith, none)) k.1)

    -- else their last one is the greatest
    pub last_is_greatest : (k : ℕ) (greatest : Name) → count ≡ suc k → ((d : Name) → get_or names k d ≡ greatest) → IsGreatest names text greatest
    last_is_greatest k greatest is there = record {
      listed = subst (λ x. has names x ≡ true) (there greatest) (named_at names k greatest (omega (arith, is, within)));
      reaches = subst (λ x. is_up_to text x ≡ true) (there greatest) (low k greatest (omega arith) (omega (arith, is)));
      others = λ name listed up. let at = index_of names name listed in by name up at.0 at.1 at.2;
    }
      where
        by : (name : Name) → is_up_to text name ≡ true → (i : ℕ) → i < length names → ((d : Name) → get_or names i d ≡ name) → is_up_to greatest name ≡ true
        by name up i inside at = elim (cases3 i) [
          | inl less ↦ less_up_to name greatest (subst (λ x. bytes_cmp x greatest ≡ Less) (at name) (subst (λ y. bytes_cmp (get_or names i name) y ≡ Less) (there name) (Less-from_sorted bytes_cmp names i k name sorted less (omega (arith, is, within)))))
          | inr (inl same) ↦ subst (λ x. is_up_to greatest x ≡ true) (sym (there name) ∙ ap (λ n. get_or names n name) (sym same) ∙ at name) (up_to_itself greatest)
          | inr (inr more) ↦ absurd (both_ways _ (subst (λ x. is_up_to text x ≡ false) (at name) (high i name (omega (arith, is, more)) inside)) up)
        ]
          where
            cases3 : (i : ℕ) → (i < k) ⊎ (i ≡ k) ⊎ (k < i)
            cases3 i = elim (cases_lt i k) [
              | inl less ↦ inl less
              | inr more ↦ elim (equal_or_less k i more) [
                | inl same ↦ inr (inl (sym same))
                | inr above ↦ inr (inr above)
              ]
            ]

-- the last of the first so many
module _ (names : List Name) (count : ℕ) (within : count ≤ length names) where
  taken : length (take count names) ≡ count
  taken = length-take-le count names within

  pub last_none : (r : Option (Bor Name)) → option_copied r ≡ slice_get (take count names) (length (take count names) - 1) → IsNone r → count ≡ 0
  last_none (Some x) is none = absurd cc
  last_none None is none = by count taken within is
    where
      by : (n : ℕ) → length (take n names) ≡ n → n ≤ length names → None ≡ slice_get (take n names) (length (take n names) - 1) → n ≡ 0
      by zero long inside is = refl
      by (suc k) long inside is = absurd (let there = slice_get-get_or (take (suc k) names) (length (take (suc k) names) - 1) [] (omega (arith, long)) in let no : None ≡ Some _ = is ∙ there in cc)

  pub last_some : (r : Option (Bor Name)) → option_copied r ≡ slice_get (take count names) (length (take count names) - 1) →
      IfSome r (λ (greatest : Bor Name). (k : ℕ) × (count ≡ suc k) × ((d : Name) → get_or names k d ≡ greatest.now))
  last_some None is = tt
  last_some (Some x) is = by count taken is
    where
      by : (n : ℕ) → length (take n names) ≡ n → Some x.now ≡ slice_get (take n names) (length (take n names) - 1) → (k : ℕ) × (n ≡ suc k) × ((d : Name) → get_or names k d ≡ x.now)
      by zero long is = absurd (let no : Some x.now ≡ None = is ∙ slice_get_past (take 0 names) (length (take 0 names) - 1) (omega (arith, long)) in cc)
      by (suc k) long is = (
        k,
        refl,
        λ d.
            let at : length (take (suc k) names) - 1 ≡ k = omega (arith, long) in
            sym (get_or-take (suc k) names k d (omega arith)) ∙ get_or_from_slice_get (take (suc k) names) k x.now d (ap (slice_get (take (suc k) names)) (sym at) ∙ sym is),
      )
