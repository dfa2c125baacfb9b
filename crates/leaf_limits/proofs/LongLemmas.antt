-- The first content that is too long, with one place more.
use Rattle.std.proofs.Common.{◌≡◌, ◌⊎◌, ◌≤◌, ◌<◌, ◌++◌, ◌||◌, ℕ, Bool, true, false, List, [], ◌∷◌, length, Option, None, Some, unwrap_or, refl, sym, ap, subst, ◌∙◌, inl, inr}
use Rattle.std.proofs.lemmas.Bool.{or_cases, or_left, or_right}
use Rattle.std.proofs.lemmas.List.Folds.{list_any-append}
use Rattle.std.specs.Ordering.{ordering_reverse}
use Rattle.std.specs.declared.cmp.Ordering.TheVariants.{Less}
use Rattle.host_trait.specs.World.{Leaves, bytes_cmp, content_of}
use Rattle.host_trait.proofs.NameOrder.{name_exact, name_itself}
use Rattle.host_trait.proofs.Places.{bytes_total}
use Rattle.leaf_limits.specs.declared.too_long.TooLong.{TooLong}
use Rattle.leaf_limits.specs.Limits.{AreTaken, IsBefore, IsFirstOf, IsFirstTooLong, leaf_max, length_at}
use Rattle.switch_names.specs.Names.{Name, has, is_name}

not_before : (p : Name) → bytes_cmp p p ≡ Less → ⊥
not_before p less = absurd (let no = sym less ∙ bytes_total.antisymm p p ∙ ap ordering_reverse less in cc)

module _ (done : List Name) (p : Name) (leaves : Leaves) where
  abbrev more : List Name
  more = done ++ p ∷ []

  either : (q : Name) → has more q ≡ true → (has done q ≡ true) ⊎ (q ≡ p)
  either q there = elim (or_cases (has done q) (has (p ∷ []) q) (sym (list_any-append (is_name q) done (p ∷ [])) ∙ there)) [
    | inl before ↦ inl before
    | inr last ↦ elim (or_cases (is_name q p) false last) [
      | inl same ↦ inr (name_exact q p same)
      | inr none ↦ absurd cc
    ]
  ]

  in_more : (q : Name) → has done q ≡ true → has more q ≡ true
  in_more q before = list_any-append (is_name q) done (p ∷ []) ∙ or_left (has done q) (has (p ∷ []) q) before

  itself : has more p ≡ true
  itself = list_any-append (is_name p) done (p ∷ []) ∙ or_right (has done p) (has (p ∷ []) p) (or_left (is_name p p) false (name_itself p))

  -- one that is within the limit
  pub stays_within : length_at leaves p ≤ leaf_max → (found : Option TooLong) → IsFirstOf done leaves found → IsFirstOf more leaves found
  stays_within short None within = λ q there. elim (either q there) [
    | inl before ↦ within q before
    | inr same ↦ subst (λ x. length_at leaves x ≤ leaf_max) (sym same) short
  ]
  stays_within short (Some long) is = record {
    among = in_more long.at is.among;
    count = is.count;
    past = is.past;
    first = λ q there less. elim (either q there) [
      | inl before ↦ is.first q before less
      | inr same ↦ subst (λ x. length_at leaves x ≤ leaf_max) (sym same) short
    ];
  }

  -- one that stands behind the first
  pub stays_behind : (found : Option TooLong) → (IsBefore p found → ⊥) → IsFirstOf done leaves found → IsFirstOf more leaves found
  stays_behind None behind within = absurd (behind tt)
  stays_behind (Some long) behind is = record {
    among = in_more long.at is.among;
    count = is.count;
    past = is.past;
    first = λ q there less. elim (either q there) [
      | inl before ↦ is.first q before less
      | inr same ↦ absurd (behind (subst (λ x. bytes_cmp x long.at ≡ Less) same less))
    ];
  }

  -- one that is too long and stands before
  pub comes_first : (found : Option TooLong) → leaf_max < length_at leaves p → IsBefore p found → IsFirstOf done leaves found → IsFirstTooLong more leaves (record { at = p; count = length_at leaves p })
  comes_first found past before is = record {
    among = itself;
    count = refl;
    past = past;
    first = λ q there less. elim (either q there) [
      | inl old ↦ by found before is q old less
      | inr same ↦ absurd (not_before p (subst (λ x. bytes_cmp x p ≡ Less) same less))
    ];
  }
    where
      by : (found : Option TooLong) → IsBefore p found → IsFirstOf done leaves found → (q : Name) → has done q ≡ true → bytes_cmp q p ≡ Less → length_at leaves q ≤ leaf_max
      by None before within q old less = within q old
      by (Some long) before is q old less = is.first q old (bytes_total.trans q p long.at less before)

-- where the contents at some places are the same
pub first_again :
    (places : List Name) (m w : Leaves) (long : TooLong) → ((q : Name) → has places q ≡ true → content_of m q ≡ content_of w q) → IsFirstTooLong places m long → IsFirstTooLong places w long
first_again places m w long same is = record {
  among = is.among;
  count = is.count ∙ ap (λ (o : Option (List ℕ)). length (unwrap_or o [])) (same long.at is.among);
  past = is.past;
  first = λ q there less. subst (λ (o : Option (List ℕ)). length (unwrap_or o []) ≤ leaf_max) (same q there) (is.first q there less);
}

-- of two lists together these are taken that are of either
pub taken_both : (one other : List Name) (p r : Name → Bool) (leaves : Leaves) → AreTaken one p leaves → AreTaken other r leaves → AreTaken (one ++ other) (λ q. p q || r q) leaves
taken_both one other p r leaves first second q there = list_any-append (is_name q) one other ∙ (λ i. first q there i || second q there i)
