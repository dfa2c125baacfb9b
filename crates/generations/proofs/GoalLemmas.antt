-- The goal of a rollback.
use Rattle.std.proofs.Common.{◌≡◌, ◌&&◌, ◌<◌, ◌^◌, ◌++◌, ◌∷◌, ◌==◌, zero, suc, Bool, true, false, cond, ℕ, List, [], Option, None, Some, is_some, codes, nat_eq, refl, sym, ap, subst, ◌∙◌, inl, inr, arith}
use Rattle.std.proofs.lemmas.Bool.{both_ways, cases_Bool}
use Rattle.std.proofs.lemmas.List.{append_cancel_right}
use Rattle.std.specs.Cmp.Lexicographic.{pointwise, same_text, nat_list_eq_equiv}
use Rattle.std.specs.FinMap.{get}
use Rattle.std.specs.List.{slice_index}
use Rattle.std.proofs.Common.{IsUtf8}
use Rattle.std.proofs.lemmas.Fmt.{IsAscii-decimal}
use Rattle.std.proofs.lemmas.Str.{IsUtf8-append, IsUtf8-from_ascii}
use Rattle.std.specs.Fmt.{decimal}
use Rattle.generations.specs.Digits.{BearsNumber}
use Rattle.generations.specs.Places.{generation_at, greatest_below, is_number, link_name, profile}
use Rattle.generations.proofs.Numbers.{below_bound, greatest_is, greatest_none, greatest_same, small_number, stands_at_number}
use Rattle.generations.proofs.Apart.{one_link}
use Rattle.generations.proofs.SetLaws.{generation_of}
use Rattle.host_trait.specs.World.{Leaves, content_of, leaf_content}
use Rattle.generations.specs.Goal.{BearsGoal, GoalLaw, HasSameLinks, IsBefore, goal, goal_place, goal_text, has_target, is_content, is_current, is_link, is_recorded, names_system, previous, recorded, some_number}

and_true : (a b : Bool) → a && b ≡ true → (a ≡ true) × (b ≡ true)
and_true true b is = (refl, is)
and_true false b is = absurd (both_ways _ refl is)

stands_of : (o : Option (Option (List ℕ))) → names_system o ≡ true → is_some o ≡ true
stands_of None is = absurd (both_ways _ refl is)
stands_of (Some target) is = refl

pub number_of : (leaves : Leaves) (n : ℕ) → has_target leaves n ≡ true → is_number n ≡ true
number_of leaves n is = stands_at_number leaves n (stands_of (generation_at leaves n) is)

pub not_zero : (n : ℕ) → is_number n ≡ true → (n == 0) ≡ false
not_zero zero is = absurd (both_ways _ refl is)
not_zero (suc n) is = grind arith

one_goal : (m n : ℕ) → m < 2 ^ 64 → n < 2 ^ 64 → goal_text m ≡ goal_text n → m ≡ n
one_goal m n small also same = one_link m n small also (ap (λ digits. codes "system-" ++ (digits ++ codes "-link")) (append_cancel_right (decimal m) (decimal n) (10 ∷ []) same))

module _ (w m : Leaves) (links : HasSameLinks w m) where
  same_target : (k : ℕ) → has_target m k ≡ has_target w k
  same_target k = ap names_system (generation_of m w k (links k))

  -- where nothing is recorded and the profile stands
  recorded_same : content_of m goal_place ≡ content_of w goal_place → recorded m ≡ recorded w
  unfolding recorded
  recorded_same same = greatest_same (is_recorded m) (is_recorded w) (2 ^ 32) (λ k. (λ i. same_target k i && is_content (same i) (goal_text k)))

  previous_same : get m profile ≡ get w profile → previous m ≡ previous w
  unfolding previous
  previous_same same =
      ap (λ bound. greatest_below (has_target m) bound)
      (greatest_same (is_current m) (is_current w) (2 ^ 32) (λ k. (λ i. is_some (generation_of m w k (links k) i) && is_link (same i) (link_name k))))
      ∙ greatest_same (has_target m) (has_target w) (greatest_below (is_current w) (2 ^ 32)) same_target

  -- where the goal is recorded
  recorded_is : (n : ℕ) → has_target w n ≡ true → content_of m goal_place ≡ Some (goal_text n) → recorded m ≡ n
  unfolding recorded
  recorded_is n target content = greatest_is (is_recorded m) (2 ^ 32) n (below_bound n (number_of w n target)) here above
    where
      here : is_recorded m n ≡ true
      here = (λ i. (same_target n ∙ target) i && is_content (content i) (goal_text n)) ∙ nat_list_eq_equiv.refl (goal_text n)

      above : (k : ℕ) → n < k → is_recorded m k ≡ false
      above k more = elim (cases_Bool (is_recorded m k)) [
        | inl also ↦
            let both = and_true (has_target m k) (is_content (content_of m goal_place) (goal_text k)) also in
            let text : pointwise nat_eq (goal_text n) (goal_text k) ≡ true = sym (ap (λ o. is_content o (goal_text k)) content) ∙ both.1 in
            let one = one_goal n k (small_number n (number_of w n target)) (small_number k (number_of m k both.0)) (same_text (goal_text n) (goal_text k) (sym text)) in
            absurd (omega (arith, one, more))
        | inr none ↦ none
      ]

pub goal_law : GoalLaw
goal_law n w m target is links (IsBefore.Unrecorded content profile_same) =
    (λ i. cond (recorded_same w m links content i == 0) (some_number (previous_same w m links profile_same i)) (Some (recorded_same w m links content i))) ∙ is
goal_law n w m target is links (IsBefore.Recorded leaf) =
    let number = recorded_is w m links n target (ap (leaf_content m) leaf) in
    ap (λ r. cond (r == 0) (some_number (previous m)) (Some r)) number
    ∙ ap (λ b. cond b (some_number (previous m)) (Some n)) (not_zero n (number_of w n target))

-- ---- what is read of the goal's place

line_feed : IsUtf8 (10 ∷ [])
line_feed = IsUtf8-from_ascii (10 ∷ []) ascii
  where
    ascii : (i : ℕ) → slice_index (10 ∷ []) i < 128
    ascii zero = omega arith
    ascii (suc i) = omega arith

-- a text that isn't UTF-8 is that of no goal
pub no_goal_text : (bytes : List ℕ) → ¬ IsUtf8 bytes → BearsNumber goal_text bytes None
no_goal_text bytes bad n small same =
    bad (subst IsUtf8 (sym same) (IsUtf8-append (decimal n) (10 ∷ []) (IsUtf8-from_ascii (decimal n) (IsAscii-decimal n (omega arith))) line_feed))

module _ (leaves : Leaves) where
  none_recorded : ((k : ℕ) → is_recorded leaves k ≡ false) → some_number (recorded leaves) ≡ None
  unfolding recorded
  none_recorded none = ap some_number (greatest_none (is_recorded leaves) (2 ^ 32) none)

  -- a recorded number has this content
  text_of : (o : Option (List ℕ)) (k : ℕ) → is_content o (goal_text k) ≡ true → o ≡ Some (goal_text k)
  text_of None k is = absurd (both_ways _ refl is)
  text_of (Some bytes) k is = ap Some (same_text bytes (goal_text k) (sym is))

  other_number : (k : ℕ) → (has_target leaves k ≡ true → content_of leaves goal_place ≡ Some (goal_text k) → ⊥) → is_recorded leaves k ≡ false
  other_number k not = elim (cases_Bool (is_recorded leaves k)) [
    | inl is ↦ let both = and_true (has_target leaves k) (is_content (content_of leaves goal_place) (goal_text k)) is in absurd (not both.0 (text_of (content_of leaves goal_place) k both.1))
    | inr other ↦ other
  ]

  -- where the place has no number's text, nothing is recorded
  pub unrecorded : (o : Option (List ℕ)) → content_of leaves goal_place ≡ o → BearsGoal o None → some_number (recorded leaves) ≡ None
  unrecorded None is bears = none_recorded (λ k. other_number k (λ target text. absurd (let no : None ≡ Some (goal_text k) = sym is ∙ text in cc)))
  unrecorded (Some bytes) is bears = none_recorded (λ k. other_number k (λ target text.
      bears k (below_bound k (number_of leaves k target)) (let same : bytes ≡ goal_text k = (let e : Some bytes ≡ Some (goal_text k) = sym is ∙ text in cc) in same)))

  pub with_number : (o : Option (List ℕ)) (n : ℕ) → BearsGoal o (Some n) → (o ≡ Some (goal_text n)) × (n < 2 ^ 32)
  with_number None n bears = absurd (let no : Some n ≡ None = bears in cc)
  with_number (Some bytes) n bears = (ap Some bears.0, bears.1)

  -- and where it has one of a generation without a system
  pub without_target : (n : ℕ) → n < 2 ^ 32 → content_of leaves goal_place ≡ Some (goal_text n) → has_target leaves n ≡ false → some_number (recorded leaves) ≡ None
  without_target n small is none = none_recorded (λ k. other_number k (λ target text.
      let same : n ≡ k = one_goal n k (omega arith) (small_number k (number_of leaves k target)) (let e : Some (goal_text n) ≡ Some (goal_text k) = sym is ∙ text in cc) in
      both_ways (has_target leaves k) (subst (λ j. has_target leaves j ≡ false) same none) target))

  -- and where it has one of a generation with a system, that is the goal
  pub with_target : (n : ℕ) → content_of leaves goal_place ≡ Some (goal_text n) → has_target leaves n ≡ true → some_number (recorded leaves) ≡ Some n
  with_target n is target = ap some_number (recorded_is leaves leaves (λ k. refl) n target is) ∙ ap (λ b. cond b None (Some n)) (not_zero n (number_of leaves n target))

-- the goal where something is recorded, and where nothing is
pub goal_recorded : (r n : ℕ) (before : Option ℕ) → some_number r ≡ Some n → cond (r == 0) before (Some r) ≡ Some n
goal_recorded r n before is = elim (r == 0) as (λ b. cond b None (Some r) ≡ Some n → cond b before (Some r) ≡ Some n) [
  | true ↦ λ e. absurd cc
  | false ↦ λ e. e
] is

pub goal_unrecorded : (r : ℕ) (before : Option ℕ) → some_number r ≡ None → cond (r == 0) before (Some r) ≡ before
goal_unrecorded r before is = elim (r == 0) as (λ b. cond b None (Some r) ≡ None → cond b before (Some r) ≡ before) [
  | true ↦ λ e. refl
  | false ↦ λ e. absurd cc
] is

-- ---- the goal names a system

pub greatest_passes : (test : ℕ → Bool) (bound : ℕ) → (greatest_below test bound == 0) ≡ false → test (greatest_below test bound) ≡ true
unfolding greatest_below
greatest_passes test zero none = absurd (both_ways _ none refl)
greatest_passes test (suc n) none = either (greatest_passes test n) (test n) refl none
  where
    either : ((greatest_below test n == 0) ≡ false → test (greatest_below test n) ≡ true) → (b : Bool) → test n ≡ b → (cond b n (greatest_below test n) == 0) ≡ false → test (cond b n (greatest_below test n)) ≡ true
    either before true is none = is
    either before false is none = before none

recorded_names : (leaves : Leaves) → (recorded leaves == 0) ≡ false → has_target leaves (recorded leaves) ≡ true
unfolding recorded
recorded_names leaves none =
    (and_true (has_target leaves (recorded leaves)) (is_content (content_of leaves goal_place) (goal_text (recorded leaves))) (greatest_passes (is_recorded leaves) (2 ^ 32) none)).0

previous_names : (leaves : Leaves) → (previous leaves == 0) ≡ false → has_target leaves (previous leaves) ≡ true
unfolding previous
previous_names leaves none = greatest_passes (has_target leaves) (greatest_below (is_current leaves) (2 ^ 32)) none

pub goal_names : (leaves : Leaves) (n : ℕ) → goal leaves ≡ Some n → has_target leaves n ≡ true
goal_names leaves n is = by_recorded (recorded leaves == 0) refl is
  where
    same : (k : ℕ) → Some k ≡ Some n → k ≡ n
    same k e = cc

    by_previous : (b : Bool) → (previous leaves == 0) ≡ b → cond b None (Some (previous leaves)) ≡ Some n → has_target leaves n ≡ true
    by_previous true none is = absurd (cc)
    by_previous false none is = subst (λ k. has_target leaves k ≡ true) (same (previous leaves) is) (previous_names leaves none)

    by_recorded : (b : Bool) → (recorded leaves == 0) ≡ b → cond b (some_number (previous leaves)) (Some (recorded leaves)) ≡ Some n → has_target leaves n ≡ true
    by_recorded true none is = by_previous (previous leaves == 0) refl is
    by_recorded false none is = subst (λ k. has_target leaves k ≡ true) (same (recorded leaves) is) (recorded_names leaves none)
