-- The edges among the units that are started.
use Rattle.std.proofs.Common.{◌≡◌, ◌&&◌, ◌||◌, not, ℕ, Bool, true, false, List, [], ◌∷◌, length, Result, Ok, Err, IfOk, refl, sym, ap, ◌∙◌}
use Rattle.std.specs.List.{list_any}
use Rattle.std.specs.List.Sorted.{IsBinarySearchResult, IsSearchInRange, IsStrictlySortedBy}
use Rattle.std.proofs.Math.Bool.{and_comm}
use Rattle.host_trait.specs.Bytes.{bytes_cmp}
use Rattle.host_trait.proofs.NameOrder.{name_exact}
use Rattle.switch_names.specs.Names.{Name, has, is_name}
use Rattle.start_order.specs.Edges.{edge_of, is_between}
use Rattle.start_order.proofs.GraphLemmas.{never_missing}
use Rattle.start_order.proofs.OrderLemmas.{not_true}
use Rattle.start_order.proofs.WaitLemmas.{any_with}
use Rattle.owed_plan.specs.StartEdges.{is_put_before, is_put_by, key_words}
use Rattle.owed_plan.specs.Systems.{Texts}
use Rattle.std.specs.Prelude.{codes}

-- ---- the units that words name

pub none_there : (starts : List Name) (word : Name) (at : ℕ) → IsStrictlySortedBy bytes_cmp starts → IsSearchInRange (Err at) (length starts) →
    IsBinarySearchResult (λ other. bytes_cmp other word) starts (Err at) → has starts word ≡ false
none_there starts word at sorted within searched = not_true (has starts word) (λ there. never_missing starts word at sorted there within searched)

named_by : (starts : List Name) (word name : Name) (b : Bool) → is_name name word ≡ b → has starts word ≡ true → b ≡ (has starts name && b)
named_by starts word name true is there = sym (ap (λ h. h && true) (ap (has starts) (name_exact name word is) ∙ there))
named_by starts word name false is there = none (has starts name)
  where
    none : (h : Bool) → false ≡ (h && false)
    none true = refl
    none false = refl

-- a word that names a unit names that one
pub one_named : (starts : List Name) (word name : Name) → has starts word ≡ true → is_name name word ≡ (has starts name && is_name name word)
one_named starts word name there = named_by starts word name (is_name name word) refl there

unnamed : (starts : List Name) (word name : Name) (b : Bool) → is_name name word ≡ b → has starts word ≡ false → (has starts name && b) ≡ false
unnamed starts word name true is none = ap (λ h. h && true) (ap (has starts) (name_exact name word is) ∙ none)
unnamed starts word name false is none = never (has starts name)
  where
    never : (h : Bool) → (h && false) ≡ false
    never true = refl
    never false = refl

or_never : (a b : Bool) → b ≡ false → a ≡ (a || b)
or_never true b none = refl
or_never false b none = sym none

-- and one that names none adds nothing
pub none_named : (starts : List Name) (word name : Name) (old : Bool) → has starts word ≡ false → old ≡ (old || (has starts name && is_name name word))
none_named starts word name old none = or_never old (has starts name && is_name name word) (unnamed starts word name (is_name name word) refl none)

-- ---- the edges that texts give

either_any : (one other : Name → Bool) (names : List Name) → list_any (λ name. one name || other name) names ≡ (list_any one names || list_any other names)
either_any one other [] = refl
either_any one other (name ∷ names) = ap (λ b. (one name || other name) || b) (either_any one other names) ∙ parted (one name) (other name) (list_any one names) (list_any other names)
  where
    parted : (a b c d : Bool) → ((a || b) || (c || d)) ≡ ((a || c) || (b || d))
    parted true b c d = refl
    parted false true true d = refl
    parted false true false d = refl
    parted false false c d = refl

same_any : (one other : Name → Bool) (names : List Name) → ((name : Name) → one name ≡ other name) → list_any one names ≡ list_any other names
same_any one other [] same = refl
same_any one other (name ∷ names) same = ap (λ b. b || list_any one names) (same name) ∙ ap (λ b. other name || b) (same_any one other names same)

module _ (texts : Texts) (starts : List Name) (before after : Name) where
  by_after : Name → Bool
  by_after unit = has starts before && has (key_words texts (codes "After") unit) before

  by_before : Name → Bool
  by_before unit = has starts after && has (key_words texts (codes "Before") unit) after

  put_by_any : list_any (λ unit. is_put_by texts starts unit before after) starts ≡ ((by_after after && has starts after) || (by_before before && has starts before))
  unfolding by_after by_before
  put_by_any =
      either_any (λ unit. by_after unit && is_name after unit) (λ unit. is_name before unit && by_before unit) starts
      ∙ ap (λ b. b || list_any (λ unit. is_name before unit && by_before unit) starts) (any_with by_after starts after)
      ∙ ap (λ b. (by_after after && has starts after) || b)
      (same_any (λ unit. is_name before unit && by_before unit) (λ unit. by_before unit && is_name before unit) starts (λ unit. and_comm (is_name before unit) (by_before unit)) ∙ any_with by_before starts before)

  settle : (b a d x y : Bool) → ((b && a && d) && (((b && x) && a) || ((a && y) && b))) ≡ ((b && a && d) && (x || y))
  settle false a d x y = refl
  settle true false d x y = refl
  settle true true false x y = refl
  settle true true true true y = refl
  settle true true true false true = refl
  settle true true true false false = refl

  -- what one of the texts puts before another is what is put before it
  pub put_exact : (is_before_one : Bool) → is_before_one ≡ list_any (λ unit. is_put_by texts starts unit before after) starts →
      (is_between starts (edge_of (before, after)) && is_before_one) ≡ (is_between starts (edge_of (before, after)) && is_put_before texts before after)
  unfolding by_after by_before
  put_exact is_before_one is =
      ap (λ b. is_between starts (edge_of (before, after)) && b) (is ∙ put_by_any)
      ∙ settle (has starts before) (has starts after) (not (is_name before after)) (has (key_words texts (codes "After") after) before) (has (key_words texts (codes "Before") before) after)

joined_twice : (a b c : Bool) → ((a || b) || c) ≡ (a || (b || c))
joined_twice true b c = refl
joined_twice false b c = refl

-- the text of one unit more
pub one_text_more : (texts : Texts) (starts : List Name) (unit before after : Name) (old mid further all more named_before named_after : Bool) →
    old ≡ all → mid ≡ (old || (named_before && is_name after unit)) → further ≡ (mid || (is_name before unit && named_after)) →
    named_before ≡ (has starts before && has (key_words texts (codes "After") unit) before) → named_after ≡ (has starts after && has (key_words texts (codes "Before") unit) after) →
    more ≡ (all || is_put_by texts starts unit before after) → further ≡ more
one_text_more texts starts unit before after old mid further all more named_before named_after so_far first second befores afters next =
    second ∙ ap (λ m. m || (is_name before unit && named_after)) first
    ∙ ap (λ o. (o || (named_before && is_name after unit)) || (is_name before unit && named_after)) so_far
    ∙ joined_twice all (named_before && is_name after unit) (is_name before unit && named_after)
    ∙ ap (λ n. all || ((n && is_name after unit) || (is_name before unit && named_after))) befores
    ∙ ap (λ n. all || (((has starts before && has (key_words texts (codes "After") unit) before) && is_name after unit) || (is_name before unit && n))) afters
    ∙ sym next

pub both_ok : {X E : Type 0} (r : Result X E) (P Q S : X → Type 0) → IfOk r P → IfOk r Q → ((x : X) → P x → Q x → S x) → IfOk r S
both_ok (Ok x) P Q S one other to = to x one other
both_ok (Err e) P Q S one other to = tt
