-- Names in sets and lists.
use Rattle.std.proofs.Common.{◌≡◌, ◌<◌, ◌+◌, ◌||◌, ◌&&◌, not, ℕ, Bool, true, false, cond, List, [], ◌∷◌, ◌++◌, get_or, length, take, refl, sym, ap, ◌∙◌, arith}
use Rattle.std.proofs.Math.Bool.{or-false, or_assoc}
use Rattle.std.specs.List.{filter}
use Rattle.std.proofs.lemmas.List.{append-nil, take_more}
use Rattle.std.proofs.lemmas.List.Elements.{filter_more}
use Rattle.switch_names.specs.Names.{Name, has, is_name}
use Rattle.host_trait.proofs.NameOrder.{name_exact}
use Rattle.unit_defs.proofs.NameLemmas.{has-append}

-- one name more at the end
pub has_pushed : (old : List Name) (name unit : Name) → has (old ++ name ∷ []) unit ≡ (has old unit || is_name unit name)
has_pushed old name unit = has-append old (name ∷ []) unit ∙ ap (λ b. has old unit || b) (or-false (is_name unit name))

-- a name that a list has is another name's equal there
pub has_same : (names : List Name) (name unit : Name) → is_name unit name ≡ true → has names unit ≡ has names name
has_same names name unit is = ap (λ n. has names n) (name_exact unit name is)

-- a name that is reached already isn't left to walk once more
pub nothing_pushed : (reached left : List Name) (name unit : Name) → has reached name ≡ true → has left unit ≡ (has left unit || (is_name unit name && not (has reached unit)))
nothing_pushed reached left name unit there = by (is_name unit name) refl
  where
    by : (b : Bool) → is_name unit name ≡ b → has left unit ≡ (has left unit || (b && not (has reached unit)))
    by true is = sym (ap (λ b. has left unit || not b) (has_same reached name unit is ∙ there) ∙ or-false (has left unit))
    by false is = sym (or-false (has left unit))

-- a name that is new is left to walk
pub new_pushed : (reached left : List Name) (name unit : Name) → has reached name ≡ false → has (left ++ name ∷ []) unit ≡ (has left unit || (is_name unit name && not (has reached unit)))
new_pushed reached left name unit new = has_pushed left name unit ∙ by (is_name unit name) refl
  where
    by : (b : Bool) → is_name unit name ≡ b → (has left unit || b) ≡ (has left unit || (b && not (has reached unit)))
    by true is = sym (ap (λ b. has left unit || not b) (has_same reached name unit is ∙ new))
    by false is = refl

-- ---- a loop over items, with one item more

module _ {X : Type 0} (xs : List X) (i : ℕ) (x : X) (inside : i < length xs) (is : x ≡ get_or xs i x) where
  pub one_more : take (i + 1) xs ≡ take i xs ++ x ∷ []
  one_more = take_more xs i x inside ∙ ap (λ y. take i xs ++ y ∷ []) (sym is)

  with_one : (p : X → Bool) → filter p (take (i + 1) xs) ≡ filter p (take i xs) ++ cond (p x) (x ∷ []) []
  with_one p = filter_more p xs i x inside ∙ ap (λ y. filter p (take i xs) ++ cond (p y) (y ∷ []) []) (sym is)

  pub passed_more : (p : X → Bool) → p x ≡ true → filter p (take (i + 1) xs) ≡ filter p (take i xs) ++ x ∷ []
  passed_more p passes = with_one p ∙ ap (λ b. filter p (take i xs) ++ cond b (x ∷ []) []) passes

  pub passed_same : (p : X → Bool) → p x ≡ false → filter p (take (i + 1) xs) ≡ filter p (take i xs)
  passed_same p fails = with_one p ∙ ap (λ b. filter p (take i xs) ++ cond b (x ∷ []) []) fails ∙ append-nil (filter p (take i xs))

-- a set that gets the name which is new in a list
pub set_more : (start old new before after : List Name) (unit copy name : Name) → after ≡ before ++ unit ∷ [] → copy ≡ unit →
    has new name ≡ (has old name || is_name name copy) → has old name ≡ (has start name || has before name) → has new name ≡ (has start name || has after name)
set_more start old new before after unit copy name grown same added was =
    added ∙ (λ k. was k || is_name name (same k)) ∙ or_assoc (has start name) (has before name) (is_name name unit)
    ∙ ap (λ b. has start name || b) (sym (ap (λ (names : List Name). has names name) grown ∙ has_pushed before unit name))

pub set_same : (start old before after : List Name) (name : Name) → after ≡ before → has old name ≡ (has start name || has before name) → has old name ≡ (has start name || has after name)
set_same start old before after name stays was = was ∙ ap (λ (names : List Name). has start name || has names name) (sym stays)

left_of : (left before is reached : Bool) → ((left || (before && not reached)) || (is && not (reached || before))) ≡ (left || ((before || is) && not reached))
left_of true before is reached = refl
left_of false true true true = refl
left_of false true true false = refl
left_of false true false true = refl
left_of false true false false = refl
left_of false false true true = refl
left_of false false true false = refl
left_of false false false true = refl
left_of false false false false = refl

-- what is left to walk gets the name too, where it wasn't reached
pub left_more : (reached_first left_first reached left left_new before after : List Name) (unit name : Name) → after ≡ before ++ unit ∷ [] →
    has left_new name ≡ (has left name || (is_name name unit && not (has reached name))) → has reached name ≡ (has reached_first name || has before name) →
    has left name ≡ (has left_first name || (has before name && not (has reached_first name))) →
    has left_new name ≡ (has left_first name || (has after name && not (has reached_first name)))
left_more reached_first left_first reached left left_new before after unit name grown pushed reached_was was =
    pushed ∙ (λ k. was k || (is_name name unit && not (reached_was k))) ∙ left_of (has left_first name) (has before name) (is_name name unit) (has reached_first name)
    ∙ ap (λ b. has left_first name || (b && not (has reached_first name))) (sym (ap (λ (names : List Name). has names name) grown ∙ has_pushed before unit name))

-- as many names are left to walk more as are reached more
pub same_count : (first_left first_reached left reached new_left new_reached : ℕ) → left + first_reached ≡ first_left + reached → new_left + reached ≡ left + new_reached →
    new_left + first_reached ≡ first_left + new_reached
same_count first_left first_reached left reached new_left new_reached was is = omega arith
