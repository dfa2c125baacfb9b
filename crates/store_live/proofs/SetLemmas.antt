-- Sets to which the names of a list are added.
use Rattle.std.proofs.Common.{◌≡◌, ℕ, ◌+◌, ◌<◌, ◌||◌, ◌&&◌, not, Bool, true, false, List, [], length, get_or, take, refl, sym, ap, ◌∙◌}
use Rattle.std.proofs.lemmas.List.Folds.{list_any_more}
use Rattle.host_trait.proofs.NameOrder.{name_exact}
use Rattle.switch_names.specs.Names.{Name, has, is_name}

pub set_none : (old : List Name) (x : Name) → has old x ≡ (has old x || has (take 0 []) x)
set_none old x = by (has old x)
  where
    by : (b : Bool) → b ≡ (b || false)
    by true = refl
    by false = refl

joined : (a b c : Bool) → ((a || b) || c) ≡ (a || (b || c))
joined true b c = refl
joined false b c = refl

more_in : (names : List Name) (i : ℕ) (name x : Name) → i < length names → name ≡ get_or names i name → has (take (i + 1) names) x ≡ (has (take i names) x || is_name x name)
more_in names i name x inside is = list_any_more (is_name x) names i name inside ∙ ap (λ n. has (take i names) x || is_name x n) (sym is)

pub set_grown : (old now new names : List Name) (i : ℕ) (name x : Name) → i < length names → name ≡ get_or names i name →
    has now x ≡ (has old x || has (take i names) x) → has new x ≡ (has now x || is_name x name) → has new x ≡ (has old x || has (take (i + 1) names) x)
set_grown old now new names i name x inside is before added =
    added ∙ ap (λ b. b || is_name x name) before ∙ joined (has old x) (has (take i names) x) (is_name x name) ∙ ap (λ b. has old x || b) (sym (more_in names i name x inside is))

-- those that aren't in another set
pub left_grown : (old now new names walked : List Name) (i : ℕ) (name x : Name) → i < length names → name ≡ get_or names i name →
    has now x ≡ (has old x || (has (take i names) x && not (has walked x))) → has new x ≡ (has now x || (is_name x name && not (has walked x))) →
    has new x ≡ (has old x || (has (take (i + 1) names) x && not (has walked x)))
left_grown old now new names walked i name x inside is before added =
    added ∙ ap (λ b. b || (is_name x name && not (has walked x))) before ∙ by (has old x) (has (take i names) x) (is_name x name) (not (has walked x))
    ∙ ap (λ b. has old x || (b && not (has walked x))) (sym (more_in names i name x inside is))
  where
    by : (a b c d : Bool) → ((a || (b && d)) || (c && d)) ≡ (a || ((b || c) && d))
    by true b c d = refl
    by false true c true = refl
    by false true true false = refl
    by false true false false = refl
    by false false c d = refl

-- a name that isn't in another set is added
pub left_new : (old new walked : List Name) (name x : Name) → has new x ≡ (has old x || is_name x name) → has walked name ≡ false → has new x ≡ (has old x || (is_name x name && not (has walked x)))
left_new old new walked name x added fresh = added ∙ ap (λ b. has old x || b) (by (is_name x name) refl)
  where
    by : (b : Bool) → is_name x name ≡ b → is_name x name ≡ (is_name x name && not (has walked x))
    by true same = same ∙ sym (ap (λ b. b && not (has walked x)) same ∙ ap (λ n. not (has walked n)) (name_exact x name same) ∙ ap (λ b. not b) fresh)
    by false other = other ∙ sym (ap (λ b. b && not (has walked x)) other)

-- one that is in it isn't
pub left_old : (old walked : List Name) (name x : Name) → has walked name ≡ true → has old x ≡ (has old x || (is_name x name && not (has walked x)))
left_old old walked name x there = nothing (has old x) ∙ ap (λ b. has old x || b) (sym (by (is_name x name) refl))
  where
    nothing : (b : Bool) → b ≡ (b || false)
    nothing true = refl
    nothing false = refl

    by : (b : Bool) → is_name x name ≡ b → (is_name x name && not (has walked x)) ≡ false
    by true same = ap (λ b. b && not (has walked x)) same ∙ ap (λ n. not (has walked n)) (name_exact x name same) ∙ ap (λ b. not b) there
    by false other = ap (λ b. b && not (has walked x)) other
