-- Sets of units.
use Rattle.std.proofs.Common.{◌≡◌, ◌||◌, ℕ, OnErr, Result, Ok, Err, Bool, true, false, cond, List, take, drop, refl, ap, subst, ◌∙◌}
use Rattle.std.proofs.lemmas.List.{take-append-drop}
use Rattle.std.proofs.lemmas.List.Folds.{list_any-append}
use Rattle.switch_names.proofs.Names.{name_turned}
use Rattle.switch_names.specs.Names.{Name, has, is_name}

-- a name is added
pub has_added : (old new : List Name) (unit name : Name) → has new name ≡ cond (is_name unit name) true (has old name) → has new name ≡ (has old name || is_name name unit)
has_added old new unit name added = added ∙ ap (λ b. cond b true (has old name)) (name_turned unit name) ∙ either (is_name name unit) (has old name)
  where
    either : (b h : Bool) → cond b true h ≡ (h || b)
    either true true = refl
    either true false = refl
    either false true = refl
    either false false = refl

-- a name among the first of a list is one of the list
has_part : (names : List Name) (i : ℕ) (name : Name) → has (take i names) name ≡ true → has names name ≡ true
has_part names i name is =
    subst (λ (all : List Name). has all name ≡ true) (take-append-drop i names)
    (list_any-append (is_name name) (take i names) (drop i names) ∙ ap (λ b. b || has (drop i names) name) is)

-- what a set has to which the first of a list were added, it had or the list has
pub had_or_listed : (had : Bool) (names : List Name) (i : ℕ) (name : Name) → had || has (take i names) name ≡ true → had || has names name ≡ true
had_or_listed true names i name is = refl
had_or_listed false names i name is = has_part names i name is

-- what holds whatever an answer is holds where it is a fault
pub on_err : {T E : Type 0} (r : Result T E) {P : Type 0} → P → OnErr r P
on_err (Ok given) holds = tt
on_err (Err fault) holds = holds
