-- The list of what was written, from which the last is taken again.
use Rattle.std.proofs.Common.{◌≡◌, List, [], ◌∷◌, ◌++◌, length, take, drop, Result, Ok, Err, OnErr, refl, sym}

-- a list to which one was put and from which the last was taken is as it was
pub taken_again : {X : Type 0} (before now : List X) (put taken : X) → before ++ put ∷ [] ≡ take (length before) now ++ taken ∷ drop (length before) now → now ≡ before
taken_again [] [] put taken is = refl
taken_again [] (y ∷ now) put taken is = absurd cc
taken_again (x ∷ before) [] put taken is = absurd (none_left before put (let rest : before ++ put ∷ [] ≡ [] = cc in rest))
  where
    none_left : {X : Type 0} (before : List X) (put : X) → before ++ put ∷ [] ≡ [] → ⊥
    none_left [] put is = cc
    none_left (x ∷ before) put is = cc
taken_again (x ∷ before) (y ∷ now) put taken is =
    let first : x ≡ y = cc in
    let rest : before ++ put ∷ [] ≡ take (length before) now ++ taken ∷ drop (length before) now = cc in
    (λ i. sym first i ∷ taken_again before now put taken rest i)

pub on_err_as : {T E P Q : Type 0} (r : Result T E) → (P → Q) → OnErr r P → OnErr r Q
on_err_as (Ok x) f p = tt
on_err_as (Err e) f p = f p
