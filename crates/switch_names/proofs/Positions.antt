-- Where `position` finds nothing, and what it finds behind that.
use Rattle.std.proofs.Common.{◌≡◌, ℕ, ◌+◌, ◌<◌, ◌≤◌, Bool, true, false, cond, not, List, [], ◌∷◌, ◌++◌, length, get_or, take, position, nat_lt, Decides, None, Some, option_map, refl, sym, ap, ◌∙◌, arith, length-append}
use Rattle.std.specs.List.{All, position_or_len}
use Rattle.std.proofs.lemmas.Bool.Decides.{Decides-ltb, same_from_decides}
use Rattle.std.proofs.lemmas.List.{get_or-take, length-take-le}
use Rattle.std.proofs.lemmas.List.Elements.{All-head, All-tail}
use Rattle.std.proofs.lemmas.List.Sums.{fails_before_first, position_or_len_is}
use Rattle.std.proofs.lemmas.Grind.{common_steps}

-- no element passes
pub All-from_no_position : (p : ℕ → Bool) (xs : List ℕ) → position p xs ≡ None → All (λ x. p x ≡ false) xs
All-from_no_position p xs none =
    let past : length xs ≤ position_or_len p xs = grind (arith, common_steps) in
    λ k d l. fails_before_first p xs k d (omega arith)

-- where no element passes, there is no place of one
pub no_position-from_All : (p : ℕ → Bool) (xs : List ℕ) → All (λ x. p x ≡ false) xs → position p xs ≡ None
no_position-from_All p xs all =
    let end : position_or_len p xs ≡ length xs = position_or_len_is p xs (length xs) 0 (omega arith) (λ k l. all k 0 l) (λ l. absurd (omega arith)) in
    grind (arith, common_steps)

-- the first element that passes, where none before it does
pub position_at : (p : ℕ → Bool) (xs : List ℕ) (i : ℕ) → i < length xs → All (λ x. p x ≡ false) (take i xs) → p (get_or xs i 0) ≡ true → position p xs ≡ Some i
position_at p xs i within before at =
    let len : length (take i xs) ≡ i = length-take-le i xs (omega (arith, within)) in
    let place : position_or_len p xs ≡ i =
    position_or_len_is p xs i 0 (omega (arith, within)) (λ k less. ap p (sym (get_or-take i xs k 0 less)) ∙ before k 0 (omega (arith, len, less))) (λ l. at) in
    ap (λ n. cond (nat_lt n (length xs)) (Some n) None) place ∙ ap (λ b. cond b (Some i) None) ((Decides-ltb i (length xs)).1 within)

-- elements of which none passes are passed over
len_past : (p : ℕ → Bool) (front more : List ℕ) → All (λ x. p x ≡ false) front → position_or_len p (front ++ more) ≡ length front + position_or_len p more
len_past p [] more all = omega arith
len_past p (x ∷ front) more all =
    let rest = len_past p front more (All-tail (λ y. p y ≡ false) x front all) in
    ap (λ b. cond (not b) (1 + position_or_len p (front ++ more)) 0) (All-head (λ y. p y ≡ false) x front all) ∙ omega (arith, rest)

pub position_past : (p : ℕ → Bool) (front more : List ℕ) → All (λ x. p x ≡ false) front → position p (front ++ more) ≡ option_map (λ at. length front + at) (position p more)
position_past p front more all =
    let place = len_past p front more all in
    let len = length-append front more in
    (λ i. cond (nat_lt (place i) (len i)) (Some (place i)) None)
    ∙ ap (λ b. cond b (Some (length front + position_or_len p more)) None) same
    ∙ moved (nat_lt (position_or_len p more) (length more))
  where
    same : nat_lt (length front + position_or_len p more) (length front + length more) ≡ nat_lt (position_or_len p more) (length more)
    same =
        let behind = Decides-ltb (length front + position_or_len p more) (length front + length more) in
        let alone = Decides-ltb (position_or_len p more) (length more) in
        let moved_test : Decides (nat_lt (length front + position_or_len p more) (length front + length more)) (position_or_len p more < length more) =
        (λ is. let less = behind.0 is in omega (arith, less), λ less. behind.1 (omega (arith, less))) in
        same_from_decides _ _ moved_test alone

    moved : (b : Bool) → cond b (Some (length front + position_or_len p more)) None ≡ option_map (λ at. length front + at) (cond b (Some (position_or_len p more)) None)
    moved true = refl
    moved false = refl
