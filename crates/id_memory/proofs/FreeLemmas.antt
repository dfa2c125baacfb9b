-- The first free number among those that are left.
use Rattle.std.proofs.Common.{◌≡◌, ℕ, zero, suc, ◌+◌, ◌-◌, ◌≤◌, ◌<◌, Bool, true, false, cond, List, [], ◌∷◌, ◌++◌, Some, length, get_or, not, find, reverse, refl, sym, ap, ◌∙◌, arith}
use Rattle.std.proofs.lemmas.List.{reverse-append}
use Rattle.std.specs.List.{range_with_len}
use Rattle.id_memory.specs.Free.{is_free}

-- upwards, a number that doesn't pass is left behind
pub up_step : (p : ℕ → Bool) (id to : ℕ) → id ≤ to → p id ≡ false → find p (range_with_len (id + 1) (to + 1 - (id + 1))) ≡ find p (range_with_len id (to + 1 - id))
up_step p id to h taken =
    let more : to + 1 - id ≡ suc (to + 1 - (id + 1)) = omega arith in
    sym (ap (λ n. find p (range_with_len id n)) more ∙ ap (λ b. cond b (Some id) (find p (range_with_len (id + 1) (to + 1 - (id + 1))))) taken)

range_push : (a n : ℕ) → range_with_len a (suc n) ≡ range_with_len a n ++ (a + n) ∷ []
range_push a zero = let e : a ≡ a + 0 = omega arith in ap (λ x. x ∷ []) e
range_push a (suc n) = let e : a + 1 + n ≡ a + suc n = omega arith in ap (λ l. a ∷ l) (range_push (a + 1) n ∙ ap (λ x. range_with_len (a + 1) n ++ x ∷ []) e)

-- the last of the numbers comes first downwards
pub down_list : (to id : ℕ) → to ≤ id → reverse (range_with_len to (id + 1 - to)) ≡ id ∷ reverse (range_with_len to (id - to))
down_list to id h =
    let more : id + 1 - to ≡ suc (id - to) = omega arith in
    let top : to + (id - to) ≡ id = omega arith in
    ap (λ n. reverse (range_with_len to n)) more ∙ ap reverse (range_push to (id - to)) ∙ reverse-append (range_with_len to (id - to)) ((to + (id - to)) ∷ [])
    ∙ ap (λ x. x ∷ reverse (range_with_len to (id - to))) top

-- downwards, a number that passes is the first
pub down_here : (p : ℕ → Bool) (to id : ℕ) → to ≤ id → p id ≡ true → find p (reverse (range_with_len to (id + 1 - to))) ≡ Some id
down_here p to id h free = ap (find p) (down_list to id h) ∙ ap (λ b. cond b (Some id) (find p (reverse (range_with_len to (id - to))))) free

-- and one that doesn't is left behind
pub down_step : (p : ℕ → Bool) (to id : ℕ) → to ≤ id → p id ≡ false → find p (reverse (range_with_len to (id + 1 - to))) ≡ find p (reverse (range_with_len to (id - to)))
down_step p to id h taken = ap (find p) (down_list to id h) ∙ ap (λ b. cond b (Some id) (find p (reverse (range_with_len to (id - to))))) taken

any_default : (taken : List Bool) (id : ℕ) → id < length taken → get_or taken id true ≡ get_or taken id false
any_default [] id h = absurd (omega arith)
any_default (x ∷ taken) zero h = refl
any_default (x ∷ taken) (suc id) h = any_default taken id (omega arith)

-- what the list says of an id
pub said : (taken : List Bool) (id : ℕ) (b : Bool) → id < length taken → get_or taken id false ≡ b → is_free taken id ≡ not b
said taken id b h e = ap not (any_default taken id h ∙ e)
