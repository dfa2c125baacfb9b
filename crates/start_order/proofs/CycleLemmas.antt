-- What holds of cycles.
use Rattle.std.proofs.Common.{◌≡◌, ◌≤◌, ◌-◌, ◌++◌, ℕ, zero, suc, true, false, List, [], ◌∷◌, length, None, Some, refl, sym, subst, append_assoc, arith}
use Rattle.std.specs.List.{slice_get}
use Rattle.start_order.specs.declared.edge.Edge.{Edge}
use Rattle.start_order.specs.Cycles.{IsWalk}
use Rattle.start_order.specs.Laws.{CycleLaw}
use Rattle.start_order.specs.Order.{is_before, waits_for}
use Rattle.start_order.proofs.OrderLemmas.{found_is, never_both}
use Rattle.switch_names.specs.Names.{Name}

-- an item stands where it stood, once others come behind it
pub get_front : {X : Type 0} (xs ys : List X) (k : ℕ) (x : X) → slice_get xs k ≡ Some x → slice_get (xs ++ ys) k ≡ Some x
get_front [] ys k x is = absurd (let no : None ≡ Some x = is in cc)
get_front (y ∷ xs) ys zero x is = is
get_front (y ∷ xs) ys (suc k) x is = get_front xs ys k x is

-- the item behind a list
pub get_behind : {X : Type 0} (xs : List X) (x : X) → slice_get (xs ++ x ∷ []) (length xs) ≡ Some x
get_behind [] x = refl
get_behind (y ∷ xs) x = get_behind xs x

-- the last item is followed by what comes behind the list
after_last : (xs : List Name) (first last : Name) → slice_get xs (length xs - 1) ≡ Some last → slice_get (xs ++ first ∷ []) (suc (length xs - 1)) ≡ Some first
after_last [] first last is = absurd (let no : None ≡ Some last = is in cc)
after_last (x ∷ xs) first last is =
    let one : suc (length xs) - 1 ≡ length xs = omega arith in
    subst (λ k. slice_get (xs ++ first ∷ []) k ≡ Some first) (sym one) (get_behind xs first)

end_of_walk : (edges : List Edge) (left lead walk : List Name) → IsWalk edges left (lead ++ walk) → IsWalk edges left walk
end_of_walk edges left [] walk steps = steps
end_of_walk edges left (one ∷ lead) walk steps = end_of_walk edges left lead walk (λ k. steps (suc k))

waited : (edges : List Edge) (left : List Name) (unit next : Name) → waits_for edges left unit ≡ Some next → is_before edges next unit ≡ true
waited edges left unit next is = (found_is (λ other. is_before edges other unit) left next is).0

closed : (edges : List Edge) (left cycle : List Name) (first last : Name) → IsWalk edges left (cycle ++ first ∷ []) → slice_get cycle (length cycle - 1) ≡ Some last → is_before edges first last ≡ true
closed edges left cycle first last steps at =
    waited edges left last first (steps (length cycle - 1) last first (get_front cycle (first ∷ []) (length cycle - 1) last at) (after_last cycle first last at))

not_alone : (edges : List Edge) (left cycle : List Name) (first : Name) → ((one : Name) → is_before edges one one ≡ false) → slice_get cycle 0 ≡ Some first → IsWalk edges left (cycle ++ first ∷ []) → 2 ≤ length cycle
not_alone edges left [] first apart begins steps = absurd (let no : None ≡ Some first = begins in cc)
not_alone edges left (unit ∷ []) first apart begins steps =
    let same : unit ≡ first = cc in
    absurd (never_both (is_before edges first first) (closed edges left (unit ∷ []) first first steps begins) (apart first))
not_alone edges left (unit ∷ next ∷ cycle) first apart begins steps = omega arith

pub cycle_law : CycleLaw
cycle_law edges left unit cycle apart is =
    let steps : IsWalk edges left (cycle ++ is.first ∷ []) =
    end_of_walk edges left is.lead (cycle ++ is.first ∷ []) (subst (IsWalk edges left) (append_assoc is.lead cycle (is.first ∷ [])) is.steps) in
    record {
      two = not_alone edges left cycle is.first apart is.comes_again steps;
      steps = λ k one next at after. waited edges left one next (steps k one next (get_front cycle (is.first ∷ []) k one at) (get_front cycle (is.first ∷ []) (suc k) next after));
      closes = λ first last begins at.
          let same : is.first ≡ first = cc in
          subst (λ k. is_before edges k last ≡ true) same (closed edges left cycle is.first last steps at);
    }
