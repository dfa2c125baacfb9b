-- What a unit waits for, by the marks.
use Rattle.std.proofs.Common.{◌≡◌, ◌≢◌, ◌&&◌, ◌||◌, not, cond, ℕ, zero, suc, Bool, true, false, List, [], ◌∷◌, length, take, Option, None, Some, refl, sym, ap, subst, ◌∙◌, ⊎_elim, replicate, slice_index_or, slice_set, arith}
use Rattle.std.specs.List.{find, list_any, slice_get}
use Rattle.std.specs.List.Sorted.{IsStrictlySortedBy}
use Rattle.std.specs.Option.{unwrap_or}
use Rattle.std.proofs.lemmas.Option.{slice_get-get_or, slice_get_within}
use Rattle.host_trait.specs.Bytes.{bytes_cmp}
use Rattle.host_trait.proofs.NameOrder.{name_exact, name_itself}
use Rattle.start_order.specs.declared.edge.Edge.{Edge}
use Rattle.start_order.specs.declared.marks.Marks.{Marks}
use Rattle.start_order.specs.Edges.{edge_cmp}
use Rattle.start_order.specs.Graph.{AreMarks, ArePlaces, befores_of, is_open}
use Rattle.start_order.specs.Order.{waits_for}
use Rattle.start_order.proofs.GraphLemmas.{no_row, one_place, same_or_other}
use Rattle.start_order.proofs.OrderLemmas.{placed}
use Rattle.start_order.proofs.WaitLemmas.{waits_by_befores}
use Rattle.switch_names.specs.Names.{Name, has, is_name}

twice_not : (b : Bool) → not (not b) ≡ b
twice_not true = refl
twice_not false = refl

set_here : {X : Type 0} (xs : List X) (k : ℕ) (x y : X) → slice_get (slice_set xs k y) k ≡ Some x → y ≡ x
set_here [] k x y at = absurd (let no : None ≡ Some x = at in cc)
set_here (z ∷ xs) zero x y at = cc
set_here (z ∷ xs) (suc k) x y at = set_here xs k x y at

set_other : {X : Type 0} (xs : List X) (j k : ℕ) (y : X) → j ≢ k → slice_get (slice_set xs k y) j ≡ slice_get xs j
set_other [] j k y apart = refl
set_other (z ∷ xs) zero zero y apart = absurd (apart refl)
set_other (z ∷ xs) zero (suc k) y apart = refl
set_other (z ∷ xs) (suc j) zero y apart = refl
set_other (z ∷ xs) (suc j) (suc k) y apart = set_other xs j k y (λ same. apart (ap suc same))

set_length : {X : Type 0} (xs : List X) (k : ℕ) (y : X) → length (slice_set xs k y) ≡ length xs
set_length [] k y = refl
set_length (z ∷ xs) zero y = refl
set_length (z ∷ xs) (suc k) y = ap suc (set_length xs k y)

module _ (units : List Name) (edges : List Edge) (left : List Name) (marks : Marks) (are : AreMarks units edges left marks) where
  open_by : (place : ℕ) (unit : Name) (o : Option Bool) → slice_get marks.taken place ≡ o → slice_get units place ≡ Some unit → not (unwrap_or o true) ≡ has left unit
  open_by place unit (Some is) at here = ap not (are.taken place unit is here at) ∙ twice_not (has left unit)
  open_by place unit None at here =
      let within = slice_get_within units place unit here in
      let there : slice_get marks.taken place ≡ Some (slice_index_or marks.taken place true) = slice_get-get_or marks.taken place true (omega (arith, within, are.many_taken)) in
      absurd (let no : None ≡ Some (slice_index_or marks.taken place true) = sym at ∙ there in cc)

  -- the unit at a place is left where it isn't taken
  pub open_is : (place : ℕ) (unit : Name) → slice_get units place ≡ Some unit → is_open marks.taken place ≡ has left unit
  open_is place unit here = open_by place unit (slice_get marks.taken place) refl here

  pub any_open : (row : List ℕ) (names : List Name) (count : ℕ) → ArePlaces units row names → list_any (is_open marks.taken) (take count row) ≡ list_any (has left) (take count names)
  any_open row names zero places = refl
  any_open [] [] (suc count) places = refl
  any_open [] (name ∷ names) (suc count) places = absurd (cc)
  any_open (place ∷ row) [] (suc count) places = absurd (cc)
  any_open (place ∷ row) (name ∷ names) (suc count) places =
      let here : slice_get units place ≡ Some name = cc in
      let rest : ArePlaces units row names = cc in
      ap (λ b. b || list_any (is_open marks.taken) (take count row)) (open_is place name here) ∙ ap (λ b. has left name || b) (any_open row names count rest)

  lacks : (a b : Bool) → a || b ≡ false → (a ≡ false) × (b ≡ false)
  lacks true b is = absurd (let no : true ≡ false = is in cc)
  lacks false b is = (refl, is)

  none_more : (row : List ℕ) (names : List Name) (count : ℕ) → ArePlaces units row names → list_any (has left) (take count names) ≡ false → slice_get row count ≡ None → find (has left) names ≡ None
  none_more row [] count places passed none = refl
  none_more [] (name ∷ names) count places passed none = absurd (cc)
  none_more (place ∷ row) (name ∷ names) zero places passed none = absurd (let no : Some place ≡ None = none in cc)
  none_more (place ∷ row) (name ∷ names) (suc count) places passed none =
      let parts = lacks (has left name) (list_any (has left) (take count names)) passed in
      let rest : ArePlaces units row names = cc in
      ap (λ b. cond b (Some name) (find (has left) names)) parts.0 ∙ none_more row names count rest parts.1 none

  next_one : (row : List ℕ) (names : List Name) (count place : ℕ) → ArePlaces units row names → list_any (has left) (take count names) ≡ false → slice_get row count ≡ Some place →
      is_open marks.taken place ≡ true → find (has left) names ≡ slice_get units place
  next_one [] names count place places passed at is_open_now = absurd (let no : None ≡ Some place = at in cc)
  next_one (p ∷ row) [] count place places passed at is_open_now = absurd (cc)
  next_one (p ∷ row) (name ∷ names) zero place places passed at is_open_now =
      let here : slice_get units p ≡ Some name = cc in
      let same : p ≡ place = cc in
      let is_left : has left name ≡ true = sym (open_is p name here) ∙ ap (is_open marks.taken) same ∙ is_open_now in
      ap (λ b. cond b (Some name) (find (has left) names)) is_left ∙ sym here ∙ ap (slice_get units) same
  next_one (p ∷ row) (name ∷ names) (suc count) place places passed at is_open_now =
      let parts = lacks (has left name) (list_any (has left) (take count names)) passed in
      let rest : ArePlaces units row names = cc in
      ap (λ b. cond b (Some name) (find (has left) names)) parts.0 ∙ next_one row names count place rest parts.1 at is_open_now

  -- the first of those before a unit that isn't taken is what it waits for
  pub waits_by_row : (row : List ℕ) (unit : Name) (count : ℕ) (o : Option Name) → IsStrictlySortedBy edge_cmp edges → IsStrictlySortedBy bytes_cmp left → ArePlaces units row (befores_of edges unit) →
      list_any (is_open marks.taken) (take count row) ≡ false → ((place : ℕ) → slice_get row count ≡ Some place → is_open marks.taken place ≡ true) →
      (slice_get row count ≡ None → o ≡ None) → ((place : ℕ) → slice_get row count ≡ Some place → o ≡ slice_get units place) → o ≡ waits_for edges left unit
  waits_by_row row unit count o sorted_edges sorted_left places passed next none some =
      by_item (slice_get row count) refl ∙ sym (waits_by_befores edges left unit sorted_edges sorted_left)
    where
      by_item : (item : Option ℕ) → slice_get row count ≡ item → o ≡ find (has left) (befores_of edges unit)
      by_item None at = none at ∙ sym (none_more row (befores_of edges unit) count places (sym (any_open row (befores_of edges unit) count places) ∙ passed) at)
      by_item (Some place) at =
          some place at ∙ sym (next_one row (befores_of edges unit) count place places (sym (any_open row (befores_of edges unit) count places) ∙ passed) at (next place at))

  -- more of those before a unit are known to be taken
  pub more_passed : (at count : ℕ) (unit : Name) → slice_get units at ≡ Some unit → list_any (has left) (take count (befores_of edges unit)) ≡ false →
      AreMarks units edges left (record { taken = marks.taken; passed = slice_set marks.passed at count })
  more_passed at count unit here none = record {
    many_taken = are.many_taken;
    many_passed = set_length marks.passed at count ∙ are.many_passed;
    taken = are.taken;
    passed = λ k other n first second.
        ⊎_elim
        (λ same.
        let same_unit : unit ≡ other = let both : Some unit ≡ Some other = sym here ∙ ap (slice_get units) (sym same) ∙ first in cc in
        let same_count : count ≡ n = set_here marks.passed at n count (ap (slice_get (slice_set marks.passed at count)) (sym same) ∙ second) in
        subst (λ m. list_any (has left) (take m (befores_of edges other)) ≡ false) same_count (subst (λ u. list_any (has left) (take count (befores_of edges u)) ≡ false) same_unit none))
        (λ apart. are.passed k other n first (sym (set_other marks.passed k at count apart) ∙ second))
        (same_or_other k at);
  }

  fewer_any : (rest names : List Name) → ((name : Name) → has left name ≡ false → has rest name ≡ false) → list_any (has left) names ≡ false → list_any (has rest) names ≡ false
  fewer_any rest [] fewer none = refl
  fewer_any rest (name ∷ names) fewer none =
      let parts = lacks (has left name) (list_any (has left) names) none in
      ap (λ b. b || list_any (has rest) names) (fewer name parts.0) ∙ fewer_any rest names fewer parts.1

  gone_too : (a b : Bool) → b ≡ false → (not a && b) ≡ false
  gone_too true b is = refl
  gone_too false b is = is

  not_it : (k at : ℕ) (one unit : Name) → slice_get units k ≡ Some one → slice_get units at ≡ Some unit → IsStrictlySortedBy bytes_cmp units → k ≢ at → (b : Bool) → is_name one unit ≡ b → b ≡ false
  not_it k at one unit first second sorted apart false is = refl
  not_it k at one unit first second sorted apart true is = absurd (apart (one_place units k at unit sorted (first ∙ ap (λ n. Some n) (name_exact one unit is)) second))

  -- a unit is taken
  pub taken_marks : (rest : List Name) (at : ℕ) (unit : Name) → IsStrictlySortedBy bytes_cmp units → slice_get units at ≡ Some unit → ((other : Name) → has rest other ≡ (not (is_name other unit) && has left other)) →
      AreMarks units edges rest (record { taken = slice_set marks.taken at true; passed = marks.passed })
  taken_marks rest at unit sorted here fewer = record {
    many_taken = set_length marks.taken at true ∙ are.many_taken;
    many_passed = are.many_passed;
    taken = λ k other is first second.
        ⊎_elim
        (λ same.
        let same_unit : unit ≡ other = let both : Some unit ≡ Some other = sym here ∙ ap (slice_get units) (sym same) ∙ first in cc in
        let now : true ≡ is = set_here marks.taken at is true (ap (slice_get (slice_set marks.taken at true)) (sym same) ∙ second) in
        sym now ∙ ap not (sym (fewer other ∙ ap (λ b. not b && has left other) (ap (is_name other) same_unit ∙ name_itself other))))
        (λ apart.
        are.taken k other is first (sym (set_other marks.taken k at true apart) ∙ second)
        ∙ ap not (sym (fewer other ∙ ap (λ b. not b && has left other) (not_it k at other unit first here sorted apart (is_name other unit) refl))))
        (same_or_other k at);
    passed = λ k other n first second. fewer_any rest (take n (befores_of edges other)) (λ name none. fewer name ∙ gone_too (is_name name unit) (has left name) none) (are.passed k other n first second);
  }

-- no unit is taken
pub none_taken : (units : List Name) (edges : List Edge) (left : List Name) (marks : Marks) → ((unit : Name) → has left unit ≡ has units unit) → length marks.taken ≡ length units → length marks.passed ≡ length units →
    marks.taken ≡ replicate (length units) false → marks.passed ≡ replicate (length units) 0 → AreMarks units edges left marks
none_taken units edges left marks all many_taken many_passed taken passed = record {
  many_taken = many_taken;
  many_passed = many_passed;
  taken = λ k unit is first second.
      sym (no_row (length units) k false is (sym (ap (λ xs. slice_get xs k) taken) ∙ second)) ∙ ap not (sym (all unit ∙ placed units k unit first));
  passed = λ k unit n first second.
      ap (λ m. list_any (has left) (take m (befores_of edges unit))) (sym (no_row (length units) k 0 n (sym (ap (λ xs. slice_get xs k) passed) ∙ second)));
}
