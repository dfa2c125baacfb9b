-- The order in which lines stand.
use Rattle.std.proofs.Common.{◌≡◌, ℕ, ◌-◌, suc, ◌==◌, ◌&&◌, Bool, true, false, List, [], ◌∷◌, ◌++◌, length, map, T, refl, sym, ap, ◌∙◌, subst, arith}
use Rattle.std.specs.List.{AllByRecursion, slice_get}
use Rattle.std.specs.Option.{option_map_or}
use Rattle.std.specs.Ordering.{is_lt}
use Rattle.std.specs.FinMap.{entries, entries_sorted, is_sorted}
use Rattle.std.specs.FinMap.Entries.{below_all}
use Rattle.std.proofs.lemmas.Bool.{both_ways}
use Rattle.host_trait.specs.Bytes.{bytes_cmp}
use Rattle.host_trait.specs.States.{listed_states}
use Rattle.host_trait.specs.declared.entry.Bad.{Bad}
use Rattle.host_trait.specs.declared.entry.Entry.{Entry}
use Rattle.host_trait.specs.declared.manager_state.ManagerState.{ManagerState}
use Rattle.host_trait.specs.declared.unit_state.State.{State}
use Rattle.host_trait.specs.declared.unit_state.UnitState.{UnitState}
use Rattle.manager_core.specs.declared.line.Line.{Line}
use Rattle.manager_core.specs.declared.line.Line.TheVariants as line
use Rattle.manager_core.specs.Placing.{is_above, may_stand}
use Rattle.manager_core.specs.StateText.{state_lines}

-- the first line may stand somewhere before the second
abbrev pub precedes : Line → Line → Bool
precedes one (line.Loaded text) = false
precedes (line.Loaded text) (line.State b) = true
precedes (line.State a) (line.State b) = is_lt (bytes_cmp a.unit b.unit)
precedes (line.Bad a) (line.State b) = false
precedes (line.Entry a) (line.State b) = false
precedes (line.Loaded text) (line.Bad b) = true
precedes (line.State a) (line.Bad b) = true
precedes (line.Bad a) (line.Bad b) = true
precedes (line.Entry a) (line.Bad b) = false
precedes one (line.Entry b) = true

-- each line may stand before the later ones
abbrev pub AreInOrder : List Line → Type 0
AreInOrder [] = Unit {0}
AreInOrder (one ∷ lines) = AllByRecursion (λ later. precedes one later ≡ true) lines × AreInOrder lines

-- what precedes a line
pub before_line : (front : List Line) (one : Line) (back : List Line) → AreInOrder (front ++ one ∷ back) → AllByRecursion (λ earlier. precedes earlier one ≡ true) front
before_line [] one back h = tt
before_line (x ∷ front) one back h = (at_line front h.0, before_line front one back h.1)
  where
    at_line : (front : List Line) → AllByRecursion (λ later. precedes x later ≡ true) (front ++ one ∷ back) → precedes x one ≡ true
    at_line [] h = h.0
    at_line (y ∷ front) h = at_line front h.1

-- ---- the lines of a state are in order

pub join_all : {X : Type 0} (P : X → Type 0) (front back : List X) → AllByRecursion P front → AllByRecursion P back → AllByRecursion P (front ++ back)
join_all P [] back f b = b
join_all P (x ∷ front) back f b = (f.0, join_all P front back f.1 b)

-- those of one sort
each_is : {X : Type 0} (P : Line → Type 0) (f : X → Line) (xs : List X) → ((x : X) → P (f x)) → AllByRecursion P (map f xs)
each_is P f [] h = tt
each_is P f (x ∷ xs) h = (h x, each_is P f xs h)

entries_order : (journal : List Entry) → AreInOrder (map line.Entry journal)
entries_order [] = tt
entries_order (one ∷ journal) = (each_is _ line.Entry journal (λ x. refl), entries_order journal)

bad_order : (bad : List Bad) (journal : List Entry) → AreInOrder (map line.Bad bad ++ map line.Entry journal)
bad_order [] journal = entries_order journal
bad_order (one ∷ bad) journal =
    (join_all _ (map line.Bad bad) (map line.Entry journal) (each_is _ line.Bad bad (λ x. refl)) (each_is _ line.Entry journal (λ x. refl)), bad_order bad journal)

pub both_of : (a b : Bool) → T (a && b) → T a × T b
both_of true b h = (tt, h)
both_of false b h = absurd h

pub true_is : (b : Bool) → T b → b ≡ true
true_is true h = refl
true_is false h = absurd h

abbrev unit_line : List ℕ × State → Line
unit_line e = line.State (record { unit = e.0; state = e.1 })

higher : (one : List ℕ × State) (es : List (List ℕ × State)) → T (below_all bytes_cmp one.0 es) → AllByRecursion (λ later. precedes (unit_line one) later ≡ true) (map unit_line es)
higher one [] h = tt
higher one (e ∷ es) h = let parts = both_of _ _ h in (true_is _ parts.0, higher one es parts.1)

units_order : (es : List (List ℕ × State)) (bad : List Bad) (journal : List Entry) → T (is_sorted bytes_cmp es) → AreInOrder (map unit_line es ++ (map line.Bad bad ++ map line.Entry journal))
units_order [] bad journal h = bad_order bad journal
units_order (e ∷ es) bad journal h =
    let parts = both_of _ _ h in
    let others = join_all _ (map line.Bad bad) (map line.Entry journal) (each_is _ line.Bad bad (λ x. refl)) (each_is _ line.Entry journal (λ x. refl)) in
    (join_all _ (map unit_line es) (map line.Bad bad ++ map line.Entry journal) (higher e es parts.0) others, units_order es bad journal parts.1)

units_are : (es : List (List ℕ × State)) → map line.State (map (λ (e : List ℕ × State). record { unit = e.0; state = e.1 }) es) ≡ map unit_line es
units_are [] = refl
units_are (e ∷ es) = ap (λ lines. unit_line e ∷ lines) (units_are es)

-- the lines of a state, its units as entries
abbrev pub all_lines : ManagerState → List Line
all_lines state = line.Loaded state.loaded ∷ (map unit_line (entries state.states) ++ (map line.Bad state.bad ++ map line.Entry state.journal))

pub lines_are : (state : ManagerState) → state_lines state ≡ all_lines state
lines_are state = ap (λ units. line.Loaded state.loaded ∷ (units ++ (map line.Bad state.bad ++ map line.Entry state.journal))) (units_are (entries state.states))

pub lines_order : (state : ManagerState) → AreInOrder (state_lines state)
lines_order state = subst AreInOrder (sym (lines_are state)) (
  join_all _ (map unit_line (entries state.states)) (map line.Bad state.bad ++ map line.Entry state.journal) (each_is _ unit_line (entries state.states) (λ x. refl))
      (join_all _ (map line.Bad state.bad) (map line.Entry state.journal) (each_is _ line.Bad state.bad (λ x. refl)) (each_is _ line.Entry state.journal (λ x. refl))),
  units_order (entries state.states) state.bad state.journal (entries_sorted state.states),
)

-- ---- what may stand next

no_more : {X : Type 0} (f : X → Line) (xs : List X) (one : Line) → ((x : X) → precedes (f x) one ≡ false) → AllByRecursion (λ earlier. precedes earlier one ≡ true) (map f xs) → xs ≡ []
no_more f [] one never h = refl
no_more f (x ∷ xs) one never h = absurd (both_ways _ (never x) h.0)

pub front_of : {X : Type 0} (P : X → Type 0) (front back : List X) → AllByRecursion P (front ++ back) → AllByRecursion P front × AllByRecursion P back
front_of P [] back h = (tt, h)
front_of P (x ∷ front) back h = let rest = front_of P front back h.1 in ((h.0, rest.0), rest.1)

-- the last of these is lower, where each is
last_is_lower : (units : List UnitState) (one : UnitState) → AllByRecursion (λ earlier. precedes earlier (line.State one) ≡ true) (map line.State units) → is_above units one.unit ≡ true
last_is_lower [] one h = refl
last_is_lower (a ∷ []) one h = h.0
last_is_lower (a ∷ b ∷ units) one h =
    let last : length (a ∷ b ∷ units) - 1 ≡ suc (length (b ∷ units) - 1) = omega arith in
    ap (λ k. option_map_or (λ (u : UnitState). is_lt (bytes_cmp u.unit one.unit)) (slice_get (a ∷ b ∷ units) k) true) last ∙ last_is_lower (b ∷ units) one h.1

-- a line that stands after those of a state may stand there
pub may : (state later : ManagerState) (one : Line) (more : List Line) → state_lines later ≡ state_lines state ++ one ∷ more → may_stand one state ≡ true
may state later one more same =
    let earlier = before_line (state_lines state) one more (subst AreInOrder same (lines_order later)) in
    let parts = front_of _ (map line.State (listed_states state.states)) (map line.Bad state.bad ++ map line.Entry state.journal) earlier.1 in
    let others = front_of _ (map line.Bad state.bad) (map line.Entry state.journal) parts.1 in
    elim one as (λ one. AllByRecursion (λ earlier. precedes earlier one ≡ true) (state_lines state)
    → AllByRecursion (λ earlier. precedes earlier one ≡ true) (map line.State (listed_states state.states))
    → AllByRecursion (λ earlier. precedes earlier one ≡ true) (map line.Bad state.bad)
    → AllByRecursion (λ earlier. precedes earlier one ≡ true) (map line.Entry state.journal) → may_stand one state ≡ true) [
      | line.Loaded text ↦ λ all units bad journal. absurd (both_ways false refl all.0)
      | line.State a ↦ λ all units bad journal.
          ap (λ bs. length bs == 0 && (length state.journal == 0 && is_above (listed_states state.states) a.unit)) (no_more line.Bad state.bad (line.State a) (λ x. refl) bad)
          ∙ ap (λ es. length es == 0 && is_above (listed_states state.states) a.unit) (no_more line.Entry state.journal (line.State a) (λ x. refl) journal)
          ∙ last_is_lower (listed_states state.states) a units
      | line.Bad a ↦ λ all units bad journal. ap (λ es. length es == 0) (no_more line.Entry state.journal (line.Bad a) (λ x. refl) journal)
      | line.Entry a ↦ λ all units bad journal. refl
    ] earlier parts.0 others.0 others.1
