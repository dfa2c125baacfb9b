-- The text of a state round the line of a unit, and what an act makes of it.
use Rattle.std.proofs.Common.{◌≡◌, ℕ, ◌+◌, ◌≤◌, List, [], ◌∷◌, ◌++◌, length, take, drop, map, refl, sym, ap, ◌∙◌, subst, arith}
use Rattle.std.proofs.lemmas.List.{append_assoc, length-append, map-append}
use Rattle.std.proofs.lemmas.List.Concat.{flat_map-append}
use Rattle.std.specs.List.{AllByRecursion}
use Rattle.switch_names.specs.UnitName.{IsUnitName}
use Rattle.host_trait.specs.Manager.{acted, state_after}
use Rattle.host_trait.specs.States.{listed_states, state_of}
use Rattle.host_trait.specs.declared.entry.Act.{Act}
use Rattle.host_trait.specs.declared.entry.Bad.{Bad}
use Rattle.host_trait.specs.declared.entry.Entry.{Entry}
use Rattle.host_trait.specs.declared.manager_state.ManagerState.{ManagerState}
use Rattle.host_trait.specs.declared.unit_state.State.{State}
use Rattle.host_trait.specs.declared.unit_state.State.TheVariants.{Active, Inactive, Failed}
use Rattle.host_trait.specs.declared.unit_state.UnitState.{UnitState}
use Rattle.manager_core.specs.StateText.{IsLine, IsReadable, IsTextOf, line_text, lines_text, state_text}
use Rattle.manager_core.specs.UnitLine.{IsLineAt, first_text, listed_one, unit_text}
use Rattle.manager_core.specs.declared.line.Line.{Line}
use Rattle.manager_core.specs.declared.line.Line.TheVariants as line
use Rattle.manager_core.proofs.Order.{front_of, join_all}

-- ---- texts

lines_joined : (front back : List Line) → lines_text (front ++ back) ≡ lines_text front ++ lines_text back
lines_joined front back = flat_map-append (λ l. line_text l ++ 10 ∷ []) front back

-- the lines of these units, of those that fail, and of a journal
abbrev rest_lines : List UnitState → List Bad → List Entry → List Line
rest_lines back bad journal = map line.State back ++ (map line.Bad bad ++ map line.Entry journal)

-- the lines of a state round those of some units
round_lines :
    (front own back : List UnitState) (others : List Line) →
    map line.State (front ++ (own ++ back)) ++ others ≡ map line.State front ++ (map line.State own ++ (map line.State back ++ others))
round_lines front own back others =
    ap (λ ls. ls ++ others) (map-append line.State front (own ++ back) ∙ ap (λ ls. map line.State front ++ ls) (map-append line.State own back))
    ∙ append_assoc (map line.State front) (map line.State own ++ map line.State back) others
    ∙ ap (λ ls. map line.State front ++ ls) (append_assoc (map line.State own) (map line.State back) others)

round_text : (state : ManagerState) (front own back : List UnitState) → listed_states state.states ≡ front ++ (own ++ back) →
    state_text state ≡ first_text state.loaded front ++ (lines_text (map line.State own) ++ lines_text (rest_lines back state.bad state.journal))
round_text state front own back is =
    let others = map line.Bad state.bad ++ map line.Entry state.journal in
    let first = line.Loaded state.loaded ∷ map line.State front in
    let rest = rest_lines back state.bad state.journal in
    ap (λ units. lines_text (line.Loaded state.loaded ∷ (map line.State units ++ others))) is
    ∙ ap (λ ls. lines_text (line.Loaded state.loaded ∷ ls)) (round_lines front own back others)
    ∙ lines_joined first (map line.State own ++ rest)
    ∙ ap (λ t. lines_text first ++ t) (lines_joined (map line.State own) rest)

-- an entry more is a line more
rest_more : (back : List UnitState) (bad : List Bad) (journal : List Entry) (entry : Entry) →
    lines_text (rest_lines back bad (journal ++ entry ∷ [])) ≡ lines_text (rest_lines back bad journal) ++ lines_text (line.Entry entry ∷ [])
rest_more back bad journal entry =
    let last = line.Entry entry ∷ [] in
    let units = map line.State back in
    let bads = map line.Bad bad in
    let acts = map line.Entry journal in
    ap (λ ls. lines_text (units ++ (bads ++ ls))) (map-append line.Entry journal (entry ∷ []))
    ∙ ap (λ ls. lines_text (units ++ ls)) (sym (append_assoc bads acts last))
    ∙ ap lines_text (sym (append_assoc units (bads ++ acts) last))
    ∙ lines_joined (units ++ (bads ++ acts)) last

-- ---- the places of a part of a text

taken : (a b : List ℕ) (from : ℕ) → from ≡ length a → take from (a ++ b) ≡ a
taken a b from is = ap (λ n. take n (a ++ b)) is ∙ taken_all a b
  where
    taken_all : (a b : List ℕ) → take (length a) (a ++ b) ≡ a
    taken_all [] b = refl
    taken_all (x ∷ a) b = ap (λ t. x ∷ t) (taken_all a b)

dropped : (a b : List ℕ) (from : ℕ) → from ≡ length a → drop from (a ++ b) ≡ b
dropped a b from is = ap (λ n. drop n (a ++ b)) is ∙ dropped_all a b
  where
    dropped_all : (a b : List ℕ) → drop (length a) (a ++ b) ≡ b
    dropped_all [] b = refl
    dropped_all (x ∷ a) b = dropped_all a b

-- a part in the middle is replaced
middle : (a b c d text : List ℕ) (from to : ℕ) → text ≡ a ++ (b ++ c) → from ≡ length a → to ≡ from + length b → take from text ++ (d ++ drop to text) ≡ a ++ (d ++ c)
middle a b c d text from to is begins ends =
    let long : to ≡ length (a ++ b) = ends ∙ ap (λ n. n + length b) begins ∙ sym (length-append a b) in
    ap (λ t. take from t ++ (d ++ drop to t)) is
    ∙ ap (λ t. t ++ (d ++ drop to (a ++ (b ++ c)))) (taken a (b ++ c) from begins)
    ∙ ap (λ t. a ++ (d ++ t)) (ap (drop to) (sym (append_assoc a b c)) ∙ dropped (a ++ b) c to long)

module _ (manager : ManagerState) (unit : List ℕ) (from to : ℕ) (text : List ℕ) (is : IsTextOf manager text) (at : IsLineAt manager unit from to) where
  abbrev own : List UnitState
  own = listed_one unit (state_of manager.states unit)

  abbrev before : List ℕ
  before = first_text manager.loaded at.front

  abbrev after : List ℕ
  after = lines_text (rest_lines at.back manager.bad manager.journal)

  parts : text ≡ before ++ (lines_text (map line.State own) ++ after)
  parts = is.spelled ∙ round_text manager at.front own at.back at.around.now

  one_is_line : IsUnitName unit → (state : State) → AllByRecursion IsLine (map line.State (listed_one unit state))
  one_is_line name Active = ((name, λ e. cc), tt)
  one_is_line name Inactive = tt
  one_is_line name Failed = ((name, λ e. cc), tt)

  module _ (act : Act) (name : IsUnitName unit) (is_line : IsLine (line.Entry (record { unit = unit; act = act; loaded = manager.loaded }))) where
    abbrev then : State
    then = state_after act unit manager

    abbrev entry : Entry
    entry = record { unit = unit; act = act; loaded = manager.loaded }

    acted_readable : IsReadable (acted act unit manager)
    acted_readable =
        let others = map line.Bad manager.bad ++ map line.Entry manager.journal in
        let lines : AllByRecursion IsLine (map line.State at.front ++ (map line.State own ++ (map line.State at.back ++ others))) =
        subst (AllByRecursion IsLine) (ap (λ units. map line.State units ++ others) at.around.now ∙ round_lines at.front own at.back others) is.readable.1 in
        let front = front_of IsLine (map line.State at.front) _ lines in
        let rest = front_of IsLine (map line.State own) _ front.1 in
        let back = front_of IsLine (map line.State at.back) _ rest.1 in
        let bad = front_of IsLine (map line.Bad manager.bad) _ back.1 in
        let journal : AllByRecursion IsLine (map line.Entry (manager.journal ++ entry ∷ [])) =
        subst (AllByRecursion IsLine) (sym (map-append line.Entry manager.journal (entry ∷ []))) (join_all IsLine (map line.Entry manager.journal) (line.Entry entry ∷ []) bad.1 (is_line, tt)) in
        let more = map line.Bad manager.bad ++ map line.Entry (manager.journal ++ entry ∷ []) in
        let after_all = join_all IsLine (map line.Bad manager.bad) _ bad.0 journal in (
          is.readable.0,
          subst (AllByRecursion IsLine) (sym (ap (λ units. map line.State units ++ more) (at.around.then then) ∙ round_lines at.front (listed_one unit then) at.back more))
              (join_all IsLine (map line.State at.front) _ front.0
              (join_all IsLine (map line.State (listed_one unit then)) _ (one_is_line name then) (join_all IsLine (map line.State at.back) more back.0 after_all))),
        )

    -- the text after an act
    pub acted_text :
        (own_line middle_text new : List ℕ) → own_line ≡ unit_text unit then → middle_text ≡ take from text ++ (own_line ++ drop to text) →
        new ≡ middle_text ++ lines_text (line.Entry entry ∷ []) → IsTextOf (acted act unit manager) new
    acted_text own_line middle_text new says replaced added =
        let last = lines_text (line.Entry entry ∷ []) in
        let own_text = unit_text unit then in
        record {
          readable = acted_readable;
          spelled =
              added ∙ ap (λ t. t ++ last) (replaced ∙ middle before (lines_text (map line.State own)) after own_line text from to parts at.begins at.ends ∙ ap (λ t. before ++ (t ++ after)) says)
              ∙ append_assoc before (own_text ++ after) last ∙ ap (λ t. before ++ t) (append_assoc own_text after last)
              ∙ ap (λ t. before ++ (own_text ++ t)) (sym (rest_more at.back manager.bad manager.journal entry))
              ∙ sym (round_text (acted act unit manager) at.front (listed_one unit then) at.back (at.around.then then));
        }
