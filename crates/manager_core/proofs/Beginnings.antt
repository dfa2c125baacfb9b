-- The first lines of a state's text are a state's text, so there is one first fault.
use Rattle.std.proofs.Common.{◌≡◌, ℕ, ◌-◌, ◌<◌, ◌≤◌, zero, suc, nat_lt, ◌==◌, true, false, cond, List, [], ◌∷◌, ◌++◌, length, take, drop, map, refl, sym, ap, ◌∙◌, subst, inl, inr, append_assoc, arith}
use Rattle.std.proofs.lemmas.List.{append-nil, length-take-le, take-append-drop}
use Rattle.std.proofs.lemmas.List.Concat.{flat_map-append}
use Rattle.host_trait.specs.States.{listed_states}
use Rattle.host_trait.specs.declared.manager_state.ManagerState.{ManagerState}
use Rattle.manager_core.specs.declared.line.Line.{Line}
use Rattle.manager_core.specs.declared.line.Line.TheVariants as line
use Rattle.manager_core.specs.Placing.{added, only_loaded}
use Rattle.manager_core.specs.StateText.{IsFirstFault, IsLine, IsReadable, IsStateText, first_lines, line_text, lines_text, state_lines, state_text}
use Rattle.manager_core.proofs.Counting.{lines_before}
use Rattle.manager_core.proofs.Growth.{added_lines, begun_lines}
use Rattle.manager_core.proofs.Order.{front_of, may}
use Rattle.manager_core.proofs.Splitting.{AreLines, not_empty, one_first}
use Rattle.switch_names.proofs.Below.{less_from_test}

-- lines that follow those of a state in a longer one make a state with them
grow : (later state : ManagerState) (front back : List Line) → state_lines later ≡ state_lines state ++ (front ++ back) → AreLines front
    → (grown : ManagerState) × (state_lines grown ≡ state_lines state ++ front)
grow later state [] back same are = (state, sym (append-nil (state_lines state)))
grow later state (one ∷ front) back same are =
    let lines = added_lines state one are.0 (may state later one (front ++ back) same) in
    let rest : state_lines later ≡ state_lines (added one state) ++ (front ++ back) =
    same ∙ sym (append_assoc (state_lines state) (one ∷ []) (front ++ back)) ∙ ap (λ ls. ls ++ (front ++ back)) (sym lines) in
    let grown = grow later (added one state) front back rest are.1 in
    (grown.0, grown.1 ∙ ap (λ ls. ls ++ front) lines ∙ append_assoc (state_lines state) (one ∷ []) front)

first_of : (state : ManagerState) (front back : List Line) → IsReadable state → state_lines state ≡ line.Loaded state.loaded ∷ (front ++ back) → AreLines (line.Loaded state.loaded ∷ front)
    → IsStateText (lines_text (line.Loaded state.loaded ∷ front))
first_of state front back readable same are =
    let begun = begun_lines state.loaded in
    let grown = grow state (only_loaded state.loaded) front back (same ∙ ap (λ ls. ls ++ (front ++ back)) (sym begun)) are.1 in
    let lines : state_lines grown.0 ≡ line.Loaded state.loaded ∷ front = grown.1 ∙ ap (λ ls. ls ++ front) begun in
    (grown.0, record { readable = subst AreLines (sym lines) are; spelled = ap lines_text (sym lines) })

nothing_left : (count : ℕ) → first_lines count [] ≡ []
nothing_left zero = refl
nothing_left (suc count) = refl

-- so many lines of a list, where it has as many
some_lines : (lines front back : List Line) (count : ℕ) → AreLines lines → lines ≡ front ++ back → count ≡ length front → first_lines count (lines_text lines) ≡ lines_text front
some_lines lines front back count are same is =
    let parts = front_of IsLine front back (subst AreLines same are) in
    ap (λ ls. first_lines count (lines_text ls)) same
    ∙ ap (first_lines count) (flat_map-append (λ one. line_text one ++ 10 ∷ []) front back)
    ∙ lines_before front (lines_text back) count 0 parts.0 (omega arith)
    ∙ append-nil (lines_text front)

all_lines : (lines : List Line) (count : ℕ) → AreLines lines → length lines ≤ count → first_lines count (lines_text lines) ≡ lines_text lines
all_lines lines count are within =
    ap (first_lines count) (sym (append-nil (lines_text lines)))
    ∙ lines_before lines [] count (count - length lines) are (omega arith)
    ∙ ap (λ t. lines_text lines ++ t) (nothing_left (count - length lines)) ∙ append-nil (lines_text lines)

-- the first lines of a state's text
pub first_is_text : (state : ManagerState) (count : ℕ) → IsReadable state → IsStateText (first_lines (suc count) (state_text state))
first_is_text state count readable =
    elim (nat_lt count (length (state_lines state))) as (λ b. nat_lt count (length (state_lines state)) ≡ b → IsStateText (first_lines (suc count) (state_text state))) [
      | false ↦ λ e. subst IsStateText (sym (all_lines (state_lines state) (suc count) readable (grind arith))) (state, record { readable = readable; spelled = refl })
      | true ↦ λ e.
          let rest = map line.State (listed_states state.states) ++ (map line.Bad state.bad ++ map line.Entry state.journal) in
          let front = take count rest in
          let back = drop count rest in
          let within : count ≤ length rest = grind arith in
          let size : length front ≡ count = length-take-le count rest within in
          let same : state_lines state ≡ line.Loaded state.loaded ∷ (front ++ back) = ap (λ ls. line.Loaded state.loaded ∷ ls) (sym (take-append-drop count rest)) in
          let are = front_of IsLine (line.Loaded state.loaded ∷ front) back (subst AreLines same readable) in
          subst IsStateText (sym (some_lines (state_lines state) (line.Loaded state.loaded ∷ front) back (suc count) readable same (ap suc (sym size))))
          (first_of state front back readable same are.0)
    ] refl

-- the first lines of the first lines
within : (few many : ℕ) (bytes : List ℕ) → few ≤ many → first_lines few (first_lines many bytes) ≡ first_lines few bytes
within zero many bytes le = refl
within (suc few) zero bytes le = absurd (omega arith)
within (suc few) (suc many) [] le = refl
within (suc few) (suc many) (byte ∷ bytes) le =
    elim (byte == 10) as (λ b. byte ∷ first_lines (cond b few (suc few)) (first_lines (cond b many (suc many)) bytes) ≡ byte ∷ first_lines (cond b few (suc few)) bytes) [
      | true ↦ ap (λ t. byte ∷ t) (within few many bytes (omega arith))
      | false ↦ ap (λ t. byte ∷ t) (within (suc few) (suc many) bytes le)
    ]

none_is_no_text : IsStateText [] → ⊥
none_is_no_text some =
    let state = some.0 in
    let rest = map line.State (listed_states state.states) ++ (map line.Bad state.bad ++ map line.Entry state.journal) in
    not_empty (line_text (line.Loaded state.loaded)) (lines_text rest) (sym (one_first (line.Loaded state.loaded) rest) ∙ sym some.1.spelled)

-- no line before the first fault is one
before_fault : (bytes : List ℕ) (few many : ℕ) → IsFirstFault bytes few → IsFirstFault bytes many → few < many → ⊥
before_fault bytes zero many f g less = elim f.before [
  | inl one ↦ absurd (omega (arith, one))
  | inr some ↦ none_is_no_text some
]
before_fault bytes (suc few) many f g less = elim g.before [
  | inl one ↦ absurd (omega (arith, one))
  | inr some ↦
      let state = some.0 in
      let fewer : suc few ≤ many - 1 = omega arith in
      let same : first_lines (suc few) (state_text state) ≡ first_lines (suc few) bytes = ap (first_lines (suc few)) (sym some.1.spelled) ∙ within (suc few) (many - 1) bytes fewer in
      f.none (subst IsStateText same (first_is_text state few some.1.readable))
]

same_by : (one other : ℕ) → nat_lt one other ≡ false → nat_lt other one ≡ false → one ≡ other
same_by one other is not = grind arith

-- there is one first fault at most
pub one_fault : (bytes : List ℕ) (one other : ℕ) → IsFirstFault bytes one → IsFirstFault bytes other → one ≡ other
one_fault bytes one other f g =
    elim (nat_lt one other) as (λ b. nat_lt one other ≡ b → one ≡ other) [
      | true ↦ λ e. absurd (before_fault bytes one other f g (less_from_test one other e))
      | false ↦ λ e. elim (nat_lt other one) as (λ b. nat_lt other one ≡ b → one ≡ other) [
        | true ↦ λ h. absurd (before_fault bytes other one g f (less_from_test other one h))
        | false ↦ λ h. same_by one other e h
      ] refl
    ] refl
