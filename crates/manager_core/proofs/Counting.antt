-- The first lines of a text, and the first fault.
use Rattle.std.proofs.Common.{◌≡◌, ℕ, ◌+◌, ◌-◌, suc, None, false, cond, List, [], ◌∷◌, ◌++◌, length, map, refl, sym, ap, ◌∙◌, subst, inl, inr, arith}
use Rattle.std.proofs.lemmas.List.{append-nil}
use Rattle.host_trait.specs.States.{listed_states}
use Rattle.host_trait.specs.declared.manager_state.ManagerState.{ManagerState}
use Rattle.manager_core.specs.declared.line.Line.{Line}
use Rattle.manager_core.specs.declared.line.Line.TheVariants as line
use Rattle.manager_core.specs.Placing.{begun, stands}
use Rattle.manager_core.specs.StateText.{IsFirstFault, IsReadable, IsTextOf, first_lines, line_text, lines_text, state_lines, state_text}
use Rattle.manager_core.proofs.Lines.{line_has_no}
use Rattle.manager_core.proofs.Names.{HasNo}
use Rattle.manager_core.proofs.Readable.{blocked, first_blocked}
use Rattle.manager_core.proofs.Splitting.{AreLines, line_first, no_rest, not_ended, one_first}

-- the first of the lines
one_line : (count : ℕ) (bytes after : List ℕ) → HasNo 10 bytes → first_lines (suc count) (bytes ++ 10 ∷ after) ≡ bytes ++ 10 ∷ first_lines count after
one_line count [] after none = refl
one_line count (byte ∷ bytes) after none = ap (λ b. byte ∷ first_lines (cond b count (suc count)) (bytes ++ 10 ∷ after)) none.0 ∙ ap (λ t. byte ∷ t) (one_line count bytes after none.1)

no_line : (count : ℕ) (bytes : List ℕ) → HasNo 10 bytes → first_lines (suc count) bytes ≡ bytes
no_line count [] none = refl
no_line count (byte ∷ bytes) none = ap (λ b. byte ∷ first_lines (cond b count (suc count)) bytes) none.0 ∙ ap (λ t. byte ∷ t) (no_line count bytes none.1)

nothing : (bytes : List ℕ) → first_lines 0 bytes ≡ []
nothing bytes = refl

-- the lines before some bytes, and of these so many more
pub lines_before : (lines : List Line) (rest : List ℕ) (count more : ℕ) → AreLines lines → count ≡ length lines + more
    → first_lines count (lines_text lines ++ rest) ≡ lines_text lines ++ first_lines more rest
lines_before [] rest count more are is = let same : count ≡ more = omega arith in ap (λ k. first_lines k rest) same
lines_before (one ∷ lines) rest count more are is =
    let later : count ≡ suc (length lines + more) = omega arith in
    ap (λ k. first_lines k (lines_text (one ∷ lines) ++ rest)) later
    ∙ ap (first_lines (suc (length lines + more))) (line_first one lines rest)
    ∙ one_line (length lines + more) (line_text one) (lines_text lines ++ rest) (line_has_no one are.0)
    ∙ ap (λ t. line_text one ++ 10 ∷ t) (lines_before lines rest (length lines + more) more are.1 refl)
    ∙ sym (line_first one lines (first_lines more rest))

-- the next line can't stand where it stands, or isn't ended
fault_after : (old : ManagerState) (bytes rest next : List ℕ) (number : ℕ) → IsReadable old → bytes ≡ state_text old ++ rest → number ≡ length (state_lines old) + 1
    → first_lines 1 rest ≡ next → ((later : ManagerState) → IsReadable later → state_text later ≡ state_text old ++ next → ⊥) → IsFirstFault bytes number
fault_after old bytes rest next number readable whole is first none = record {
  before = inr (old, record { readable = readable; spelled = before });
  none = λ some. none some.0 some.1.readable (sym some.1.spelled ∙ after);
}
  where
    before : first_lines (number - 1) bytes ≡ state_text old
    before = let earlier : number - 1 ≡ length (state_lines old) + 0 = omega arith in
        ap (first_lines (number - 1)) whole ∙ lines_before (state_lines old) rest (number - 1) 0 readable earlier ∙ append-nil (state_text old)

    after : first_lines number bytes ≡ state_text old ++ next
    after = ap (first_lines number) whole ∙ lines_before (state_lines old) rest number 1 readable is ∙ ap (λ t. state_text old ++ t) first

pub fault_at_line : (old : ManagerState) (bytes text after : List ℕ) (number : ℕ) → IsReadable old → bytes ≡ state_text old ++ (text ++ 10 ∷ after)
    → HasNo 10 text → stands old text ≡ false → number ≡ length (state_lines old) + 1 → IsFirstFault bytes number
fault_at_line old bytes text after number readable whole none not is =
    fault_after old bytes (text ++ 10 ∷ after) (text ++ 10 ∷ []) number readable whole is (one_line 0 text after none) (blocked old text [] readable none not)

pub fault_at_end : (old : ManagerState) (bytes rest : List ℕ) (number : ℕ) → IsReadable old → bytes ≡ state_text old ++ rest
    → HasNo 10 rest → (rest ≡ [] → ⊥) → number ≡ length (state_lines old) + 1 → IsFirstFault bytes number
fault_at_end old bytes rest number readable whole none some is =
    fault_after old bytes rest rest number readable whole is (no_line 0 rest none) (λ later r same. some (no_rest (state_lines old) (state_lines later) rest readable r none same))

-- the first line begins no text
pub fault_at_first : (bytes text after : List ℕ) → bytes ≡ text ++ 10 ∷ after → HasNo 10 text → begun text ≡ None → IsFirstFault bytes 1
fault_at_first bytes text after whole none not = record {
  before = inl refl;
  none = λ some. first_blocked text [] none not some.0 some.1.readable (sym some.1.spelled ∙ ap (first_lines 1) whole ∙ one_line 0 text after none);
}

pub no_text : (bytes : List ℕ) → HasNo 10 bytes → (state : ManagerState) → IsTextOf state bytes → ⊥
no_text bytes none state is =
    let more = map line.State (listed_states state.states) ++ (map line.Bad state.bad ++ map line.Entry state.journal) in
    not_ended (line_text (line.Loaded state.loaded)) (lines_text more) (subst (HasNo 10) (is.spelled ∙ one_first (line.Loaded state.loaded) more) none)

-- there is no first line
pub fault_at_none : (bytes : List ℕ) → HasNo 10 bytes → IsFirstFault bytes 1
fault_at_none bytes none = record { before = inl refl; none = λ some. no_text bytes none some.0 (record { readable = some.1.readable; spelled = sym (no_line 0 bytes none) ∙ some.1.spelled }) }
