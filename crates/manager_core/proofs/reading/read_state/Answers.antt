use Rattle.std.proofs.Common.{◌≡◌, ◌++◌, ◌∷◌, [], ℕ, List, length, min, ◌+◌, ◌<◌, ◌==◌, false, true, refl, sym, ap, ◌∙◌, subst, append_assoc, arith}
use Rattle.std.proofs.lemmas.Grind.{common_steps}
use Rattle.std.proofs.lemmas.List.{append-nil}
use Rattle.manager_core.specs.Placing.{stands, with_line}
use Rattle.manager_core.specs.StateText.{IsFirstFault, IsLineFault, IsReadable, IsTextOf, line_max, state_lines, state_text}
use Rattle.manager_core.proofs.Beginnings.{one_fault}
use Rattle.manager_core.proofs.Counting.{fault_at_end, fault_at_first, fault_at_line, fault_at_none, no_text}
use Rattle.std.proofs.lemmas.Bool.{both_ways}
use Rattle.manager_core.proofs.Growth.{no_items}
use Rattle.manager_core.proofs.Parts.{parted_none, parted_parts}
use Rattle.manager_core.proofs.Readable.{blocked, first_blocked, first_taken, one_state, plain_texts, taken}
use Rattle.manager_core.proofs.Splitting.{no_rest}
use Rattle.manager_core.proofs.reading.read_state.Goals as goal

-- the first fault is the one that is given
fault : (bytes : List ℕ) (number given : ℕ) → IsFirstFault bytes number → given ≡ min number line_max → IsLineFault bytes given
fault bytes number given first is = record { number = number; first = first; only = λ other f. one_fault bytes other number f first; given_as = is }

pub returns-in_default-clause-again : goal.returns-in_default-clause-again
returns-in_default-clause-again c = λ state is. absurd (no_text c.args.bytes.now (parted_none 10 c.args.bytes.now (sym c.in_default.ensures)) state is)

pub returns-in_default-clause-fault : goal.returns-in_default-clause-fault
returns-in_default-clause-fault c = fault _ 1 1 (fault_at_none c.args.bytes.now (parted_none 10 c.args.bytes.now (sym c.in_default.ensures))) refl

pub returns-in_default-2-clause-again : goal.returns-in_default-2-clause-again
returns-in_default-2-clause-again c = λ state is.
    let cut = parted_parts 10 c.args.bytes.now (c.in-Some.first.now, c.in-Some.rest.now) (sym c.in-Some.ensures) in
    absurd (first_blocked c.in-Some.first.now c.in-Some.rest.now cut.1 (sym c.in_ok-state.ensures ∙ c.in_default-2.is) state is.readable (sym is.spelled ∙ cut.0))

pub returns-in_default-2-clause-fault : goal.returns-in_default-2-clause-fault
returns-in_default-2-clause-fault c =
    let cut = parted_parts 10 c.args.bytes.now (c.in-Some.first.now, c.in-Some.rest.now) (sym c.in-Some.ensures) in
    fault c.args.bytes.now 1 1 (fault_at_first c.args.bytes.now c.in-Some.first.now c.in-Some.rest.now cut.0 cut.1 (sym c.in_ok-state.ensures ∙ c.in_default-2.is)) refl

pub loop-line-init : goal.loop-line-init
loop-line-init c =
    let cut = parted_parts 10 c.args.bytes.now (c.in-Some.first.now, c.in-Some.rest.now) (sym c.in-Some.ensures) in
    let begun = first_taken c.in-Some.first.now c.in-Some-2.state (sym c.in_ok-state.ensures ∙ c.in-Some-2.is) in
    record {
      whole = cut.0 ∙ sym (ap (λ t. t ++ c.in-Some.rest.now) begun.text ∙ append_assoc c.in-Some.first.now (10 ∷ []) c.in-Some.rest.now);
      readable = begun.readable;
      counted = sym (ap (λ n. min n line_max) begun.single);
    }

shorter : (rest line after : List ℕ) → rest ≡ line ++ 10 ∷ after → length after < length rest
shorter rest line after is = grind (arith, common_steps)

pub loop-line-smaller : goal.loop-line-smaller
loop-line-smaller c =
    shorter c.loop-line.rest.now c.in-Some-parted.line.now c.in-Some-parted.after.now
    (parted_parts 10 c.loop-line.rest.now (c.in-Some-parted.line.now, c.in-Some-parted.after.now) (sym c.in-Some-parted.ensures)).0

-- one line more, or none, in a number that stands still at its end
one_more : (count lines next : ℕ) → count ≡ min lines line_max → next ≡ min (count + 1) 4294967295 → next ≡ min (lines + 1) line_max
one_more count lines next is more = omega arith

pub returns-then-not-branch-clause-again : goal.returns-then-not-branch-clause-again
returns-then-not-branch-clause-again c = λ state is.
    let old = c.loop-line.state in
    let cut = parted_parts 10 c.loop-line.rest.now (c.in-Some-parted.line.now, c.in-Some-parted.after.now) (sym c.in-Some-parted.ensures) in
    let not : stands old c.in-Some-parted.line.now ≡ false = sym c.in_ok-take_line.ensures.stands ∙ c.if-not-branch.true in
    let whole = c.loop-line.invariant.whole ∙ ap (λ t. state_text old ++ t) cut.0 in
    absurd (blocked old c.in-Some-parted.line.now c.in-Some-parted.after.now c.loop-line.invariant.readable cut.1 not state is.readable (sym is.spelled ∙ whole))

pub returns-then-not-branch-clause-fault : goal.returns-then-not-branch-clause-fault
returns-then-not-branch-clause-fault c =
    let old = c.loop-line.state in
    let cut = parted_parts 10 c.loop-line.rest.now (c.in-Some-parted.line.now, c.in-Some-parted.after.now) (sym c.in-Some-parted.ensures) in
    let not : stands old c.in-Some-parted.line.now ≡ false = sym c.in_ok-take_line.ensures.stands ∙ c.if-not-branch.true in
    let whole = c.loop-line.invariant.whole ∙ ap (λ t. state_text old ++ t) cut.0 in
    fault c.args.bytes.now (length (state_lines old) + 1) c.saturating_add.result
    (fault_at_line old c.args.bytes.now c.in-Some-parted.line.now c.in-Some-parted.after.now (length (state_lines old) + 1) c.loop-line.invariant.readable whole cut.1 not refl)
    (one_more c.loop-line.count (length (state_lines old)) c.saturating_add.result c.loop-line.invariant.counted c.saturating_add.ensures)

pub loop-line-preserved : goal.loop-line-preserved
loop-line-preserved c =
    let old = c.loop-line.state in
    let new = c.take_line.new.state in
    let text = c.in-Some-parted.line.now in
    let after = c.in-Some-parted.after.now in
    let cut = parted_parts 10 c.loop-line.rest.now (text, after) (sym c.in-Some-parted.ensures) in
    let is : stands old text ≡ true = sym c.in_ok-take_line.ensures.stands ∙ c.if-not-branch.false in
    let same : new ≡ with_line old text = c.in_ok-take_line.ensures.new is in
    let grown = taken old text c.loop-line.invariant.readable is in
    let joined : state_text new ++ after ≡ state_text old ++ (text ++ 10 ∷ after) =
    ap (λ t. t ++ after) (ap state_text same ∙ grown.text) ∙ append_assoc (state_text old) (text ++ 10 ∷ []) after
    ∙ ap (λ t. state_text old ++ t) (append_assoc text (10 ∷ []) after) in
    record {
      whole = c.loop-line.invariant.whole ∙ ap (λ t. state_text old ++ t) cut.0 ∙ sym joined;
      readable = subst IsReadable (sym same) grown.readable;
      counted = one_more c.loop-line.count (length (state_lines old)) c.saturating_add-count.result c.loop-line.invariant.counted c.saturating_add-count.ensures
          ∙ ap (λ n. min n line_max) (sym (ap (λ s. length (state_lines s)) same ∙ grown.longer));
    }

at_end : (c : goal.Then-is_empty) → IsTextOf c.loop-line.state c.args.bytes.now
at_end c = record {
  readable = c.loop-line.invariant.readable;
  spelled = c.loop-line.invariant.whole ∙ ap (λ t. state_text c.loop-line.state ++ t) (no_items c.loop-line.rest.now (sym c.if-is_empty.ensures)) ∙ append-nil (state_text c.loop-line.state);
}

pub returns-then-is_empty-clause-ok : goal.returns-then-is_empty-clause-ok
returns-then-is_empty-clause-ok c = at_end c

pub returns-then-is_empty-clause-plain : goal.returns-then-is_empty-clause-plain
returns-then-is_empty-clause-plain c = plain_texts c.loop-line.state c.loop-line.invariant.readable

pub returns-then-is_empty-clause-again : goal.returns-then-is_empty-clause-again
returns-then-is_empty-clause-again c = λ state is. one_state c.loop-line.state state c.args.bytes.now (at_end c) is

not_empty : (rest : List ℕ) → false ≡ (length rest == 0) → rest ≡ [] → ⊥
not_empty rest some none = both_ways true (ap (λ r. length r == 0) (sym none) ∙ sym some) refl

pub returns-else-is_empty-clause-again : goal.returns-else-is_empty-clause-again
returns-else-is_empty-clause-again c = λ state is.
    let old = c.loop-line.state in
    let rest = c.loop-line.rest.now in
    absurd (not_empty rest c.if-is_empty.ensures (no_rest (state_lines old) (state_lines state) rest c.loop-line.invariant.readable is.readable
    (parted_none 10 rest (sym c.in_default-parted.ensures)) (sym is.spelled ∙ c.loop-line.invariant.whole)))

pub returns-else-is_empty-clause-fault : goal.returns-else-is_empty-clause-fault
returns-else-is_empty-clause-fault c =
    let old = c.loop-line.state in
    let rest = c.loop-line.rest.now in
    fault c.args.bytes.now (length (state_lines old) + 1) c.saturating_add-else-is_empty.result
    (fault_at_end old c.args.bytes.now rest (length (state_lines old) + 1) c.loop-line.invariant.readable c.loop-line.invariant.whole
    (parted_none 10 rest (sym c.in_default-parted.ensures)) (not_empty rest c.if-is_empty.ensures) refl)
    (one_more c.loop-line.count (length (state_lines old)) c.saturating_add-else-is_empty.result c.loop-line.invariant.counted c.saturating_add-else-is_empty.ensures)
