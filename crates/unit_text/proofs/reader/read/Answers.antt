use Rattle.std.proofs.Common.{[], ◌≡◌, ◌∷◌, ℕ, ◌+◌, Err, Option, Result, IfSome, ◌<◌, ◌++◌, ap, ◌∙◌, sym, subst, inl, inr, ⊎_elim, length, map, arith}
use Rattle.std.proofs.lemmas.Result.{IfOk-weaker, err_from_is_err_and, on_ok_weaker}
use Rattle.unit_text.specs.declared.text_fault.TextFault.{TextFault}
use Rattle.std.specs.Option.{option_or}
use Rattle.unit_text.specs.Lines.{without_line_feed, joined, first_bad}
use Rattle.unit_text.specs.TextFault.{IsRefusedBy, first_fault, text_fault}
use Rattle.unit_text.specs.UnitText.{assignments, assignments_in}
use Rattle.unit_text.specs.Reader.{assignments_left, fault_left, with_part}
use Rattle.unit_text.proofs.LineLemmas.{lines_are}
use Rattle.unit_text.proofs.reader.read.Goals as goal

pub loop-line-init : goal.loop-line-init
loop-line-init c =
    let new = c.new-reader.ensures in
    let left = ap (map without_line_feed) (c.into_iter-line-iterator.ensures.into_iter_gives ∙ c.lines_with_terminator-line-items.ensures.value) ∙ lines_are c.args.bytes.now in
    record {
      counted = omega arith;
      before = subst (λ (bad : Option ℕ). IfSome bad (λ line. line < 1)) (sym new.bad) tt;
      fault = λ i. first_fault (new.section i) (option_or (new.bad i) (first_bad 1 (left i))) (with_part (new.part i) (joined 1 (left i)));
      all = λ i. new.assignments i ++ assignments_in (new.section i) (with_part (new.part i) (joined 1 (left i)));
    }

pub take-requires : goal.take-requires
take-requires c = c.loop-line.invariant.before

-- a line is taken without its line feed
lines_left : (c : goal.In_ok-take) → c.without_line_feed.result.now ∷ map without_line_feed c.next.new.self ≡ map without_line_feed c.loop-line.line-iterator
lines_left c = (λ i. c.without_line_feed.ensures i ∷ map without_line_feed c.next.new.self) ∙ sym (ap (map without_line_feed) c.in-Some.ensures.steps)

pub loop-line-preserved : goal.loop-line-preserved
loop-line-preserved c =
    let before = c.loop-line.invariant in
    let read = c.in_ok-take.ensures.ok in
    let rest = map without_line_feed c.next.new.self in
    let taken = ap length c.in-Some.ensures.steps in
    record {
      counted = omega arith;
      before = read.before;
      fault = read.fault rest ∙ ap (fault_left c.loop-line.reader (c.loop-line.number + 1)) (lines_left c) ∙ before.fault;
      all = read.assignments rest ∙ ap (assignments_left c.loop-line.reader (c.loop-line.number + 1)) (lines_left c) ∙ before.all;
    }

-- no line is left
fault_is : (c : goal.After-finish) → fault_left c.loop-line.reader 1 [] ≡ text_fault c.args.bytes.now
fault_is c =
    sym (ap (λ lines. fault_left c.loop-line.reader (c.loop-line.number + 1) (map without_line_feed lines)) c.in-None.ensures.steps.0) ∙ c.loop-line.invariant.fault

all_is : (c : goal.After-finish) → assignments_left c.loop-line.reader 1 [] ≡ assignments c.args.bytes.now
all_is c =
    sym (ap (λ lines. assignments_left c.loop-line.reader (c.loop-line.number + 1) (map without_line_feed lines)) c.in-None.ensures.steps.0) ∙ c.loop-line.invariant.all

pub returns-clause-ok : goal.returns-clause-ok
returns-clause-ok c = IfOk-weaker c.finish.result _ _ (λ all is. is ∙ all_is c) c.finish.ensures.ok

pub returns-clause-sound : goal.returns-clause-sound
returns-clause-sound c = on_ok_weaker c.finish.result (λ none. sym (fault_is c) ∙ none) c.finish.ensures.sound

pub returns-clause-fault : goal.returns-clause-fault
returns-clause-fault c = subst (λ (fault : Option TextFault). IsRefusedBy c.finish.result fault) (fault_is c) c.finish.ensures.fault

pub returns-in_err-take-clause-fault : goal.returns-in_err-take-clause-fault
returns-in_err-take-clause-fault c =
    let fault = c.in_err-take.field-0.0 in
    let given = err_from_is_err_and c.from_residual.result c.from_residual.ensures.1 in
    let before = c.loop-line.invariant in
    let left : c.without_line_feed.result.now ∷ map without_line_feed c.next.new.self ≡ map without_line_feed c.loop-line.line-iterator =
    (λ i. c.without_line_feed.ensures i ∷ map without_line_feed c.next.new.self) ∙ sym (ap (map without_line_feed) c.in-Some.ensures.steps) in
    subst (λ (r : Result _ TextFault). IsRefusedBy r (text_fault c.args.bytes.now)) (sym (given.1 ∙ ap (λ f. Err f) given.2))
    (⊎_elim inl (λ is. inr (sym (ap (fault_left c.loop-line.reader (c.loop-line.number + 1)) left ∙ before.fault) ∙ is)) (c.in_err-take.ensures.fault (map without_line_feed c.next.new.self)))
