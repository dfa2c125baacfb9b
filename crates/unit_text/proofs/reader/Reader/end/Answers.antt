use Rattle.std.proofs.Common.{◌≡◌, sym, ap, ◌∙◌, subst}
use Rattle.std.proofs.lemmas.Result.{on_ok_weaker}
use Rattle.unit_text.specs.Lines.{Joined}
use Rattle.unit_text.specs.Reader.{ended}
use Rattle.unit_text.specs.TextFault.{IsRefusedBy, joined_fault}
use Rattle.unit_text.proofs.ReaderLemmas.{completes_as}
use Rattle.unit_text.proofs.reader.Reader.end.Goals as goal

-- the part with this line at its end
with_line : (c : goal.After-drop-part-in-Some)
    → ended c.args.self.now.part c.args.number c.args.line.now ≡ record { first = c.in-Some.part.first; last = c.args.number; text = c.as_str.result.now }
with_line c =
    ap (λ part. ended part c.args.number c.args.line.now) (sym c.take.ensures.value ∙ c.in-Some.is)
    ∙ sym (ap (λ text. record { first = c.in-Some.part.first; last = c.args.number; text = text }) (c.as_str.ensures.value ∙ c.in_ok-push_str.ensures.bytes))

-- the line alone
alone : (c : goal.After-complete-2)
    → ended c.args.self.now.part c.args.number c.args.line.now ≡ record { first = c.args.number; last = c.args.number; text = c.args.line.now }
alone c = ap (λ part. ended part c.args.number c.args.line.now) (sym c.take.ensures.value ∙ c.in_default.is)

pub returns-in-Some-clause-ok : goal.returns-in-Some-clause-ok
returns-in-Some-clause-ok c = on_ok_weaker c.complete.result (completes_as c.args.self.now c.take.new.self c.complete.new.self (sym (with_line c))) c.complete.ensures.ok

pub returns-in-Some-clause-part : goal.returns-in-Some-clause-part
returns-in-Some-clause-part c = on_ok_weaker c.complete.result (λ done. c.complete.ensures.part ∙ c.take.ensures.after) c.complete.ensures.ok

pub returns-in-Some-clause-fault : goal.returns-in-Some-clause-fault
returns-in-Some-clause-fault c =
    let old = c.args.self.now in
    subst (λ (line : Joined). IsRefusedBy c.complete.result (joined_fault old.body.section old.bad line)) (sym (with_line c)) c.complete.ensures.fault

pub returns-clause-ok : goal.returns-clause-ok
returns-clause-ok c = on_ok_weaker c.complete-2.result (completes_as c.args.self.now c.take.new.self c.complete-2.new.self (sym (alone c))) c.complete-2.ensures.ok

pub returns-clause-part : goal.returns-clause-part
returns-clause-part c = on_ok_weaker c.complete-2.result (λ done. c.complete-2.ensures.part ∙ c.take.ensures.after) c.complete-2.ensures.ok

pub returns-clause-fault : goal.returns-clause-fault
returns-clause-fault c =
    let old = c.args.self.now in
    subst (λ (line : Joined). IsRefusedBy c.complete-2.result (joined_fault old.body.section old.bad line)) (sym (alone c)) c.complete-2.ensures.fault
