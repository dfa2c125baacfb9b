use Rattle.std.proofs.Common.{ℕ, List, inl, inr, ⊎_elim, OnOk, Result, Ok, Err, Some, sym, ap, ◌∙◌, subst}
use Rattle.std.proofs.lemmas.Option.{none-some}
use Rattle.std.proofs.lemmas.Result.{on_ok_weaker, IfErr-weaker}
use Rattle.std.proofs.lemmas.Str.{is_utf8-from_IsUtf8}
use Rattle.unit_text.specs.Lines.{is_continued, with_space}
use Rattle.unit_text.specs.Reader.{Holds, Completes, ended}
use Rattle.unit_text.specs.TextFault.{joined_fault}
use Rattle.unit_text.proofs.ReaderLemmas.{reads_comment, reads_bad_comment, refuses_bad, reads_held, reads_ended, refuses_ended}
use Rattle.unit_text.proofs.reader.Reader.take.Goals as goal
use Rattle.switch_names.proofs.Outcomes.{on_ok_both}
use Rattle.switch_names.proofs.UnitNames.{not_utf8}

pub returns-in_default-clause-ok : goal.returns-in_default-clause-ok
returns-in_default-clause-ok c =
    on_ok_both c.take_bad.result
    (λ marks comment. reads_bad_comment c.args.self.now c.take_bad.new.self c.args.number c.args.line.now c.requires (not_utf8 _ c.in_default.ensures.cases.0) comment marks)
    c.take_bad.ensures.ok c.take_bad.ensures.comment

pub returns-in_default-clause-fault : goal.returns-in_default-clause-fault
returns-in_default-clause-fault c rest =
    IfErr-weaker c.take_bad.result _ _
    (λ fault h. inr (refuses_bad c.args.self.now c.take_bad.new.self c.args.number c.args.line.now c.requires rest (not_utf8 _ c.in_default.ensures.cases.0) h.0 ∙ ap Some (sym h.1)))
    c.take_bad.ensures.fault

pub returns-then-is_comment-clause-ok : goal.returns-then-is_comment-clause-ok
returns-then-is_comment-clause-ok c =
    reads_comment c.args.self.now c.args.self.now c.args.number c.args.line.now c.requires
    (is_utf8-from_IsUtf8 _ c.in-Ok.ensures.cases.1) (sym c.if-is_comment.ensures)

pub returns-in-Some-clause-ok : goal.returns-in-Some-clause-ok
returns-in-Some-clause-ok c =
    let same = c.in-Ok.ensures.cases.0 in
    let split = c.in-Some.ensures in
    on_ok_weaker c.hold.result
    (λ held. reads_held c.args.self.now c.hold.new.self c.args.number c.args.line.now c.requires
    (is_utf8-from_IsUtf8 _ c.in-Ok.ensures.cases.1) (sym c.if-is_comment.ensures)
    (sym (ap is_continued same) ∙ split.0)
    (subst (λ (text : List ℕ). Holds c.args.self.now c.hold.new.self (record { first = c.args.number; last = c.args.number; text = text })) (split.1 ∙ ap with_space same) held))
    c.hold.ensures.ok

pub returns-in-None-clause-ok :
    goal.returns-in-None-clause-ok
returns-in-None-clause-ok c =
    let same = c.in-Ok.ensures.cases.0 in
    on_ok_both c.end.result
    (λ done part. reads_ended c.args.self.now c.end.new.self c.args.number c.args.line.now c.requires
    (is_utf8-from_IsUtf8 _ c.in-Ok.ensures.cases.1) (sym c.if-is_comment.ensures)
    (sym (ap is_continued same) ∙ c.in-None.ensures)
    (subst (λ (text : List ℕ). Completes c.args.self.now c.end.new.self (ended c.args.self.now.part c.args.number text)) same done) part)
    c.end.ensures.ok c.end.ensures.part

pub returns-in-None-clause-fault :
    goal.returns-in-None-clause-fault
returns-in-None-clause-fault c rest =
    let same = c.in-Ok.ensures.cases.0 in
    let old = c.args.self.now in
    IfErr-weaker c.end.result _ _
    (λ fault h. ⊎_elim inl
    (λ is. inr (refuses_ended old c.end.new.self c.args.number c.args.line.now c.requires rest fault
    (is_utf8-from_IsUtf8 _ c.in-Ok.ensures.cases.1) (sym c.if-is_comment.ensures)
    (sym (ap is_continued same) ∙ c.in-None.ensures)
    (ap (λ text. joined_fault old.body.section old.bad (ended old.part c.args.number text)) (sym same) ∙ is)))
    h)
    c.end.ensures.fault

pub returns-then-is_comment-clause-fault : goal.returns-then-is_comment-clause-fault
returns-then-is_comment-clause-fault c rest = tt

pub returns-in-Some-clause-fault : goal.returns-in-Some-clause-fault
returns-in-Some-clause-fault c rest = IfErr-weaker c.hold.result _ _ (λ fault h. ⊎_elim inl (λ none. absurd (none-some fault none)) h) c.hold.ensures.fault
