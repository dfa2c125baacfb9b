use Rattle.std.proofs.Common.{[], Err, Option, Some, Result, inl, inr, ⊎_elim, sym, ap, ◌∙◌, subst}
use Rattle.std.specs.Option.{option_map}
use Rattle.std.proofs.lemmas.Result.{err_from_is_err_and}
use Rattle.unit_text.specs.declared.reader.ReadPart.{ReadPart}
use Rattle.unit_text.specs.declared.text_fault.TextFault.{TextFault}
use Rattle.unit_text.specs.declared.text_fault.TextFault.TheVariants.{Utf8}
use Rattle.unit_text.specs.Reader.{fault_left}
use Rattle.unit_text.specs.TextFault.{IsRefusedBy, joined_fault, utf8_fault}
use Rattle.unit_text.proofs.ReaderLemmas.{Finishes, completes_as, finishes_alone, finishes_part, refuses_end}
use Rattle.unit_text.proofs.reader.Reader.finish.Goals as goal
use Rattle.unit_text.proofs.reader.Reader.finish.Goals.{in-Some+in_ok-complete, in_default}

pub returns-in_err-complete-clause-fault : goal.returns-in_err-complete-clause-fault
returns-in_err-complete-clause-fault c =
    let self = c.args.self in
    let fault = c.in_err-complete.field-0.0 in
    let given = err_from_is_err_and c.from_residual.result c.from_residual.ensures.1 in
    subst (λ (r : Result _ TextFault). IsRefusedBy r (fault_left self 1 [])) (sym (given.1 ∙ ap (λ f. Err f) given.2))
    (⊎_elim inl
    (λ is. inr (refuses_end self c.in-Some.part fault (sym c.take.ensures.value ∙ c.in-Some.is)
    (ap (λ text. joined_fault self.body.section self.bad (record { first = c.in-Some.part.first; last = c.in-Some.part.last; text = text })) (sym c.as_str.ensures.value) ∙ is)))
    c.in_err-complete.ensures.fault)

sound : (c : goal.After-into_assignments) → Finishes c.args.self c.match-take.self
sound c =
    let self = c.args.self in
    elim c.match-take.branch [
      | in-Some+in_ok-complete w ↦
          subst (Finishes self) (sym w.self-is)
          (finishes_part self w.complete.new.self w.in-Some.part (sym c.take.ensures.value ∙ w.in-Some.is)
          (completes_as self c.take.new.self w.complete.new.self
          (ap (λ text. record { first = w.in-Some.part.first; last = w.in-Some.part.last; text = text }) w.as_str.ensures.value) w.in_ok-complete.ensures.ok))
      | in_default w ↦
          subst (Finishes self) (sym (w.self-is ∙ ap (λ (part : Option ReadPart). record { bad = self.bad; part = part; body = self.body }) c.take.ensures.after))
          (finishes_alone self (sym c.take.ensures.value ∙ w.in_default.is))
    ]

refused : (c : goal.After-drop-body) → Finishes c.args.self c.match-take.self
refused c =
    let self = c.args.self in
    elim c.match-take.branch [
      | in-Some+in_ok-complete w ↦
          subst (Finishes self) (sym w.self-is)
          (finishes_part self w.complete.new.self w.in-Some.part (sym c.take.ensures.value ∙ w.in-Some.is)
          (completes_as self c.take.new.self w.complete.new.self
          (ap (λ text. record { first = w.in-Some.part.first; last = w.in-Some.part.last; text = text }) w.as_str.ensures.value) w.in_ok-complete.ensures.ok))
      | in_default w ↦
          subst (Finishes self) (sym (w.self-is ∙ ap (λ (part : Option ReadPart). record { bad = self.bad; part = part; body = self.body }) c.take.ensures.after))
          (finishes_alone self (sym c.take.ensures.value ∙ w.in_default.is))
    ]

pub returns-in-Some-bad-clause-fault : goal.returns-in-Some-bad-clause-fault
returns-in-Some-bad-clause-fault c = inr ((refused c).fault ∙ ap (option_map utf8_fault) c.in-Some-bad.is ∙ ap (λ n. Some (Utf8 n)) (sym c.capped.ensures))

pub returns-in-None-clause-ok : goal.returns-in-None-clause-ok
returns-in-None-clause-ok c = c.into_assignments.ensures ∙ (sound c).all

pub returns-in-None-clause-sound : goal.returns-in-None-clause-sound
returns-in-None-clause-sound c = (sound c).fault ∙ ap (option_map utf8_fault) c.in-None.is
