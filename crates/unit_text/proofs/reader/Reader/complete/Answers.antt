use Rattle.std.proofs.Common.{◌≡◌, List, ℕ, Option, false, cond, refl, sym, ap, ◌∙◌, subst, rules}
use Rattle.std.specs.Option.{option_map}
use Rattle.std.proofs.lemmas.Result.{on_ok_weaker}
use Rattle.unit_text.specs.declared.text_fault.TextFault.{TextFault}
use Rattle.unit_text.specs.Reader.{Takes}
use Rattle.unit_text.specs.Statement.{statement_fault, trimmed}
use Rattle.unit_text.specs.TextFault.{IsRefusedBy, is_reached, utf8_fault}
use Rattle.unit_text.proofs.reader.Reader.complete.Goals as goal

-- no line that isn't UTF-8 is reached
unreached : (c : goal.After-take) → is_reached c.args.self.now.bad c.args.last ≡ false
unreached c = search rules

pub returns-2-clause-ok : goal.returns-2-clause-ok
returns-2-clause-ok c =
    on_ok_weaker c.take.result
    (λ taken. record {
      unreached = unreached c;
      body = subst (λ (text : List ℕ). Takes c.args.self.now.body c.take.new.self c.args.first text) c.trimmed.ensures taken;
      bad = refl;
    })
    c.take.ensures.ok

pub returns-2-clause-fault : goal.returns-2-clause-fault
returns-2-clause-fault c =
    let old = c.args.self.now in
    subst (λ (fault : Option TextFault). IsRefusedBy c.take.result fault)
    (ap (statement_fault old.body.section c.args.first) c.trimmed.ensures
    ∙ sym (ap (λ b. cond b (option_map utf8_fault old.bad) (statement_fault old.body.section c.args.first (trimmed c.args.text.now))) (unreached c)))
    c.take.ensures.fault
