use Rattle.std.proofs.Common.{◌≡◌, None, Some, Err, sym, ap, ◌∙◌}
use Rattle.std.specs.Option.{option_or}
use Rattle.host_trait.proofs.Moments.{told_as}
use Rattle.owed_plan.specs.Systems.{AreOldDefs}
use Rattle.switch_parts.specs.declared.refusal.Refusal.TheVariants.{TooMany, UnitText}
use Rattle.switch_parts.specs.declared.refusal.What.TheVariants.{Units}
use Rattle.switch_parts.proofs.Faults.{refused_is}
use Rattle.unit_stage.specs.System.{current_system, defs_refusal}
use Rattle.unit_stage.proofs.CountLemmas.{many_refused, refusal_by, refusal_or}
use Rattle.unit_stage.proofs.known.read_new.Goals as goal

pub returns-in-Err-Many-clause-refused : goal.returns-in-Err-Many-clause-refused
returns-in-Err-Many-clause-refused g c why e =
    told_as (c.in-Err-Many.ensures.many c.in-Err-Many.count (ap (λ f. Err f) c.in-Err-Many.field-0-is))
    (λ w. AreOldDefs w.leaves (current_system w.leaves) c.args.old.now → defs_refusal w.leaves c.args.system.now ≡ Some why)
    (λ w is count are. many_refused w.leaves c.args.system.now c.in-Err-Many.count count ∙ ap Some (refused_is (TooMany Units c.in-Err-Many.count) why e))

pub returns-in-Err-Text-clause-refused : goal.returns-in-Err-Text-clause-refused
returns-in-Err-Text-clause-refused g c why e =
    let few = c.in-Err-Text.ensures.few_faulty c.in-Err-Text.unit c.in-Err-Text.line (ap (λ f. Err f) c.in-Err-Text.field-0-is) in
    let fault = UnitText c.in-Err-Text.unit c.in-Err-Text.line in
    told_as (c.in-Err-Text.ensures.faulty c.in-Err-Text.unit c.in-Err-Text.line (ap (λ f. Err f) c.in-Err-Text.field-0-is))
    (λ w. AreOldDefs w.leaves (current_system w.leaves) c.args.old.now → defs_refusal w.leaves c.args.system.now ≡ Some why)
    (λ w is faulty are.
    refusal_by w.leaves c.args.system.now None c.old_past.result (Some (c.in-Err-Text.unit, c.in-Err-Text.line)) (few.has w is)
    (sym (c.old_past.ensures w.leaves (current_system w.leaves) are)) faulty
    ∙ ap (λ first. option_or first (Some fault)) (sym c.too_many-in_use.ensures) ∙ refusal_or c.too_many-in_use.result fault
    ∙ ap Some (sym c.unwrap_or.ensures ∙ refused_is c.unwrap_or.result why e))
