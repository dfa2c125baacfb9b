use Rattle.std.proofs.Common.{◌≡◌, ℕ, List, Some, IfSome, ap, subst, sym, ◌∙◌}
use Rattle.switch_names.specs.UnitName.{IsUnitName}
use Rattle.switch_names.proofs.Outcomes.{none_left}
use Rattle.unit_defs.specs.Defs.{first_faulty}
use Rattle.unit_defs.proofs.FaultLemmas.{same_fault}
use Rattle.unit_defs.proofs.defs.Defs.from_sound.Goals as goal

pub returns-in-Some-clause-text : goal.returns-in-Some-clause-text
returns-in-Some-clause-text c = λ unit line same.
    let parts = same_fault c.in-Some.unit unit c.in-Some.line line same in
    let first = sym c.in-Some.is ∙ c.in_ok-unit.ensures.first ∙ ap first_faulty c.as_slice.ensures in
    subst (λ (l : ℕ). Some (unit, l) ≡ first_faulty c.args.units) parts.1
    (subst (λ (u : List ℕ). Some (u, c.in-Some.line) ≡ first_faulty c.args.units) parts.0 first)

pub returns-in-Some-clause-named : goal.returns-in-Some-clause-named
returns-in-Some-clause-named c = λ unit line same.
    subst IsUnitName (same_fault c.in-Some.unit unit c.in-Some.line line same).0
    (subst (λ o. IfSome o (λ at. IsUnitName at.0)) c.in-Some.is c.in_ok-unit.ensures.named)

pub returns-clause-sound : goal.returns-clause-sound
returns-clause-sound c = none_left c.in_ok-unit.field-0 c.in_default.not-Some ∙ c.in_ok-unit.ensures.first ∙ ap first_faulty c.as_slice.ensures
