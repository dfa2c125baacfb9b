use Rattle.std.proofs.Common.{◌≡◌, ℕ, List, true, ap, is_some, map, subst, sym, ◌∙◌, arith}
use Rattle.std.specs.List.{filter}
use Rattle.std.proofs.lemmas.List.{take_all}
use Rattle.switch_names.specs.Names.{has}
use Rattle.switch_names.specs.UnitName.{IsUnitName}
use Rattle.unit_defs.specs.declared.unit.Unit.{Unit}
use Rattle.unit_defs.proofs.NameLemmas.{are_names, named_more}
use Rattle.std.proofs.lemmas.Grind.{common_steps}
use Rattle.unit_defs.proofs.answering.wanting.names_of.Goals.{then-is_some+in_ok-copy+in_ok-push, else-is_some}
use Rattle.unit_defs.proofs.answering.wanting.names_of.Goals as goal

pub returns : goal.returns
returns c = are_names c.args.units.now c.loop-unit.names c.requires
    (c.loop-unit.invariant.0 ∙ ap (λ units. map (λ (unit : Unit). unit.name) (filter (λ unit. is_some unit.part) units)) (take_all c.loop-unit.unit-index c.args.units.now c.loop-unit-test.false))
    c.loop-unit.invariant.1

pub loop-unit-preserved : goal.loop-unit-preserved
loop-unit-preserved c =
    let so_far = c.loop-unit.invariant.0 in (
      grind (arith, common_steps),
      elim c.if-is_some.branch [
        | then-is_some+in_ok-copy+in_ok-push w ↦ named_more c.loop-unit.names c.unit-item.result.name _ c.if-is_some.names w.as_str-name.ensures.is_name w.in_ok-copy.ensures (w.names-is ∙ w.in_ok-push.ensures.ok) c.loop-unit.invariant.1
        | else-is_some w ↦ subst (λ names. (name : List ℕ) → has names name ≡ true → IsUnitName name) (sym w.names-is) c.loop-unit.invariant.1
      ],
    )
