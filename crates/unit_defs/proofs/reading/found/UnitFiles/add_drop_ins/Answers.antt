use Rattle.std.proofs.Common.{ap, sym, ◌∙◌}
use Rattle.unit_defs.specs.Part.{added}
use Rattle.unit_defs.proofs.DropInLemmas.{ordered_values}
use Rattle.unit_defs.proofs.PartLemmas.{added_first, added_none}
use Rattle.unit_defs.proofs.reading.found.UnitFiles.add_drop_ins.Goals as goal

pub loop-drop_in-preserved : goal.loop-drop_in-preserved
loop-drop_in-preserved c =
    added_first c.loop-drop_in.part c.in-Some.drop_in.now c.add.new.self c.next.new.self c.in_ok-add.ensures.text c.in_ok-add.ensures.fault
    ∙ ap (added c.loop-drop_in.part) (sym c.in-Some.ensures.steps) ∙ c.loop-drop_in.invariant

pub returns : goal.returns
returns c =
    sym (added_none c.loop-drop_in.part) ∙ ap (added c.loop-drop_in.part) (sym c.in-None.ensures.steps.0) ∙ c.loop-drop_in.invariant
    ∙ ap (added c.args.part.now) (sym (ordered_values c.args.self.now.drop_ins.entries c.values-drop_in-items.ensures.ordered))
