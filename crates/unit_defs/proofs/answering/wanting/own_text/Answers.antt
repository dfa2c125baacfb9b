use Rattle.std.proofs.Common.{Option, Some, option_and_then, option_map, ap, sym, ◌∙◌}
use Rattle.std.proofs.lemmas.Option.{slice_get-get_or}
use Rattle.unit_defs.specs.declared.part.FilePart.{FilePart}
use Rattle.unit_defs.specs.declared.unit.Unit.{Unit}
use Rattle.unit_defs.proofs.answering.wanting.own_text.Goals as goal

pub returns : goal.returns
returns c =
    c.text.ensures ∙ ap (λ (o : Option Unit). option_map (λ (part : FilePart). part.text) (option_and_then (λ (unit : Unit). unit.part) o))
    (sym (c.in_ok-find_unit.ensures.1 ∙ slice_get-get_or c.args.units.now c.in_ok-find_unit.field-0 c.index-units-branch.result c.in_ok-find_unit.ensures.0 ∙ ap (λ unit. Some unit) (sym c.index-units-branch.is)))
