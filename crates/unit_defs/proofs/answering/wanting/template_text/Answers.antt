use Rattle.std.proofs.Common.{None, Some, rules, ap, sym, ◌∙◌}
use Rattle.std.proofs.lemmas.Option.{slice_get-get_or}
use Rattle.switch_names.specs.UnitName.{template_of}
use Rattle.unit_defs.proofs.WantLemmas.{own_of_template}
use Rattle.unit_defs.proofs.answering.wanting.template_text.Goals as goal

pub returns-in_err-find_template : goal.returns-in_err-find_template
returns-in_err-find_template c =
    let none = own_of_template c.args.units.now (template_of c.args.name.now) None c.in_err-find_template.ensures in
    search (rules, none)

pub returns : goal.returns
returns c =
    c.text.ensures ∙ own_of_template c.args.units.now (template_of c.args.name.now) (Some c.index-units-branch.result)
    (c.in_ok-find_template.ensures.1 ∙ slice_get-get_or c.args.units.now c.in_ok-find_template.field-0 c.index-units-branch.result c.in_ok-find_template.ensures.0 ∙ ap (λ unit. Some unit) (sym c.index-units-branch.is))
