use Rattle.unit_defs.specs.Defs.{own_in}
use Rattle.unit_defs.proofs.NameLemmas.{found_by_template, found_own}
use Rattle.unit_defs.proofs.answering.wanting.find_text.Goals as goal

pub returns-in-Some : goal.returns-in-Some
returns-in-Some c = found_own (own_in c.args.units.now) c.args.name.now c.in-Some.text.now c.as_str-name.ensures.is_name c.in-Some.ensures

pub returns-in-None : goal.returns-in-None
returns-in-None c = found_by_template (own_in c.args.units.now) c.args.name.now _ c.as_str-name.ensures.is_name c.in-None.ensures c.template_text.ensures
