use Rattle.std.proofs.Common.{is_some, rules, sym, ◌∙◌}
use Rattle.unit_defs.specs.Defs.{found_in}
use Rattle.unit_defs.proofs.NameLemmas.{no_template, other_than_template}
use Rattle.unit_defs.proofs.answering.wanting.can_be_wanted.Goals as goal

pub returns-then-is_template : goal.returns-then-is_template
returns-then-is_template c =
    let none = no_template (is_some (found_in c.args.units.now c.args.name.now)) _ (sym c.is_template.ensures ∙ c.if-is_template.true) in
    search (rules, none) steps 300000

pub returns : goal.returns
returns c =
    let found = other_than_template (is_some (found_in c.args.units.now c.args.name.now)) _ (sym c.is_template.ensures ∙ c.if-is_template.false) in
    search (rules, found) steps 300000
