use Rattle.std.proofs.Common.{◌∙◌}
use Rattle.std.specs.Option.{option_copied}
use Rattle.unit_defs.proofs.PartLemmas.{unit_made}
use Rattle.unit_defs.proofs.reading.units.unit_of.Goals as goal

pub returns : goal.returns
returns c = unit_made c.args.found.now c.args.name.now c.args.own.now (option_copied c.in_ok-template.template) _ c.requires c.in_ok-template.ensures c.in_ok-copy.ensures c.in_ok-own_part.ensures (c.in_ok-copies.ensures ∙ c.as_slice.ensures)
