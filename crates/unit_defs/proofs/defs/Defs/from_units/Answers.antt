use Rattle.std.proofs.Common.{List, map, ap, ◌∙◌}
use Rattle.unit_defs.specs.declared.unit.Unit.{Unit}
use Rattle.unit_defs.specs.Defs.{wants_for}
use Rattle.unit_defs.proofs.defs.Defs.from_units.Goals as goal

pub invariant_of-result : goal.invariant_of-result
invariant_of-result c = record {
  in_order = c.requires.sorted;
  their_names = c.requires.their_names;
  their_wants = c.in_ok-wants.ensures ∙ ap (λ (units : List Unit). map (wants_for units) units) c.as_slice.ensures;
  is_empty = c.new.ensures;
}
