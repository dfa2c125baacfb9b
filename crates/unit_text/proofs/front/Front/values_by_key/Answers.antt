use Rattle.std.proofs.Common.{[], List, ap, ◌∙◌, map, subst, sym}
use Rattle.std.specs.Option.{option_map_or}
use Rattle.std.specs.Rc.{rc_value}
use Rattle.unit_text.specs.declared.assignment.Assignment.{Assignment}
use Rattle.unit_text.specs.UnitText.{AreAssignedIn, values_of}
use Rattle.unit_text.proofs.IndexLemmas.{no_keys}
use Rattle.unit_text.proofs.front.Front.values_by_key.Goals as goal

pub returns-in-None : goal.returns-in-None
returns-in-None c keys are =
    let nothing = sym (ap (λ layer. option_map_or rc_value layer []) c.in-None.is) ∙ c.self.view_is in
    ap (map (values_of c.args.self.now)) (no_keys keys (subst (λ (text : List Assignment). AreAssignedIn text keys) (sym nothing) are))
