use Rattle.std.proofs.Common.{[], List, ap, ◌∙◌, subst, sym}
use Rattle.std.specs.Option.{option_map_or}
use Rattle.std.specs.Rc.{rc_value}
use Rattle.unit_text.specs.declared.assignment.Assignment.{Assignment}
use Rattle.unit_text.specs.UnitText.{AreAssignedIn}
use Rattle.unit_text.proofs.IndexLemmas.{none_assigned}
use Rattle.unit_text.proofs.front.Front.keys.Goals as goal

pub returns-in-None : goal.returns-in-None
returns-in-None c =
    let nothing = sym (ap (λ layer. option_map_or rc_value layer []) c.in-None.is) ∙ c.self.view_is in
    subst (λ (text : List Assignment). AreAssignedIn text []) nothing none_assigned
