use Rattle.std.proofs.Common.{Some, option_map, sym, ap, ◌∙◌}
use Rattle.users_spec.specs.Fields.{list_of}
use Rattle.users_spec.proofs.Values.{list_of-items_view}
use Rattle.users_spec.proofs.forms.as_list.Goals as goal

pub returns : goal.returns
returns c = rw c.as_slice.ensures.value (ap Some (sym (list_of-items_view _)) ∙ ap (option_map list_of) c.in_ok-list.ensures)
