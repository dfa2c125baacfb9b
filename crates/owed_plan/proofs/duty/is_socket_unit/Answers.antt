use Rattle.std.proofs.Common.{Option, ap, sym, ◌∙◌}
use Rattle.std.specs.Prelude.{unwrap_or}
use Rattle.switch_names.specs.declared.unit_kind.UnitKind.{UnitKind}
use Rattle.switch_names.specs.declared.unit_kind.UnitKind.TheVariants.{Service, Socket}
use Rattle.unit_decide.specs.Kinds.{is_kind}
use Rattle.owed_plan.proofs.duty.is_socket_unit.Goals as goal

pub returns : goal.returns
returns c = c.is_socket.ensures ∙ ap (λ (kind : Option UnitKind). is_kind (unwrap_or kind Service) Socket) (sym c.kind.ensures)
