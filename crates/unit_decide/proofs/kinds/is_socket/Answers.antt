use Rattle.std.proofs.Common.{sym, ap}
use Rattle.switch_names.specs.declared.unit_kind.UnitKind.TheVariants.{Socket}
use Rattle.unit_decide.specs.Kinds.{is_kind}
use Rattle.unit_decide.proofs.kinds.is_socket.Goals as goal

pub returns-in-Socket : goal.returns-in-Socket
returns-in-Socket c = ap (λ kind. is_kind kind Socket) (sym c.in-Socket.is)
