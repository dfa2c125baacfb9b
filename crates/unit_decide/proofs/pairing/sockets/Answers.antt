use Rattle.std.proofs.Common.{◌∙◌}
use Rattle.std.proofs.lemmas.Result.{IfOk-weaker}
use Rattle.unit_decide.proofs.SocketLemmas.{paired_named, paired_own}
use Rattle.unit_decide.proofs.pairing.sockets.Goals as goal

pub returns-then-is_empty : goal.returns-then-is_empty
returns-then-is_empty c =
    IfOk-weaker c.own_socket.result _ _
    (λ sockets are. are ∙ paired_own c.args.new.now c.args.unit.now c.kind.result c.values-values.result.now c.stem.result.now
    c.kind.ensures c.if-not-is_service.ensures c.if-is_not_socket_activated.ensures c.values-values.ensures c.if-is_empty.ensures c.stem.ensures.stem)
    c.own_socket.ensures

pub returns-else-is_empty : goal.returns-else-is_empty
returns-else-is_empty c =
    IfOk-weaker c.named_sockets.result _ _
    (λ sockets are. are ∙ paired_named c.args.new.now c.args.unit.now c.kind.result c.values-values.result.now
    c.kind.ensures c.if-not-is_service.ensures c.if-is_not_socket_activated.ensures c.values-values.ensures c.if-is_empty.ensures)
    c.named_sockets.ensures
