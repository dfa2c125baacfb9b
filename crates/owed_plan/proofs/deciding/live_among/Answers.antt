use Rattle.std.proofs.Common.{sym, ◌∙◌, arith}
use Rattle.owed_plan.specs.Decisions.{is_live_socket, situation_of}
use Rattle.owed_plan.proofs.LoopLemmas.{passed_more, passed_same}
use Rattle.std.proofs.lemmas.Grind.{common_steps}
use Rattle.owed_plan.proofs.deciding.live_among.Goals as goal
use Rattle.owed_plan.proofs.deciding.live_among.Goals.{then-is_live_socket+in_ok-copy+in_ok-push, else-is_live_socket}

pub loop-socket-preserved : goal.loop-socket-preserved
loop-socket-preserved c =
    elim c.if-is_live_socket.branch [
      | then-is_live_socket+in_ok-copy+in_ok-push w ↦
          w.live-is
          ∙ passed_more (is_live_socket (situation_of c.args.known)) c.args.sockets.now c.loop-socket.socket-index c.socket-item.result _ _ _ c.loop-socket-test.true c.socket-item.is
          (sym c.is_live_socket.ensures ∙ w.if-is_live_socket.true) w.in_ok-copy.ensures w.in_ok-push.ensures.ok c.loop-socket.invariant
      | else-is_live_socket w ↦
          w.live-is
          ∙ passed_same (is_live_socket (situation_of c.args.known)) c.args.sockets.now c.loop-socket.socket-index c.socket-item.result _ c.loop-socket-test.true c.socket-item.is
          (sym c.is_live_socket.ensures ∙ w.if-is_live_socket.false) c.loop-socket.invariant
    ]

pub returns : goal.returns
returns c = grind (arith, common_steps)
