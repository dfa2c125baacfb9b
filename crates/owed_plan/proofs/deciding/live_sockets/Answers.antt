use Rattle.std.proofs.lemmas.Result.{IfOk-weaker}
use Rattle.owed_plan.specs.Decisions.{situation_of}
use Rattle.owed_plan.proofs.DecisionLemmas.{live_there, none_live}
use Rattle.owed_plan.proofs.deciding.live_sockets.Goals as goal

pub returns : goal.returns
returns c =
    IfOk-weaker c.live_among.result _ _ (λ live is.
    live_there (situation_of c.args.known) c.args.unit.now c.args.facts.now c.decide_by.result c.is_socket_started.result c.in_ok-sockets.sockets c.as_slice.result.now live
    c.requires c.decide_by.ensures c.is_socket_started.ensures c.if-not-is_socket_started.false c.in_ok-sockets.ensures c.as_slice.ensures is)
    c.live_among.ensures

pub returns-then-not-is_socket_started : goal.returns-then-not-is_socket_started
returns-then-not-is_socket_started c =
    none_live (situation_of c.args.known) c.args.unit.now c.args.facts.now c.decide_by.result c.is_socket_started.result _
    c.requires c.decide_by.ensures c.is_socket_started.ensures c.if-not-is_socket_started.true c.new.ensures
