use Rattle.std.proofs.Common.{List, ap, sym, ◌∙◌, arith}
use Rattle.std.specs.List.{list_any}
use Rattle.std.proofs.lemmas.List.{take_all}
use Rattle.switch_names.specs.Names.{Name}
use Rattle.owed_plan.specs.Decisions.{situation_of}
use Rattle.owed_plan.proofs.LoopLemmas.{no_socket, none_more}
use Rattle.std.proofs.lemmas.Grind.{common_steps}
use Rattle.owed_plan.proofs.known.Inputs.is_socketed.Goals as goal

pub loop-socket-preserved : goal.loop-socket-preserved
loop-socket-preserved c =
    none_more (λ (socket : Name). ((situation_of c.args.self).systems.facts socket).in_new) c.as_slice-socket-items.result.now c.loop-socket.socket-index c.socket-item.result
    c.loop-socket-test.true c.socket-item.is (sym c.is_defined.ensures ∙ c.if-is_defined.false) c.loop-socket.invariant

pub returns-then-is_defined : goal.returns-then-is_defined
returns-then-is_defined c = grind (arith, common_steps)

pub returns : goal.returns
returns c =
    no_socket (situation_of c.args.self).systems c.args.unit.now c.in_ok-sockets.sockets c.as_slice-socket-items.result.now c.as_slice-socket-items.ensures c.in_ok-sockets.ensures
    (ap (λ (names : List Name). list_any (λ socket. ((situation_of c.args.self).systems.facts socket).in_new) names)
    (sym (take_all c.loop-socket.socket-index c.as_slice-socket-items.result.now c.loop-socket-test.false)) ∙ c.loop-socket.invariant)
