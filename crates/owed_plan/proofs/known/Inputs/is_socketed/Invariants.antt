use Rattle.std.proofs.Common.{◌≡◌, false, take}
use Rattle.std.specs.List.{list_any}
use Rattle.owed_plan.specs.Decisions.{situation_of}
use Rattle.owed_plan.proofs.known.Inputs.is_socketed.Given as goal

-- none of the sockets so far is defined
abbrev pub invariant-loop-socket : goal.invariant-loop-socket
invariant-loop-socket l = list_any (λ socket. ((situation_of l.self).systems.facts socket).in_new) (take l.socket-index l.socket-items) ≡ false
