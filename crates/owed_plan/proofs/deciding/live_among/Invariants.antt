use Rattle.std.proofs.Common.{◌≡◌, filter, take}
use Rattle.owed_plan.specs.Decisions.{is_live_socket, situation_of}
use Rattle.owed_plan.proofs.deciding.live_among.Given as goal

-- the live ones of the sockets so far
abbrev pub invariant-loop-socket : goal.invariant-loop-socket
invariant-loop-socket l = l.live ≡ filter (is_live_socket (situation_of l.known)) (take l.socket-index l.sockets)
