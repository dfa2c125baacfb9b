use Rattle.std.proofs.Common.{◌≡◌, ◌++◌, filter, map}
use Rattle.unit_decide.specs.Sockets.{is_socket_name}
use Rattle.unit_decide.proofs.pairing.add_sockets.Given as goal

-- the words so far have been looked at
abbrev pub invariant-loop-word : goal.invariant-loop-word
invariant-loop-word l = l.sockets ≡ l.initial.sockets ++ filter is_socket_name (map (λ word. word.now) l.yielded)
