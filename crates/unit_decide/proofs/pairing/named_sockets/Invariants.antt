use Rattle.std.proofs.Common.{◌≡◌, filter, take}
use Rattle.std.specs.List.{flat_map}
use Rattle.unit_decide.specs.Sockets.{is_socket_name, words}
use Rattle.unit_decide.proofs.pairing.named_sockets.Given as goal

-- the words of the values so far have been looked at
abbrev pub invariant-loop-value : goal.invariant-loop-value
invariant-loop-value l = l.sockets ≡ filter is_socket_name (flat_map words (take l.value-index l.values))
