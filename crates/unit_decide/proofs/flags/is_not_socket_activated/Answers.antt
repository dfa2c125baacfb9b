use Rattle.unit_decide.proofs.flags.is_not_socket_activated.Goals as goal

pub returns : goal.returns
returns c = c.flag.ensures
