use Rattle.unit_decide.proofs.SocketLemmas.{paired_with_own}
use Rattle.unit_decide.proofs.laws.a_service_has_the_socket_of_its_name.Goals as goal

pub returns : goal.returns
returns c = paired_with_own
