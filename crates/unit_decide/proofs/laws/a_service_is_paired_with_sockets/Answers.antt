use Rattle.unit_decide.proofs.SocketLemmas.{IsUnitName-from_socket, kind_of-socket, paired_is_socket}
use Rattle.unit_decide.proofs.laws.a_service_is_paired_with_sockets.Goals as goal

pub returns : goal.returns
returns c text unit socket found =
    let is = paired_is_socket text unit socket found in
    (IsUnitName-from_socket socket is, kind_of-socket socket is)
