use Rattle.std.proofs.Common.{◌++◌, ◌∷◌, [], filter, ap, ◌∙◌}
use Rattle.unit_decide.specs.Sockets.{is_socket_name}
use Rattle.unit_decide.proofs.pairing.own_socket.Goals as goal

-- the one word that is added is the stem with `.socket`
pub returns : goal.returns
returns c =
    c.in_ok-add_socket.ensures
    ∙ ap (λ sockets. sockets ++ filter is_socket_name (c.as_bytes.result.now ∷ [])) c.new-sockets.ensures
    ∙ ap (λ word. filter is_socket_name (word ∷ [])) (c.as_bytes.ensures.value ∙ c.in_ok-name.ensures.ok)
