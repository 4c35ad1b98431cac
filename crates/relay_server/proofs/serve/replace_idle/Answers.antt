-- An idle connection gives way to a client.
use Rattle.relay_server.proofs.ServingLemmas.{on_begun, on_then}
use Rattle.relay_server.proofs.serve.replace_idle.Goals as goal

-- it is given up, and the client's begins and is kept
pub returns-clause-goes : goal.returns-clause-goes
returns-clause-goes g c =
    on_then _ _ _ _ _ _ _ _ _ _ _ _ _ _ _ c.give_way.ensures.goes
    (on_then _ _ _ _ _ _ _ _ _ _ _ _ _ _ _
    (on_begun _ _ _ _ _ _ _ _ _ _ c.begin-connection.result c.give_way.new.floor
    (λ before. c.begin-connection.ensures.serves before c.give_way.new.floor)
    c.begin-connection.ensures.no_link) c.keep.ensures.goes)
