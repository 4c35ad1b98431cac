-- No byte came, and nothing was told.
use Rattle.relay_peer.proofs.ResponseLemmas.{read_nothing}
use Rattle.relay_peer.proofs.h1_client.H1Client.new.Goals as goal

pub returns-clause-read : goal.returns-clause-read
returns-clause-read g c = λ method upgrade closed.
    read_nothing method upgrade closed c.new-2.result c.new-2.ensures.place c.new-2.ensures.ahead
