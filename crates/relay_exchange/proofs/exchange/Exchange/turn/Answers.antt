-- A branch of the duplex is a turn.
use Rattle.relay_exchange.proofs.TurnLemmas.{turns_on}
use Rattle.relay_exchange.proofs.exchange.Exchange.turn.Goals as goal

-- a branch of the duplex, once the head was sent, is a turn
pub returns-clause-goes : goal.returns-clause-goes
returns-clause-goes g c = λ s p q under.
    let ensured = c.go_round-step.ensures in
    turns_on _ _ _ _ _ _ p q _ _ c.go_round-step.result.0
    (ensured.goes s p q under.so_far under.goes_on.unfinished under.goes_on.unfailed)
    (ensured.tells under.so_far.sound under.goes_on.unfinished under.goes_on.unfailed)
