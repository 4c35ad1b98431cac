-- A turn between both sides is one over all that passed, and that is an attempt.
use Rattle.relay_attempt.proofs.BoundLemmas.{counted_turn}
use Rattle.relay_attempt.proofs.LastLemmas.{head_lasts}
use Rattle.relay_attempt.proofs.OrderLemmas.{attempt_so_far}
use Rattle.relay_attempt.proofs.TurnLemmas.{turned}
use Rattle.relay_attempt.proofs.h1_exchange.H1Exchange.turn.Goals as goal

-- a turn between both sides is one over all that passed
pub returns-clause-goes : goal.returns-clause-goes
returns-clause-goes g c =
    λ s p under.
    turned g.L.ByteLink.state g.L.ByteLink.start s (g.F.Front.state c.turn.new.client)
    (g.F.Front.ahead c.turn.new.client) under.down under.up _
    (record { down = c.turn.new.down; exchange = c.turn.new.self }) c.turn.result.step
    c.turn.ensures.bodies
    (c.turn.ensures.goes s under.down under.up under.holds) under.untold c.turn.ensures.errors

-- and what passed is an attempt
pub returns-clause-attempt : goal.returns-clause-attempt
returns-clause-attempt g c =
    λ s p under.
    let x = c.turn.new.self in
    let went = c.turn.ensures.goes s under.down under.up under.holds in
    attempt_so_far g.L.ByteLink.state g.L.ByteLink.start s went.p went.q
    (g.F.Front.state c.turn.new.client) (g.F.Front.ahead c.turn.new.client) c.turn.new.down x.up
    x.duplex went.so_far

-- what a turn moved between both sides it moved over their links
pub returns-clause-moves : goal.returns-clause-moves
returns-clause-moves g c = λ s p under is.
    c.turn.ensures.moves s under.down under.up under.holds is

-- what was counted goes on with it
pub returns-clause-counts : goal.returns-clause-counts
returns-clause-counts g c = λ s tasks ends h.
    counted_turn g.L.ByteLink.state g.L.ByteLink.start tasks ends s
    (g.F.Front.state c.args.client.now) (g.F.Front.state c.turn.new.client)
    (g.F.Front.ahead c.args.client.now) (g.F.Front.ahead c.turn.new.client) c.args.self.now
    (record { down = c.turn.new.down; exchange = c.turn.new.self }) h c.turn.result.step
    (c.turn.ensures.goes s h.under_way.down h.under_way.up h.under_way.holds)
    c.turn.ensures.errors

-- the head of the request stands
pub returns-clause-head : goal.returns-clause-head
returns-clause-head g c =
    head_lasts c.args.self.now.down c.turn.new.down c.turn.ensures.lasts
