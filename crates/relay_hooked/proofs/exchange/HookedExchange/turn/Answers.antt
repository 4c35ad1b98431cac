-- A turn between both sides is one over all that passed.
use Rattle.std.proofs.Common.{rules, ◌≡◌, ℕ, List, is_some, refl}
use Rattle.relay_tasks.specs.declared.log.LogEntry.{LogEntry}
use Rattle.relay_core.specs.Past.{Origin}
use Rattle.relay_core.specs.declared.step.Step.TheVariants as step
use Rattle.relay_attempt.specs.Attempt.{IsAttempt}
use Rattle.relay_attempt.specs.Passed.{Passed}
use Rattle.relay_hooked.specs.Attempt.{HookedHalf, PeerHalf}
use Rattle.relay_hooked.specs.Bound.{CountsOn, HasCounted}
use Rattle.relay_hooked.specs.Exchange.{HasMoved, IsUnderWay, Turns}
use Rattle.relay_hooked.specs.Head.{core_in, filtering_of, link_of, side_state}
use Rattle.relay_hooked.specs.declared.exchange.HookedExchange.{HookedExchange}
use Rattle.relay_hooked.proofs.BoundLemmas.{counted_turn}
use Rattle.relay_hooked.proofs.SideLemmas.{attempt_at}
use Rattle.relay_hooked.proofs.TurnLemmas.{at_log, from_settled, stays_first, turned}
use Rattle.relay_hooked.proofs.WalkLemmas.{log_goes}
use Rattle.relay_hooked.proofs.exchange.HookedExchange.turn.Goals as goal

-- a turn between both sides is one over all that passed
pub returns-clause-goes : goal.returns-clause-goes
returns-clause-goes g c =
    let down = c.turn_over-went.new.down in
    let link = g.F.Front.state c.turn_over-went.new.client in
    let ahead = g.F.Front.ahead c.turn_over-went.new.client in
    let x : HookedExchange g.row.L.Denot = record {
      down = down.side.now;
      exchange = c.turn_over-went.new.exchange;
    } in
    at_log {log' = down.session.now.seen.log}
    (λ (log : List LogEntry). (s : Origin) (p : Passed)
    → IsUnderWay g.L.ByteLink.state g.L.ByteLink.start s p (g.F.Front.state c.args.client.now)
    (g.F.Front.ahead c.args.client.now) c.args.session.now.seen.log c.args.self.now
    → Turns g.L.ByteLink.state g.L.ByteLink.start s link ahead log x c.settled.result.step)
    (search rules)
    (λ s p under.
    let went = rw c.over-down.ensures.side at
    (rw c.over-down.ensures.session at c.turn_over-went.ensures.goes) in
    let tells = rw c.over-down.ensures.side at c.turn_over-went.ensures.errors in
    turned g.L.ByteLink.state g.L.ByteLink.start s link ahead down.session.now.seen.log
    (is_some down.session.now.modules) x under.down under.up
    (core_in c.args.session.now.seen.log c.args.self.now) c.turn_over-went.result.step
    c.settled.result.step c.turn_over-went.ensures.bodies
    (went s under.down under.up under.holds) under.untold tells c.settled.ensures.lost
    c.settled.ensures.alive)

-- and what passed is an attempt
pub returns-clause-attempt : goal.returns-clause-attempt
returns-clause-attempt g c =
    let down = c.turn_over-went.new.down in
    let link = g.F.Front.state c.turn_over-went.new.client in
    let ahead = g.F.Front.ahead c.turn_over-went.new.client in
    let side = down.side.now in
    let x : HookedExchange g.row.L.Denot = record {
      down = side;
      exchange = c.turn_over-went.new.exchange;
    } in
    at_log {log' = down.session.now.seen.log}
    (λ (log : List LogEntry). (s : Origin) (p : Passed)
    → IsUnderWay g.L.ByteLink.state g.L.ByteLink.start s p (g.F.Front.state c.args.client.now)
    (g.F.Front.ahead c.args.client.now) c.args.session.now.seen.log c.args.self.now
    → IsAttempt (HookedHalf (filtering_of s log side) s link side.ended side.inner.done)
    (PeerHalf s (g.L.ByteLink.start (link_of x)) (g.L.ByteLink.state (link_of x)))
    (side_state log side)) (search rules)
    (λ s p under.
    let goes = rw c.over-down.ensures.side at
    (rw c.over-down.ensures.session at c.turn_over-went.ensures.goes) in
    let went = goes s under.down under.up under.holds in
    attempt_at g.L.ByteLink.state g.L.ByteLink.start s link ahead down.session.now.seen.log side
    x.exchange.up x.exchange.duplex went.p went.q went.so_far)

-- and what it moved between both sides it moved over their links
pub returns-clause-moves : goal.returns-clause-moves
returns-clause-moves g c =
    let down = c.turn_over-went.new.down in
    let x : HookedExchange g.row.L.Denot = record {
      down = down.side.now;
      exchange = c.turn_over-went.new.exchange;
    } in
    at_log {log = c.session-1.given.0.seen.log} {log' = down.session.now.seen.log}
    (λ (log : List LogEntry). (s : Origin) (p : Passed)
    → IsUnderWay g.L.ByteLink.state g.L.ByteLink.start s p (g.F.Front.state c.args.client.now)
    (g.F.Front.ahead c.args.client.now) c.args.session.now.seen.log c.args.self.now
    → c.settled.result.step ≡ step.Moved
    → HasMoved g.L.ByteLink.state c.settled.result.branch (g.F.Front.state c.args.client.now)
    (g.F.Front.state c.turn_over-went.new.client) c.args.session.now.seen.log log c.args.self.now x)
    (search rules)
    (λ s p under is.
    let own = from_settled c.settled.result.step c.turn_over-went.result.step _
    c.settled.ensures.either refl is in
    let moves = rw c.over-down.ensures.side at
    (rw c.over-down.ensures.session at c.turn_over-went.ensures.moves) in
    rw c.settled.ensures.branch (moves s under.down under.up under.holds own))

-- what was counted goes on with it
pub returns-clause-counts_on : goal.returns-clause-counts_on
returns-clause-counts_on g c =
    let down = c.turn_over-went.new.down in
    let link = g.F.Front.state c.turn_over-went.new.client in
    let ahead = g.F.Front.ahead c.turn_over-went.new.client in
    let x : HookedExchange g.row.L.Denot = record {
      down = down.side.now;
      exchange = c.turn_over-went.new.exchange;
    } in
    at_log {log = c.session-1.given.0.seen.log} {log' = down.session.now.seen.log}
    (λ (log : List LogEntry). (s : Origin) (tasks ends : ℕ)
    → HasCounted g.L.ByteLink.state g.L.ByteLink.start tasks ends s
    (g.F.Front.state c.args.client.now) (g.F.Front.ahead c.args.client.now)
    c.args.session.now.seen.log c.args.self.now
    → CountsOn g.L.ByteLink.state g.L.ByteLink.start tasks ends s link ahead
    c.args.session.now.seen.log log c.args.self.now x c.settled.result.step) (search rules)
    (λ s tasks ends h.
    let went = rw c.over-down.ensures.side at
    (rw c.over-down.ensures.session at c.turn_over-went.ensures.goes) in
    let tells = rw c.over-down.ensures.side at c.turn_over-went.ensures.errors in
    let lasts = rw c.over-down.ensures.side at
    (rw c.over-down.ensures.session at c.turn_over-went.ensures.lasts) in
    let goes = log_goes _ _ _ _ _ _ _ lasts.walks in
    counted_turn g.L.ByteLink.state g.L.ByteLink.start tasks ends s
    (g.F.Front.state c.args.client.now) link (g.F.Front.ahead c.args.client.now) ahead
    c.args.session.now.seen.log goes.0 down.session.now.seen.log c.args.self.now x h
    c.turn_over-went.result.step _ _ _
    (went s h.under_way.down h.under_way.up h.under_way.holds) tells goes.1
    (stays_first _ _ lasts.stays) c.settled.result.step c.settled.ensures.lost
    c.settled.ensures.alive)
