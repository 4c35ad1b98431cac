-- A write of the head is a step of the duplex, and fails for the send error that is kept.
use Rattle.std.proofs.Common.{sym, ◌∙◌}
use Rattle.relay_tasks.specs.declared.error.Fail.TheVariants as fail
use Rattle.relay_core.specs.Table.{core}
use Rattle.relay_core.specs.declared.step.Step.TheVariants as step
use Rattle.relay_exchange.proofs.CallLemmas.{calls_still}
use Rattle.relay_exchange.proofs.PassLemmas.{may_ask, write_asked}
use Rattle.relay_exchange.proofs.ToldLemmas.{told_still}
use Rattle.relay_exchange.proofs.TurnLemmas.{turns_on, turns_failed}
use Rattle.relay_exchange.proofs.exchange.write_head.Goals as goal

-- a write of the head behind which a send error is kept fails for it
pub returns-in-Some-clause-goes : goal.returns-in-Some-clause-goes
returns-in-Some-clause-goes g c = λ s p q under.
    turns_failed _ _ _ _ _ _ p q _ _ c.step-step.result c.in-Some.error
    (c.step-step.ensures.goes s p q under.so_far) (sym c.send_error.ensures ∙ c.in-Some.is)

-- any other write of the head is a turn
pub returns-in-None-clause-goes : goal.returns-in-None-clause-goes
returns-in-None-clause-goes g c = λ s p q under.
    turns_on _ _ _ _ _ _ p q _ _ c.step-step.result (c.step-step.ensures.goes s p q under.so_far)
    c.step-step.ensures.tells

-- it leaves the client's side
pub returns-in-Some-clause-errors : goal.returns-in-Some-clause-errors
returns-in-Some-clause-errors g c =
    let t = c.step-step in
    told_still
    (core c.args.duplex.now (g.D.Down.state c.args.down.now) (g.U.Up.state c.args.up.now))
    (core t.new.self (g.D.Down.state t.new.down) (g.U.Up.state t.new.up))
    (step.Failed (fail.Error c.in-Some.error)) t.ensures.exact.down

-- whatever it answers
pub returns-in-None-clause-errors : goal.returns-in-None-clause-errors
returns-in-None-clause-errors g c =
    let t = c.step-step in
    told_still
    (core c.args.duplex.now (g.D.Down.state c.args.down.now) (g.U.Up.state c.args.up.now))
    (core t.new.self (g.D.Down.state t.new.down) (g.U.Up.state t.new.up)) t.result
    t.ensures.exact.down

-- it calls no hook
pub returns-in-None-clause-calls : goal.returns-in-None-clause-calls
returns-in-None-clause-calls g c = λ unfailed.
    let t = c.step-step in
    calls_still
    (core c.args.duplex.now (g.D.Down.state c.args.down.now) (g.U.Up.state c.args.up.now))
    (core t.new.self (g.D.Down.state t.new.down) (g.U.Up.state t.new.up)) t.ensures.exact.down

-- it asked one link once, or none
pub returns-in-Some-clause-asks : goal.returns-in-Some-clause-asks
returns-in-Some-clause-asks g c =
    let t = c.step-step in
    may_ask t.result (g.D.Down.link c.args.client.now) (g.D.Down.link t.new.client)
    (g.U.Up.link c.args.up.now) (g.U.Up.link t.new.up) t.ensures.asks

-- a write of the head that moved asked the upstream's link
pub returns-in-None-clause-moves : goal.returns-in-None-clause-moves
returns-in-None-clause-moves g c = λ s p q under is.
    let t = c.step-step in
    write_asked
    (core c.args.duplex.now (g.D.Down.state c.args.down.now) (g.U.Up.state c.args.up.now))
    (core t.new.self (g.D.Down.state t.new.down) (g.U.Up.state t.new.up))
    (g.D.Down.link c.args.client.now) (g.D.Down.link t.new.client) (g.U.Up.link c.args.up.now)
    (g.U.Up.link t.new.up) (t.ensures.moves s p q under.so_far is)
