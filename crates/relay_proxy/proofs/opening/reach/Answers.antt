-- An error is answered, or the hook that comes next is called; where neither is due, the connector
-- is asked.
use Rattle.std.proofs.Common.{[], List, ap, refl, sym, subst, ◌∙◌}
use Rattle.relay_connector.specs.Upstream.{upstream_state, upstream_start}
use Rattle.relay_request.specs.Calls.{log_of, station_at}
use Rattle.relay_request.specs.Passed.{Start}
use Rattle.relay_request.specs.Phases.{RunSoFar}
use Rattle.relay_request.specs.Refusals.{faults_told}
use Rattle.relay_request.specs.Turn.{Advances, world_with}
use Rattle.relay_request.specs.declared.machine.Phase.TheVariants as phase
use Rattle.relay_request.specs.declared.record.AttemptRecord.{AttemptRecord}
use Rattle.relay_turns.proofs.LastCalls.{calls_logged}
use Rattle.relay_turns.proofs.PurgeSteps.{asks_nothing, final_unpurged, opens_elsewhere}
use Rattle.relay_turns.proofs.TakenLemmas.{none_asked}
use Rattle.relay_request.proofs.MadeLemmas.{final_unmade, idle_unmade, purge_unmade}
use Rattle.relay_request.proofs.TreatLemmas.{still_open}
use Rattle.relay_proxy.proofs.opening.reach.Goals as goal

-- an error is answered
pub returns-in-Some-clause-run : goal.returns-in-Some-clause-run
returns-in-Some-clause-run g c = λ s p client ahead limit o run.
    c.answer.ensures.run s p
    (world_with client ahead (g.K.Connector.fault_count c.args.connector.now)) o run

pub returns-in-Some-clause-cause : goal.returns-in-Some-clause-cause
returns-in-Some-clause-cause g c = λ log client ahead.
    c.answer.ensures.cause log
    (world_with client ahead (g.K.Connector.fault_count c.args.connector.now))

-- and the connector is not asked
pub returns-in-Some-clause-asks : goal.returns-in-Some-clause-asks
returns-in-Some-clause-asks g c =
    none_asked _ _ _ _ _ _ _
    (ap (λ (xs : List AttemptRecord). faults_told xs) c.answer.ensures.attempts)
    c.answer.ensures.no_items refl refl

-- a hook is called
pub returns-then-is_calling-clause-run : goal.returns-then-is_calling-clause-run
returns-then-is_calling-clause-run g c =
    let link_state = upstream_state g.K.Byte.ByteLink.state g.K.Message.MessageLink.state
    g.K.Custom.MessageLink.state in
    let link_start = upstream_start g.K.Byte.ByteLink.start g.K.Message.MessageLink.start
    g.K.Custom.MessageLink.start in
    λ s p client ahead limit o run.
    let w = world_with client ahead (g.K.Connector.fault_count c.args.connector.now) in
    subst
    (λ (t : Start). Advances link_state link_start t w
    c.open.result.phase)
    (sym (still_open s (log_of c.open.new.calls) (c.open.ensures.unended o.unended)))
    (c.open.ensures.run s p w o
    (subst
    (λ (t : Start). RunSoFar link_state link_start t p w []
    (phase.Connect c.args.context c.args.session c.args.tries))
    (still_open s (log_of c.args.calls.now) o.unended) run))

pub returns-then-is_calling-clause-cause : goal.returns-then-is_calling-clause-cause
returns-then-is_calling-clause-cause g c = λ log client ahead.
    c.open.ensures.cause log
    (world_with client ahead (g.K.Connector.fault_count c.args.connector.now))

-- and the connector is not asked
pub returns-then-is_calling-clause-asks : goal.returns-then-is_calling-clause-asks
returns-then-is_calling-clause-asks g c =
    none_asked _ _ _ _ _ _ _
    (ap (λ (xs : List AttemptRecord). faults_told xs) c.open.ensures.attempts)
    c.open.ensures.no_items refl refl

-- or a link is asked for
pub returns-clause-run : goal.returns-clause-run
returns-clause-run g c =
    let link_state = upstream_state g.K.Byte.ByteLink.state g.K.Message.MessageLink.state
    g.K.Custom.MessageLink.state in
    let link_start = upstream_start g.K.Byte.ByteLink.start g.K.Message.MessageLink.start
    g.K.Custom.MessageLink.start in
    λ s p client ahead limit o run.
    let w = world_with client ahead (g.K.Connector.fault_count c.args.connector.now) in
    let x = world_with client ahead (g.K.Connector.fault_count c.connect.new.connector) in
    subst
    (λ (t : Start). Advances link_state link_start t x
    c.connect.result.phase)
    (sym (still_open s (log_of c.connect.new.calls) (c.connect.ensures.unended o.unended)))
    (c.connect.ensures.run s p client ahead limit o
    (subst
    (λ (t : Start). RunSoFar link_state link_start t p w []
    (phase.Connect c.args.context c.args.session c.args.tries))
    (still_open s (log_of c.args.calls.now) o.unended) run))

-- and the application may be told of it
pub returns-clause-calls : goal.returns-clause-calls
returns-clause-calls g c = λ o. c.connect.ensures.calls o

-- the purger is asked in the turn of a purge alone
pub returns-in-Some-clause-purger : goal.returns-in-Some-clause-purger
returns-in-Some-clause-purger g c = λ o.
    let logged = calls_logged _ _ c.answer.new.calls c.answer.result.phase
    (c.answer.ensures.calls o) in
    asks_nothing _ _ c.args.calls.now c.answer.new.calls c.answer.result.phase
    (station_at c.args.calls.now.at) logged.0 refl o.order
    (opens_elsewhere c.args.calls.now.at
    (final_unpurged c.args.calls.now.at c.in-Some.error (sym c.final_error.ensures ∙ c.in-Some.is)))
    logged.1.order c.answer.ensures.called.grows c.answer.ensures.called.once

pub returns-then-is_calling-clause-purger : goal.returns-then-is_calling-clause-purger
returns-then-is_calling-clause-purger g c = λ o.
    let logged = calls_logged _ _ c.open.new.calls c.open.result.phase (c.open.ensures.calls o) in
    asks_nothing _ _ c.args.calls.now c.open.new.calls c.open.result.phase
    (station_at c.args.calls.now.at) logged.0 refl o.order
    (opens_elsewhere c.args.calls.now.at (sym c.purge.ensures ∙ c.in_default-purge.is))
    logged.1.order c.open.ensures.called.grows c.open.ensures.called.once

pub returns-clause-purger : goal.returns-clause-purger
returns-clause-purger g c = λ o.
    let logged = calls_logged _ _ c.connect.new.calls c.connect.result.phase
    (c.connect.ensures.calls o) in
    asks_nothing _ _ c.args.calls.now c.connect.new.calls c.connect.result.phase
    (station_at c.args.calls.now.at) logged.0 refl o.order
    (opens_elsewhere c.args.calls.now.at (sym c.purge.ensures ∙ c.in_default-purge.is))
    logged.1.order c.connect.ensures.called.grows c.connect.ensures.called.once

-- a purge is done, and the connector is not asked
pub returns-in-Some-purge-clause-run : goal.returns-in-Some-purge-clause-run
returns-in-Some-purge-clause-run g c =
    let link_state = upstream_state g.K.Byte.ByteLink.state g.K.Message.MessageLink.state
    g.K.Custom.MessageLink.state in
    let link_start = upstream_start g.K.Byte.ByteLink.start g.K.Message.MessageLink.start
    g.K.Custom.MessageLink.start in
    λ s p client ahead limit o run.
    let w = world_with client ahead (g.K.Connector.fault_count c.args.connector.now) in
    subst
    (λ (t : Start). Advances link_state link_start t w
    c.purge-in-Some-purge.result.phase)
    (sym (still_open s (log_of c.purge-in-Some-purge.new.calls)
    (c.purge-in-Some-purge.ensures.unended o.unended)))
    (c.purge-in-Some-purge.ensures.run s p w o
    (subst
    (λ (t : Start). RunSoFar link_state link_start t p w []
    (phase.Connect c.args.context c.args.session c.args.tries))
    (still_open s (log_of c.args.calls.now) o.unended) run))

pub returns-in-Some-purge-clause-cause : goal.returns-in-Some-purge-clause-cause
returns-in-Some-purge-clause-cause g c = λ log client ahead.
    c.purge-in-Some-purge.ensures.cause log
    (world_with client ahead (g.K.Connector.fault_count c.args.connector.now))

pub returns-in-Some-purge-clause-asks : goal.returns-in-Some-purge-clause-asks
returns-in-Some-purge-clause-asks g c =
    none_asked _ _ _ _ _ _ _
    (ap (λ (xs : List AttemptRecord). faults_told xs) c.purge-in-Some-purge.ensures.attempts)
    c.purge-in-Some-purge.ensures.no_items refl refl

-- where no hook before the attempts is called, it is not asked for subrequests
pub returns-in-Some-clause-made : goal.returns-in-Some-clause-made
returns-in-Some-clause-made g c =
    final_unmade c.args.makes_modules c.args.calls.now.session.modules
    c.answer.new.calls.session.modules c.args.calls.now.at c.answer.new.calls.at c.in-Some.error
    (sym c.final_error.ensures ∙ c.in-Some.is)

pub returns-in-Some-purge-clause-made : goal.returns-in-Some-purge-clause-made
returns-in-Some-purge-clause-made g c =
    purge_unmade c.args.makes_modules c.args.calls.now.session.modules
    c.purge-in-Some-purge.new.calls.session.modules c.args.calls.now.at
    c.purge-in-Some-purge.new.calls.at c.in-Some-purge.action
    (sym c.purge.ensures ∙ c.in-Some-purge.is)

pub returns-clause-made : goal.returns-clause-made
returns-clause-made g c =
    idle_unmade c.args.makes_modules c.args.calls.now.session.modules
    c.connect.new.calls.session.modules c.args.calls.now.at c.connect.new.calls.at
    (sym c.is_calling.ensures ∙ c.if-is_calling.false)
