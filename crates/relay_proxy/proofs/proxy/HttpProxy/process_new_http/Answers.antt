-- The steps add up to the whole request.
use Rattle.std.proofs.Common.{◌≡◌, List, [], ◌∙◌, ◌+◌, ◌≤◌, arith, inl, refl, ap, subst, sym, true≢false}
use Rattle.relay_connector.specs.Upstream.{upstream_state, upstream_start}
use Rattle.relay_tasks.specs.declared.log.LogEntry.{LogEntry}
use Rattle.relay_tasks.specs.Log.{delays_of}
use Rattle.relay_links.specs.Count.{last_count}
use Rattle.relay_phases.specs.Order.{Station}
use Rattle.relay_request.specs.Calls.{IsLogged, allowed_by, log_of}
use Rattle.relay_request.specs.Legs.{behind}
use Rattle.relay_request.specs.Passed.{called_to, start_of}
use Rattle.relay_request.specs.Request.{Processes}
use Rattle.relay_request.specs.Turn.{world_of}
use Rattle.relay_request.proofs.DelayLemmas.{handed_none, handed_on, since_front}
use Rattle.relay_proxy.specs.declared.proxy.HttpProxy.{HttpProxy}
use Rattle.relay_proxy.specs.declared.proxy.Outside.{Outside}
use Rattle.relay_turns.proofs.TakenLemmas.{stocks_kept, stocks_twice}
use Rattle.relay_turns.proofs.EndSteps.{done_gives, gives_by}
use Rattle.relay_turns.proofs.LastCalls.{calls_logged}
use Rattle.relay_turns.proofs.LegLemmas.{behind_first, behind_most}
use Rattle.relay_turns.proofs.PurgeSteps.{lost_done, purged_end, purged_first, purged_on}
use Rattle.relay_turns.proofs.UnderWay.{begun, goes_on, all_taken, steps_under, stopped, one_more, no_end, stops_at}
use Rattle.relay_proxy.proofs.proxy.HttpProxy.process_new_http.Goals as goal

-- before the first step the request has begun
pub loop-turn-init : goal.loop-turn-init
loop-turn-init g c =
    let link_state = upstream_state g.K.Byte.ByteLink.state g.K.Message.MessageLink.state
    g.K.Custom.MessageLink.state in
    let link_start = upstream_start g.K.Byte.ByteLink.start g.K.Message.MessageLink.start
    g.K.Custom.MessageLink.start in
    let faults = g.K.Connector.fault_count c.args.self.now.connector in (
      rw c.begin-machine.ensures.no_log (begun link_state link_start
          c.args.self.now.conf.max_retries
          (world_of g.D.ByteLink.state c.args.client.now faults)
          (world_of g.D.ByteLink.state c.begin-machine.new.client faults) _ _ _ _ _ _ _
          c.begin-machine.result.machine refl refl refl
          (rw c.take_kept-kept.ensures.after at c.begin-machine.ensures.run)
          c.begin-machine.ensures.no_attempts c.begin-machine.ensures.no_link
          c.begin-machine.ensures.no_turns
          (rw (c.begin-machine.ensures.client, c.take_kept-kept.ensures.after) refl)
          c.begin-machine.ensures.unused c.begin-machine.ensures.unmoved
          c.begin-machine.ensures.unended (c.begin-machine.ensures.uncounted _ _ _ [])),
      rw (c.begin-machine.ensures.client, c.take_kept-kept.ensures.after) refl,
      stocks_kept link_start _ _ [] _ _ _ (rw c.begin-machine.ensures.no_items refl) refl,
      omega (arith, c.begin-machine.ensures.no_link),
      rw (c.begin-machine.ensures.client, c.take_kept-kept.ensures.after) refl,
      rw c.begin-machine.ensures.going refl,
      refl,
      omega (arith, c.begin-machine.ensures.no_turns),
      refl,
      c.begin-machine.ensures.calls,
      omega (arith, c.begin-machine.ensures.uncalled),
      rw c.take_kept-kept.ensures.after at c.begin-machine.ensures.first,
      rw c.begin-machine.ensures.no_log (purged_first (g.P.Purger.state c.args.self.now.purger)),
      handed_none _ _ _ (ap delays_of c.begin-machine.ensures.no_log),
    )

-- a step that stops ends the request
pub returns-then-is_stop-clause-processes : goal.returns-then-is_stop-clause-processes
returns-then-is_stop-clause-processes g c =
    let state = upstream_state g.K.Byte.ByteLink.state g.K.Message.MessageLink.state
    g.K.Custom.MessageLink.state in
    let start = upstream_start g.K.Byte.ByteLink.start g.K.Message.MessageLink.start
    g.K.Custom.MessageLink.start in
    let before = c.loop-turn.invariant.0 in
    let s = start_of c.args.self.now.conf.max_retries
    (world_of g.D.ByteLink.state c.args.client.now
    (g.K.Connector.fault_count c.args.self.now.connector)) in
    let most = behind_most s before.legs
    ∙ ap (λ (k : HttpProxy g.row.SV.Denot g.row.K.Denot g.row.P.Denot). k.conf.max_retries)
    (sym c.loop-turn.invariant.6) in
    let first = behind_first s before.legs ∙ sym c.loop-turn.invariant.11 in
    let steps = c.step-step.ensures.steps (behind s before.legs) before.passed before.own most first
    c.loop-turn.invariant.9 before.run in
    let under = steps_under state start s (log_of c.loop-turn.machine.calls)
    (log_of c.step-step.new.machine.calls) _ _ _ _ _ _ _ _ _ _ _ _
    c.loop-turn.machine.machine c.step-step.new.machine.machine _ _ before c.step-step.ensures.front
    steps refl in
    let ends = c.close.ensures.ends
    (called_to (behind s under.legs) (log_of c.step-step.new.machine.calls)) under.passed under.own
    under.run in
    let allows = allowed_by (g.SV.ProxyHttp.allows c.loop-turn.self.inner)
    g.SV.Modules.HttpModule.allows in
    let mark_of = g.SV.ProxyHttp.mark_of c.loop-turn.self.inner in
    let calls = c.step-step.ensures.calls (behind s before.legs) before.passed before.own most first
    c.loop-turn.invariant.9 before.run in
    subst (λ (l : List LogEntry). Processes state start (called_to s l)
    (world_of g.D.ByteLink.state c.close.new.client
    (g.K.Connector.fault_count c.close.new.self.connector))
    (g.K.Connector.returned c.args.self.now.connector)
    (g.K.Connector.returned c.close.new.self.connector)
    (g.K.Connector.refusals c.args.self.now.connector)
    (g.K.Connector.refusals c.close.new.self.connector)
    (g.K.Connector.stock c.args.self.now.connector)
    (g.K.Connector.stock c.close.new.self.connector)
    (g.D.ByteLink.state c.args.client.now.link) c.args.turns c.close.result)
    (sym c.close.ensures.log)
    (stopped state start s (log_of c.step-step.new.machine.calls) _ _ _ _ _ _ _ _ _ _ _ _
    c.step-step.new.machine.machine c.step-step.new.machine.calls.at _ _ c.close.result under ends
    (rw c.close.ensures.log (gives_by allows mark_of c.step-step.new.machine.calls
    c.step-step.new.machine.machine.phase ends.came c.close.result.outcome ends.comes ends.given
    calls)) c.close.ensures.refusals c.close.ensures.offers
    (stops_at state start (log_of c.loop-turn.machine.calls) _
    (world_of g.D.ByteLink.state c.step-step.new.client
    (g.K.Connector.fault_count c.step-step.new.self.connector))
    (world_of g.D.ByteLink.state c.close.new.client
    (g.K.Connector.fault_count c.close.new.self.connector)) _ _ c.step-step.new.machine.calls.at
    c.step-step.result c.close.result.outcome _ _
    (sym c.is_stop.ensures ∙ c.if-is_stop.true) c.step-step.ensures.cause c.step-step.ensures.ended
    (rw (c.close.ensures.link, c.close.ensures.ahead, c.close.ensures.faults) (refl
    {a = world_of g.D.ByteLink.state c.step-step.new.client
    (g.K.Connector.fault_count c.step-step.new.self.connector)}))
    (λ done. done_gives state start _ _
    (called_to (behind s under.legs) (log_of c.step-step.new.machine.calls))
    (g.D.ByteLink.state c.step-step.new.client.link) c.step-step.new.client.ahead under.own
    c.step-step.new.machine.machine.phase c.step-step.new.machine.calls.at ends.came
    c.close.result.outcome under.bounded ends.comes ends.given done ends.over))
    c.close.ensures.turns
    (rw c.close.ensures.link refl) c.close.ensures.ahead
    c.close.ensures.used c.close.ensures.moved c.close.ensures.sides
    (c.step-step.ensures.worked c.loop-turn.invariant.7)
    (rw c.close.ensures.log (c.step-step.ensures.logs c.loop-turn.invariant.10)))

-- one more step leaves the request under way
pub loop-turn-preserved : goal.loop-turn-preserved
loop-turn-preserved g c =
    let state = upstream_state g.K.Byte.ByteLink.state g.K.Message.MessageLink.state
    g.K.Custom.MessageLink.state in
    let start = upstream_start g.K.Byte.ByteLink.start g.K.Message.MessageLink.start
    g.K.Custom.MessageLink.start in
    let under = c.loop-turn.invariant.0 in
    let s = start_of c.args.self.now.conf.max_retries
    (world_of g.D.ByteLink.state c.args.client.now
    (g.K.Connector.fault_count c.args.self.now.connector)) in
    let most = behind_most s under.legs
    ∙ ap (λ (k : HttpProxy g.row.SV.Denot g.row.K.Denot g.row.P.Denot). k.conf.max_retries)
    (sym c.loop-turn.invariant.6) in
    let first = behind_first s under.legs ∙ sym c.loop-turn.invariant.11 in
    let steps = c.step-step.ensures.steps (behind s under.legs) under.passed under.own most first
    c.loop-turn.invariant.9 under.run in
    let calls = c.step-step.ensures.calls (behind s under.legs) under.passed under.own most first
    c.loop-turn.invariant.9 under.run in
    let goes = sym c.is_stop.ensures ∙ c.if-is_stop.false in
    let few : c.loop-turn._turn + 1 ≤ last_count =
    omega (arith, c.loop-turn-test.true, c.ranges.turns.fits) in (
      goes_on state start s (log_of c.loop-turn.machine.calls)
          (log_of c.step-step.new.machine.calls) _ _ _ _ _ _ _ _ _ _ _ _
          c.loop-turn.machine.machine c.step-step.new.machine.machine _ under
          c.step-step.ensures.front steps
          (one_more _ _ c.step-step.result c.step-step.ensures.counted goes) few,
      c.step-step.ensures.client_start ∙ c.loop-turn.invariant.1,
      stocks_twice start _ _ _ _ _ _ _ _ _ c.loop-turn.invariant.2 c.step-step.ensures.stock,
      omega (arith, c.step-step.ensures.out, c.loop-turn.invariant.3),
      c.step-step.ensures.kept ∙ c.loop-turn.invariant.4,
      c.step-step.ensures.ended ∙ no_end c.step-step.result goes,
      c.step-step.ensures.same
          ∙ ap (λ (k : HttpProxy g.row.SV.Denot g.row.K.Denot g.row.P.Denot).
          record k {
            connector = c.step-step.new.self.connector;
            purger = c.step-step.new.self.purger;
          }) c.loop-turn.invariant.6,
      c.step-step.ensures.worked c.loop-turn.invariant.7,
      c.step-step.ensures.outside ∙ ap
          (λ (o : Outside g.row.H.Denot g.row.W.Denot g.row.Y.Denot).
          record o {
            schedule = c.step-step.new.outside.schedule;
            delay = c.step-step.new.outside.delay;
          })
          c.loop-turn.invariant.8,
      rw c.step-step.ensures.same calls,
      c.step-step.ensures.logs c.loop-turn.invariant.10,
      c.step-step.ensures.first ∙ c.loop-turn.invariant.11,
      purged_on (g.P.Purger.state c.args.self.now.purger)
          (g.P.Purger.state c.loop-turn.self.purger) (g.P.Purger.state c.step-step.new.self.purger)
          (log_of c.loop-turn.machine.calls) c.loop-turn.invariant.12
          (log_of c.step-step.new.machine.calls)
          c.step-step.new.machine.machine.phase
          (λ lost. true≢false
          (sym (lost_done c.step-step.new.machine.machine.phase c.step-step.new.machine.calls.at
          lost) ∙ c.step-step.ensures.ended ∙ no_end c.step-step.result goes))
          (c.step-step.ensures.purger c.loop-turn.invariant.9),
      handed_on _ _ _ _ _ _ _ _ _ c.loop-turn.invariant.13 c.step-step.ensures.delays
          (since_front _ _ c.step-step.ensures.front),
    )

-- where all turns were taken the request ends by its limit
pub returns-clause-processes : goal.returns-clause-processes
returns-clause-processes g c =
    let state = upstream_state g.K.Byte.ByteLink.state g.K.Message.MessageLink.state
    g.K.Custom.MessageLink.state in
    let start = upstream_start g.K.Byte.ByteLink.start g.K.Message.MessageLink.start
    g.K.Custom.MessageLink.start in
    let under = c.loop-turn.invariant.0 in
    let s = start_of c.args.self.now.conf.max_retries
    (world_of g.D.ByteLink.state c.args.client.now
    (g.K.Connector.fault_count c.args.self.now.connector)) in
    let ends = c.close-2.ensures.ends
    (called_to (behind s under.legs) (log_of c.loop-turn.machine.calls)) under.passed under.own
    under.run in
    let all : c.args.turns ≡ c.loop-turn._turn =
    omega (arith, c.loop-turn-test.false, c.loop-turn.auto._turn-end) in
    subst (λ (l : List LogEntry). Processes state start (called_to s l)
    (world_of g.D.ByteLink.state c.close-2.new.client
    (g.K.Connector.fault_count c.close-2.new.self.connector))
    (g.K.Connector.returned c.args.self.now.connector)
    (g.K.Connector.returned c.close-2.new.self.connector)
    (g.K.Connector.refusals c.args.self.now.connector)
    (g.K.Connector.refusals c.close-2.new.self.connector)
    (g.K.Connector.stock c.args.self.now.connector)
    (g.K.Connector.stock c.close-2.new.self.connector)
    (g.D.ByteLink.state c.args.client.now.link) c.args.turns c.close-2.result)
    (sym c.close-2.ensures.log)
    (all_taken state start s (log_of c.loop-turn.machine.calls) _ _ _ _ _ _ _ _ _ _ _ _
    c.loop-turn.machine.machine
    c.loop-turn.machine.calls.at _ _ c.close-2.result under all ends
    (rw c.close-2.ensures.log (gives_by
    (allowed_by (g.SV.ProxyHttp.allows c.loop-turn.self.inner) g.SV.Modules.HttpModule.allows)
    (g.SV.ProxyHttp.mark_of c.loop-turn.self.inner) c.loop-turn.machine.calls
    c.loop-turn.machine.machine.phase ends.came c.close-2.result.outcome ends.comes ends.given
    c.loop-turn.invariant.9)) c.close-2.ensures.refusals c.close-2.ensures.offers
    c.close-2.ensures.turns
    (rw c.close-2.ensures.link refl) c.close-2.ensures.ahead c.close-2.ensures.used
    c.close-2.ensures.moved c.close-2.ensures.sides c.loop-turn.invariant.7
    (rw c.close-2.ensures.log c.loop-turn.invariant.10))

-- the log is in order where a step stopped
pub returns-then-is_stop-clause-logged : goal.returns-then-is_stop-clause-logged
returns-then-is_stop-clause-logged g c =
    let under = c.loop-turn.invariant.0 in
    let s = start_of c.args.self.now.conf.max_retries
    (world_of g.D.ByteLink.state c.args.client.now
    (g.K.Connector.fault_count c.args.self.now.connector)) in
    let calls = c.step-step.ensures.calls (behind s under.legs) under.passed under.own
    (behind_most s under.legs
    ∙ ap (λ (k : HttpProxy g.row.SV.Denot g.row.K.Denot g.row.P.Denot). k.conf.max_retries)
    (sym c.loop-turn.invariant.6))
    (behind_first s under.legs ∙ sym c.loop-turn.invariant.11) c.loop-turn.invariant.9 under.run in
    subst (λ (app : g.row.SV.Denot). (at : Station)
    × IsLogged (allowed_by (g.SV.ProxyHttp.allows app) g.SV.Modules.HttpModule.allows)
    c.close.result.history.log at)
    (ap (λ (k : HttpProxy g.row.SV.Denot g.row.K.Denot g.row.P.Denot). k.inner)
    c.loop-turn.invariant.6)
    (rw c.close.ensures.log
    (calls_logged _ _ c.step-step.new.machine.calls c.step-step.new.machine.machine.phase calls))

-- and where all turns were taken
pub returns-clause-logged : goal.returns-clause-logged
returns-clause-logged g c =
    subst (λ (app : g.row.SV.Denot). (at : Station)
    × IsLogged (allowed_by (g.SV.ProxyHttp.allows app) g.SV.Modules.HttpModule.allows)
    c.close-2.result.history.log at)
    (ap (λ (k : HttpProxy g.row.SV.Denot g.row.K.Denot g.row.P.Denot). k.inner)
    c.loop-turn.invariant.6)
    (rw c.close-2.ensures.log
    (calls_logged _ _ c.loop-turn.machine.calls c.loop-turn.machine.machine.phase
    c.loop-turn.invariant.9))

-- a value is kept where it was asked for last, where a step stopped
pub returns-then-is_stop-clause-kept : goal.returns-then-is_stop-clause-kept
returns-then-is_stop-clause-kept g c = λ some.
    let under = c.loop-turn.invariant.0 in
    let s = start_of c.args.self.now.conf.max_retries
    (world_of g.D.ByteLink.state c.args.client.now
    (g.K.Connector.fault_count c.args.self.now.connector)) in
    let calls = c.step-step.ensures.calls (behind s under.legs) under.passed under.own
    (behind_most s under.legs
    ∙ ap (λ (k : HttpProxy g.row.SV.Denot g.row.K.Denot g.row.P.Denot). k.conf.max_retries)
    (sym c.loop-turn.invariant.6))
    (behind_first s under.legs ∙ sym c.loop-turn.invariant.11) c.loop-turn.invariant.9 under.run in
    c.close.ensures.keeps (rw c.step-step.ensures.same calls)
    (c.step-step.ensures.kept ∙ c.loop-turn.invariant.4) some

-- and where all turns were taken
pub returns-clause-kept : goal.returns-clause-kept
returns-clause-kept g c = λ some.
    c.close-2.ensures.keeps c.loop-turn.invariant.9 c.loop-turn.invariant.4 some

-- the purger was asked what the log tells, where a step stopped
pub returns-then-is_stop-clause-purger : goal.returns-then-is_stop-clause-purger
returns-then-is_stop-clause-purger g c =
    rw (c.close.ensures.same, c.close.ensures.log)
    (purged_end (g.P.Purger.state c.args.self.now.purger)
    (g.P.Purger.state c.loop-turn.self.purger) (g.P.Purger.state c.step-step.new.self.purger)
    (log_of c.loop-turn.machine.calls) c.loop-turn.invariant.12
    (log_of c.step-step.new.machine.calls)
    c.step-step.new.machine.machine.phase c.close.result.outcome c.close.ensures.lost
    (c.step-step.ensures.purger c.loop-turn.invariant.9))

-- and where all turns were taken
pub returns-clause-purger : goal.returns-clause-purger
returns-clause-purger g c =
    rw (c.close-2.ensures.same, c.close-2.ensures.log) (inl c.loop-turn.invariant.12)

-- each delay was handed over, where a step stopped
pub returns-then-is_stop-clause-delays : goal.returns-then-is_stop-clause-delays
returns-then-is_stop-clause-delays g c =
    rw c.close.ensures.log
    (handed_on _ _ _ _ _ _ _ _ _ c.loop-turn.invariant.13 c.step-step.ensures.delays
    (since_front _ _ c.step-step.ensures.front))

-- and where all turns were taken
pub returns-clause-delays : goal.returns-clause-delays
returns-clause-delays g c = rw c.close-2.ensures.log c.loop-turn.invariant.13

-- the links of all steps, and those of the end, are those of the request
pub returns-then-is_stop-clause-stock : goal.returns-then-is_stop-clause-stock
returns-then-is_stop-clause-stock g c =
    let start = upstream_start g.K.Byte.ByteLink.start g.K.Message.MessageLink.start
    g.K.Custom.MessageLink.start in
    stocks_twice start _ _ _ _ _ _ _ _ _
    (stocks_twice start _ _ _ _ _ _ _ _ _ c.loop-turn.invariant.2 c.step-step.ensures.stock)
    (stocks_kept start _ _ _ [] _ _ c.close.ensures.links c.close.ensures.offers)

pub returns-clause-stock : goal.returns-clause-stock
returns-clause-stock g c =
    let start = upstream_start g.K.Byte.ByteLink.start g.K.Message.MessageLink.start
    g.K.Custom.MessageLink.start in
    stocks_twice start _ _ _ _ _ _ _ _ _ c.loop-turn.invariant.2
    (stocks_kept start _ _ _ [] _ _ c.close-2.ensures.links c.close-2.ensures.offers)
