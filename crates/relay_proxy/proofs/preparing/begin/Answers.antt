-- The exchange is under way over the link and its attempt is held; or what was kept of the body did
-- not pass its filter; or memory was wanted.
use Rattle.std.proofs.Common.{refl}
use Rattle.relay_request.specs.Calls.{log_of}
use Rattle.relay_request.specs.Endings.{IsInOrder}
use Rattle.relay_request.specs.Passed.{opened_to}
use Rattle.relay_request.specs.Turn.{world_with}
use Rattle.relay_turns.proofs.OpenSteps.{called_tells}
use Rattle.relay_turns.proofs.PrepareSteps.{begun_calls, begun_enters, begun_relays, framed_unbegun, unbegun_calls, unbegun_enters, unbegun_run}
use Rattle.relay_proxy.proofs.preparing.begin.Goals as goal

-- the exchange is under way over the link that was handed out
pub returns-in-Ok-clause-run : goal.returns-in-Ok-clause-run
returns-in-Ok-clause-run g c = λ s p front faults run sends at_sent.
    let w = world_with (g.F.Front.state front) (g.F.Front.ahead front) faults in
    let k = run.holds.1.connecting in
    c.hold.ensures.run (opened_to s c.begin.new.session.seen.log) p w
    (called_tells s (log_of c.args.calls.now) c.begin.new.session.seen.log p w run.tells)
    (IsInOrder.is_nothing k.written k.unsent.sent) run.calm
    (begun_relays g.L.ByteLink.state g.L.ByteLink.start (g.SV.ProxyHttp.allows c.args.app.now)
    g.SV.Modules.HttpModule.allows (g.SV.ProxyHttp.mark_of c.args.app.now) c.args.calls.now
    (record { session = c.begin.new.session; at = c.args.calls.now.at }) refl c.args.context
    c.args.session
    (record { exchange = c.in-Ok.exchange; lease = c.args.lease; context = c.begin.new.ctx })
    (rw c.into_inner-client.ensures at c.in-Ok.ensures.calls) s p w c.args.link c.args.head run
    c.in-Ok.ensures.over sends at_sent (rw c.into_inner-client.ensures at c.in-Ok.ensures.client)
    c.in-Ok.ensures.at_first
    ((rw c.into_inner-client.ensures at c.in-Ok.ensures.begins) front))

-- its calls so far, those of filters
pub returns-in-Ok-clause-calls : goal.returns-in-Ok-clause-calls
returns-in-Ok-clause-calls g c =
    begun_calls g.L.ByteLink.state g.L.ByteLink.start (g.SV.ProxyHttp.allows c.args.app.now)
    g.SV.Modules.HttpModule.allows (g.SV.ProxyHttp.mark_of c.args.app.now) c.args.calls.now
    (record { session = c.begin.new.session; at = c.args.calls.now.at }) refl c.args.context
    c.args.session
    (record { exchange = c.in-Ok.exchange; lease = c.args.lease; context = c.begin.new.ctx })
    (rw c.into_inner-client.ensures at c.in-Ok.ensures.calls) c.hold.result.phase
    c.hold.ensures.comes c.in-Ok.ensures.alive

pub returns-in-Ok-clause-enters : goal.returns-in-Ok-clause-enters
returns-in-Ok-clause-enters g c =
    begun_enters g.L.ByteLink.state g.L.ByteLink.start (g.SV.ProxyHttp.allows c.args.app.now)
    g.SV.Modules.HttpModule.allows (g.SV.ProxyHttp.mark_of c.args.app.now) c.args.calls.now
    (record { session = c.begin.new.session; at = c.args.calls.now.at }) refl c.args.context
    c.args.session
    (record { exchange = c.in-Ok.exchange; lease = c.args.lease; context = c.begin.new.ctx })
    (rw c.into_inner-client.ensures at c.in-Ok.ensures.calls)

-- the link was asked as often as it was
pub returns-in-Ok-clause-asked : goal.returns-in-Ok-clause-asked
returns-in-Ok-clause-asked g c = λ n had.
    c.hold.ensures.asked n (rw c.in-Ok.ensures.over had)

-- an exchange that was not begun gives its link back
pub returns-in-Err-clause-run : goal.returns-in-Err-clause-run
returns-in-Err-clause-run g c = λ s p front faults run sends at_sent.
    unbegun_run g.L.ByteLink.state g.L.ByteLink.start (g.SV.ProxyHttp.allows c.args.app.now)
    g.SV.Modules.HttpModule.allows (g.SV.ProxyHttp.mark_of c.args.app.now) c.args.calls.now
    (record { session = c.begin.new.session; at = c.args.calls.now.at }) refl c.args.context
    c.args.session c.in-Err.unbegun c.begin.new.ctx
    (framed_unbegun c.args.calls.now.session c.args.context c.args.session.value _
    (g.SV.ProxyHttp.mark_of c.args.app.now) c.args.head
    c.begin.new.session c.begin.new.ctx c.in-Err.unbegun c.requires
    (rw c.into_inner-client.ensures at c.in-Err.ensures.causes)) s p
    (world_with (g.F.Front.state front) (g.F.Front.ahead front) faults) c.args.link c.args.lease
    c.break_unbegun.result.phase c.break_unbegun.ensures.comes c.in-Err.ensures.link_back run

pub returns-in-Err-clause-calls : goal.returns-in-Err-clause-calls
returns-in-Err-clause-calls g c =
    unbegun_calls g.L.ByteLink.state g.L.ByteLink.start (g.SV.ProxyHttp.allows c.args.app.now)
    g.SV.Modules.HttpModule.allows (g.SV.ProxyHttp.mark_of c.args.app.now) c.args.calls.now
    (record { session = c.begin.new.session; at = c.args.calls.now.at }) refl c.args.context
    c.args.session c.in-Err.unbegun c.begin.new.ctx
    (framed_unbegun c.args.calls.now.session c.args.context c.args.session.value _
    (g.SV.ProxyHttp.mark_of c.args.app.now) c.args.head
    c.begin.new.session c.begin.new.ctx c.in-Err.unbegun c.requires
    (rw c.into_inner-client.ensures at c.in-Err.ensures.causes)) c.args.lease
    c.break_unbegun.result.phase c.break_unbegun.ensures.comes

pub returns-in-Err-clause-enters : goal.returns-in-Err-clause-enters
returns-in-Err-clause-enters g c =
    unbegun_enters g.L.ByteLink.state g.L.ByteLink.start (g.SV.ProxyHttp.allows c.args.app.now)
    g.SV.Modules.HttpModule.allows (g.SV.ProxyHttp.mark_of c.args.app.now) c.args.calls.now
    (record { session = c.begin.new.session; at = c.args.calls.now.at }) refl c.args.context
    c.args.session c.in-Err.unbegun c.begin.new.ctx
    (framed_unbegun c.args.calls.now.session c.args.context c.args.session.value _
    (g.SV.ProxyHttp.mark_of c.args.app.now) c.args.head
    c.begin.new.session c.begin.new.ctx c.in-Err.unbegun c.requires
    (rw c.into_inner-client.ensures at c.in-Err.ensures.causes))
