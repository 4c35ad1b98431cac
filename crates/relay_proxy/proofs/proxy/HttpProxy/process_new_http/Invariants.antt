-- What holds between two steps of the call.
use Rattle.std.proofs.Common.{◌≡◌, ◌+◌, ◌≤◌, [], length, None, false}
use Rattle.relay_tasks.specs.Log.{delays_of}
use Rattle.relay_connector.specs.Upstream.{upstream_state, upstream_start}
use Rattle.relay_links.specs.Told.{more}
use Rattle.relay_purging.specs.Told.{purges_in}
use Rattle.relay_request.specs.Calls.{CallsSoFar, allowed_by, log_of}
use Rattle.relay_request.specs.Delays.{HandsOver}
use Rattle.relay_request.specs.Passed.{start_of}
use Rattle.relay_request.specs.Request.{is_done}
use Rattle.relay_request.specs.Stock.{items_held, Stocks}
use Rattle.relay_request.specs.Turn.{world_of, links_held}
use Rattle.relay_request.specs.Work.{total_work}
use Rattle.relay_turns.proofs.UnderWay.{IsUnderWay}
use Rattle.relay_proxy.proofs.proxy.HttpProxy.process_new_http.Given as goal

-- the request is under way, and its links are those of the connector
abbrev pub invariant-loop-turn : goal.invariant-loop-turn
invariant-loop-turn g l =
    IsUnderWay (upstream_state g.K.Byte.ByteLink.state g.K.Message.MessageLink.state
    g.K.Custom.MessageLink.state)
    (upstream_start g.K.Byte.ByteLink.start g.K.Message.MessageLink.start
    g.K.Custom.MessageLink.start)
    (start_of l.fn.self.conf.max_retries
    (world_of g.D.ByteLink.state l.fn.client (g.K.Connector.fault_count l.fn.self.connector)))
    (log_of l.machine.calls)
    (world_of g.D.ByteLink.state l.client (g.K.Connector.fault_count l.self.connector))
    (g.K.Connector.returned l.fn.self.connector) (g.K.Connector.returned l.self.connector)
    (g.K.Connector.refusals l.fn.self.connector) (g.K.Connector.refusals l.self.connector)
    (g.K.Connector.stock l.fn.self.connector) (g.K.Connector.stock l.self.connector)
    (g.D.ByteLink.state l.fn.client.link) l.machine.machine l._turn
    × (g.D.ByteLink.start l.client.link ≡ g.D.ByteLink.start l.fn.client.link)
    × Stocks (upstream_start g.K.Byte.ByteLink.start g.K.Message.MessageLink.start
    g.K.Custom.MessageLink.start)
    (g.K.Connector.returned l.fn.self.connector) (g.K.Connector.returned l.self.connector) []
    (items_held (upstream_start g.K.Byte.ByteLink.start g.K.Message.MessageLink.start
    g.K.Custom.MessageLink.start)
    l.machine.machine.phase)
    (g.K.Connector.stock l.fn.self.connector) (g.K.Connector.stock l.self.connector)
    × (g.K.Connector.out l.self.connector
    ≡ g.K.Connector.out l.fn.self.connector
    + links_held (upstream_state g.K.Byte.ByteLink.state g.K.Message.MessageLink.state
    g.K.Custom.MessageLink.state)
    (upstream_start g.K.Byte.ByteLink.start g.K.Message.MessageLink.start
    g.K.Custom.MessageLink.start) l.machine.machine.phase)
    × (l.client.kept ≡ None)
    × (is_done l.machine.machine.phase l.machine.calls.at ≡ false)
    × (l.self ≡ record l.fn.self { connector = l.self.connector; purger = l.self.purger })
    × (l.machine.machine.turns ≤ total_work l.machine.machine.work)
    × (l.outside ≡ record l.fn.outside {
      schedule = l.outside.schedule;
      delay = l.outside.delay;
    })
    × CallsSoFar (allowed_by (g.SV.ProxyHttp.allows l.self.inner) g.SV.Modules.HttpModule.allows)
    (g.SV.ProxyHttp.mark_of l.self.inner) l.machine.calls l.machine.machine.phase
    × (l.machine.machine.work.called ≤ length (log_of l.machine.calls))
    × (l.machine.machine.first ≡ (g.D.ByteLink.state l.fn.client.link).faults)
    × ((g.P.Purger.state l.self.purger).told
    ≡ more (g.P.Purger.state l.fn.self.purger).told (purges_in (log_of l.machine.calls)))
    × HandsOver (g.Y.Delay.calls l.fn.outside.delay) (g.Y.Delay.total l.fn.outside.delay)
    (g.Y.Delay.calls l.outside.delay) (g.Y.Delay.total l.outside.delay)
    (delays_of (log_of l.machine.calls))
