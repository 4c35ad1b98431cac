-- What a turn of an exchange says, and the counts of uses that were read around it.
use Rattle.std.proofs.Common.{refl, sym}
use Rattle.relay_filters.specs.Hooked.{is_lost}
use Rattle.relay_hooked.specs.Head.{link_of}
use Rattle.relay_request.specs.Calls.{allowed_by, seen_with}
use Rattle.relay_turns.proofs.RelaySteps.{entries_of}
use Rattle.relay_turns.proofs.UseLemmas.{measured}
use Rattle.relay_proxy.proofs.relaying.turn_counted.Goals as goal

-- the turn is the exchange's own, and the counts are those of its links: handing the buffer over
-- changes nothing that is seen of the exchange
pub returns-clause-turns : goal.returns-clause-turns
returns-clause-turns g c =
    rw (sym c.swap_room.ensures.same, c.swap_room-2.ensures.same) record {
      goes = c.turn_over-turn.ensures.goes;
      waits = c.turn_over-turn.ensures.waits;
      quiet = c.turn_over-turn.ensures.quiet;
      asks = c.turn_over-turn.ensures.asks;
      moves = c.turn_over-turn.ensures.moves;
      counts = c.turn_over-turn.ensures.counts;
      calm = c.turn_over-turn.ensures.calm;
      same_start = c.turn_over-turn.ensures.peer_start;
      same_first = c.turn_over-turn.ensures.at_first;
      measured = measured (g.D.ByteLink.state c.args.client.now.link)
          (g.D.ByteLink.state c.turn_over-turn.new.client.link)
          (g.L.ByteLink.state (link_of c.swap_room.new.self))
          (g.L.ByteLink.state (link_of c.turn_over-turn.new.exchange))
          c.of-before.result c.of.result c.have_risen-asked.result c.have_risen-asked.ensures.rose
          c.have_risen-asked.ensures.client_fits c.have_risen-asked.ensures.upstream_fits
          c.of-before.ensures c.of.ensures;
    }

-- the calls that it entered
pub returns-clause-enters : goal.returns-clause-enters
returns-clause-enters g c =
    rw (sym c.swap_room.ensures.same, c.swap_room-2.ensures.same)
    record { walks = c.turn_over-turn.ensures.walks; stands = refl }

-- each of them is a filter's
pub returns-clause-entries : goal.returns-clause-entries
returns-clause-entries g c =
    entries_of (allowed_by (g.SV.ProxyHttp.allows c.args.hooks.now) g.SV.Modules.HttpModule.allows)
    (is_lost c.swap_room.new.self.down.stopped)
    (is_lost c.turn_over-turn.new.exchange.down.stopped) _ _ _ _ c.turn_over-turn.ensures.walks
