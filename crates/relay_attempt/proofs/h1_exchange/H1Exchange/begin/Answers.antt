-- An exchange begins once its head was queued, with what is kept of the body; it is not begun where
-- the head is refused.
use Rattle.std.proofs.Common.{Bool, false, ◌||◌, [], Some, refl, sym, ap, subst, ◌∙◌}
use Rattle.std.proofs.lemmas.List.Elements.{All-nil}
use Rattle.relay_tasks.specs.Head.{RequestHead}
use Rattle.relay_links.specs.Link.{IsHandedOut}
use Rattle.relay_session.specs.Reading.{is_body_done, replay_of}
use Rattle.relay_session.specs.Replay.{retry_buffer}
use Rattle.relay_session.specs.declared.session.HttpSession.{HttpSession}
use Rattle.relay_sides.specs.Client as client
use Rattle.relay_sides.specs.Client.{BeginsBehind, begun_past, put_again}
use Rattle.relay_sides.proofs.ClientPast.{end_is}
use Rattle.relay_peer.specs.Peer as peer
use Rattle.relay_peer.specs.Peer.{none_passed}
use Rattle.relay_sides.specs.Filtered.{HasRoom, is_head_request, state_over, stops_for_error}
use Rattle.relay_sides.specs.declared.filtered.Filtered.{Filtered}
use Rattle.relay_peer.specs.declared.peer_side.PeerSide.{PeerSide}
use Rattle.relay_exchange.specs.declared.exchange.Exchange.{Exchange}
use Rattle.relay_exchange.specs.declared.exchange.Stage.TheVariants as stage
use Rattle.relay_exchange.specs.Exchange.{put_first}
use Rattle.relay_core.specs.declared.told.Told.{Told}
use Rattle.relay_exchange.proofs.TurnLemmas.{begun}
use Rattle.relay_attempt.specs.Exchange.{Blames, DownHolds, IsUnderWay, UpHolds}
use Rattle.relay_attempt.proofs.TurnLemmas.{under_way, refused_as}
use Rattle.relay_attempt.proofs.h1_exchange.H1Exchange.begin.Goals as goal

-- an exchange whose head was queued has begun
pub returns-clause-begins : goal.returns-clause-begins
returns-clause-begins g c =
    let state = g.L.ByteLink.state in
    let start_at = g.L.ByteLink.start in
    let down = c.new-down.result in
    let up = c.new-upstream.result in
    let value = c.is_body_done-body_done.ensures.value in
    let done = ap (λ (x : HttpSession). is_body_done x.reading) c.new-down.ensures.session
    ∙ sym value in
    let session = c.args.session in
    let put = put_again session in
    λ s came link ahead reused own none behind out used.
    let Begun : Exchange (Filtered (PeerSide g.row.L.Denot)) → Type 0 = λ x.
    IsUnderWay state start_at s (record { came = came; written = []; got = []; sent = [] }) link
    ahead (record { down = down; exchange = x }) in
    subst Begun (sym c.begin-exchange.ensures.exact)
    (under_way state start_at s (begun_past came put) none_passed link ahead
    (record {
      down = down;
      exchange = record {
        up = up;
        duplex = c.begin-exchange.result.duplex;
        stage = stage.Head;
      };
    })
    (begun (DownHolds link ahead down s) (UpHolds state start_at up s) (Blames state start_at up s)
    c.is_body_done-body_done.result (put_first (Some c.in-Ok.first))
    (client.state_of down.session down.told down.done down.finished down.broken)
    (state_over (peer.state_of up.inner) up.upgraded up.stopped up.told)
    (begun_past came put) none_passed
    (record {
      down_holds = c.new-down.ensures.begins s came link ahead behind;
      up_holds = subst
          (λ (u : Filtered (PeerSide g.row.L.Denot)). UpHolds state start_at u s none_passed)
          (sym c.new-upstream.ensures)
          (record {
            own = c.is_head_request-of_head.ensures
                ∙ ap (λ (h : RequestHead). is_head_request h.method) own;
            given = [];
            withheld = [];
            holds = c.in_default.ensures.begins s own none c.new-peer.ensures.fresh reused
                (subst (λ l. IsHandedOut (state l) (start_at l) reused)
                (sym c.new-peer.ensures.link) out) used;
            is_read = refl;
            none_switches = refl;
            have_room = All-nil (HasRoom s.sent.method);
            is_withheld = refl;
            closes = refl;
            quiet = λ still. still;
          });
      first_put = sym c.in-Ok.ensures.ok;
      end_put = end_is (retry_buffer (replay_of session.reading)) (is_body_done session.reading)
          ∙ (sym value ∙ sym done);
      none_batched = refl;
      none_closing = refl;
      none_read = refl;
      none_taken = refl;
      none_lost = refl;
      body_done = done;
      ended = λ is. done ∙ is;
      unread =
          ap
          (λ (u : Filtered (PeerSide g.row.L.Denot)).
          u.inner.read_failed || stops_for_error u.stopped) c.new-upstream.ensures
          ∙ ap (λ (b : Bool). b || false)
          (ap (λ (k : PeerSide g.row.L.Denot). k.read_failed) c.write_request_header.ensures.same
          ∙ c.new-peer.ensures.fresh.unread);
      unsent =
          ap (λ (u : Filtered (PeerSide g.row.L.Denot)). u.inner.send_failed)
          c.new-upstream.ensures
          ∙ ap (λ (k : PeerSide g.row.L.Denot). k.send_failed) c.write_request_header.ensures.same
          ∙ c.new-peer.ensures.fresh.unsent;
    })
    c.begin-exchange.result.duplex c.begin-exchange.ensures.fresh
    (c.begin-exchange.ensures.sound
    (client.state_of down.session down.told down.done down.finished down.broken) done))
    (ap (λ (t : Told). t.errors) c.new-down.ensures.told))

-- one whose head was refused has not
pub returns-in-Err-clause-refused : goal.returns-in-Err-clause-refused
returns-in-Err-clause-refused g c =
    refused_as c.into_link.result c.in-Err.why _ c.in-Err.ensures.refused
