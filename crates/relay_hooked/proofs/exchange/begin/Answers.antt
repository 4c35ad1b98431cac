-- An exchange begins once its head was queued and what was kept of the body has passed its filter;
-- it is not begun where the head is refused.
use Rattle.std.proofs.Common.{◌≡◌, false, [], Option, Some, inr, refl, sym, ap, subst, ◌∙◌}
use Rattle.relay_tasks.specs.declared.error.Fail.{Fail}
use Rattle.relay_links.specs.Link.{IsHandedOut}
use Rattle.relay_session.specs.Reading.{is_body_done}
use Rattle.relay_core.specs.Piece.{put_of}
use Rattle.relay_sides.specs.Client.{begun_past}
use Rattle.relay_peer.specs.Peer as peer
use Rattle.relay_peer.specs.Peer.{none_passed}
use Rattle.relay_peer.specs.declared.peer_side.PeerSide.{PeerSide}
use Rattle.relay_exchange.specs.declared.exchange.Exchange.{Exchange}
use Rattle.relay_exchange.specs.declared.exchange.Stage.TheVariants as stage
use Rattle.relay_exchange.specs.Exchange.{put_first}
use Rattle.relay_exchange.proofs.TurnLemmas.{begun}
use Rattle.relay_filters.specs.Hooked.{is_lost, shown_done}
use Rattle.relay_hooked.specs.Exchange.{IsUnderWay, SideHolds}
use Rattle.relay_hooked.specs.Head.{side_state}
use Rattle.relay_hooked.specs.Sides.{PeerHolds, PeerSideBlames}
use Rattle.relay_hooked.proofs.BeginLemmas.{grown, refused_first, refused_later}
use Rattle.relay_hooked.proofs.TurnLemmas.{under_way}
use Rattle.relay_hooked.proofs.exchange.begin.Goals as goal

-- an exchange whose head was queued, and of which that was put first, has begun
pub returns-in-Ok-clause-begins : goal.returns-in-Ok-clause-begins
returns-in-Ok-clause-begins g c =
    let state = g.L.ByteLink.state in
    let start_at = g.L.ByteLink.start in
    let side = c.in-Ok.field-0.down in
    let log = c.put_first.new.session.seen.log in
    let begins = c.in-Ok.ensures.begun in
    let up = c.write_request_header.new.self in
    let value = c.is_body_done-body_done.ensures.value in
    let done : (side_state log side).body_done ≡ c.is_body_done-body_done.result =
    ap (λ (o : Option Fail).
    shown_done o side.was.body_done (is_body_done side.inner.session.reading)) begins.goes_on
    ∙ begins.body ∙ sym value in
    λ front s came reused own none called behind out used.
    let link = g.F.Front.state front in
    let ahead = g.F.Front.ahead front in
    let past = begun_past came (put_of false c.in-Ok.field-0.piece) in
    let Begins : Exchange (PeerSide g.row.L.Denot) → Type 0 = λ x.
    IsUnderWay state start_at s (record { came = came; written = []; got = []; sent = [] }) link
    ahead log (record { down = side; exchange = x }) in
    subst Begins (sym c.begin-exchange.ensures.exact)
    (under_way state start_at s link ahead log false
    (record {
      down = side;
      exchange = record {
        up = up;
        duplex = c.begin-exchange.result.duplex;
        stage = stage.Head;
      };
    }) past none_passed
    (begun (SideHolds link ahead log s side) (PeerHolds state start_at s up)
    (PeerSideBlames state start_at s up) c.is_body_done-body_done.result
    (put_first (Some c.in-Ok.field-0.piece)) (side_state log side) (peer.state_of up) past
    none_passed
    (record {
      down_holds = c.in-Ok.ensures.begins front s came called behind;
      up_holds = c.in_default.ensures.begins s own none c.new-peer.ensures.fresh reused
          (subst (λ l. IsHandedOut (state l) (start_at l) reused) (sym c.new-peer.ensures.link) out)
          used;
      first_put = refl;
      end_put = sym begins.ended;
      none_batched = refl;
      none_closing = refl;
      none_read = refl;
      none_taken = refl;
      none_lost = refl;
      body_done = done;
      ended = λ is. begins.done (sym value ∙ is);
      unread =
          ap (λ (k : PeerSide g.row.L.Denot). k.read_failed) c.write_request_header.ensures.same
          ∙ c.new-peer.ensures.fresh.unread;
      unsent =
          ap (λ (k : PeerSide g.row.L.Denot). k.send_failed) c.write_request_header.ensures.same
          ∙ c.new-peer.ensures.fresh.unsent;
    })
    c.begin-exchange.result.duplex
    c.begin-exchange.ensures.fresh
    (c.begin-exchange.ensures.sound (side_state log side) done))
    (ap (λ (o : Option Fail). is_lost o) begins.goes_on) begins.untold)

-- its log has grown by its first calls
pub returns-in-Ok-clause-once : goal.returns-in-Ok-clause-once
returns-in-Ok-clause-once g c =
    grown c.args.session.now c.args.ctx.now c.args.client _ _ c.put_first.new.session
    c.put_first.new.ctx c.in-Ok.field-0.down.inner.session c.in-Ok.ensures.calls

-- one whose head was refused has not
pub returns-in-Err-clause-refused : goal.returns-in-Err-clause-refused
returns-in-Err-clause-refused g c =
    refused_first c.args.session.now.seen.log c.args.client c.args.head c.into_link.result
    c.in-Err.why c.in-Err.ensures.refused

-- nor has one of which nothing could be put first
pub returns-in-Err-put_first-clause-refused : goal.returns-in-Err-put_first-clause-refused
returns-in-Err-put_first-clause-refused g c =
    refused_later c.args.session.now c.args.ctx.now c.args.client _
    (g.SV.ProxyHttp.mark_of c.args.app.now) c.args.head
    c.put_first.new.session c.put_first.new.ctx _ c.in-Err-put_first.ensures.causes
    (λ none. (let wrong = c.in_default.ensures.refused.1 none in absurd (cc)))

pub returns-in-Err-put_first-clause-causes : goal.returns-in-Err-put_first-clause-causes
returns-in-Err-put_first-clause-causes g c = inr c.in-Err-put_first.ensures.causes
