-- Each answer of the session is a piece, and what passed goes on with it.
use Rattle.std.proofs.Common.{ap, inl}
use Rattle.std.specs.Prelude.{◌&&◌}
use Rattle.relay_session.specs.Reading.{is_body_done}
use Rattle.relay_session.specs.declared.session.HttpSession.{HttpSession}
use Rattle.relay_sides.proofs.ClientPast.{no_head}
use Rattle.relay_sides.proofs.ClientRead.{Left, twice, reads_state, reads_silent, reads_waits, reads_more, reads_on}
use Rattle.relay_sides.specs.Client as client
use Rattle.relay_sides.proofs.LastLemmas.{read_lasts}
use Rattle.relay_sides.proofs.ClientTold.{told_reads, with_told}
use Rattle.relay_sides.proofs.UseLemmas.{client_reads, client_puts}
use Rattle.relay_sides.proofs.client_side.ClientSideDown.read_piece.Given.{Over}
use Rattle.relay_sides.proofs.client_side.ClientSideDown.read_piece.Goals as goal

-- what the call of the session left
left : (g : Over) → (c : goal.After-self-1 g)
    → Left (g.F.Front.state c.args.client.now) (g.F.Front.state c.read_body_or_idle-took.new.client)
    (g.F.Front.ahead c.args.client.now) (g.F.Front.ahead c.read_body_or_idle-took.new.client)
    c.args.self.now.session c.read_body_or_idle-took.new.self c.read_body_or_idle-took.result
left g c = record {
  still = c.is_body_done-was_done.result && is_body_done c.args.self.now.session.reading;
  is_still = rw c.is_body_done-was_done.ensures.value (twice _);
  goes = c.read_body_or_idle-took.ensures.goes;
  link = c.read_body_or_idle-took.ensures.link;
  ends = c.read_body_or_idle-took.ensures.ends;
  watches = c.read_body_or_idle-took.ensures.watches;
  head = c.read_body_or_idle-took.ensures.head;
  stays = c.read_body_or_idle-took.ensures.still;
  response = ap (λ (x : HttpSession). x.writing) c.read_body_or_idle-took.ensures.response;
}

-- the state by the answer of the session
pub returns-clause-reads : goal.returns-clause-reads
returns-clause-reads g c =
    rw (c.told_read-self.ensures, c.piece_answer-piece.ensures, c.is_body_done.ensures.value)
    (reads_state _ _ _ _ c.args.self.now.session c.read_body_or_idle-took.new.self
    c.args.self.now.told c.args.self.now.done c.args.self.now.finished c.args.self.now.broken
    c.read_body_or_idle-took.result (left g c))

-- what passed goes on with the piece
pub returns-clause-goes : goal.returns-clause-goes
returns-clause-goes g c =
    rw (c.told_read-self.ensures, c.piece_answer-piece.ensures, c.is_body_done.ensures.value)
    (λ s p h.
    with_told s _ _ c.read_body_or_idle-took.new.self _ c.args.self.now.done
    c.args.self.now.finished c.args.self.now.broken _ _ p.batched p.closing _
    (reads_on s p _ _ _ _ c.args.self.now.session c.read_body_or_idle-took.new.self
    c.args.self.now.done c.args.self.now.finished c.args.self.now.broken
    c.read_body_or_idle-took.result c.requires h.passed (left g c))
    (told_reads s (client.queued p) c.args.self.now.told h.tasks _))

-- where there is more to read the link gave bytes
pub returns-clause-gives : goal.returns-clause-gives
returns-clause-gives g c =
    rw c.piece_answer-piece.ensures
    (λ s p h is.
    reads_more s p _ _ _ _ c.args.self.now.session c.read_body_or_idle-took.new.self
    c.read_body_or_idle-took.result c.is_body_done.result h.passed.client (left g c) is)

-- a client that is silent was asked
pub returns-clause-silent : goal.returns-clause-silent
returns-clause-silent g c =
    rw c.piece_answer-piece.ensures
    (λ is.
    reads_silent _ _ c.read_body_or_idle-took.result c.is_body_done.result
    c.read_body_or_idle-took.ensures.link is)

-- one that was not ready waited once more
pub returns-clause-waits : goal.returns-clause-waits
returns-clause-waits g c =
    rw c.piece_answer-piece.ensures
    (λ is.
    reads_waits _ _ c.read_body_or_idle-took.result c.is_body_done.result
    c.read_body_or_idle-took.ensures.link is)

-- there is a head, so this does not come
pub returns-then-not-has_head-clause-gives : goal.returns-then-not-has_head-clause-gives
returns-then-not-has_head-clause-gives g c = λ s p h is.
    absurd (no_head s p _ _ c.args.self.now.session _ _ _ c.has_head.result c.if-not-has_head.true
    c.has_head.ensures.1 h.passed)

-- nor does this
pub returns-then-not-has_head-clause-goes : goal.returns-then-not-has_head-clause-goes
returns-then-not-has_head-clause-goes g c = λ s p h.
    absurd (no_head s p _ _ c.args.self.now.session _ _ _ c.has_head.result c.if-not-has_head.true
    c.has_head.ensures.1 h.passed)

-- the client's link was asked once at most
pub returns-clause-asks : goal.returns-clause-asks
returns-clause-asks g c =
    rw c.piece_answer-piece.ensures
    (client_reads (g.F.Front.state c.args.client.now)
    (g.F.Front.state c.read_body_or_idle-took.new.client) c.read_body_or_idle-took.result
    c.is_body_done.result c.read_body_or_idle-took.ensures.link)

-- a piece puts a task
pub returns-clause-puts : goal.returns-clause-puts
returns-clause-puts g c =
    rw c.piece_answer-piece.ensures
    (λ s p h piece is.
    inl (client_puts s p (g.F.Front.state c.args.client.now)
    (g.F.Front.state c.read_body_or_idle-took.new.client) (g.F.Front.ahead c.args.client.now)
    (g.F.Front.ahead c.read_body_or_idle-took.new.client) c.args.self.now.session
    c.read_body_or_idle-took.new.self c.read_body_or_idle-took.result c.is_body_done.result
    piece h.passed.client (left g c) is))

-- the head stands, and nothing was queued
pub returns-clause-lasts : goal.returns-clause-lasts
returns-clause-lasts g c =
    read_lasts c.args.self.now.session c.read_body_or_idle-took.new.self
    c.read_body_or_idle-took.ensures.head
    (ap (λ (x : HttpSession). x.writing) c.read_body_or_idle-took.ensures.response)
