-- A fault that is kept is answered again; else something waits, and the link is written once.
use Rattle.std.proofs.Common.{refl, ap}
use Rattle.relay_session.specs.declared.session.HttpSession.{HttpSession}
use Rattle.relay_session.specs.declared.writing.Writing.{Writing}
use Rattle.relay_sides.specs.Client as client
use Rattle.relay_sides.proofs.ClientWrite.{may_write, waits_open, fails_again, writes_on, writes_state, writes_silent, writes_waits, writes_some}
use Rattle.relay_links.specs.declared.link.Put.TheVariants as put
use Rattle.relay_sides.proofs.ClientTold.{told_writes, with_told}
use Rattle.relay_sides.proofs.LastLemmas.{wrote_lasts}
use Rattle.relay_sides.proofs.UseLemmas.{client_writes}
use Rattle.relay_sides.proofs.client_side.ClientSideDown.write_pending.Goals as goal

-- no write failed before, so the session may write
pub write_pending-put-requires : goal.write_pending-put-requires
write_pending-put-requires g c =
    may_write c.args.self.now.session.writing.output
    (waits_open _ c.args.self.now.broken c.in-None.is c.requires)

-- a write failed before, and its fault is answered again
pub returns-in-Some-clause-goes : goal.returns-in-Some-clause-goes
returns-in-Some-clause-goes g c = λ s p h.
    rw c.written-self.ensures
    (with_told s _ _ c.args.self.now.session _ c.args.self.now.done c.args.self.now.finished
    c.args.self.now.broken _ p.put p.batched p.closing _
    (fails_again s p _ _ c.args.self.now.session c.args.self.now.done c.args.self.now.finished
    c.args.self.now.broken c.in-Some.fault c.in-Some.is h.passed)
    (told_writes s (client.queued p) c.args.self.now.told h.tasks (put.Failed c.in-Some.fault)))

-- the state by the answer of the session
pub returns-in-None-clause-writes : goal.returns-in-None-clause-writes
returns-in-None-clause-writes g c =
    rw (c.written-self-in-None.ensures, c.fault_in-self.ensures, c.in-None.is)
    (writes_state _ _ c.args.self.now.session c.write_pending-put.new.self c.args.self.now.told
    c.args.self.now.done c.args.self.now.finished c.write_pending-put.result
    c.args.self.now.session.writing.output refl
    (waits_open _ c.args.self.now.broken c.in-None.is c.requires)
    c.write_pending-put.ensures.answer
    (ap (λ (x : HttpSession). x.reading) c.write_pending-put.ensures.reading))

-- what passed goes on with what the client took
pub returns-in-None-clause-goes : goal.returns-in-None-clause-goes
returns-in-None-clause-goes g c =
    rw (c.written-self-in-None.ensures, c.fault_in-self.ensures)
    (λ s p h.
    with_told s _ _ c.write_pending-put.new.self _ c.args.self.now.done c.args.self.now.finished _
    _ p.put p.batched p.closing _
    (writes_on s p _ _ _ _ c.args.self.now.session c.write_pending-put.new.self
    c.args.self.now.done c.args.self.now.finished c.args.self.now.broken
    c.write_pending-put.result c.args.self.now.session.writing.output h.passed refl
    (waits_open _ c.args.self.now.broken c.in-None.is c.requires)
    c.write_pending-put.ensures.answer
    (c.write_pending-put.ensures.keeps (client.queued p) p.written h.passed.client.response)
    c.write_pending-put.ensures.ahead c.write_pending-put.ensures.rest
    (ap (λ (x : HttpSession). x.reading) c.write_pending-put.ensures.reading))
    (told_writes s (client.queued p) c.args.self.now.told h.tasks c.write_pending-put.result))

-- a client that is silent was asked
pub returns-in-None-clause-silent : goal.returns-in-None-clause-silent
returns-in-None-clause-silent g c =
    writes_silent _ _ c.args.self.now.session.writing.output
    c.write_pending-put.new.self.writing.output c.write_pending-put.result
    (waits_open _ c.args.self.now.broken c.in-None.is c.requires)
    c.write_pending-put.ensures.answer

-- one that was not ready waited once more
pub returns-in-None-clause-waits : goal.returns-in-None-clause-waits
returns-in-None-clause-waits g c =
    writes_waits _ _ c.args.self.now.session.writing.output
    c.write_pending-put.new.self.writing.output c.write_pending-put.result
    (waits_open _ c.args.self.now.broken c.in-None.is c.requires)
    c.write_pending-put.ensures.answer

-- a write that moved moved some bytes
pub returns-in-None-clause-some : goal.returns-in-None-clause-some
returns-in-None-clause-some g c =
    λ n is.
    writes_some _ _ c.args.self.now.session.writing.output
    c.write_pending-put.new.self.writing.output c.write_pending-put.result n
    (waits_open _ c.args.self.now.broken c.in-None.is c.requires)
    c.write_pending-put.ensures.answer is

-- the client's link was asked, unless it is silent
pub returns-in-None-clause-asks : goal.returns-in-None-clause-asks
returns-in-None-clause-asks g c =
    client_writes (g.F.Front.state c.args.client.now)
    (g.F.Front.state c.write_pending-put.new.client) c.args.self.now.session.writing.output
    c.write_pending-put.new.self.writing.output c.write_pending-put.result
    (waits_open _ c.args.self.now.broken c.in-None.is c.requires)
    c.write_pending-put.ensures.answer

-- a write leaves where the response stands
pub returns-in-None-clause-lasts : goal.returns-in-None-clause-lasts
returns-in-None-clause-lasts g c =
    wrote_lasts c.args.self.now.session c.write_pending-put.new.self
    (ap (λ (x : HttpSession). x.reading) c.write_pending-put.ensures.reading)
    (ap (λ (w : Writing). w.place) c.write_pending-put.ensures.rest)
