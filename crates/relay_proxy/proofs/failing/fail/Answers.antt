-- The error of an attempt is treated; or, where it was treated, another attempt follows, or what
-- waits for the client is written before, or the error is answered.
use Rattle.std.proofs.Common.{◌+◌, [], length, inl, refl, subst, sym, ℕ}
use Rattle.relay_request.specs.Calls.{log_of}
use Rattle.relay_request.specs.Passed.{Start, called_to}
use Rattle.relay_request.specs.Phases.{RunSoFar}
use Rattle.relay_request.specs.Tries.{MayTry, tries_in}
use Rattle.relay_request.specs.Turn.{Advances, world_of}
use Rattle.relay_request.specs.declared.machine.Phase.TheVariants as phase
use Rattle.relay_turns.proofs.LastCalls.{ahead_calls}
use Rattle.relay_request.proofs.TreatLemmas.{still_open}
use Rattle.relay_proxy.proofs.failing.fail.Goals as goal

-- it is treated
pub returns-in_default-clause-run : goal.returns-in_default-clause-run
returns-in_default-clause-run g c = λ s p faults most b run.
    inl (subst
    (λ (t : Start). Advances g.L.ByteLink.state g.L.ByteLink.start t
    (world_of g.D.ByteLink.state c.args.client.now faults) c.treat_broken.result.phase)
    (sym (still_open s (log_of c.treat_broken.new.calls)
    (c.treat_broken.ensures.unended b.unended)))
    (c.treat_broken.ensures.run s p (world_of g.D.ByteLink.state c.args.client.now faults)
    (subst
    (λ (t : Start). RunSoFar g.L.ByteLink.state g.L.ByteLink.start t p
    (world_of g.D.ByteLink.state c.args.client.now faults) []
    (phase.Broken c.args.context c.args.session c.args.link c.args.lease c.args.keep c.args.error))
    (still_open s (log_of c.args.calls.now) b.unended) run)))

-- where it was, another attempt follows
pub returns-in-Repeats-clause-run : goal.returns-in-Repeats-clause-run
returns-in-Repeats-clause-run g c = λ s p faults most b run.
    c.repeat.ensures.run s p (world_of g.D.ByteLink.state c.args.client.now faults)
    (subst (λ (n : ℕ). MayTry n (1 + length (tries_in c.args.lease)) c.in-Some.treated) (sym most)
    (subst (λ (n : ℕ). MayTry c.args.most n c.in-Some.treated) c.made.ensures
    (c.in-Repeats.ensures.repeats refl).0)) b run

-- or what waits for the client is written, and the attempt stands as it did
pub returns-in-Writes-clause-run : goal.returns-in-Writes-clause-run
returns-in-Writes-clause-run g c = λ s p faults most b run.
    inl (c.write_ahead.ensures.run (called_to s (log_of c.args.calls.now)) p faults run)

pub returns-in-Writes-clause-calls : goal.returns-in-Writes-clause-calls
returns-in-Writes-clause-calls g c =
    ahead_calls _ (g.SV.ProxyHttp.mark_of c.args.app.now) c.args.calls.now c.args.context
    c.args.session c.args.link c.args.lease c.args.keep c.args.error c.write_ahead.result.phase
    c.write_ahead.ensures.comes

-- or it is answered, since none may follow, or the session lets none begin
pub returns-in-Answers-clause-run : goal.returns-in-Answers-clause-run
returns-in-Answers-clause-run g c = λ s p faults most b run.
    inl (c.answer_broken.ensures.run s p (world_of g.D.ByteLink.state c.args.client.now faults)
    (λ may. rw c.deref.ensures at (c.in-Answers.ensures.answers refl
    (subst (λ (n : ℕ). MayTry c.args.most n c.in-Some.treated) (sym c.made.ensures)
    (subst (λ (n : ℕ). MayTry n (1 + length (tries_in c.args.lease)) c.in-Some.treated) most
    may)))) b run)
