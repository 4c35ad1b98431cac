-- The error was treated and is answered, and the client is owed what was queued; or memory was
-- wanted.
use Rattle.std.proofs.Common.{List, false, [], ◌∷◌, ap, refl, subst, sym}
use Rattle.relay_tasks.specs.Hooks.{same_hook}
use Rattle.relay_tasks.specs.declared.hook.Hook.{Hook}
use Rattle.relay_tasks.specs.declared.hook.Hook.TheVariants as hook
use Rattle.relay_tasks.specs.declared.log.LogEntry.{LogEntry}
use Rattle.relay_phases.specs.Order.{Station as station}
use Rattle.relay_request.specs.Calls.{IsUnended, log_of}
use Rattle.relay_request.specs.Passed.{Start, called_to}
use Rattle.relay_request.specs.Phases.{RunSoFar}
use Rattle.relay_request.specs.Turn.{Advances}
use Rattle.relay_request.specs.declared.machine.Phase.TheVariants as phase
use Rattle.relay_request.specs.declared.outcome.Outcome.TheVariants as outcome
use Rattle.relay_request.proofs.CallLemmas.{none_called, one_called, untreated_logged, was_treated}
use Rattle.relay_turns.proofs.LastCalls.{answered_ends, counted_still, owing_log, owing_on}
use Rattle.relay_request.proofs.ClosingSteps.{answered_by, queued_by}
use Rattle.relay_turns.proofs.FailSteps.{answered_on, treated_lost}
use Rattle.relay_request.proofs.TreatLemmas.{ends_with, still_open}
use Rattle.relay_proxy.proofs.failing.answer_broken.Goals as goal

-- it is answered
pub returns-in-Ok-clause-run : goal.returns-in-Ok-clause-run
returns-in-Ok-clause-run g c = λ s p w stops b run.
    let was = was_treated c.args.calls.now.at (log_of c.args.calls.now) c.args.error c.args.treated
    b.at c.requires b.breaks in
    let h = rw c.deref_mut.ensures.value at (c.in-Ok.ensures.answers b.at was.1) in
    let answers = h.answers in
    subst (λ (l : List LogEntry). Advances g.L.ByteLink.state g.L.ByteLink.start (called_to s l) w
    c.owe.result.phase) (sym (owing_log _ _ _ _ _ c.owe.ensures.calls))
    (subst
    (λ (t : Start). Advances g.L.ByteLink.state g.L.ByteLink.start t w c.owe.result.phase)
    (sym (ends_with s (log_of c.args.calls.now) (log_of c.answer_error.new.calls) answers.turn.e
    answers.turn.calls.log b.unended
    (ap (λ (h : Hook). same_hook hook.FailToProxy h) answers.turn.hook)))
    (answered_on g.L.ByteLink.state g.L.ByteLink.start s (log_of c.args.calls.now)
    (answers.turn.e ∷ []) p w c.args.context c.args.session _ c.args.link c.args.lease c.args.keep
    c.args.error c.args.treated (b.viewed c.args.treated c.requires) stops (answered_by _ answers)
    (queued_by _ answers)
    (subst
    (λ (t : Start). RunSoFar g.L.ByteLink.state g.L.ByteLink.start t p w []
    (phase.Broken c.args.context c.args.session c.args.link c.args.lease c.args.keep c.args.error))
    (still_open s (log_of c.args.calls.now) b.unended) run)
    c.owe.result.phase c.owe.ensures.comes))

pub returns-in-Ok-clause-calls : goal.returns-in-Ok-clause-calls
returns-in-Ok-clause-calls g c = λ b.
    let was = was_treated c.args.calls.now.at (log_of c.args.calls.now) c.args.error c.args.treated
    b.at c.requires b.breaks in
    let h = rw c.deref_mut.ensures.value at (c.in-Ok.ensures.answers b.at was.1) in
    let answers = h.answers in
    owing_on _ (g.SV.ProxyHttp.mark_of c.args.app.now) c.answer_error.new.calls c.owe.new.calls _ _
    c.owe.result.phase c.owe.ensures.calls
    (answered_ends _ (g.SV.ProxyHttp.mark_of c.args.app.now) c.args.calls.now
    c.answer_error.new.calls c.args.context c.args.session.value c.answer_error.new.client
    c.args.treated b.from b.at b.walks b.order b.unended h)

pub returns-in-Ok-clause-called : goal.returns-in-Ok-clause-called
returns-in-Ok-clause-called g c =
    let h = rw c.deref_mut.ensures.value at (c.in-Ok.ensures.answers station.failing refl) in
    counted_still c.args.calls.now c.answer_error.new.calls c.owe.new.calls c.owe.result.work
    (owing_log _ _ _ _ _ c.owe.ensures.calls)
    (one_called c.args.calls.now c.answer_error.new.calls c.owe.result.work c.owe.ensures.called
    h.answers.turn.e
    h.answers.turn.calls.log)

-- memory was wanted
pub returns-in-Err-clause-run : goal.returns-in-Err-clause-run
returns-in-Err-clause-run g c = λ s p w stops b run.
    let now = subst (λ (l : List LogEntry). IsUnended l) (sym c.in-Err.ensures.lost) b.unended in
    rw c.closed.ensures.phase
    (subst
    (λ (t : Start). Advances {C = g.row.SV-CTX.Denot} g.L.ByteLink.state g.L.ByteLink.start t w
    (phase.Close c.args.link c.args.lease false outcome.OutOfMemory))
    (sym (still_open s (log_of c.answer_error.new.calls) now))
    (treated_lost g.L.ByteLink.state g.L.ByteLink.start (log_of c.args.calls.now)
    (log_of c.answer_error.new.calls) s p w c.args.context c.args.session c.args.link c.args.lease
    c.args.keep c.args.error c.in-Err.ensures.lost
    (subst
    (λ (t : Start). RunSoFar g.L.ByteLink.state g.L.ByteLink.start t p w []
    (phase.Broken c.args.context c.args.session c.args.link c.args.lease c.args.keep c.args.error))
    (still_open s (log_of c.args.calls.now) b.unended) run)))

pub returns-in-Err-clause-calls : goal.returns-in-Err-clause-calls
returns-in-Err-clause-calls g c = λ b.
    rw c.closed.ensures.phase
    (untreated_logged _ (g.SV.ProxyHttp.mark_of c.args.app.now) c.args.calls.now
    c.answer_error.new.calls c.args.context c.args.session.value c.args.error
    c.in-Err.ensures.lost b)

pub returns-in-Err-clause-called : goal.returns-in-Err-clause-called
returns-in-Err-clause-called g c =
    none_called _ _ c.closed.result.work (rw c.closed.ensures.work refl) c.in-Err.ensures.lost
