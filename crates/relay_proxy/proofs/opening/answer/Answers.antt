-- What the application answered the error with is owed, or memory was wanted.
use Rattle.std.proofs.Common.{List, [], ◌∷◌, ap, arith, refl, subst, sym}
use Rattle.relay_tasks.specs.Hooks.{same_hook}
use Rattle.relay_tasks.specs.declared.hook.Hook.{Hook}
use Rattle.relay_tasks.specs.declared.hook.Hook.TheVariants as hook
use Rattle.relay_tasks.specs.declared.log.LogEntry.{LogEntry}
use Rattle.relay_phases.specs.Order.{Accepts, Station}
use Rattle.relay_phases.specs.Order.{Station as station}
use Rattle.relay_request.specs.Ahead.{IsStoppedFor}
use Rattle.relay_request.specs.Calls.{IsUnended, log_of}
use Rattle.relay_request.specs.Passed.{Start, called_to}
use Rattle.relay_request.specs.Phases.{RunSoFar}
use Rattle.relay_request.specs.Tries.{refusals_in}
use Rattle.relay_request.specs.Turn.{Advances}
use Rattle.relay_request.specs.declared.machine.Phase.TheVariants as phase
use Rattle.relay_request.specs.declared.outcome.Outcome.TheVariants as outcome
use Rattle.relay_request.proofs.CallLemmas.{logged_same, none_called, one_called}
use Rattle.relay_turns.proofs.LastCalls.{counted_still, opening_ends, owing_log, owing_on}
use Rattle.relay_request.proofs.ClosingSteps.{answered_by, queued_by}
use Rattle.relay_turns.proofs.HookSteps.{final_fails, final_station}
use Rattle.relay_turns.proofs.OpenSteps.{called_tries, closed_tries, error_answered, hooks_leave, hooks_lost}
use Rattle.relay_request.proofs.TreatLemmas.{ends_with, still_open}
use Rattle.relay_proxy.proofs.opening.answer.Goals as goal

-- it was answered
pub returns-in-Ok-clause-run : goal.returns-in-Ok-clause-run
returns-in-Ok-clause-run g c = λ s p w o run.
    let h = rw c.deref_mut.ensures.value at (c.in-Ok.ensures.answers station.failing refl) in
    let answers = h.answers in
    let here = final_station c.args.calls.now.at c.args.error c.requires in
    let before = subst
    (λ (t : Start). RunSoFar g.L.ByteLink.state g.L.ByteLink.start t p w []
    (phase.Connect c.args.context c.args.session c.args.tries))
    (still_open s (log_of c.args.calls.now) o.unended) run in
    let stops : IsStoppedFor (log_of c.args.calls.now) c.args.error = record {
      order = subst (λ (a : Station). Accepts station.accepted (log_of c.args.calls.now) a) here
          o.order;
      fails = final_fails c.args.calls.now.at (log_of c.args.calls.now) _ c.args.error c.requires
          o.named;
    } in
    let done = error_answered s (log_of c.args.calls.now) (answers.turn.e ∷ []) p w
    c.args.session.value
    c.answer_error.new.client c.args.tries c.args.error stops
    (answered_by _ answers) (queued_by _ answers) before.holds in
    subst (λ (l : List LogEntry). Advances g.L.ByteLink.state g.L.ByteLink.start (called_to s l) w
    c.owe.result.phase) (sym (owing_log _ _ _ _ _ c.owe.ensures.calls))
    (subst
    (λ (t : Start). Advances g.L.ByteLink.state g.L.ByteLink.start t w c.owe.result.phase)
    (sym (ends_with s (log_of c.args.calls.now) (log_of c.answer_error.new.calls) answers.turn.e
    answers.turn.calls.log o.unended
    (ap (λ (h : Hook). same_hook hook.FailToProxy h) answers.turn.hook)))
    (hooks_leave g.L.ByteLink.state g.L.ByteLink.start (log_of c.args.calls.now)
    (log_of c.args.calls.now) (answers.turn.e ∷ []) s p w c.args.context c.args.session _
    c.args.tries
    _ done.text c.owe.result.phase done.is_open (λ some. (c.owe.ensures.some some).0)
    (λ none. (c.owe.ensures.none none).0) done.owed o.untreated
    (closed_tries s (log_of c.args.calls.now) (answers.turn.e ∷ []) c.args.tries
    before.holds.are_tries) tt before))

pub returns-in-Ok-clause-calls : goal.returns-in-Ok-clause-calls
returns-in-Ok-clause-calls g c = λ o.
    let h = rw c.deref_mut.ensures.value at (c.in-Ok.ensures.answers station.failing refl) in
    let answers = h.answers in
    let here = final_station c.args.calls.now.at c.args.error c.requires in
    owing_on _ (g.SV.ProxyHttp.mark_of c.args.app.now) c.answer_error.new.calls c.owe.new.calls _ _
    c.owe.result.phase c.owe.ensures.calls
    (opening_ends _ (g.SV.ProxyHttp.mark_of c.args.app.now) c.args.calls.now
    c.answer_error.new.calls c.args.context c.args.session.value c.answer_error.new.client
    c.args.tries c.args.error station.failing here h o)

pub returns-in-Ok-clause-called : goal.returns-in-Ok-clause-called
returns-in-Ok-clause-called g c =
    let h = rw c.deref_mut.ensures.value at (c.in-Ok.ensures.answers station.failing refl) in
    let answers = h.answers in
    counted_still c.args.calls.now c.answer_error.new.calls c.owe.new.calls c.owe.result.work
    (owing_log _ _ _ _ _ c.owe.ensures.calls)
    (one_called c.args.calls.now c.answer_error.new.calls c.owe.result.work
    (rw c.owe.ensures.work (omega arith)) answers.turn.e
    answers.turn.calls.log)

-- memory was wanted
pub returns-in-Err-clause-run : goal.returns-in-Err-clause-run
returns-in-Err-clause-run g c = λ s p w o run.
    let now = subst (λ (l : List LogEntry). IsUnended l) (sym c.in-Err.ensures.lost) o.unended in
    let before = subst
    (λ (t : Start). RunSoFar g.L.ByteLink.state g.L.ByteLink.start t p w []
    (phase.Connect c.args.context c.args.session c.args.tries))
    (still_open s (log_of c.args.calls.now) o.unended) run in
    rw c.lacks_memory.ensures.phase
    (subst
    (λ (t : Start). Advances {C = g.row.SV-CTX.Denot} g.L.ByteLink.state g.L.ByteLink.start t w
    (phase.Ended outcome.OutOfMemory c.args.tries))
    (sym (still_open s (log_of c.answer_error.new.calls) now))
    (hooks_lost g.L.ByteLink.state g.L.ByteLink.start (log_of c.args.calls.now)
    (log_of c.answer_error.new.calls) s p w c.args.context c.args.session c.args.tries
    (called_tries s (log_of c.args.calls.now) (log_of c.answer_error.new.calls) c.args.tries
    (ap (λ (l : List LogEntry). refusals_in l) c.in-Err.ensures.lost) before.holds.are_tries)
    before))

pub returns-in-Err-clause-calls : goal.returns-in-Err-clause-calls
returns-in-Err-clause-calls g c = λ o.
    rw c.lacks_memory.ensures.phase
    (logged_same _ (g.SV.ProxyHttp.mark_of c.args.app.now) c.args.calls.now
    c.answer_error.new.calls c.args.context c.args.session.value c.args.tries c.in-Err.ensures.lost
    o)

pub returns-in-Err-clause-called : goal.returns-in-Err-clause-called
returns-in-Err-clause-called g c =
    none_called _ _ c.lacks_memory.result.work (rw c.lacks_memory.ensures.work refl)
    c.in-Err.ensures.lost
