-- The application was asked for the warning of the error, and another attempt follows; or memory
-- was wanted.
use Rattle.std.proofs.Common.{◌≡◌, ◌∙◌, ◌⊎◌, [], List, false, ap, arith, inl, inr, refl, subst, sym}
use Rattle.relay_tasks.specs.declared.log.LogEntry.{LogEntry}
use Rattle.relay_session.specs.Response.{has_head}
use Rattle.relay_session.specs.declared.task_text.Place.{Place}
use Rattle.relay_request.specs.Calls.{IsUnended, log_of}
use Rattle.relay_request.specs.Passed.{Start}
use Rattle.relay_request.specs.Phases.{RunSoFar}
use Rattle.relay_request.specs.Turn.{Advances}
use Rattle.relay_request.specs.declared.calls.Opened.{Opened}
use Rattle.relay_request.specs.declared.calls.Opened.TheVariants as led
use Rattle.relay_request.specs.declared.machine.Phase.TheVariants as phase
use Rattle.relay_request.specs.declared.outcome.Outcome.TheVariants as outcome
use Rattle.relay_turns.proofs.AgainLemmas.{as_begun_parts, kept_whole, unqueued_parts}
use Rattle.relay_request.proofs.CallLemmas.{none_called, one_called, repeats_calls, repeats_logged, repeats_turn, was_treated}
use Rattle.relay_turns.proofs.FailSteps.{repeats_called, treated_lost, unasked}
use Rattle.relay_request.proofs.TreatLemmas.{still_open}
use Rattle.relay_proxy.proofs.failing.repeat.Goals as goal

-- another attempt follows
pub returns-in-GoesOn-clause-run : goal.returns-in-GoesOn-clause-run
returns-in-GoesOn-clause-run g c = λ s p w may b run.
    let was = was_treated c.args.calls.now.at (log_of c.args.calls.now) c.args.error c.args.treated
    b.at c.requires.treated b.breaks in
    let turn = repeats_turn _ (g.SV.ProxyHttp.mark_of c.args.app.now) c.args.calls.now
    c.call_next.new.calls c.args.context c.call_next.new.context c.args.session.value
    c.call_next.new.client c.args.treated
    (rw (c.repeat.ensures, c.deref_mut.ensures.value) at c.in-GoesOn.ensures.turns)
    (sym c.in-GoesOn.ensures.shown) in
    inr (repeats_called g.L.ByteLink.state g.L.ByteLink.start _ c.args.calls.now
    c.call_next.new.calls _ _ s p w c.args.context _ c.args.session _ c.args.link c.args.lease
    c.args.keep c.args.error c.args.treated
    (subst
    (λ (t : Start). RunSoFar g.L.ByteLink.state g.L.ByteLink.start t p w []
    (phase.Broken c.args.context c.args.session c.args.link c.args.lease c.args.keep c.args.error))
    (still_open s (log_of c.args.calls.now) b.unended) run)
    was.0 c.requires.begun may _ turn b.unended)

pub returns-in-GoesOn-clause-calls : goal.returns-in-GoesOn-clause-calls
returns-in-GoesOn-clause-calls g c = λ marked b.
    repeats_calls _ (g.SV.ProxyHttp.mark_of c.args.app.now) c.args.calls.now
    c.call_next.new.calls c.args.context c.call_next.new.context c.args.session.value
    c.call_next.new.client _ c.args.error c.args.treated c.requires.treated marked
    (ap (λ (k : Place). has_head k)
    (unqueued_parts c.args.session.value.writing
    (as_begun_parts c.args.session.value c.requires.begun).1).at)
    (kept_whole c.args.session.value.reading
    (as_begun_parts c.args.session.value c.requires.begun).0)
    (rw (c.repeat.ensures, c.deref_mut.ensures.value) at c.in-GoesOn.ensures.turns)
    (sym c.in-GoesOn.ensures.shown) b

pub returns-in-GoesOn-clause-called : goal.returns-in-GoesOn-clause-called
returns-in-GoesOn-clause-called g c =
    let turn = repeats_turn _ (g.SV.ProxyHttp.mark_of c.args.app.now) c.args.calls.now
    c.call_next.new.calls c.args.context c.call_next.new.context c.args.session.value
    c.call_next.new.client c.args.treated
    (rw (c.repeat.ensures, c.deref_mut.ensures.value) at c.in-GoesOn.ensures.turns)
    (sym c.in-GoesOn.ensures.shown) in
    one_called c.args.calls.now c.call_next.new.calls _ (omega arith) turn.e turn.calls.log

-- a call that led anywhere else did not lead on
stops : (to : Opened) → (to ≡ led.Answered) ⊎ (to ≡ led.OutOfMemory) → to ≡ led.GoesOn → ⊥
stops to (inl answered) goes = let clash : led.Answered ≡ led.GoesOn = sym answered ∙ goes in cc
stops to (inr lost) goes = let clash : led.OutOfMemory ≡ led.GoesOn = sym lost ∙ goes in cc

-- memory was wanted
pub returns-in-Answered : goal.returns-in-Answered
returns-in-Answered g c =
    let turns = rw (c.repeat.ensures, c.deref_mut.ensures.value) at c.call_next.ensures.turns in
    let same : log_of c.call_next.new.calls ≡ log_of c.args.calls.now =
    unasked _ c.args.calls.now c.call_next.new.calls c.args.session.value c.call_next.new.client _ _
    c.args.treated turns
    (λ goes. stops c.call_next.result c.in-Answered.is (c.call_next.ensures.shown ∙ goes)) in
    record {
      run = λ s p w may b run.
          let now = subst (λ (l : List LogEntry). IsUnended l) (sym same) b.unended in
          inl (rw c.closed.ensures.phase
          (subst
          (λ (t : Start). Advances {C = g.row.SV-CTX.Denot} g.L.ByteLink.state g.L.ByteLink.start t
          w (phase.Close c.args.link c.args.lease false outcome.OutOfMemory))
          (sym (still_open s (log_of c.call_next.new.calls) now))
          (treated_lost g.L.ByteLink.state g.L.ByteLink.start (log_of c.args.calls.now)
          (log_of c.call_next.new.calls) s p w c.args.context c.args.session c.args.link
          c.args.lease c.args.keep c.args.error same
          (subst
          (λ (t : Start). RunSoFar g.L.ByteLink.state g.L.ByteLink.start t p w []
          (phase.Broken c.args.context c.args.session c.args.link c.args.lease c.args.keep
          c.args.error)) (still_open s (log_of c.args.calls.now) b.unended) run))));
      calls = λ marked b. rw c.closed.ensures.phase
          (repeats_logged _ (g.SV.ProxyHttp.mark_of c.args.app.now) c.args.calls.now
          c.call_next.new.calls c.args.context c.call_next.new.context c.args.session.value
          c.call_next.new.client c.args.error c.args.treated c.requires.treated marked
          (ap (λ (k : Place). has_head k)
          (unqueued_parts c.args.session.value.writing
          (as_begun_parts c.args.session.value c.requires.begun).1).at)
          (kept_whole c.args.session.value.reading
          (as_begun_parts c.args.session.value c.requires.begun).0) turns b);
      cause = λ log w x. rw c.closed.ensures.step tt;
      work = rw (c.closed.ensures.step, c.closed.ensures.work) (omega arith);
      called = none_called _ _ c.closed.result.work (rw c.closed.ensures.work refl) same;
      counts = rw (c.closed.ensures.phase, c.closed.ensures.work) (refl, omega arith, refl);
      leaves = rw c.closed.ensures.phase (refl, refl);
      unused = rw c.closed.ensures.work refl;
      step = inr c.closed.ensures.step;
      over = rw (c.closed.ensures.phase, c.closed.ensures.step) refl;
      held = rw c.closed.ensures.phase refl;
      tries = rw c.closed.ensures.phase refl;
      linked = rw c.closed.ensures.phase refl;
      items = rw c.closed.ensures.phase refl;
      asked = λ n asked. rw c.closed.ensures.phase asked;
    }
