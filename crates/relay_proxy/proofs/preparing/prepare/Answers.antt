-- The head is made, and the exchange begins with it; or the attempt fails.
use Rattle.std.proofs.Common.{true, refl, ◌∙◌}
use Rattle.relay_tasks.specs.declared.error.Fail.TheVariants as fail
use Rattle.relay_request.specs.Calls.{log_of}
use Rattle.relay_request.specs.Turn.{world_with}
use Rattle.relay_request.proofs.CallLemmas.{begun_exchange}
use Rattle.relay_request.proofs.FilterLemmas.{unended_past}
use Rattle.relay_turns.proofs.FilterSteps.{purges_past}
use Rattle.relay_turns.proofs.OpenSteps.{called_tells}
use Rattle.relay_turns.proofs.PrepareSteps.{ahead_broken, begun_grows, filtered_badly, filtered_ends, filtered_lost, filtered_sends, filtered_well, lost_counts, lost_logged, made_purges, made_unended, makes_error, once_grows, unsent_breaks, unsent_counts}
use Rattle.relay_proxy.proofs.preparing.prepare.Goals as goal

-- the head that is sent has a framing
pub begin-requires : goal.begin-requires
begin-requires g c = c.in-Ok.ensures.framed

-- the exchange begins
pub returns-in-Ok-clause-run : goal.returns-in-Ok-clause-run
returns-in-Ok-clause-run g c = λ s p front faults o run.
    let made = rw c.deref_mut.ensures.value at c.in-Ok.ensures.makes in
    let on = filtered_well g.L.ByteLink.state g.L.ByteLink.start _ c.args.calls.now
    c.sent_of.new.calls _ _ s p
    (world_with (g.F.Front.state front) (g.F.Front.ahead front) faults) c.args.context
    c.args.session _ c.args.link c.args.lease run _ _ refl c.in-Ok.sent made in
    c.begin.ensures.run s p front faults on.on on.sends
    (filtered_ends _ (g.SV.ProxyHttp.mark_of c.args.app.now) c.args.calls.now
    c.sent_of.new.calls c.args.context c.sent_of.new.context c.args.session.value
    c.sent_of.new.client _ o.0 made.filtered made.filters
    (filtered_sends _ (g.SV.ProxyHttp.mark_of c.args.app.now) c.args.calls.now
    c.sent_of.new.calls c.args.context c.sent_of.new.context c.args.session.value
    c.sent_of.new.client _ o.0 o.1 (c.sent_of.ensures.at ∙ o.1) made.filtered made.filters).order)

pub returns-in-Ok-clause-calls : goal.returns-in-Ok-clause-calls
returns-in-Ok-clause-calls g c = λ o.
    let made = rw c.deref_mut.ensures.value at c.in-Ok.ensures.makes in
    begun_exchange _ (g.SV.ProxyHttp.mark_of c.args.app.now) c.sent_of.new.calls c.begin.new.calls
    c.sent_of.new.context c.sent_of.new.client c.begin.result.phase
    (filtered_sends _ (g.SV.ProxyHttp.mark_of c.args.app.now) c.args.calls.now
    c.sent_of.new.calls c.args.context c.sent_of.new.context c.args.session.value
    c.sent_of.new.client _ o.0 o.1 (c.sent_of.ensures.at ∙ o.1) made.filtered made.filters)
    c.begin.ensures.calls

pub returns-in-Ok-clause-called : goal.returns-in-Ok-clause-called
returns-in-Ok-clause-called g c =
    let made = rw c.deref_mut.ensures.value at c.in-Ok.ensures.makes in
    begun_grows c.args.calls.now c.sent_of.new.calls c.begin.new.calls made.filters.call.turn.e
    c.begin.ensures.enters.0 c.begin.result.work made.filters.call.turn.calls.log
    c.begin.ensures.enters.1 c.begin.ensures.called

-- no head is made
pub returns-in-Err-Error-clause-run : goal.returns-in-Err-Error-clause-run
returns-in-Err-Error-clause-run g c = λ s p front faults o run.
    let w = world_with (g.F.Front.state front) (g.F.Front.ahead front) faults in
    let refused = rw c.deref_mut.ensures.value at (makes_error _ _ _ _ _ _ _ _
    (fail.Error c.in-Err-Error.error) c.in-Err-Error.field-0-is c.in-Err-Error.ensures.makes) in
    rw (c.fail_ahead.ensures.phase, c.in-Err-Error.field-0-is)
    (ahead_broken g.L.ByteLink.state g.L.ByteLink.start _ p w _ _ c.args.link c.args.lease true
    c.in-Err-Error.error
    (called_tells s (log_of c.args.calls.now) (log_of c.sent_of.new.calls) p w run.tells)
    run.untouched
    (filtered_badly g.L.ByteLink.state g.L.ByteLink.start _ c.args.calls.now c.sent_of.new.calls _ _
    s p w c.args.context c.args.session _ c.args.link c.args.lease run c.in-Err-Error.error
    refused))

pub returns-in-Err-Error-clause-calls : goal.returns-in-Err-Error-clause-calls
returns-in-Err-Error-clause-calls g c = λ o.
    let refused = rw c.deref_mut.ensures.value at (makes_error _ _ _ _ _ _ _ _
    (fail.Error c.in-Err-Error.error) c.in-Err-Error.field-0-is c.in-Err-Error.ensures.makes) in
    rw (c.fail_ahead.ensures.phase, c.in-Err-Error.field-0-is)
    (unsent_breaks _ (g.SV.ProxyHttp.mark_of c.args.app.now) c.args.calls.now
    c.sent_of.new.calls c.args.context c.sent_of.new.context c.args.session.value
    c.sent_of.new.client _ o.0 o.1 (c.sent_of.ensures.at ∙ o.1) c.in-Err-Error.error refused)

pub returns-in-Err-Error-clause-called : goal.returns-in-Err-Error-clause-called
returns-in-Err-Error-clause-called g c =
    let refused = rw c.deref_mut.ensures.value at (makes_error _ _ _ _ _ _ _ _
    (fail.Error c.in-Err-Error.error) c.in-Err-Error.field-0-is c.in-Err-Error.ensures.makes) in
    once_grows c.args.calls.now c.sent_of.new.calls c.fail_ahead.result.work
    (unsent_counts _ c.args.calls.now c.sent_of.new.calls c.args.session.value
    c.sent_of.new.client _ _ c.fail_ahead.result.work (rw c.fail_ahead.ensures.work refl)
    c.in-Err-Error.error refused)

-- memory was wanted
pub returns-in-Err-OutOfMemory-clause-run : goal.returns-in-Err-OutOfMemory-clause-run
returns-in-Err-OutOfMemory-clause-run g c = λ s p front faults o run.
    let w = world_with (g.F.Front.state front) (g.F.Front.ahead front) faults in
    let lost = rw c.deref_mut.ensures.value at (makes_error _ _ _ _ _ _ _ _
    fail.OutOfMemory c.in-Err-OutOfMemory.field-0-is c.in-Err-OutOfMemory.ensures.makes) in
    rw c.closed.ensures.phase
    (filtered_lost g.L.ByteLink.state g.L.ByteLink.start _ c.args.calls.now c.sent_of.new.calls _ _
    s p w c.args.context c.args.session _ c.args.link c.args.lease run lost)

pub returns-in-Err-OutOfMemory-clause-calls : goal.returns-in-Err-OutOfMemory-clause-calls
returns-in-Err-OutOfMemory-clause-calls g c = λ o.
    let lost = rw c.deref_mut.ensures.value at (makes_error _ _ _ _ _ _ _ _
    fail.OutOfMemory c.in-Err-OutOfMemory.field-0-is c.in-Err-OutOfMemory.ensures.makes) in
    rw c.closed.ensures.phase
    (lost_logged _ (g.SV.ProxyHttp.mark_of c.args.app.now) c.args.calls.now
    c.sent_of.new.calls c.args.context c.sent_of.new.context c.args.session.value
    c.sent_of.new.client _ o.0 o.1 lost)

pub returns-in-Err-OutOfMemory-clause-called : goal.returns-in-Err-OutOfMemory-clause-called
returns-in-Err-OutOfMemory-clause-called g c =
    let lost = rw c.deref_mut.ensures.value at (makes_error _ _ _ _ _ _ _ _
    fail.OutOfMemory c.in-Err-OutOfMemory.field-0-is c.in-Err-OutOfMemory.ensures.makes) in
    once_grows c.args.calls.now c.sent_of.new.calls c.closed.result.work
    (lost_counts _ c.args.calls.now c.sent_of.new.calls c.args.session.value
    c.sent_of.new.client _ _ c.closed.result.work (rw c.closed.ensures.work refl) lost)

-- the end does not begin with it
pub returns-in-Ok-clause-unended : goal.returns-in-Ok-clause-unended
returns-in-Ok-clause-unended g c = λ none.
    unended_past (log_of c.sent_of.new.calls) c.begin.ensures.enters.0 (log_of c.begin.new.calls)
    c.begin.ensures.enters.1
    (made_unended _ c.args.calls.now c.sent_of.new.calls c.args.session.value
    c.sent_of.new.client _ _ none c.sent_of.result
    (rw c.deref_mut.ensures.value at c.sent_of.ensures.makes)) c.begin.ensures.enters.2

pub returns-in-Err-Error-clause-unended : goal.returns-in-Err-Error-clause-unended
returns-in-Err-Error-clause-unended g c = λ none.
    made_unended _ c.args.calls.now c.sent_of.new.calls c.args.session.value
    c.sent_of.new.client _ _ none c.sent_of.result
    (rw c.deref_mut.ensures.value at c.sent_of.ensures.makes)

pub returns-in-Err-OutOfMemory-clause-unended : goal.returns-in-Err-OutOfMemory-clause-unended
returns-in-Err-OutOfMemory-clause-unended g c = λ none.
    made_unended _ c.args.calls.now c.sent_of.new.calls c.args.session.value
    c.sent_of.new.client _ _ none c.sent_of.result
    (rw c.deref_mut.ensures.value at c.sent_of.ensures.makes)

-- nor is a purger asked
pub returns-in-Ok-clause-purged : goal.returns-in-Ok-clause-purged
returns-in-Ok-clause-purged g c =
    purges_past (log_of c.sent_of.new.calls) c.begin.ensures.enters.0 (log_of c.begin.new.calls)
    c.begin.ensures.enters.1 c.begin.ensures.enters.2
    ∙ made_purges _ c.args.calls.now c.sent_of.new.calls c.args.session.value
    c.sent_of.new.client _ _ c.sent_of.result
    (rw c.deref_mut.ensures.value at c.sent_of.ensures.makes)

pub returns-in-Err-Error-clause-purged : goal.returns-in-Err-Error-clause-purged
returns-in-Err-Error-clause-purged g c =
    made_purges _ c.args.calls.now c.sent_of.new.calls c.args.session.value
    c.sent_of.new.client _ _ c.sent_of.result
    (rw c.deref_mut.ensures.value at c.sent_of.ensures.makes)

pub returns-in-Err-OutOfMemory-clause-purged : goal.returns-in-Err-OutOfMemory-clause-purged
returns-in-Err-OutOfMemory-clause-purged g c =
    made_purges _ c.args.calls.now c.sent_of.new.calls c.args.session.value
    c.sent_of.new.client _ _ c.sent_of.result
    (rw c.deref_mut.ensures.value at c.sent_of.ensures.makes)
