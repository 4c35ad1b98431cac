-- The application is told of the link, and the head comes next; or the attempt fails.
use Rattle.std.proofs.Common.{arith, false, refl, sym, true≢false, ◌∙◌}
use Rattle.relay_tasks.specs.declared.ErrorSource.TheVariants.{Upstream}
use Rattle.relay_tasks.specs.declared.error.Fail.TheVariants as fail
use Rattle.relay_request.specs.Sent.{unrelayed}
use Rattle.relay_request.specs.Calls.{log_of}
use Rattle.relay_request.proofs.CallLemmas.{logged_same, none_called, one_called}
use Rattle.relay_turns.proofs.OpenSteps.{called_tells}
use Rattle.relay_turns.proofs.PrepareSteps.{ahead_broken, told_badly, told_breaks, told_error, told_calls, told_lost, told_unended, told_unspoken, told_well, unspoken_breaks}
use Rattle.relay_proxy.proofs.connecting.tell.Goals as goal

-- the head comes next
pub returns-in-Ok-clause-run : goal.returns-in-Ok-clause-run
returns-in-Ok-clause-run g c = λ s p w o run was same handed speaks.
    told_well g.L.ByteLink.state g.L.ByteLink.start _ c.args.calls.now c.tell_link.new.calls _ _
    s p w c.args.context c.args.session _ c.args.link c.args.lease handed was same o.named run
    (speaks.0 c.if-speaks.true) _ _ refl (rw c.deref_mut.ensures.value at c.in-Ok.ensures.told).turn

pub returns-in-Ok-clause-calls : goal.returns-in-Ok-clause-calls
returns-in-Ok-clause-calls g c = λ was o. (
  told_calls _ (g.SV.ProxyHttp.mark_of c.args.app.now) c.args.calls.now
      c.tell_link.new.calls c.args.context c.tell_link.new.context c.args.session.value
      c.tell_link.new.client _ o c.args.lease.peer was c.in-Ok.ensures.at
      (rw c.deref_mut.ensures.value at c.in-Ok.ensures.told).turn,
  c.in-Ok.ensures.at,
)

pub returns-in-Ok-clause-called : goal.returns-in-Ok-clause-called
returns-in-Ok-clause-called g c =
    one_called _ _ _ (omega arith)
    (rw c.deref_mut.ensures.value at c.in-Ok.ensures.told).turn.e
    (rw c.deref_mut.ensures.value at c.in-Ok.ensures.told).turn.calls.log

-- the link carries messages, over which nothing is relayed
pub returns-in-Ok-2-clause-run : goal.returns-in-Ok-2-clause-run
returns-in-Ok-2-clause-run g c = λ s p w o run was same handed speaks.
    rw (c.fail_ahead.ensures.phase, c.unspoken.ensures)
    (ahead_broken g.L.ByteLink.state g.L.ByteLink.start _ p w _ _ c.args.link c.args.lease false
    (unrelayed Upstream)
    (called_tells s (log_of c.args.calls.now) (log_of c.tell_link.new.calls) p w run.tells)
    run.untouched
    (told_unspoken g.L.ByteLink.state g.L.ByteLink.start _ c.args.calls.now
    c.tell_link.new.calls _ _ s p w c.args.context c.args.session _ c.args.link c.args.lease handed
    was same o.named run (λ is. true≢false (sym (speaks.1 is) ∙ c.if-speaks.false))
    (rw c.deref_mut.ensures.value at c.in-Ok-2.ensures.told).turn))

pub returns-in-Ok-2-clause-calls : goal.returns-in-Ok-2-clause-calls
returns-in-Ok-2-clause-calls g c = λ was o.
    rw c.fail_ahead.ensures.phase
    (unspoken_breaks _ (g.SV.ProxyHttp.mark_of c.args.app.now) c.args.calls.now
    c.tell_link.new.calls c.args.context c.tell_link.new.context c.args.session.value
    c.tell_link.new.client _ o c.args.lease.peer c.unspoken.result was c.in-Ok-2.ensures.at
    (rw c.deref_mut.ensures.value at c.in-Ok-2.ensures.told).turn)

-- it failed
pub returns-in-Err-Error-clause-run : goal.returns-in-Err-Error-clause-run
returns-in-Err-Error-clause-run g c = λ s p w o run was same handed speaks.
    let call = rw c.deref_mut.ensures.value at (told_error _ _ _ _ _ _ _ _
    (fail.Error c.in-Err-Error.error) c.in-Err-Error.field-0-is c.in-Err-Error.ensures.told) in
    rw c.fail_ahead-in-Err-Error.ensures.phase
    (ahead_broken g.L.ByteLink.state g.L.ByteLink.start _ p w _ _ c.args.link c.args.lease false
    c.in-Err-Error.error
    (called_tells s (log_of c.args.calls.now) (log_of c.tell_link.new.calls) p w run.tells)
    run.untouched
    (told_badly g.L.ByteLink.state g.L.ByteLink.start _ c.args.calls.now
    c.tell_link.new.calls _ _ s p w c.args.context c.args.session _ c.args.link c.args.lease handed
    was same o.named run c.in-Err-Error.error call.turn call.error))

pub returns-in-Err-Error-clause-calls : goal.returns-in-Err-Error-clause-calls
returns-in-Err-Error-clause-calls g c = λ was o.
    let call = rw c.deref_mut.ensures.value at (told_error _ _ _ _ _ _ _ _
    (fail.Error c.in-Err-Error.error) c.in-Err-Error.field-0-is c.in-Err-Error.ensures.told) in
    rw c.fail_ahead-in-Err-Error.ensures.phase
    (told_breaks _ (g.SV.ProxyHttp.mark_of c.args.app.now) c.args.calls.now
    c.tell_link.new.calls c.args.context c.tell_link.new.context c.args.session.value
    c.tell_link.new.client _ o c.args.lease.peer c.in-Err-Error.error was
    c.in-Err-Error.ensures.stays call.turn)

pub returns-in-Err-Error-clause-called : goal.returns-in-Err-Error-clause-called
returns-in-Err-Error-clause-called g c =
    let call = rw c.deref_mut.ensures.value at (told_error _ _ _ _ _ _ _ _
    (fail.Error c.in-Err-Error.error) c.in-Err-Error.field-0-is c.in-Err-Error.ensures.told) in
    one_called _ _ c.fail_ahead-in-Err-Error.result.work (rw c.fail_ahead-in-Err-Error.ensures.work (omega arith))
    call.turn.e call.turn.calls.log

-- memory was wanted
pub returns-in-Err-OutOfMemory-clause-run : goal.returns-in-Err-OutOfMemory-clause-run
returns-in-Err-OutOfMemory-clause-run g c = λ s p w o run was same handed speaks.
    rw c.closed.ensures.phase
    (told_lost g.L.ByteLink.state g.L.ByteLink.start c.args.calls.now s p w c.args.context
    c.args.session c.args.link c.args.lease handed was same o.named run c.tell_link.new.calls
    (told_error _ _ _ _ _ _ _ _ fail.OutOfMemory c.in-Err-OutOfMemory.field-0-is
    c.in-Err-OutOfMemory.ensures.told))

pub returns-in-Err-OutOfMemory-clause-calls : goal.returns-in-Err-OutOfMemory-clause-calls
returns-in-Err-OutOfMemory-clause-calls g c = λ was o.
    rw c.closed.ensures.phase
    (logged_same _ _ c.args.calls.now c.tell_link.new.calls c.args.context c.args.session.value _
    (told_error _ _ _ _ _ _ _ _ fail.OutOfMemory c.in-Err-OutOfMemory.field-0-is
    c.in-Err-OutOfMemory.ensures.told) o)

pub returns-in-Err-OutOfMemory-clause-called : goal.returns-in-Err-OutOfMemory-clause-called
returns-in-Err-OutOfMemory-clause-called g c =
    none_called _ _ c.closed.result.work (rw c.closed.ensures.work refl)
    (told_error _ _ _ _ _ _ _ _ fail.OutOfMemory c.in-Err-OutOfMemory.field-0-is
    c.in-Err-OutOfMemory.ensures.told)

pub returns-in-Ok-clause-unended : goal.returns-in-Ok-clause-unended
returns-in-Ok-clause-unended g c = λ none.
    told_unended _ c.args.calls.now c.tell_link.new.calls c.args.session.value
    c.tell_link.new.client _ _ none c.args.lease.peer c.args.lease.reused c.tell_link.result
    (rw c.deref_mut.ensures.value at c.tell_link.ensures.told)

pub returns-in-Err-Error-clause-unended : goal.returns-in-Err-Error-clause-unended
returns-in-Err-Error-clause-unended g c = λ none.
    told_unended _ c.args.calls.now c.tell_link.new.calls c.args.session.value
    c.tell_link.new.client _ _ none c.args.lease.peer c.args.lease.reused c.tell_link.result
    (rw c.deref_mut.ensures.value at c.tell_link.ensures.told)

pub returns-in-Err-OutOfMemory-clause-unended : goal.returns-in-Err-OutOfMemory-clause-unended
returns-in-Err-OutOfMemory-clause-unended g c = λ none.
    told_unended _ c.args.calls.now c.tell_link.new.calls c.args.session.value
    c.tell_link.new.client _ _ none c.args.lease.peer c.args.lease.reused c.tell_link.result
    (rw c.deref_mut.ensures.value at c.tell_link.ensures.told)
