-- The error is treated, and is to be answered; or memory was wanted.
use Rattle.std.proofs.Common.{List, arith, refl, subst, sym}
use Rattle.relay_tasks.specs.declared.hook.Hook.TheVariants as hook
use Rattle.relay_tasks.specs.declared.log.LogEntry.{LogEntry}
use Rattle.relay_phases.specs.Order.{Station as station}
use Rattle.relay_request.specs.Calls.{IsUnended, log_of}
use Rattle.relay_request.proofs.CallLemmas.{may_treat, none_called, one_called, treated_breaks, untreated_logged}
use Rattle.relay_turns.proofs.FailSteps.{treated_lost, treated_on}
use Rattle.relay_request.proofs.TreatLemmas.{unended_more}
use Rattle.relay_proxy.proofs.failing.treat_broken.Goals as goal

-- it is treated
pub returns-in-Ok-clause-run : goal.returns-in-Ok-clause-run
returns-in-Ok-clause-run g c = λ s p w run.
    treated_on g.L.ByteLink.state g.L.ByteLink.start _ c.args.calls.now c.treat.new.calls _ _ s p w
    c.args.context _ c.args.session _ c.args.link c.args.lease c.args.keep c.args.error
    c.in-Ok._treated station.sent run
    (rw c.deref_mut.ensures.value at (c.in-Ok.ensures.treats station.sent refl))

pub returns-in-Ok-clause-calls : goal.returns-in-Ok-clause-calls
returns-in-Ok-clause-calls g c = λ b.
    treated_breaks _ (g.SV.ProxyHttp.mark_of c.args.app.now) c.args.calls.now c.treat.new.calls
    c.args.context c.treat.new.context c.args.session.value c.treat.new.client
    c.args.lease.peer c.args.lease.reused c.args.error c.in-Ok._treated c.in-Ok.ensures.at b
    (rw c.deref_mut.ensures.value at (c.in-Ok.ensures.treats b.at
    (may_treat c.args.calls.now.at (log_of c.args.calls.now) c.args.error b.at c.requires
    b.breaks)))

pub returns-in-Ok-clause-called : goal.returns-in-Ok-clause-called
returns-in-Ok-clause-called g c =
    let treats = rw c.deref_mut.ensures.value at (c.in-Ok.ensures.treats station.sent refl) in
    one_called _ _ _ (omega arith) treats.call.turn.e treats.call.turn.calls.log

pub returns-in-Ok-clause-unended : goal.returns-in-Ok-clause-unended
returns-in-Ok-clause-unended g c = λ none.
    let treats = rw c.deref_mut.ensures.value at (c.in-Ok.ensures.treats station.sent refl) in
    unended_more (log_of c.args.calls.now) (log_of c.treat.new.calls) treats.call.turn.e
    hook.ErrorWhileProxy treats.call.turn.calls.log treats.call.turn.hook refl none

-- memory was wanted
pub returns-in-Err-clause-run : goal.returns-in-Err-clause-run
returns-in-Err-clause-run g c = λ s p w run.
    rw c.closed.ensures.phase
    (treated_lost g.L.ByteLink.state g.L.ByteLink.start (log_of c.args.calls.now)
    (log_of c.treat.new.calls) s p w c.args.context c.args.session c.args.link c.args.lease
    c.args.keep c.args.error c.in-Err.ensures.lost run)

pub returns-in-Err-clause-calls : goal.returns-in-Err-clause-calls
returns-in-Err-clause-calls g c = λ b.
    rw c.closed.ensures.phase
    (untreated_logged _ (g.SV.ProxyHttp.mark_of c.args.app.now) c.args.calls.now
    c.treat.new.calls c.args.context c.args.session.value c.args.error c.in-Err.ensures.lost b)

pub returns-in-Err-clause-called : goal.returns-in-Err-clause-called
returns-in-Err-clause-called g c =
    none_called _ _ c.closed.result.work (rw c.closed.ensures.work refl) c.in-Err.ensures.lost

pub returns-in-Err-clause-unended : goal.returns-in-Err-clause-unended
returns-in-Err-clause-unended g c = λ none.
    subst (λ (l : List LogEntry). IsUnended l) (sym c.in-Err.ensures.lost) none
