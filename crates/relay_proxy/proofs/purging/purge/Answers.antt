-- The purger's answer is owed, or memory was wanted.
use Rattle.std.proofs.Common.{List, [], None, ap, arith, refl, subst, sym, ◌∙◌}
use Rattle.relay_tasks.specs.declared.log.LogEntry.{LogEntry}
use Rattle.relay_request.specs.Calls.{IsOwing, IsUnended, allowed_by, log_of}
use Rattle.relay_request.specs.Passed.{opened_to}
use Rattle.relay_request.specs.Purging.{AsksPurger}
use Rattle.relay_request.specs.Turn.{Advances}
use Rattle.relay_request.specs.declared.calls.Calls.{Calls}
use Rattle.relay_request.specs.declared.owed.Owed.TheVariants as owing
use Rattle.relay_purging.specs.declared.turn.End.TheVariants as end
use Rattle.relay_request.proofs.CallLemmas.{one_called}
use Rattle.relay_turns.proofs.LastCalls.{counted_still, owing_log, owing_on}
use Rattle.relay_turns.proofs.OpenSteps.{called_tries, hooks_leave, hooks_lost, none_tried}
use Rattle.relay_turns.proofs.PurgeSteps.{asks_lost, asks_once, purge_before, purge_leaves, purge_logged, purge_memory, purge_owing, purge_refusals, purge_unended, purge_untreated}
use Rattle.relay_proxy.proofs.purging.purge.Goals as goal

-- its answer is owed
pub returns-in-Answered-clause-run : goal.returns-in-Answered-clause-run
returns-in-Answered-clause-run g c = λ s p w o run.
    let done = purge_leaves _ (g.SV.ProxyHttp.mark_of c.args.app.now) c.args.calls.now
    c.call_purger.new.calls c.args.context c.call_purger.new.context c.args.session.value
    c.call_purger.new.client c.args.action _ _ c.requires
    (rw c.deref_mut.ensures.value at c.in-Answered.ensures.purges) s p w c.args.tries o run.holds in
    let none = none_tried (opened_to s (log_of c.args.calls.now)) c.args.tries run.holds.are_tries
    (o.untried (purge_before c.args.calls.now.at c.args.action c.requires)) in
    subst (λ (l : List LogEntry). Advances g.L.ByteLink.state g.L.ByteLink.start (opened_to s l) w
    c.owe.result.phase)
    (sym (owing_log _ _ _ _ _ c.owe.ensures.calls
    ∙ ap (λ (k : Calls _ _ _). log_of k) c.begin_end.ensures))
    (hooks_leave g.L.ByteLink.state g.L.ByteLink.start (log_of c.args.calls.now)
    (log_of c.call_purger.new.calls) [] s p w c.args.context c.args.session _ c.args.tries _
    done.text c.owe.result.phase done.is_open (λ some. (c.owe.ensures.some some).0)
    (λ none. (c.owe.ensures.none none).0) done.owed
    (purge_untreated _ (g.SV.ProxyHttp.mark_of c.args.app.now) c.args.calls.now
    c.call_purger.new.calls c.args.context c.call_purger.new.context c.args.session.value
    c.call_purger.new.client c.args.action _ _ c.requires
    (rw c.deref_mut.ensures.value at c.in-Answered.ensures.purges) o.untreated)
    none (done.tells none.1, run.calm) run)

-- and the end of the request begins
pub returns-in-Answered-clause-calls : goal.returns-in-Answered-clause-calls
returns-in-Answered-clause-calls g c = λ o.
    owing_on _ (g.SV.ProxyHttp.mark_of c.args.app.now) c.begin_end.new.self c.owe.new.calls _ _
    c.owe.result.phase c.owe.ensures.calls
    (subst (λ (k : Calls _ _ _). IsOwing
    (allowed_by (g.SV.ProxyHttp.allows c.args.app.now) g.SV.Modules.HttpModule.allows)
    (g.SV.ProxyHttp.mark_of c.args.app.now) k c.call_purger.new.client (owing.Ahead None))
    (sym c.begin_end.ensures) (purge_owing _ (g.SV.ProxyHttp.mark_of c.args.app.now)
    c.args.calls.now
    c.call_purger.new.calls c.args.context c.call_purger.new.context c.args.session.value
    c.call_purger.new.client c.args.action _ _ c.requires
    (rw c.deref_mut.ensures.value at c.in-Answered.ensures.purges) c.args.tries o))

pub returns-in-Answered-clause-called : goal.returns-in-Answered-clause-called
returns-in-Answered-clause-called g c =
    let once = rw c.deref_mut.ensures.value at c.in-Answered.ensures.purges in
    counted_still c.args.calls.now c.call_purger.new.calls c.owe.new.calls c.owe.result.work
    (owing_log _ _ _ _ _ c.owe.ensures.calls
    ∙ ap (λ (k : Calls _ _ _). log_of k) c.begin_end.ensures)
    (one_called c.args.calls.now c.call_purger.new.calls c.owe.result.work
    (rw c.owe.ensures.work (omega arith)) once.turn.e once.turn.calls.log)

pub returns-in-Answered-clause-unended : goal.returns-in-Answered-clause-unended
returns-in-Answered-clause-unended g c = λ none.
    subst (λ (l : List LogEntry). IsUnended l)
    (sym (owing_log _ _ _ _ _ c.owe.ensures.calls
    ∙ ap (λ (k : Calls _ _ _). log_of k) c.begin_end.ensures))
    (purge_unended _ (g.SV.ProxyHttp.mark_of c.args.app.now) c.args.calls.now
    c.call_purger.new.calls c.args.context c.call_purger.new.context c.args.session.value
    c.call_purger.new.client c.args.action _ _ c.requires
    end.Answered (rw c.deref_mut.ensures.value at c.in-Answered.ensures.purges) none)

-- the purger was asked once
pub returns-in-Answered-clause-purger : goal.returns-in-Answered-clause-purger
returns-in-Answered-clause-purger g c = λ o.
    subst (λ (l : List LogEntry). AsksPurger (g.P.Purger.state c.args.purger.now)
    (g.P.Purger.state c.call_purger.new.purger) (log_of c.args.calls.now) l c.owe.result.phase)
    (sym (owing_log _ _ _ _ _ c.owe.ensures.calls
    ∙ ap (λ (k : Calls _ _ _). log_of k) c.begin_end.ensures))
    (asks_once _ (g.SV.ProxyHttp.mark_of c.args.app.now) c.args.calls.now
    c.call_purger.new.calls c.args.context c.call_purger.new.context c.args.session.value
    c.call_purger.new.client c.args.action _ _ c.requires
    end.Answered (rw c.deref_mut.ensures.value at c.in-Answered.ensures.purges) c.args.tries o
    c.owe.result.phase)

-- or memory was wanted
pub returns-in-Unwritten-clause-run : goal.returns-in-Unwritten-clause-run
returns-in-Unwritten-clause-run g c = λ s p w o run.
    rw c.lacks_memory.ensures.phase
    (hooks_lost g.L.ByteLink.state g.L.ByteLink.start (log_of c.args.calls.now)
    (log_of c.call_purger.new.calls) s p w c.args.context c.args.session c.args.tries
    (called_tries s (log_of c.args.calls.now) (log_of c.call_purger.new.calls) c.args.tries
    (purge_refusals _ (g.SV.ProxyHttp.mark_of c.args.app.now) c.args.calls.now
    c.call_purger.new.calls c.args.context c.call_purger.new.context c.args.session.value
    c.call_purger.new.client c.args.action _ _ c.requires
    c.call_purger.result (rw c.deref_mut.ensures.value at c.call_purger.ensures.purges))
    run.holds.are_tries) run)

pub returns-in-Unwritten-clause-calls : goal.returns-in-Unwritten-clause-calls
returns-in-Unwritten-clause-calls g c = λ o.
    rw c.lacks_memory.ensures.phase
    (purge_logged _ (g.SV.ProxyHttp.mark_of c.args.app.now) c.args.calls.now
    c.call_purger.new.calls c.args.context c.call_purger.new.context c.args.session.value
    c.call_purger.new.client c.args.action _ _ c.requires
    c.call_purger.result (rw c.deref_mut.ensures.value at c.call_purger.ensures.purges)
    c.args.tries o)

pub returns-in-Unwritten-clause-called : goal.returns-in-Unwritten-clause-called
returns-in-Unwritten-clause-called g c =
    purge_memory _ (g.SV.ProxyHttp.mark_of c.args.app.now) c.args.calls.now
    c.call_purger.new.calls c.args.context c.call_purger.new.context c.args.session.value
    c.call_purger.new.client c.args.action _ _ c.requires
    c.call_purger.result (rw c.deref_mut.ensures.value at c.call_purger.ensures.purges)
    c.lacks_memory.result.work
    (rw c.lacks_memory.ensures.work refl)

pub returns-in-Unwritten-clause-unended : goal.returns-in-Unwritten-clause-unended
returns-in-Unwritten-clause-unended g c = λ none.
    purge_unended _ (g.SV.ProxyHttp.mark_of c.args.app.now) c.args.calls.now
    c.call_purger.new.calls c.args.context c.call_purger.new.context c.args.session.value
    c.call_purger.new.client c.args.action _ _ c.requires
    c.call_purger.result (rw c.deref_mut.ensures.value at c.call_purger.ensures.purges) none

-- and the purger may have been asked without an entry
pub returns-in-Unwritten-clause-purger : goal.returns-in-Unwritten-clause-purger
returns-in-Unwritten-clause-purger g c = λ o.
    asks_lost _ (g.SV.ProxyHttp.mark_of c.args.app.now) c.args.calls.now
    c.call_purger.new.calls c.args.context c.call_purger.new.context c.args.session.value
    c.call_purger.new.client c.args.action _ _ c.requires
    c.call_purger.result (rw c.deref_mut.ensures.value at c.call_purger.ensures.purges)
    (rw c.deref_mut.ensures.value at c.call_purger.ensures.asked) c.args.tries o
    c.lacks_memory.result.phase (c.args.tries, c.lacks_memory.ensures.phase)
