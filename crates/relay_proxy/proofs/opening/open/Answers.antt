-- The hook that comes next is called, and the request goes on, or ends.
use Rattle.std.proofs.Common.{List, [], None, ap, arith, refl, subst, sym, ◌∙◌}
use Rattle.relay_tasks.specs.declared.log.LogEntry.{LogEntry}
use Rattle.relay_request.specs.Calls.{IsOwing, IsUnended, allowed_by, is_closing_at, log_of}
use Rattle.relay_request.specs.Passed.{opened_to}
use Rattle.relay_request.specs.Turn.{Advances}
use Rattle.relay_request.specs.declared.calls.Calls.{Calls}
use Rattle.relay_request.specs.declared.owed.Owed.TheVariants as owing
use Rattle.relay_request.proofs.MadeLemmas.{closing_unmade}
use Rattle.relay_turns.proofs.LastCalls.{counted_still, owing_log, owing_on}
use Rattle.relay_turns.proofs.HookSteps.{answered, answered_owing, counts_called, goes_connecting, known_at, memory_called, memory_logged, opening_on, refusals, unended, untreated}
use Rattle.relay_turns.proofs.OpenSteps.{called_tries, hooks_leave, hooks_lost, none_tried, opened_on}
use Rattle.relay_proxy.proofs.opening.open.Goals as goal

-- it goes on
pub returns-in-GoesOn-clause-run : goal.returns-in-GoesOn-clause-run
returns-in-GoesOn-clause-run g c = λ s p w o run.
    opened_on g.L.ByteLink.state g.L.ByteLink.start (log_of c.args.calls.now)
    (log_of c.call_next.new.calls) s p w c.args.context _ c.args.session _ c.args.tries
    (goes_connecting _ (g.SV.ProxyHttp.mark_of c.args.app.now) c.args.calls.now
    c.call_next.new.calls c.args.context c.call_next.new.context c.args.session.value
    c.call_next.new.client (rw c.deref_mut.ensures.value at c.in-GoesOn.ensures.turns)
    (sym c.in-GoesOn.ensures.shown) s p w c.args.tries run.holds) run

-- and its calls go on
pub returns-in-GoesOn-clause-calls : goal.returns-in-GoesOn-clause-calls
returns-in-GoesOn-clause-calls g c = λ o.
    opening_on _ (g.SV.ProxyHttp.mark_of c.args.app.now) c.args.calls.now
    c.call_next.new.calls c.args.context c.call_next.new.context c.args.session.value
    c.call_next.new.client (rw c.deref_mut.ensures.value at c.in-GoesOn.ensures.turns) c.args.tries
    (sym c.in-GoesOn.ensures.shown) o

pub returns-in-GoesOn-clause-called : goal.returns-in-GoesOn-clause-called
returns-in-GoesOn-clause-called g c =
    counts_called _ (g.SV.ProxyHttp.mark_of c.args.app.now) c.args.calls.now
    c.call_next.new.calls c.args.context c.call_next.new.context c.args.session.value
    c.call_next.new.client (rw c.deref_mut.ensures.value at c.in-GoesOn.ensures.turns) _
    (known_at _ _ c.in-GoesOn.ensures.shown (λ lost. cc)) (omega arith)

-- hooks answered it
pub returns-in-Answered-clause-run : goal.returns-in-Answered-clause-run
returns-in-Answered-clause-run g c = λ s p w o run.
    let done = answered _ (g.SV.ProxyHttp.mark_of c.args.app.now) c.args.calls.now
    c.call_next.new.calls c.args.context c.call_next.new.context c.args.session.value
    c.call_next.new.client (rw c.deref_mut.ensures.value at c.in-Answered.ensures.turns)
    (sym c.in-Answered.ensures.shown) s p w c.args.tries o run.holds in
    let none = none_tried (opened_to s (log_of c.args.calls.now)) c.args.tries run.holds.are_tries
    (o.untried done.before) in
    subst (λ (l : List LogEntry). Advances g.L.ByteLink.state g.L.ByteLink.start (opened_to s l) w
    c.owe.result.phase)
    (sym (owing_log _ _ _ _ _ c.owe.ensures.calls
    ∙ ap (λ (k : Calls _ _ _). log_of k) c.begin_end.ensures))
    (hooks_leave g.L.ByteLink.state g.L.ByteLink.start (log_of c.args.calls.now)
    (log_of c.call_next.new.calls) [] s p w c.args.context c.args.session _ c.args.tries _ done.text
    c.owe.result.phase done.is_open (λ some. (c.owe.ensures.some some).0)
    (λ none. (c.owe.ensures.none none).0) done.owed
    (untreated _ (g.SV.ProxyHttp.mark_of c.args.app.now) c.args.calls.now c.call_next.new.calls
    c.args.context c.call_next.new.context c.args.session.value c.call_next.new.client
    (rw c.deref_mut.ensures.value at c.in-Answered.ensures.turns) o.untreated)
    none (done.tells none.1, run.calm) run)

pub returns-in-Answered-clause-calls : goal.returns-in-Answered-clause-calls
returns-in-Answered-clause-calls g c = λ o.
    owing_on _ (g.SV.ProxyHttp.mark_of c.args.app.now) c.begin_end.new.self c.owe.new.calls _ _
    c.owe.result.phase c.owe.ensures.calls
    (subst (λ (k : Calls _ _ _). IsOwing
    (allowed_by (g.SV.ProxyHttp.allows c.args.app.now) g.SV.Modules.HttpModule.allows)
    (g.SV.ProxyHttp.mark_of c.args.app.now) k c.call_next.new.client (owing.Ahead None))
    (sym c.begin_end.ensures) (answered_owing _ (g.SV.ProxyHttp.mark_of c.args.app.now)
    c.args.calls.now c.call_next.new.calls c.args.context c.call_next.new.context
    c.args.session.value c.call_next.new.client
    (rw c.deref_mut.ensures.value at c.in-Answered.ensures.turns)
    (sym c.in-Answered.ensures.shown) c.args.tries o))

pub returns-in-Answered-clause-called : goal.returns-in-Answered-clause-called
returns-in-Answered-clause-called g c =
    counted_still c.args.calls.now c.call_next.new.calls c.owe.new.calls c.owe.result.work
    (owing_log _ _ _ _ _ c.owe.ensures.calls
    ∙ ap (λ (k : Calls _ _ _). log_of k) c.begin_end.ensures)
    (counts_called _ (g.SV.ProxyHttp.mark_of c.args.app.now) c.args.calls.now
    c.call_next.new.calls c.args.context c.call_next.new.context c.args.session.value
    c.call_next.new.client (rw c.deref_mut.ensures.value at c.in-Answered.ensures.turns)
    c.owe.result.work (known_at _ _ c.in-Answered.ensures.shown (λ lost. cc))
    (rw c.owe.ensures.work (omega arith)))

-- or memory was wanted
pub returns-in-OutOfMemory-clause-run : goal.returns-in-OutOfMemory-clause-run
returns-in-OutOfMemory-clause-run g c = λ s p w o run.
    rw c.lacks_memory.ensures.phase
    (hooks_lost g.L.ByteLink.state g.L.ByteLink.start (log_of c.args.calls.now)
    (log_of c.call_next.new.calls) s p w c.args.context c.args.session c.args.tries
    (called_tries s (log_of c.args.calls.now) (log_of c.call_next.new.calls) c.args.tries
    (refusals _ (g.SV.ProxyHttp.mark_of c.args.app.now) c.args.calls.now c.call_next.new.calls
    c.args.context c.call_next.new.context c.args.session.value c.call_next.new.client
    (rw c.deref_mut.ensures.value at c.in-OutOfMemory.ensures.turns)) run.holds.are_tries) run)

pub returns-in-OutOfMemory-clause-calls : goal.returns-in-OutOfMemory-clause-calls
returns-in-OutOfMemory-clause-calls g c = λ o.
    rw c.lacks_memory.ensures.phase
    (memory_logged _ (g.SV.ProxyHttp.mark_of c.args.app.now) c.args.calls.now
    c.call_next.new.calls c.args.context c.call_next.new.context c.args.session.value
    c.call_next.new.client (rw c.deref_mut.ensures.value at c.in-OutOfMemory.ensures.turns)
    c.args.tries o)

pub returns-in-OutOfMemory-clause-called : goal.returns-in-OutOfMemory-clause-called
returns-in-OutOfMemory-clause-called g c =
    memory_called _ (g.SV.ProxyHttp.mark_of c.args.app.now) c.args.calls.now
    c.call_next.new.calls c.args.context c.call_next.new.context c.args.session.value
    c.call_next.new.client (rw c.deref_mut.ensures.value at c.in-OutOfMemory.ensures.turns)
    c.lacks_memory.result.work (rw c.lacks_memory.ensures.work refl)

pub returns-in-GoesOn-clause-unended : goal.returns-in-GoesOn-clause-unended
returns-in-GoesOn-clause-unended g c = λ none.
    unended _ (g.SV.ProxyHttp.mark_of c.args.app.now) c.args.calls.now c.call_next.new.calls
    c.args.context c.call_next.new.context c.args.session.value c.call_next.new.client
    (rw c.deref_mut.ensures.value at c.in-GoesOn.ensures.turns) none

pub returns-in-Answered-clause-unended : goal.returns-in-Answered-clause-unended
returns-in-Answered-clause-unended g c = λ none.
    subst (λ (l : List LogEntry). IsUnended l)
    (sym (owing_log _ _ _ _ _ c.owe.ensures.calls
    ∙ ap (λ (k : Calls _ _ _). log_of k) c.begin_end.ensures))
    (unended _ (g.SV.ProxyHttp.mark_of c.args.app.now) c.args.calls.now c.call_next.new.calls
    c.args.context c.call_next.new.context c.args.session.value c.call_next.new.client
    (rw c.deref_mut.ensures.value at c.in-Answered.ensures.turns) none)

pub returns-in-OutOfMemory-clause-unended : goal.returns-in-OutOfMemory-clause-unended
returns-in-OutOfMemory-clause-unended g c = λ none.
    unended _ (g.SV.ProxyHttp.mark_of c.args.app.now) c.args.calls.now c.call_next.new.calls
    c.args.context c.call_next.new.context c.args.session.value c.call_next.new.client
    (rw c.deref_mut.ensures.value at c.in-OutOfMemory.ensures.turns) none

-- a request that hooks answered does not go on to another of them
pub returns-in-Answered-clause-made : goal.returns-in-Answered-clause-made
returns-in-Answered-clause-made g c =
    closing_unmade c.args.makes_modules c.args.calls.now.session.modules
    c.owe.new.calls.session.modules c.args.calls.now.at c.owe.new.calls.at
    (c.owe.ensures.stays (ap (λ (k : Calls _ _ _). is_closing_at k.at) c.begin_end.ensures))
