-- The head names no Upgrade, and a session is made that stands behind it, for which a context is
-- made.
use Rattle.std.proofs.Common.{List, ap, refl, subst, sym, ◌∙◌}
use Rattle.relay_tasks.specs.declared.log.LogEntry.{LogEntry}
use Rattle.relay_session.specs.Response.{has_head}
use Rattle.relay_session.specs.declared.task_text.Place.{Place}
use Rattle.relay_request.specs.Calls.{IsUnended, allowed_by, log_of}
use Rattle.relay_request.specs.Passed.{World, opened_to}
use Rattle.relay_request.specs.Turn.{world_of}
use Rattle.relay_turns.proofs.AgainLemmas.{kept_whole}
use Rattle.relay_request.proofs.CallLemmas.{begun_calls, begun_on, called_logged, none_logged}
use Rattle.relay_turns.proofs.HeadSteps.{head_upgrades}
use Rattle.relay_turns.proofs.OpenSteps.{head_accepted, stands_first}
use Rattle.relay_proxy.proofs.client_head.accept_head.Goals as goal

-- a head that names Upgrade is left alone
pub returns-then-names_upgrade-clause-run : goal.returns-then-names_upgrade-clause-run
returns-then-names_upgrade-clause-run g c = λ s p faults none run has entered no_connect.
    head_upgrades g.L.ByteLink.state g.L.ByteLink.start (opened_to s (log_of c.args.calls.now)) p
    (world_of g.D.ByteLink.state c.args.client.now faults) c.args.read.head c.args.read.framing
    c.args.read.len _ _ has entered no_connect (c.if-names_upgrade.ensures.0 refl)
    c.new_down-error.ensures c.new.ensures run

-- and no hook is called for it
pub returns-then-names_upgrade-clause-calls : goal.returns-then-names_upgrade-clause-calls
returns-then-names_upgrade-clause-calls g c = λ none. none

-- nor was one called where memory was wanted for it
pub returns-in_default-clause-calls : goal.returns-in_default-clause-calls
returns-in_default-clause-calls g c = λ none.
    rw c.out_of_memory.ensures.phase (none_logged _ _ (c.in_default.ensures.log ∙ none))

-- where memory was wanted for the session one was
pub returns-in_default-new-clause-calls : goal.returns-in_default-new-clause-calls
returns-in_default-new-clause-calls g c = λ none.
    rw c.out_of_memory-in_default-new.ensures.phase
    (called_logged _ _ _ _ _ _ _ _ none refl c.in-Ok.ensures.begins)

-- a head that passed the entry check, asks for no tunnel and names no Upgrade is accepted
pub returns-clause-run : goal.returns-clause-run
returns-clause-run g c = λ s p faults none run has entered no_connect.
    let world = ap (λ k. world_of g.D.ByteLink.state k faults) c.consume.ensures in
    let made = c.begun_http1-session.ensures in
    head_accepted g.L.ByteLink.state g.L.ByteLink.start
    (allowed_by (g.SV.ProxyHttp.allows c.args.hooks.now) g.SV.Modules.HttpModule.allows)
    c.args.calls.now c.begin_calls.new.calls s p _ _ c.args.read.head c.args.read.framing
    c.args.read.len _ c.begun_http1-session.result _ _
    (g.SV.ProxyHttp.mark_of c.args.hooks.now c.in-Ok.context)
    (ap (λ (x : World). x.client) world) (ap (λ (x : World). x.ahead) world) refl
    c.new-3.ensures none c.in-Ok.ensures.once has
    (record {
      entered = entered;
      method = no_connect;
      no_upgrade = λ named. let clash = c.if-names_upgrade.ensures.1 named in cc;
    })
    (record {
      is_head = made.head;
      done = made.done;
      kept = made.kept;
      starts = made.starts;
      whole = made.whole;
      answers = made.answers;
      response = made.response;
      output = made.output;
    })
    (rw c.in-Ok-new.ensures.ok c.in-Ok.ensures.begins) run

-- its calls are the one that made its context
pub returns-clause-calls : goal.returns-clause-calls
returns-clause-calls g c = λ none.
    let made = c.begun_http1-session.ensures in
    begun_calls _ _ c.args.calls.now c.begin_calls.new.calls c.begun_http1-session.result _ _ _ none
    c.new-3.ensures c.in-Ok.ensures.at (ap (λ (p : Place). has_head p)
    (stands_first c.begun_http1-session.result.writing made.response made.output))
    (kept_whole c.begun_http1-session.result.reading made.kept) c.in-Ok.ensures.once
    (rw c.in-Ok-new.ensures.ok c.in-Ok.ensures.begins)

-- the end does not begin with the first call
pub returns-in_default-clause-unended : goal.returns-in_default-clause-unended
returns-in_default-clause-unended g c = λ none.
    subst (λ (l : List LogEntry). IsUnended l) (sym c.in_default.ensures.log) none

pub returns-in_default-new-clause-unended : goal.returns-in_default-new-clause-unended
returns-in_default-new-clause-unended g c = λ none.
    let made = c.in-Ok.ensures.begins in
    begun_on (log_of c.args.calls.now) (log_of c.begin_calls.new.calls) made.entries made.log
    made.order c.in-Ok.ensures.once none

pub returns-clause-unended : goal.returns-clause-unended
returns-clause-unended g c = λ none.
    let made = c.in-Ok.ensures.begins in
    begun_on (log_of c.args.calls.now) (log_of c.begin_calls.new.calls) made.entries made.log
    made.order c.in-Ok.ensures.once none
