-- Each call leads to its place.
use Rattle.std.proofs.Common.{◌≡◌, Bool, true, false, Option, refl, subst, arith}
use Rattle.relay_tasks.specs.declared.error.Error.{Error}
use Rattle.relay_tasks.specs.declared.hook.Hook.TheVariants as hook
use Rattle.relay_tasks.specs.declared.log.Item.TheVariants as item
use Rattle.relay_modules.specs.Module.{AllowsMade}
use Rattle.relay_hooks.specs.Call.{failure, only}
use Rattle.relay_calls.specs.Calls.{Calls}
use Rattle.relay_phases.specs.Looks.{Looks}
use Rattle.relay_closing.specs.Place.{begins_at}
use Rattle.relay_closing.specs.declared.place.Stage.{Stage}
use Rattle.relay_closing.proofs.TurnLemmas.{fails_turn, hides_turn, keeps_turn, logs_turn, reports_turn, shows_turn}
use Rattle.relay_closing.proofs.turn.call_next.Goals as goal

-- the client was answered for the error
pub returns-in-Ok : goal.returns-in-Ok
returns-in-Ok g c =
    record {
      turns = λ made start begins.
          rw c.in-Failing.is
          (fails_turn (g.SV.ProxyHttp.allows c.args.app.now)
          (AllowsMade g.SV.Modules.HttpModule.allows made) start c.args.session.now.seen
          (g.SV.ProxyHttp.mark_of c.args.app.now c.args.ctx.now)
          c.call_fail_to_proxy.new.session.seen
          (g.SV.ProxyHttp.mark_of c.args.app.now c.call_fail_to_proxy.new.ctx)
          g.row.SV-Kept.Denot c.in-Failing.error
          (subst (λ (s : Stage). begins_at start s ≡ true) c.in-Failing.is begins) c.in-Ok.answer
          c.in-Ok.ensures.calls);
    }

-- the error is not to be written
pub returns-in-Ok-true : goal.returns-in-Ok-true
returns-in-Ok-true g c =
    let app = g.SV.ProxyHttp.allows c.args.app.now in
    let old = c.args.session.now.seen in
    let mark = g.SV.ProxyHttp.mark_of c.args.app.now c.args.ctx.now in
    let new = c.call_suppress_error_log.new.session.seen in
    let is_yes : c.in-Ok-true.field-0 ≡ true = grind (arith, c.in-Ok-true.field-0-test) in
    record {
      turns = λ made start begins.
          rw c.in-Told.is
          (hides_turn app (AllowsMade g.SV.Modules.HttpModule.allows made) start old mark new
          g.row.SV-Kept.Denot c.in-Told.failure
          (subst
          (λ (b : Bool). Looks app hook.SuppressErrorLog (item.Failure c.in-Told.failure.error)
          mark old new (only (item.Answer b)))
          is_yes c.in-Ok-true.ensures.calls));
    }

-- it is
pub returns-in-Ok-false : goal.returns-in-Ok-false
returns-in-Ok-false g c =
    let app = g.SV.ProxyHttp.allows c.args.app.now in
    let old = c.args.session.now.seen in
    let mark = g.SV.ProxyHttp.mark_of c.args.app.now c.args.ctx.now in
    let new = c.call_suppress_error_log.new.session.seen in
    let is_no : c.in-Ok-false.field-0 ≡ false = grind (arith, c.in-Ok-false.field-0-test) in
    record {
      turns = λ made start begins.
          rw c.in-Told.is
          (shows_turn app (AllowsMade g.SV.Modules.HttpModule.allows made) start old mark new
          g.row.SV-Kept.Denot c.in-Told.failure
          (subst
          (λ (b : Bool). Looks app hook.SuppressErrorLog (item.Failure c.in-Told.failure.error)
          mark old new (only (item.Answer b)))
          is_no c.in-Ok-false.ensures.calls));
    }

-- the request was asked for in one line
pub returns-in-Ok-call_request_summary : goal.returns-in-Ok-call_request_summary
returns-in-Ok-call_request_summary g c =
    record {
      turns = λ made start begins.
          rw c.in-Reporting.is
          (reports_turn (g.SV.ProxyHttp.allows c.args.app.now)
          (AllowsMade g.SV.Modules.HttpModule.allows made) start c.args.session.now.seen
          (g.SV.ProxyHttp.mark_of c.args.app.now c.args.ctx.now)
          c.call_request_summary.new.session.seen g.row.SV-Kept.Denot c.in-Reporting.failure
          c.in-Ok-call_request_summary.summary c.in-Ok-call_request_summary.ensures.calls);
    }

-- the end was told, with its error or none
pub returns-in-Ok-call_logging : goal.returns-in-Ok-call_logging
returns-in-Ok-call_logging g c =
    let app = g.SV.ProxyHttp.allows c.args.app.now in
    let old = c.args.session.now.seen in
    let before = g.SV.ProxyHttp.mark_of c.args.app.now c.args.ctx.now in
    let new = c.call_logging.new.session.seen in
    let mark = g.SV.ProxyHttp.mark_of c.args.app.now c.call_logging.new.ctx in
    record {
      turns = λ made start begins.
          rw (c.in-Ending.is, c.logged.ensures)
          (logs_turn app (AllowsMade g.SV.Modules.HttpModule.allows made) start old before new mark
          g.row.SV-Kept.Denot c.in-Ending.cause
          (subst (λ (s : Stage). begins_at start s ≡ true) c.in-Ending.is begins)
          new.keepalive refl
          (subst
          (λ (e : Option Error). Calls app hook.Logging (failure e) old before new mark
          (only item.Nothing))
          c.error.ensures c.in-Ok-call_logging.ensures.calls));
    }

-- it was asked what is kept
pub returns-in-Ok-call_persist_connection_context :
    goal.returns-in-Ok-call_persist_connection_context
returns-in-Ok-call_persist_connection_context g c =
    let back : c.args.goes_back ≡ true = grind (arith, c.if-not-goes_back.false) in
    record {
      turns = λ made start begins.
          rw (c.in-Logged.is, back)
          (keeps_turn (g.SV.ProxyHttp.allows c.args.app.now)
          (AllowsMade g.SV.Modules.HttpModule.allows made) start c.args.session.now.seen
          (g.SV.ProxyHttp.mark_of c.args.app.now c.args.ctx.now)
          c.call_persist_connection_context.new.session.seen c.in-Logged.cause
          c.in-Ok-call_persist_connection_context.kept
          c.in-Ok-call_persist_connection_context.ensures.calls);
    }
