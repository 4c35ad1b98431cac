-- A peer is asked for, the hook before the attempts that comes next is called, or one of an attempt
-- that was given no link.
use Rattle.std.proofs.Common.{◌≡◌, List, None, refl, ap, arith, is_some, sym, true, false, Ok, Err, ◌∙◌}
use Rattle.relay_tasks.specs.declared.error.Fail.TheVariants as fail
use Rattle.relay_tasks.specs.declared.hook.Hook.TheVariants as hook
use Rattle.relay_tasks.specs.declared.log.Item.TheVariants as item
use Rattle.relay_tasks.specs.declared.log.LogEntry.{LogEntry}
use Rattle.relay_modules.specs.Module.{AllowsMade, ModuleCall}
use Rattle.relay_hooks.specs.Call.{only}
use Rattle.relay_hooks.specs.Session.{request_head}
use Rattle.relay_opening.specs.Place.{next_hook}
use Rattle.relay_opening.specs.declared.place.Place.TheVariants as place
use Rattle.relay_opening.proofs.WiderLemmas.{IsAllowed-wider, TurnsOn-wider}
use Rattle.relay_phases.specs.Order.{Station as station}
use Rattle.relay_trying.specs.Trying.{warned_at}
use Rattle.relay_trying.proofs.WithinLemmas.{LooksOnce-within, NamesPeer-within}
use Rattle.relay_request.specs.Calls.{TakesNext}
use Rattle.relay_request.specs.Named.{peer_in}
use Rattle.relay_request.proofs.BesideLemmas.{asks_beside}
use Rattle.relay_request.proofs.CallLemmas.{turn_allowed}
use Rattle.relay_request.proofs.MadeLemmas.{turn_made}
use Rattle.relay_request.proofs.NamedLemmas.{names_one, peer_last}
use Rattle.relay_request.proofs.calls.take_next.Goals as goal

-- the hook that comes next
pub returns-in-Opening-Behind-clause-turns : goal.returns-in-Opening-Behind-clause-turns
returns-in-Opening-Behind-clause-turns g c =
    let app = g.SV.ProxyHttp.allows c.args.app.now in
    let allows = g.SV.Modules.HttpModule.allows in
    rw (c.in-Opening-Behind.is, c.in-Opening-Behind.field-0-is)
    (TakesNext.leads refl (next_hook c.in-Opening-Behind.last (is_some c.args.session.now.modules))
    refl
    c.take_turn.result refl
    (TurnsOn-wider _ _
    (λ st e allowed. IsAllowed-wider app app _
    (λ (call : ModuleCall). (made : g.row.SV-Modules.Denot) × allows made call)
    (λ st e own. own) (λ call told. turn_allowed {K = g.row.SV-Kept.Denot} allows
    (place.Behind c.in-Opening-Behind.last) c.args.session.now.modules call told) st e allowed)
    _ (place.Behind c.in-Opening-Behind.last) _ _ _ _ _ c.take_turn.ensures.turns))

-- what a purge does was asked
pub returns-in-Ok-clause-turns : goal.returns-in-Ok-clause-turns
returns-in-Ok-clause-turns g c =
    let here = c.in-Opening-Ended-Purge in
    let asks = asks_beside (g.SV.ProxyHttp.allows c.args.app.now)
    (AllowsMade g.SV.Modules.HttpModule.allows None)
    (λ (call : ModuleCall). (made : g.row.SV-Modules.Denot)
    × g.SV.Modules.HttpModule.allows made call) c.in-Ok.action _ _ _ (c.in-Ok.ensures.asks None) in
    TakesNext.asks (record {
      is_here = rw (here.is, here.field-0-is, here.field-0-0-is) refl;
      action = c.in-Ok.action;
      is_to = refl;
      turn = asks.turn;
      tells = record {
        before = c.args.session.now.seen.log;
        last = asks.turn.e;
        is_last = asks.turn.calls.log;
        asks = asks.turn.hook;
        input = asks.input ∙ ap (λ h. item.Request h) (sym (ap request_head asks.stays));
        output = asks.output;
      };
    })

-- a peer was named
pub returns-in-Ok-name_peer-clause-turns : goal.returns-in-Ok-name_peer-clause-turns
returns-in-Ok-name_peer-clause-turns g c =
    let here = c.in-Opening-Ended-Attempts in
    let names = NamesPeer-within (g.SV.ProxyHttp.allows c.args.app.now)
    (λ (call : ModuleCall). (made : g.row.SV-Modules.Denot)
    × g.SV.Modules.HttpModule.allows made call) _ _ _ _ (Ok c.in-Ok-name_peer.peer)
    c.in-Ok-name_peer.ensures.names in
    rw (here.is, here.field-0-is, here.field-0-0-is)
    (TakesNext.tried (record {
      later = refl;
      which = hook.UpstreamPeer;
      comes = refl;
      turn = names.turn;
      told = tt;
      past = refl;
      goes = tt;
      tells = ap (λ (l : List LogEntry). peer_in l) names.turn.calls.log
          ∙ peer_last c.args.session.now.seen.log names.turn.e c.in-Ok-name_peer.peer
          (names_one names.turn.e c.in-Ok-name_peer.peer names.turn.hook names.output);
    }))

-- or it failed
pub returns-in-Err-Error-clause-turns : goal.returns-in-Err-Error-clause-turns
returns-in-Err-Error-clause-turns g c =
    let here = c.in-Opening-Ended-Attempts in
    let call = NamesPeer-within (g.SV.ProxyHttp.allows c.args.app.now)
    (λ (call : ModuleCall). (made : g.row.SV-Modules.Denot)
    × g.SV.Modules.HttpModule.allows made call) _ _ _ _ (Err (fail.Error c.in-Err-Error.error))
    (rw c.in-Err-Error.field-0-is at c.in-Err-Error.ensures.names) in
    rw (here.is, here.field-0-is, here.field-0-0-is)
    (TakesNext.tried (record {
      later = refl;
      which = hook.UpstreamPeer;
      comes = refl;
      turn = call.turn;
      told = tt;
      past = refl;
      goes = tt;
      tells = record {
        before = c.args.session.now.seen.log;
        last = call.turn.e;
        is_last = call.turn.calls.log;
        error = call.error;
      };
    }))

-- no warning is to be written
pub returns-in-Ok-true-clause-turns : goal.returns-in-Ok-true-clause-turns
returns-in-Ok-true-clause-turns g c =
    let is_yes : c.in-Ok-true.field-0 ≡ true = grind (arith, c.in-Ok-true.field-0-test) in
    let looks = LooksOnce-within (g.SV.ProxyHttp.allows c.args.app.now)
    (λ (call : ModuleCall). (made : g.row.SV-Modules.Denot)
    × g.SV.Modules.HttpModule.allows made call) hook.SuppressProxyWarnLog refl station.repeatable
    (warned_at true) (item.Failure c.in-Repeatable.error) (only (item.Answer true)) _ _ _
    (rw is_yes at c.in-Ok-true.ensures.warns) in
    rw c.in-Repeatable.is
    (TakesNext.tried (record {
      later = refl;
      which = hook.SuppressProxyWarnLog;
      comes = refl;
      turn = looks.call.turn;
      told = looks.call.input;
      past = refl;
      goes = tt;
      tells = tt;
    }))

-- or one is
pub returns-in-Ok-false-clause-turns : goal.returns-in-Ok-false-clause-turns
returns-in-Ok-false-clause-turns g c =
    let is_no : c.in-Ok-false.field-0 ≡ false = grind (arith, c.in-Ok-false.field-0-test) in
    let looks = LooksOnce-within (g.SV.ProxyHttp.allows c.args.app.now)
    (λ (call : ModuleCall). (made : g.row.SV-Modules.Denot)
    × g.SV.Modules.HttpModule.allows made call) hook.SuppressProxyWarnLog refl station.repeatable
    (warned_at false) (item.Failure c.in-Repeatable.error) (only (item.Answer false)) _ _ _
    (rw is_no at c.in-Ok-false.ensures.warns) in
    rw c.in-Repeatable.is
    (TakesNext.tried (record {
      later = refl;
      which = hook.SuppressProxyWarnLog;
      comes = refl;
      turn = looks.call.turn;
      told = looks.call.input;
      past = refl;
      goes = tt;
      tells = tt;
    }))

-- the request was asked for in one line
pub returns-in-Ok-summarize-clause-turns : goal.returns-in-Ok-summarize-clause-turns
returns-in-Ok-summarize-clause-turns g c =
    let looks = LooksOnce-within (g.SV.ProxyHttp.allows c.args.app.now)
    (λ (call : ModuleCall). (made : g.row.SV-Modules.Denot)
    × g.SV.Modules.HttpModule.allows made call) hook.RequestSummary refl station.warning
    station.trying (item.Request (request_head c.args.session.now.seen))
    (only (item.Text c.in-Ok-summarize._summary)) _ _ _ c.in-Ok-summarize.ensures.summarizes in
    rw c.in-Warning.is
    (TakesNext.tried (record {
      later = refl;
      which = hook.RequestSummary;
      comes = refl;
      turn = looks.call.turn;
      told = tt;
      past = refl;
      goes = tt;
      tells = tt;
    }))

-- the modules stand behind a turn of the hooks before the attempts
pub returns-in-Opening-Behind-clause-made : goal.returns-in-Opening-Behind-clause-made
returns-in-Opening-Behind-clause-made g c =
    rw (c.in-Opening-Behind.is, c.in-Opening-Behind.field-0-is)
    (turn_made g.row.SV-CTX.Denot c.args.makes_modules c.args.session.now.modules
    c.take_turn.new.session.modules (place.Behind c.in-Opening-Behind.last) c.take_turn.result
    c.take_turn.ensures.made)
