-- What the hook says of the request, and what the relay makes of a refusal.
use Rattle.std.proofs.Common.{◌≡◌, Bool, false, None, Ok, subst, arith}
use Rattle.relay_tasks.specs.declared.hook.Hook.TheVariants as hook
use Rattle.relay_tasks.specs.declared.log.Item.TheVariants as item
use Rattle.relay_hooks.specs.Call.{only}
use Rattle.relay_hooks.specs.Laws.{AnswersOnNo}
use Rattle.relay_hooks.specs.Session.{request_head}
use Rattle.relay_calls.specs.Calls.{CallsOf}
use Rattle.relay_opening.specs.Place.{NoCalls}
use Rattle.relay_opening.proofs.TurnLemmas.{declined_turn, fails_turn}
use Rattle.relay_opening.proofs.turn.decide.Goals as goal

pub returns-in-Ok-false : goal.returns-in-Ok-false
returns-in-Ok-false g c =
    let is_no : c.in-Ok-false.field-0 ≡ false = grind (arith, c.in-Ok-false.field-0-test) in
    let app = g.SV.ProxyHttp.allows c.args.app.now in
    let old = c.args.session.now.seen in
    let before = g.SV.ProxyHttp.mark_of c.args.app.now c.args.ctx.now in
    let mid = c.call_proxy_upstream_filter.new.session.seen in
    let mark = g.SV.ProxyHttp.mark_of c.args.app.now c.call_proxy_upstream_filter.new.ctx in
    record {
      turns =
          declined_turn app NoCalls
          (item.Request (request_head old)) old before mid mark
          (subst
          (λ (b : Bool). CallsOf None false (AnswersOnNo (Ok b)) app hook.ProxyUpstreamFilter
          (item.Request (request_head old)) old before mid mark (only (item.Answer b)))
          is_no c.in-Ok-false.ensures.calls)
          g.row.SV-Kept.Denot c.requires.open_to c.refuse.result c.refuse.new.session.seen
          c.refuse.ensures;
    }

pub returns-in-Err : goal.returns-in-Err
returns-in-Err g c =
    record {
      turns =
          rw c.failed.ensures
          (fails_turn g.row.SV-Kept.Denot (g.SV.ProxyHttp.allows c.args.app.now)
          NoCalls _ _ _ _ _ c.in-Err.why
          c.in-Err.ensures.calls);
    }
