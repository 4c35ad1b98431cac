-- The hook that comes next is called with the session that has its client in it.
use Rattle.std.proofs.Common.{None, inl, inr, refl}
use Rattle.relay_modules.specs.Module.{AllowsMade, ModuleCall}
use Rattle.relay_calls.specs.Log.{IsAllowed}
use Rattle.relay_request.proofs.ClosingSteps.{closing_calls, last_app, last_counts, some_begin}
use Rattle.relay_request.proofs.calls.call_last.Goals as goal

-- it is called
pub returns-clause-turns : goal.returns-clause-turns
returns-clause-turns g c = record {
  held = c.into_closing-context.result.0;
  from = c.into_closing-context.result.1;
  was = rw c.replace.ensures.value at c.into_closing-context.ensures;
  left = _;
  to = c.take_turn-place.result;
  is_at = refl;
  turns = inr (λ start may. last_app (g.SV.ProxyHttp.allows c.args.app.now)
      (AllowsMade g.SV.Modules.HttpModule.allows None)
      (λ (call : ModuleCall). (made : g.row.SV-Modules.Denot)
      × g.SV.Modules.HttpModule.allows made call) start c.args.goes_back
      c.into_closing-context.result.1
      _ _ _ _ c.take_turn-place.result (c.take_turn-place.ensures.turns None start may));
}

-- one entry is new, or none out of memory
pub returns-clause-counts : goal.returns-clause-counts
returns-clause-counts g c =
    let some = some_begin c.into_closing-context.result.1 in
    last_counts (IsAllowed (g.SV.ProxyHttp.allows c.args.app.now)
    (AllowsMade g.SV.Modules.HttpModule.allows None)) c.args.goes_back some.0
    c.into_closing-context.result.1 c.args.calls.now _ _ _ c.take_turn-place.result
    c.work_behind-work.result
    (closing_calls c.args.calls.now.at c.into_closing-context.result.0
    c.into_closing-context.result.1
    c.args.goes_back (rw c.replace.ensures.value at c.into_closing-context.ensures) c.requires)
    (c.take_turn-place.ensures.turns None some.0 some.1) c.work_behind-work.ensures

-- no head was read, and none is called
pub returns-then-not-has_head-clause-turns : goal.returns-then-not-has_head-clause-turns
returns-then-not-has_head-clause-turns g c = record {
  held = c.into_closing-context.result.0;
  from = c.into_closing-context.result.1;
  was = rw c.replace.ensures.value at c.into_closing-context.ensures;
  left = c.into_closing-context.result.0;
  to = _;
  is_at = refl;
  turns = inl (refl, refl);
}
