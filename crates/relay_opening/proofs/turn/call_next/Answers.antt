-- Each call leads to its place.
use Rattle.std.proofs.Common.{◌≡◌, ℕ, true, false, refl, subst, is_some, arith}
use Rattle.relay_tasks.specs.declared.hook.Hook.TheVariants as hook
use Rattle.relay_tasks.specs.declared.log.Item.TheVariants as item
use Rattle.relay_calls.specs.Log.{IsAllowed}
use Rattle.relay_phases.specs.Order.{Station as station}
use Rattle.relay_opening.specs.Opens.{TurnsTo}
use Rattle.relay_opening.specs.Place.{NoCalls, TurnAllows, behind}
use Rattle.relay_opening.specs.declared.place.Called.TheVariants as called
use Rattle.relay_opening.specs.declared.place.Place.TheVariants as place
use Rattle.relay_opening.proofs.TurnLemmas.{acts_turn, answers_turn, heads_turn, spawns_turn}
use Rattle.relay_opening.proofs.turn.call_next.Goals as goal

-- the modules filter the head
pub returns-then-is_some-clause-turns : goal.returns-then-is_some-clause-turns
returns-then-is_some-clause-turns g c =
    let is : is_some c.args.session.now.modules ≡ true =
    grind (arith, c.is_some.ensures, c.if-is_some.true) in
    let allows = g.SV.Modules.HttpModule.allows in
    let app = g.SV.ProxyHttp.allows c.args.app.now in
    let old = c.args.session.now.seen in
    let new = c.call_module_request_header-answer.new.session.seen in
    let answer = c.call_module_request_header-answer.result in
    let made = c.args.session.now.modules in
    let within = TurnAllows {K = g.row.SV-Kept.Denot} allows (place.Behind called.Spawning) made in
    rw (c.behind-then-is_some.ensures, c.in-Spawning.is, is)
    (subst
    (λ (m : ℕ). TurnsTo (IsAllowed app within) {K = g.row.SV-Kept.Denot}
    hook.ModuleRequestHeader station.spawning old m new m
    (behind answer (place.Behind called.Headed)))
    c.mark.ensures
    (heads_turn g.row.SV-Kept.Denot app within allows made old c.mark.result new is (λ call h. h)
    answer c.call_module_request_header-answer.ensures.calls))

-- the first filter is called where no value was kept
pub returns-in-Made-None-clause-turns : goal.returns-in-Made-None-clause-turns
returns-in-Made-None-clause-turns g c =
    rw (c.behind-in-Made-None.ensures, c.in-Made-None.is, c.in-Made-None.field-0-is)
    (acts_turn (g.SV.ProxyHttp.allows c.args.app.now) NoCalls hook.EarlyRequestFilter refl _ _ _ _ _
    station.made called.Early item.Nothing (λ at. refl) (λ error at. refl)
    c.call_early_request_filter-answer.result
    c.call_early_request_filter-answer.ensures.calls)

-- and behind one
pub returns-in-Handed-clause-turns : goal.returns-in-Handed-clause-turns
returns-in-Handed-clause-turns g c =
    rw (c.behind-in-Handed.ensures, c.in-Handed.is)
    (acts_turn (g.SV.ProxyHttp.allows c.args.app.now) NoCalls hook.EarlyRequestFilter refl _ _ _ _ _
    station.handed called.Early item.Nothing (λ at. refl) (λ error at. refl)
    c.call_early_request_filter-answer-in-Handed.result
    c.call_early_request_filter-answer-in-Handed.ensures.calls)

-- it is asked for subrequests
pub returns-in-Early-clause-turns : goal.returns-in-Early-clause-turns
returns-in-Early-clause-turns g c =
    rw (c.behind_say.ensures, c.in-Early.is)
    (spawns_turn (g.SV.ProxyHttp.allows c.args.app.now) NoCalls _ _ _ _ g.row.SV-Kept.Denot
    c.ask_and_make-answer.result c.ask_and_make-answer.ensures.calls)

-- the request is filtered where no modules were made
pub returns-else-is_some-clause-turns : goal.returns-else-is_some-clause-turns
returns-else-is_some-clause-turns g c =
    let is : is_some c.args.session.now.modules ≡ false =
    grind (arith, c.is_some.ensures, c.if-is_some.false) in
    rw (c.behind_say-in-Spawning.ensures, c.in-Spawning.is, is)
    (answers_turn (g.SV.ProxyHttp.allows c.args.app.now)
    (TurnAllows {K = g.row.SV-Kept.Denot} g.SV.Modules.HttpModule.allows
    (place.Behind called.Spawning) c.args.session.now.modules) hook.RequestFilter refl _ _ _ _ _
    station.spawning called.Filtered (λ at. refl) (λ at. refl) (λ error at. refl)
    c.requires.open_to c.call_request_filter-answer.result
    c.call_request_filter-answer.ensures.calls)

-- and behind the modules
pub returns-in-Headed-clause-turns : goal.returns-in-Headed-clause-turns
returns-in-Headed-clause-turns g c =
    rw (c.behind_say-in-Headed.ensures, c.in-Headed.is)
    (answers_turn (g.SV.ProxyHttp.allows c.args.app.now) NoCalls hook.RequestFilter refl _ _ _ _ _
    station.headed called.Filtered (λ at. refl) (λ at. refl) (λ error at. refl)
    c.requires.open_to c.call_request_filter-answer-in-Headed.result
    c.call_request_filter-answer-in-Headed.ensures.calls)

-- the application decides where it goes
pub returns-in-Sending-clause-turns : goal.returns-in-Sending-clause-turns
returns-in-Sending-clause-turns g c =
    rw c.in-Sending.is c.decide.ensures.turns
