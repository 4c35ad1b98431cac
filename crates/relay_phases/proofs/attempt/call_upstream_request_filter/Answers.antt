-- The head is copied before the call and behind it.
use Rattle.std.proofs.Common.{◌≡◌, ℕ, Some, None, false, ap, subst, sym, ◌∙◌}
use Rattle.std.proofs.lemmas.Result.{err_from_is_err_and}
use Rattle.relay_tasks.specs.Head.{RequestHead}
use Rattle.relay_tasks.specs.declared.hook.Hook.TheVariants.{UpstreamRequestFilter}
use Rattle.relay_tasks.specs.declared.log.Item.{Item}
use Rattle.relay_tasks.specs.declared.log.Item.TheVariants.{Request}
use Rattle.relay_modules.specs.Seen.{view_of}
use Rattle.relay_modules.specs.declared.seen.Seen.{Seen}
use Rattle.relay_hooks.specs.Call.{AskedOf, changed}
use Rattle.relay_hooks.specs.Laws.{LeavesUnless}
use Rattle.relay_hooks.specs.Session.{Leaves, moment}
use Rattle.relay_calls.specs.Calls.{Calls, Enters}
use Rattle.relay_calls.specs.Entry.{cleared, told, with_entry}
use Rattle.relay_phases.specs.Settled.{left_of}
use Rattle.relay_phases.proofs.EnterLemmas.{entered}
use Rattle.relay_phases.proofs.LogLemmas.{Leaves-log, LeavesUnless-log, leaves_told}
use Rattle.relay_phases.proofs.attempt.call_upstream_request_filter.Goals as goal

pub returns-in_err-made : goal.returns-in_err-made
returns-in_err-made g c =
    let log : c.upstream_request_filter-answer.new.session.seen.log ≡ c.args.session.now.seen.log =
    LeavesUnless-log c.upstream_request_filter-answer.result c.begin-begun.new.seen
    c.upstream_request_filter-answer.new.session.seen
    c.upstream_request_filter-answer.ensures.leaves
    ∙ ap (λ (s : Seen). s.log) c.begin-begun.ensures.seen in
    let failure =
    err_from_is_err_and c.from_residual-in_err-made.result
    c.from_residual-in_err-made.ensures.1 in
    rw (failure.1, failure.2, c.in_err-made.ensures.memory) (record { calls = log })

pub returns : goal.returns
returns g c =
    let old : Seen = c.args.session.now.seen in
    let returned : Seen = c.upstream_request_filter-answer.new.session.seen in
    let new : Seen = c.log_call.new.seen in
    let before : ℕ = g.SV.ProxyHttp.mark_of c.args.app.now c.args.ctx.now in
    let after : ℕ =
    g.SV.ProxyHttp.mark_of c.args.app.now c.upstream_request_filter-answer.new.ctx in
    let is_begun : c.begin-begun.result
    ≡ record {
      hook = UpstreamRequestFilter;
      mark = before;
      input = Request c.args.head.now;
      view = view_of old;
    } =
    c.begin-begun.ensures.begun
    ∙ (ap
    (λ (m : ℕ). record {
      hook = UpstreamRequestFilter;
      mark = m;
      input = c.in_ok-input.input.item;
      view = view_of old;
    })
    c.mark-mark.ensures
    ∙ ap
    (λ (i : Item). record {
      hook = UpstreamRequestFilter;
      mark = before;
      input = i;
      view = view_of old;
    })
    c.in_ok-input.ensures.ok) in
    let is_answer : changed (Request c.upstream_request_filter-answer.new.head)
    c.upstream_request_filter-answer.result ≡ Some (left_of c.in_ok-outcome.outcome) =
    subst
    (λ (i : Item). changed i c.upstream_request_filter-answer.result
    ≡ Some (left_of c.in_ok-outcome.outcome))
    c.in_ok-made.ensures.ok c.in_ok-outcome.ensures.ok in
    let lawful : Leaves (cleared old) returned =
    leaves_told (Request c.upstream_request_filter-answer.new.head)
    (left_of c.in_ok-outcome.outcome) c.upstream_request_filter-answer.result (cleared old)
    returned is_answer
    (subst (λ (s : Seen). LeavesUnless c.upstream_request_filter-answer.result s returned)
    c.begin-begun.ensures.seen c.upstream_request_filter-answer.ensures.leaves) in
    let allowed : AskedOf None false (g.SV.ProxyHttp.allows c.args.app.now) UpstreamRequestFilter
    (Request c.args.head.now) (moment (cleared old) before)
    (changed (Request c.upstream_request_filter-answer.new.head)
    c.upstream_request_filter-answer.result) (moment returned after) =
    subst
    (λ (s : Seen). AskedOf None false (g.SV.ProxyHttp.allows c.args.app.now)
    UpstreamRequestFilter (Request c.args.head.now) (moment s before)
    (changed (Request c.upstream_request_filter-answer.new.head)
    c.upstream_request_filter-answer.result) (moment returned after))
    c.begin-begun.ensures.seen
    (subst
    (λ (h : RequestHead). AskedOf None false (g.SV.ProxyHttp.allows c.args.app.now)
    UpstreamRequestFilter (Request h) (moment c.begin-begun.new.seen before)
    (changed (Request c.upstream_request_filter-answer.new.head)
    c.upstream_request_filter-answer.result) (moment returned after))
    c.request_item.ensures.same c.upstream_request_filter-answer.ensures.allowed) in
    let is_new : new ≡ with_entry returned
    (told c.begin-begun.result c.in_ok-outcome.outcome (moment returned after)) =
    subst
    (λ (m : ℕ). new ≡ with_entry returned
    (told c.begin-begun.result c.in_ok-outcome.outcome (moment returned m)))
    c.mark.ensures c.in_ok-log_call.ensures.ok in
    record {
      calls =
          subst
          (λ (h : RequestHead). Enters (changed (Request h) c.upstream_request_filter-answer.result)
          (Calls (g.SV.ProxyHttp.allows c.args.app.now) UpstreamRequestFilter
          (Request c.args.head.now) old before new after) old new)
          (sym c.request_item-2.ensures.same)
          (entered None false Leaves (g.SV.ProxyHttp.allows c.args.app.now) UpstreamRequestFilter
          (Request c.args.head.now) old returned new before after
          (changed (Request c.upstream_request_filter-answer.new.head)
          c.upstream_request_filter-answer.result)
          c.begin-begun.result c.in_ok-outcome.outcome is_begun is_answer lawful
          (Leaves-log (cleared old) returned lawful) allowed is_new);
    }
