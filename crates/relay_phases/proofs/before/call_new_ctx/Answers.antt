-- The context's own mark stands before the call and behind it.
use Rattle.std.proofs.Common.{◌≡◌, ℕ, Some, None, false, refl, sym, ap, subst, ◌∙◌}
use Rattle.relay_tasks.specs.declared.hook.Hook.TheVariants.{NewCtx}
use Rattle.relay_tasks.specs.declared.log.Item.{Item}
use Rattle.relay_tasks.specs.declared.log.Item.TheVariants.{Nothing}
use Rattle.relay_modules.specs.Seen.{view_of}
use Rattle.relay_modules.specs.declared.seen.Seen.{Seen}
use Rattle.relay_hooks.specs.Call.{only}
use Rattle.relay_hooks.specs.Session.{moment}
use Rattle.relay_hooks.specs.Standing.{standing}
use Rattle.relay_calls.specs.Calls.{CallsOf}
use Rattle.relay_calls.specs.Entry.{cleared, told, with_entry}
use Rattle.relay_phases.specs.Looks.{Stays}
use Rattle.relay_phases.proofs.EnterLemmas.{entered}
use Rattle.relay_phases.proofs.before.call_new_ctx.Goals as goal

pub returns-clause-calls : goal.returns-clause-calls
returns-clause-calls g c =
    let old : Seen = c.args.session.now.seen in
    let new : Seen = c.log_call.new.seen in
    let mark : ℕ = c.mark-mark.result in
    let is_begun : c.begin-begun.result
    ≡ record { hook = NewCtx; mark = mark; input = Nothing; view = view_of old } =
    c.begin-begun.ensures.begun
    ∙ ap (λ (i : Item). record { hook = NewCtx; mark = mark; input = i; view = view_of old })
    c.nothing.ensures in
    let is_new : new ≡ with_entry (cleared old)
    (told c.begin-begun.result c.only.result (moment (cleared old) mark)) =
    subst
    (λ (s : Seen). new
    ≡ with_entry s (told c.begin-begun.result c.only.result (moment s mark)))
    c.begin-begun.ensures.seen c.in_ok-log_call.ensures.ok in
    subst
    (λ m. CallsOf None false Stays (g.SV.ProxyHttp.allows c.args.app.now) NewCtx Nothing old m new m
    (only Nothing))
    c.mark-mark.ensures
    (entered None false Stays (g.SV.ProxyHttp.allows c.args.app.now) NewCtx Nothing old
    (cleared old) new mark mark (Some (only Nothing)) c.begin-begun.result c.only.result is_begun
    (ap (λ left. Some left) (sym c.only.ensures)) refl refl
    (c.new_ctx-ctx.ensures.allowed (standing None false (moment (cleared old) mark))
    c.mark-mark.ensures)
    is_new)
