-- The end was asked for, or it was refused: no filter was called.
use Rattle.std.proofs.Common.{ap, refl, sym, ◌∙◌}
use Rattle.relay_core.specs.Down.{DownState}
use Rattle.relay_filters.specs.Hooked.{is_lost}
use Rattle.relay_filters.proofs.LastLemmas.{same_names}
use Rattle.relay_filters.proofs.LentSide.{client_goes, past_of}
use Rattle.relay_filters.proofs.QuietLemmas.{past_goes, quiet_by, quiet_failed}
use Rattle.relay_filters.proofs.WalkLemmas.{lasts_same, lasts_side, led_none}
use Rattle.relay_filters.proofs.hooked.HookedDown.finish.Goals as goal

pub returns-in-Ok-clause-goes : goal.returns-in-Ok-clause-goes
returns-in-Ok-clause-goes g c = λ client s p h.
    past_goes
    (quiet_by _ _ c.args.self.now.side.now.told _ c.finish.new.self.told refl
    (ap (λ (x : DownState). x.told) c.in-Ok.ensures.ends.exact) h.quiet) h.calls
    (client_goes s _ _ _ _ c.args.self.now.side.now.inner _ _ _ _ _ _ _ _ _ _ _
    c.args.self.now.side.now.stopped p _ p.put _ p.batched _ _ h.passed
    (sym c.is_lost.ensures ∙ c.if-is_lost.false) c.in-Ok.ensures.lasts.head refl refl
    refl refl (c.in-Ok.ensures.goes client s _ (past_of _ _ _ _
    (sym c.is_lost.ensures ∙ c.if-is_lost.false) h.passed.holds)))

pub returns-in-Err-clause-goes : goal.returns-in-Err-clause-goes
returns-in-Err-clause-goes g c = λ client s p h.
    past_goes
    (quiet_by _ _ c.failed-self-in-Err.result _ c.finish.new.self.told c.failed-self-in-Err.ensures
    (ap (λ (x : DownState). x.told) c.in-Err.ensures.ends)
    (quiet_failed c.in-Err.why c.args.self.now.side.now.stopped c.args.self.now.side.now.told
    c.args.self.now.side.now.inner.told h.quiet)) h.calls
    (client_goes s _ _ _ _ c.args.self.now.side.now.inner _ _ _ _ _ _ _ _ _ _ _
    c.args.self.now.side.now.stopped p _ p.put _ p.batched _ _ h.passed
    (sym c.is_lost.ensures ∙ c.if-is_lost.false) c.in-Err.ensures.lasts.head refl refl
    refl refl (c.in-Err.ensures.goes client s _ (past_of _ _ _ _
    (sym c.is_lost.ensures ∙ c.if-is_lost.false) h.passed.holds)))

pub returns-in-Ok-clause-lasts : goal.returns-in-Ok-clause-lasts
returns-in-Ok-clause-lasts g c = (
  lasts_side _ _ _ _ (is_lost c.args.self.now.side.now.stopped) c.args.self.now.session.now.seen
      c.args.self.now.side.now.inner.session c.finish.new.self.session _ c.in-Ok.ensures.lasts,
  (
    same_names _ _ _,
    led_none _ _ _ refl,
  ),
)

pub returns-in-Err-clause-lasts : goal.returns-in-Err-clause-lasts
returns-in-Err-clause-lasts g c = (
  lasts_side _ _ _ _ (is_lost c.args.self.now.side.now.stopped) c.args.self.now.session.now.seen
      c.args.self.now.side.now.inner.session c.finish.new.self.session _ c.in-Err.ensures.lasts,
  (
    same_names _ _ _,
    led_none _ _ _ refl,
  ),
)

pub returns-then-is_lost-clause-lasts : goal.returns-then-is_lost-clause-lasts
returns-then-is_lost-clause-lasts g c = (
  lasts_same _ _ _ _ (is_lost c.args.self.now.side.now.stopped) c.args.self.now.session.now.seen
      c.args.self.now.side.now.inner.session _,
  (
    same_names _ _ _,
    led_none _ _ _ refl,
  ),
)
