-- One write of the inner side: no filter was called.
use Rattle.std.proofs.Common.{refl, sym, ◌∙◌}
use Rattle.relay_filters.specs.Hooked.{is_lost}
use Rattle.relay_filters.proofs.LastLemmas.{same_names}
use Rattle.relay_filters.proofs.LentSide.{client_goes, past_of}
use Rattle.relay_filters.proofs.QuietLemmas.{past_goes, quiet_by, quiet_written, told_written}
use Rattle.relay_filters.proofs.WalkLemmas.{lasts_same, lasts_side, led_none}
use Rattle.relay_filters.proofs.hooked.HookedDown.write_pending.Goals as goal

pub returns-clause-goes : goal.returns-clause-goes
returns-clause-goes g c = λ s p h.
    past_goes
    (quiet_by _ _ c.written-self.result _ _ c.written-self.ensures
    (told_written _ _ c.write_pending-put.result c.write_pending-put.ensures.writes)
    (quiet_written c.write_pending-put.result c.args.self.now.side.now.stopped
    c.args.self.now.side.now.told c.args.self.now.side.now.inner.told h.quiet)) h.calls
    (client_goes s _ _ _ _ c.args.self.now.side.now.inner _ _ _ _ _ _ _ _ _ _ _
    c.args.self.now.side.now.stopped p _ p.put _ p.batched _ _ h.passed
    (sym c.is_lost.ensures ∙ c.if-is_lost.false)
    c.write_pending-put.ensures.lasts.head refl refl refl refl
    (c.write_pending-put.ensures.goes s _ (past_of _ _ _ _
    (sym c.is_lost.ensures ∙ c.if-is_lost.false) h.passed.holds)))

pub returns-clause-lasts : goal.returns-clause-lasts
returns-clause-lasts g c = (
  lasts_side _ _ _ _ (is_lost c.args.self.now.side.now.stopped) c.args.self.now.session.now.seen
      c.args.self.now.side.now.inner.session c.write_pending-put.new.self.session _
      c.write_pending-put.ensures.lasts,
  (
    same_names _ _ _,
    led_none _ _ _ refl,
  ),
)

pub returns-then-is_lost-clause-lasts : goal.returns-then-is_lost-clause-lasts
returns-then-is_lost-clause-lasts g c = (
  lasts_same _ _ _ _ (is_lost c.args.self.now.side.now.stopped) c.args.self.now.session.now.seen
      c.args.self.now.side.now.inner.session _,
  (
    same_names _ _ _,
    led_none _ _ _ refl,
  ),
)
