-- A batch passes its filters, which were lent the client's session, and the inner side takes it; or
-- one of them refuses it.
use Rattle.std.proofs.Common.{ap, refl, sym, ◌∙◌}
use Rattle.relay_core.specs.Down.{DownState}
use Rattle.relay_core.specs.Told.{failed}
use Rattle.relay_sides.specs.declared.client_side.ClientSide.{ClientSide}
use Rattle.relay_filters.specs.Hooked.{is_lost, seen_by}
use Rattle.relay_filters.proofs.LastLemmas.{same_names}
use Rattle.relay_filters.proofs.LentSide.{lent_batch, lent_fails, lent_holds, lent_refused, takes_head, takes_on}
use Rattle.relay_filters.proofs.QuietLemmas.{past_goes, past_refused, quiet_alone, quiet_by, quiet_failed, quiet_stops, told_again}
use Rattle.relay_filters.proofs.SideLemmas.{alone_at_once, at_once, true_is}
use Rattle.relay_filters.proofs.SegmentLemmas.{segments_batch, segments_stopped}
use Rattle.relay_filters.proofs.StateLemmas.{fails_batch, queues_batch, refuses_batch}
use Rattle.relay_filters.proofs.WalkLemmas.{lasts_batch, lasts_same, lasts_stopped, led_batch, led_none, led_stopped}
use Rattle.relay_filters.proofs.hooked.HookedDown.take_batch.Goals as goal

-- before any filter was called
pub returns-in-Some-clause-goes : goal.returns-in-Some-clause-goes
returns-in-Some-clause-goes g c = λ client s p h.
    past_refused
    (quiet_by _ _ c.failed-self.result _ _ c.failed-self.ensures refl
    (quiet_alone c.in-Some.why c.args.self.now.side.now.stopped c.args.self.now.side.now.told
    c.args.self.now.side.now.inner.told h.quiet)) h.calls
    (at_once _ _ _ _ _ _ _ _ _ _ _ _ _ _ _ _ p c.args.tasks c.in-Some.why
    (λ e stopped same.
    told_again c.in-Some.why c.args.self.now.side.now.stopped c.args.self.now.side.now.told
    c.failed-self.result c.args.self.now.side.now.inner.told e c.failed-self.ensures h.quiet
    stopped same)
    (sym c.in-Some.ensures) h.passed)

pub returns-in-Some-clause-takes : goal.returns-in-Some-clause-takes
returns-in-Some-clause-takes g c =
    rw c.failed-self.ensures
    (record {
      exact = refl;
      upgraded_stays = λ up. true_is _ up;
      by_failure = λ error is.
          alone_at_once _ _ _ c.args.tasks c.in-Some.why error (sym c.in-Some.ensures) is;
    })

-- a filter refused it
pub returns-in-Err-clause-goes : goal.returns-in-Err-clause-goes
returns-in-Err-clause-goes g c =
    rw c.stop.ensures
    (λ client s p h.
    past_refused
    (quiet_by _ _ (failed c.in-Err.why c.args.self.now.side.now.told) _ c.pass_tasks.new.inner.told
    refl (ap (λ (x : ClientSide). x.told) c.in-Err.ensures.rest)
    (quiet_stops c.in-Err.why c.args.self.now.side.now.stopped c.args.self.now.side.now.told
    c.args.self.now.side.now.inner.told h.quiet))
    (segments_stopped s.called h.passed.own c.args.self.now.session.now.seen.log h.passed.parts _ _
    (takes_on _ _ _ c.args.tasks (sym c.in-None.ensures)) h.calls
    (seen_by c.pass_tasks.new.session.seen c.pass_tasks.new.inner.session) _
    (seen_by c.args.self.now.session.now.seen c.args.self.now.side.now.inner.session) _ _ _
    c.args.tasks c.in-Err.why refl c.in-Err.ensures.filters)
    (lent_fails s _ _ c.args.self.now.side.now.inner c.pass_tasks.new.inner _ _
    c.args.self.now.session.now.seen _ s.called _ _ _ _ _ _ _ c.args.self.now.side.now.stopped p
    c.args.tasks
    c.pass_tasks.new.session.seen _ (sym c.in-None.ensures) h.passed c.in-Err.ensures.rest
    _ _ c.in-Err.why c.in-Err.ensures.filters))

pub returns-in-Err-clause-takes : goal.returns-in-Err-clause-takes
returns-in-Err-clause-takes g c =
    rw c.stop.ensures
    (fails_batch c.args.self.now.side.now.inner c.pass_tasks.new.inner _ c.args.self.now.side.now.stopped _
    c.shows-was.result _ c.args.self.now.session.now.seen.log c.pass_tasks.new.session.seen.log
    c.args.tasks c.in-Err.why (takes_on _ _ _ c.args.tasks (sym c.in-None.ensures))
    c.shows-was.ensures.body c.in-Err.ensures.requests c.in-Err.ensures.failure)

-- the inner side queued it
pub returns-in-Ok-take_batch-clause-goes : goal.returns-in-Ok-take_batch-clause-goes
returns-in-Ok-take_batch-clause-goes g c =
    rw c.still_stood-self.ensures
    (λ client s p h.
    past_goes
    (quiet_by _ _ c.args.self.now.side.now.told _ c.take_batch.new.self.told refl
    (ap (λ (x : DownState). x.told) c.in-Ok-take_batch.ensures.takes.exact
    ∙ ap (λ (x : ClientSide). x.told) c.in-Ok.ensures.rest) h.quiet)
    (segments_batch s.called h.passed.own c.args.self.now.session.now.seen.log h.passed.parts _ _
    (takes_on _ _ _ c.args.tasks (sym c.in-None.ensures)) h.calls
    (seen_by c.pass_tasks.new.session.seen c.pass_tasks.new.inner.session) _
    (seen_by c.args.self.now.session.now.seen c.args.self.now.side.now.inner.session) _ _ _
    c.args.tasks c.in-Ok.made refl c.in-Ok.ensures.filters)
    (lent_batch s _ _ c.args.self.now.side.now.inner c.pass_tasks.new.inner _ _
    c.args.self.now.session.now.seen _ s.called _ _ _ _ _ _ _ c.args.self.now.side.now.stopped p
    c.args.tasks
    c.pass_tasks.new.session.seen _ (sym c.in-None.ensures) h.passed c.in-Ok.ensures.rest
    c.take_batch.new.self _ _ c.in-Ok.made c.in-Ok-take_batch.ensures.lasts.head
    c.in-Ok.ensures.filters
    (c.in-Ok-take_batch.ensures.goes client s _
    (lent_holds s _ _ c.args.self.now.side.now.inner c.pass_tasks.new.inner _ _
    c.args.self.now.session.now.seen _ s.called _ _ _ _ _ _ _ c.args.self.now.side.now.stopped p
    c.args.tasks
    c.pass_tasks.new.session.seen _ (sym c.in-None.ensures) h.passed c.in-Ok.ensures.rest
    c.in-Ok.made c.in-Ok.ensures.filters))))

pub returns-in-Ok-take_batch-clause-takes : goal.returns-in-Ok-take_batch-clause-takes
returns-in-Ok-take_batch-clause-takes g c =
    queues_batch c.args.self.now.side.now.inner c.pass_tasks.new.inner c.take_batch.new.self _
    c.args.self.now.side.now.stopped _ _ c.args.self.now.session.now.seen.log
    c.pass_tasks.new.session.seen.log c.args.tasks c.in-Ok.made _
    (takes_on _ _ _ c.args.tasks (sym c.in-None.ensures)) c.in-Ok.ensures.rest
    (takes_head _ _ _ c.args.tasks (sym c.in-None.ensures)) c.in-Ok.ensures.filters.1.client
    c.in-Ok.ensures.requests c.in-Ok.ensures.failures c.in-Ok-take_batch.ensures.takes

-- it refused it
pub returns-in-Err-take_batch-clause-goes : goal.returns-in-Err-take_batch-clause-goes
returns-in-Err-take_batch-clause-goes g c =
    rw c.still_stood-self.ensures
    (λ client s p h.
    past_refused
    (quiet_by _ _ c.failed-self-in-Err-take_batch.result _ c.take_batch.new.self.told
    c.failed-self-in-Err-take_batch.ensures
    (ap (λ (x : DownState). x.told) c.in-Err-take_batch.ensures.takes.exact
    ∙ ap (λ (x : ClientSide). failed c.in-Err-take_batch.why x.told) c.in-Ok.ensures.rest)
    (quiet_failed c.in-Err-take_batch.why c.args.self.now.side.now.stopped c.args.self.now.side.now.told
    c.args.self.now.side.now.inner.told h.quiet))
    (segments_batch s.called h.passed.own c.args.self.now.session.now.seen.log h.passed.parts _ _
    (takes_on _ _ _ c.args.tasks (sym c.in-None.ensures)) h.calls
    (seen_by c.pass_tasks.new.session.seen c.pass_tasks.new.inner.session) _
    (seen_by c.args.self.now.session.now.seen c.args.self.now.side.now.inner.session) _ _ _
    c.args.tasks c.in-Ok.made refl c.in-Ok.ensures.filters)
    (lent_refused s _ _ c.args.self.now.side.now.inner c.pass_tasks.new.inner _ _
    c.args.self.now.session.now.seen _ s.called _ _ _ _ _ _ _ c.args.self.now.side.now.stopped p
    c.args.tasks
    c.pass_tasks.new.session.seen _ (sym c.in-None.ensures) h.passed c.in-Ok.ensures.rest
    c.take_batch.new.self _ _ c.in-Ok.made c.in-Err-take_batch.why
    c.in-Err-take_batch.ensures.lasts.head
    c.in-Ok.ensures.failures c.in-Ok.ensures.filters
    (c.in-Err-take_batch.ensures.goes client s _
    (lent_holds s _ _ c.args.self.now.side.now.inner c.pass_tasks.new.inner _ _
    c.args.self.now.session.now.seen _ s.called _ _ _ _ _ _ _ c.args.self.now.side.now.stopped p
    c.args.tasks
    c.pass_tasks.new.session.seen _ (sym c.in-None.ensures) h.passed c.in-Ok.ensures.rest
    c.in-Ok.made c.in-Ok.ensures.filters))))

pub returns-in-Err-take_batch-clause-takes : goal.returns-in-Err-take_batch-clause-takes
returns-in-Err-take_batch-clause-takes g c =
    rw c.failed-self-in-Err-take_batch.ensures
    (refuses_batch c.args.self.now.side.now.inner c.pass_tasks.new.inner c.take_batch.new.self _
    c.args.self.now.side.now.stopped _ _ c.args.self.now.session.now.seen.log
    c.pass_tasks.new.session.seen.log c.args.tasks c.in-Ok.made c.in-Err-take_batch.why
    (takes_on _ _ _ c.args.tasks (sym c.in-None.ensures)) c.in-Ok.ensures.rest
    (takes_head _ _ _ c.args.tasks (sym c.in-None.ensures)) c.in-Ok.ensures.filters.1.client
    c.in-Ok.ensures.requests c.in-Ok.ensures.alone c.in-Err-take_batch.ensures.takes)

-- ---- what lasts

pub returns-in-Some-clause-lasts : goal.returns-in-Some-clause-lasts
returns-in-Some-clause-lasts g c = (
  lasts_same _ _ _ _ (is_lost c.args.self.now.side.now.stopped) c.args.self.now.session.now.seen
      c.args.self.now.side.now.inner.session _,
  (
    same_names _ _ _,
    led_none _ _ _ refl,
  ),
)

pub returns-in-Err-clause-lasts : goal.returns-in-Err-clause-lasts
returns-in-Err-clause-lasts g c =
    rw c.stop.ensures (
      lasts_stopped _ _ _ _ c.args.self.now.side.now.stopped c.in-Err.why _ _ c.args.tasks
          c.args.self.now.session.now.seen c.args.self.now.side.now.inner.session
          c.pass_tasks.new.inner.session _ c.pass_tasks.new.session.seen _ (sym c.in-None.ensures)
          c.in-Err.ensures.filters,
      (
        same_names _ _ _,
        led_stopped _ _ _ _ _ c.in-Err.why c.args.self.now.session.now.seen
            c.args.self.now.side.now.inner.session _ c.pass_tasks.new.session.seen
            c.pass_tasks.new.inner.session _ c.in-Err.ensures.filters c.in-Err.ensures.requests,
      ),
    )

pub returns-in-Ok-take_batch-clause-lasts : goal.returns-in-Ok-take_batch-clause-lasts
returns-in-Ok-take_batch-clause-lasts g c = (
  lasts_batch _ _ _ _ c.args.self.now.side.now.stopped _ c.args.tasks c.args.self.now.session.now.seen
      c.args.self.now.side.now.inner.session c.pass_tasks.new.inner.session
      c.take_batch.new.self.session _ c.pass_tasks.new.session.seen _ c.in-Ok.ensures.filters.0
      (sym c.in-None.ensures) c.in-Ok-take_batch.ensures.lasts c.in-Ok.ensures.filters.1,
  (
    same_names _ _ _,
    led_batch _ c.args.self.now.session.now.seen c.pass_tasks.new.session.seen
        c.in-Ok.ensures.filters.0 c.in-Ok.ensures.filters.1.log c.in-Ok.ensures.requests,
  ),
)

pub returns-in-Err-take_batch-clause-lasts : goal.returns-in-Err-take_batch-clause-lasts
returns-in-Err-take_batch-clause-lasts g c = (
  lasts_batch _ _ _ _ c.args.self.now.side.now.stopped _ c.args.tasks c.args.self.now.session.now.seen
      c.args.self.now.side.now.inner.session c.pass_tasks.new.inner.session
      c.take_batch.new.self.session _ c.pass_tasks.new.session.seen _ c.in-Ok.ensures.filters.0
      (sym c.in-None.ensures) c.in-Err-take_batch.ensures.lasts c.in-Ok.ensures.filters.1,
  (
    same_names _ _ _,
    led_batch _ c.args.self.now.session.now.seen c.pass_tasks.new.session.seen
        c.in-Ok.ensures.filters.0 c.in-Ok.ensures.filters.1.log c.in-Ok.ensures.requests,
  ),
)
