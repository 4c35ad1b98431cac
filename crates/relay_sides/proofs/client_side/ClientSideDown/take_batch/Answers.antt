-- All tasks were queued, or those in front of a refused one.
use Rattle.std.proofs.Common.{ap, None}
use Rattle.relay_sides.proofs.ClientBatch.{queues_state, queues_told, refuses_state, queues_on, refuses_on}
use Rattle.relay_sides.proofs.ClientTold.{with_told}
use Rattle.relay_sides.proofs.LastLemmas.{all_last, front_lasts}
use Rattle.relay_sides.proofs.client_side.ClientSideDown.take_batch.Goals as goal

-- the batch was queued
pub returns-in-Ok-clause-takes : goal.returns-in-Ok-clause-takes
returns-in-Ok-clause-takes g c =
    rw (
      c.either-self.ensures,
      ap (λ x. x.told) c.queue.ensures.rest,
      ap (λ x. x.done) c.queue.ensures.rest,
      ap (λ x. x.finished) c.queue.ensures.rest,
      ap (λ x. x.broken) c.queue.ensures.rest,
    )
    (queues_state c.args.self.now.session c.queue.new.self.session c.args.tasks
    c.args.self.now.told c.args.self.now.done c.args.self.now.finished c.args.self.now.broken
    c.in-Ok.over c.in-Ok.ensures.queues)

-- what passed goes on with it
pub returns-in-Ok-clause-goes : goal.returns-in-Ok-clause-goes
returns-in-Ok-clause-goes g c =
    rw (
      c.either-self.ensures,
      ap (λ x. x.told) c.queue.ensures.rest,
      ap (λ x. x.done) c.queue.ensures.rest,
      ap (λ x. x.finished) c.queue.ensures.rest,
      ap (λ x. x.broken) c.queue.ensures.rest,
    )
    (λ client s p h.
    with_told s _ _ c.queue.new.self.session c.args.self.now.told _ c.args.self.now.finished
    c.args.self.now.broken _ p.put _ p.closing None
    (queues_on s p _ _ c.args.self.now.session c.queue.new.self.session c.args.tasks
    c.args.self.now.done c.args.self.now.finished c.args.self.now.broken c.in-Ok.over h.passed
    c.in-Ok.ensures.queues)
    (queues_told s p _ _ c.args.self.now.session c.queue.new.self.session c.args.tasks
    c.args.self.now.told c.args.self.now.done c.args.self.now.finished c.args.self.now.broken
    c.in-Ok.over h c.in-Ok.ensures.queues))

-- the batch was refused
pub returns-in-Err-clause-takes : goal.returns-in-Err-clause-takes
returns-in-Err-clause-takes g c =
    rw (
      c.failed-self.ensures,
      c.either-self-in-Err.ensures,
      c.is_over.ensures,
      ap (λ x. x.told) c.queue.ensures.rest,
      ap (λ x. x.done) c.queue.ensures.rest,
      ap (λ x. x.finished) c.queue.ensures.rest,
      ap (λ x. x.broken) c.queue.ensures.rest,
    )
    (refuses_state c.args.self.now.session c.queue.new.self.session c.args.tasks
    c.args.self.now.told c.args.self.now.done c.args.self.now.finished _ c.args.self.now.broken
    c.in-Err.why c.in-Err.ensures.queues)

-- what passed goes on up to the task that was refused
pub returns-in-Err-clause-goes : goal.returns-in-Err-clause-goes
returns-in-Err-clause-goes g c =
    rw (
      c.failed-self.ensures,
      c.either-self-in-Err.ensures,
      c.is_over.ensures,
      ap (λ x. x.told) c.queue.ensures.rest,
      ap (λ x. x.done) c.queue.ensures.rest,
      ap (λ x. x.finished) c.queue.ensures.rest,
      ap (λ x. x.broken) c.queue.ensures.rest,
    )
    (λ client s p h.
    refuses_on s p _ _ c.args.self.now.session c.queue.new.self.session c.args.tasks
    c.args.self.now.told c.args.self.now.done c.args.self.now.finished c.args.self.now.broken
    c.in-Err.why h c.in-Err.ensures.queues)

-- the head stands behind a batch that was queued, and so does a final head before it
pub returns-in-Ok-clause-lasts : goal.returns-in-Ok-clause-lasts
returns-in-Ok-clause-lasts g c =
    all_last c.args.self.now.session c.queue.new.self.session c.args.tasks
    c.args.self.now.finished c.in-Ok.over c.in-Ok.ensures.queues

-- and behind one that was refused
pub returns-in-Err-clause-lasts : goal.returns-in-Err-clause-lasts
returns-in-Err-clause-lasts g c =
    front_lasts c.args.self.now.session c.queue.new.self.session c.args.tasks
    c.args.self.now.finished c.in-Err.why c.in-Err.ensures.queues
