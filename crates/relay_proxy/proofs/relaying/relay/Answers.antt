-- Each answer of the exchange's turn is a turn of the request.
use Rattle.std.proofs.Common.{◌≡◌, refl, sym, ap, subst, ◌∙◌, inl, inr}
use Rattle.relay_tasks.specs.declared.took.Pause.TheVariants.{NotReady, Silent}
use Rattle.relay_core.specs.declared.step.Step.TheVariants as step
use Rattle.relay_request.specs.Bound.{TurnedCounts}
use Rattle.relay_request.specs.Calls.{allowed_by, log_of}
use Rattle.relay_request.specs.Passed.{called_to}
use Rattle.relay_request.specs.Turn.{world_of}
use Rattle.relay_turns.proofs.AnswerSteps.{moved_or_ended}
use Rattle.relay_turns.proofs.BoundLemmas.{relay_moved, relay_waited, relay_finished, relay_failed}
use Rattle.relay_turns.proofs.RelaySteps.{bounds_on, failed_calls, finished_calls, moved_calls, waited_calls, grows_by, unpurged_by, moved_within, waited_within, finished_within, failed_within, moved_work, moved_cause, failed_cause, waited_cause, silent_cause, moved_uses_within, waited_uses_within, silent_uses_within, finished_uses_within, failed_uses_within, moved_counts_within, waited_counts_within, silent_counts_within, finished_counts_within, failed_counts_within}
use Rattle.relay_proxy.proofs.relaying.relay.Goals as goal

-- the exchange moved
pub returns-in-Moved-clause-run : goal.returns-in-Moved-clause-run
returns-in-Moved-clause-run g c = λ s p faults began so_far run.
    moved_within g.L.ByteLink.state g.L.ByteLink.start
    (allowed_by (g.SV.ProxyHttp.allows c.args.hooks.now) g.SV.Modules.HttpModule.allows)
    (g.SV.ProxyHttp.mark_of c.args.hooks.now)
    (world_of g.D.ByteLink.state c.args.client.now faults)
    (world_of g.D.ByteLink.state c.turn_within-asked.new.client faults) c.args.calls.now c.turn_within-asked.new.calls _ _ _ _
    c.turn_within-asked.ensures.turns c.turn_within-asked.ensures.enters
    c.in-Moved.is refl s p so_far run

-- the exchange waits for a link
pub returns-in-Waited-NotReady-clause-run : goal.returns-in-Waited-NotReady-clause-run
returns-in-Waited-NotReady-clause-run g c = λ s p faults began so_far run.
    waited_within g.L.ByteLink.state g.L.ByteLink.start
    (allowed_by (g.SV.ProxyHttp.allows c.args.hooks.now) g.SV.Modules.HttpModule.allows)
    (g.SV.ProxyHttp.mark_of c.args.hooks.now)
    (world_of g.D.ByteLink.state c.args.client.now faults)
    (world_of g.D.ByteLink.state c.turn_within-asked.new.client faults) c.args.calls.now c.turn_within-asked.new.calls _ _ _ _
    c.turn_within-asked.ensures.turns c.turn_within-asked.ensures.enters
    _ c.in-Waited-NotReady.is refl s p so_far run

-- the exchange met silence
pub returns-in-Waited-Silent-clause-run : goal.returns-in-Waited-Silent-clause-run
returns-in-Waited-Silent-clause-run g c = λ s p faults began so_far run.
    waited_within g.L.ByteLink.state g.L.ByteLink.start
    (allowed_by (g.SV.ProxyHttp.allows c.args.hooks.now) g.SV.Modules.HttpModule.allows)
    (g.SV.ProxyHttp.mark_of c.args.hooks.now)
    (world_of g.D.ByteLink.state c.args.client.now faults)
    (world_of g.D.ByteLink.state c.turn_within-asked.new.client faults) c.args.calls.now c.turn_within-asked.new.calls _ _ _ _
    c.turn_within-asked.ensures.turns c.turn_within-asked.ensures.enters
    _ c.in-Waited-Silent.is refl s p so_far run

-- the exchange finished
pub returns-in-Finished-clause-run : goal.returns-in-Finished-clause-run
returns-in-Finished-clause-run g c = λ s p faults began so_far run.
    rw c.close_finished.ensures.log
    (finished_within g.L.ByteLink.state g.L.ByteLink.start
    (allowed_by (g.SV.ProxyHttp.allows c.args.hooks.now) g.SV.Modules.HttpModule.allows)
    (g.SV.ProxyHttp.mark_of c.args.hooks.now)
    (world_of g.D.ByteLink.state c.args.client.now faults)
    (world_of g.D.ByteLink.state c.turn_within-asked.new.client faults) c.args.calls.now c.turn_within-asked.new.calls _ _ _ _
    c.turn_within-asked.ensures.turns c.turn_within-asked.ensures.enters
    c.args.first c.in-Finished.is refl _ c.close_finished.ensures.closes s p began so_far run)

-- the exchange failed
pub returns-in-Failed-clause-run : goal.returns-in-Failed-clause-run
returns-in-Failed-clause-run g c = λ s p faults began so_far run.
    failed_within g.L.ByteLink.state g.L.ByteLink.start
    (allowed_by (g.SV.ProxyHttp.allows c.args.hooks.now) g.SV.Modules.HttpModule.allows)
    (g.SV.ProxyHttp.mark_of c.args.hooks.now)
    (world_of g.D.ByteLink.state c.args.client.now faults)
    (world_of g.D.ByteLink.state c.turn_within-asked.new.client faults) c.args.calls.now c.turn_within-asked.new.calls _ _ _ _
    c.turn_within-asked.ensures.turns c.turn_within-asked.ensures.enters
    _ c.in-Failed.is refl _ c.leave_failed.ensures.run s p so_far run

-- the calls so far go on
pub returns-in-Moved-clause-calls : goal.returns-in-Moved-clause-calls
returns-in-Moved-clause-calls g c = λ s p faults began so_far run.
    moved_calls g.L.ByteLink.state g.L.ByteLink.start
    (allowed_by (g.SV.ProxyHttp.allows c.args.hooks.now) g.SV.Modules.HttpModule.allows)
    (g.SV.ProxyHttp.mark_of c.args.hooks.now)
    (world_of g.D.ByteLink.state c.args.client.now faults)
    (world_of g.D.ByteLink.state c.turn_within-asked.new.client faults) c.args.calls.now c.turn_within-asked.new.calls _ _ _ _
    c.turn_within-asked.ensures.turns c.turn_within-asked.ensures.enters
    c.in-Moved.is s p so_far run

-- where it waits too
pub returns-in-Waited-NotReady-clause-calls : goal.returns-in-Waited-NotReady-clause-calls
returns-in-Waited-NotReady-clause-calls g c = λ s p faults began so_far run.
    waited_calls g.L.ByteLink.state g.L.ByteLink.start
    (allowed_by (g.SV.ProxyHttp.allows c.args.hooks.now) g.SV.Modules.HttpModule.allows)
    (g.SV.ProxyHttp.mark_of c.args.hooks.now)
    (world_of g.D.ByteLink.state c.args.client.now faults)
    (world_of g.D.ByteLink.state c.turn_within-asked.new.client faults) c.args.calls.now c.turn_within-asked.new.calls _ _ _ _
    c.turn_within-asked.ensures.turns c.turn_within-asked.ensures.enters
    _ c.in-Waited-NotReady.is s p so_far run

-- and in silence
pub returns-in-Waited-Silent-clause-calls : goal.returns-in-Waited-Silent-clause-calls
returns-in-Waited-Silent-clause-calls g c = λ s p faults began so_far run.
    waited_calls g.L.ByteLink.state g.L.ByteLink.start
    (allowed_by (g.SV.ProxyHttp.allows c.args.hooks.now) g.SV.Modules.HttpModule.allows)
    (g.SV.ProxyHttp.mark_of c.args.hooks.now)
    (world_of g.D.ByteLink.state c.args.client.now faults)
    (world_of g.D.ByteLink.state c.turn_within-asked.new.client faults) c.args.calls.now c.turn_within-asked.new.calls _ _ _ _
    c.turn_within-asked.ensures.turns c.turn_within-asked.ensures.enters
    _ c.in-Waited-Silent.is s p so_far run

-- the end of the request begins behind them
pub returns-in-Finished-clause-calls : goal.returns-in-Finished-clause-calls
returns-in-Finished-clause-calls g c = λ s p faults began so_far run.
    finished_calls g.L.ByteLink.state g.L.ByteLink.start
    (allowed_by (g.SV.ProxyHttp.allows c.args.hooks.now) g.SV.Modules.HttpModule.allows)
    (g.SV.ProxyHttp.mark_of c.args.hooks.now)
    (world_of g.D.ByteLink.state c.args.client.now faults)
    (world_of g.D.ByteLink.state c.turn_within-asked.new.client faults) c.args.calls.now c.turn_within-asked.new.calls _ _ _ _
    c.turn_within-asked.ensures.turns c.turn_within-asked.ensures.enters
    c.args.first c.in-Finished.is c.close_finished.new.calls _ c.close_finished.ensures.closes
    c.close_finished.ensures.calls s p so_far run

-- or the error may be treated behind them
pub returns-in-Failed-clause-calls : goal.returns-in-Failed-clause-calls
returns-in-Failed-clause-calls g c = λ s p faults began so_far run.
    failed_calls g.L.ByteLink.state g.L.ByteLink.start
    (allowed_by (g.SV.ProxyHttp.allows c.args.hooks.now) g.SV.Modules.HttpModule.allows)
    (g.SV.ProxyHttp.mark_of c.args.hooks.now)
    (world_of g.D.ByteLink.state c.args.client.now faults)
    (world_of g.D.ByteLink.state c.turn_within-asked.new.client faults) c.args.calls.now c.turn_within-asked.new.calls _ _ _ _
    c.turn_within-asked.ensures.turns c.turn_within-asked.ensures.enters
    _ c.in-Failed.is _ c.leave_failed.ensures.calls c.leave_failed.ensures.lost s p so_far run

-- what it entered is not counted
pub returns-in-Moved-clause-called : goal.returns-in-Moved-clause-called
returns-in-Moved-clause-called g c =
    grows_by c.args.calls.now c.turn_within-asked.new.calls _ c.work_of.ensures.uncalled
    c.turn_within-asked.ensures.entries

-- and asks no purger
pub returns-in-Moved-clause-purged : goal.returns-in-Moved-clause-purged
returns-in-Moved-clause-purged g c =
    unpurged_by (log_of c.args.calls.now) (log_of c.turn_within-asked.new.calls)
    c.turn_within-asked.ensures.entries

-- what it entered is not counted
pub returns-in-Waited-NotReady-clause-called : goal.returns-in-Waited-NotReady-clause-called
returns-in-Waited-NotReady-clause-called g c =
    grows_by c.args.calls.now c.turn_within-asked.new.calls _ refl
    c.turn_within-asked.ensures.entries

-- and asks no purger
pub returns-in-Waited-NotReady-clause-purged : goal.returns-in-Waited-NotReady-clause-purged
returns-in-Waited-NotReady-clause-purged g c =
    unpurged_by (log_of c.args.calls.now) (log_of c.turn_within-asked.new.calls)
    c.turn_within-asked.ensures.entries

-- what it entered is not counted
pub returns-in-Waited-Silent-clause-called : goal.returns-in-Waited-Silent-clause-called
returns-in-Waited-Silent-clause-called g c =
    grows_by c.args.calls.now c.turn_within-asked.new.calls _ refl
    c.turn_within-asked.ensures.entries

-- and asks no purger
pub returns-in-Waited-Silent-clause-purged : goal.returns-in-Waited-Silent-clause-purged
returns-in-Waited-Silent-clause-purged g c =
    unpurged_by (log_of c.args.calls.now) (log_of c.turn_within-asked.new.calls)
    c.turn_within-asked.ensures.entries

-- what it entered is not counted
pub returns-in-Finished-clause-called : goal.returns-in-Finished-clause-called
returns-in-Finished-clause-called g c =
    grows_by c.args.calls.now c.close_finished.new.calls _ (ap (λ k. k.called) c.close_finished.ensures.work)
    (rw c.close_finished.ensures.log c.turn_within-asked.ensures.entries)

-- and asks no purger
pub returns-in-Finished-clause-purged : goal.returns-in-Finished-clause-purged
returns-in-Finished-clause-purged g c =
    rw c.close_finished.ensures.log
    (unpurged_by (log_of c.args.calls.now) (log_of c.turn_within-asked.new.calls)
    c.turn_within-asked.ensures.entries)

-- it entered calls of filters
pub returns-in-Finished-clause-enters : goal.returns-in-Finished-clause-enters
returns-in-Finished-clause-enters g c =
    rw c.close_finished.ensures.log c.turn_within-asked.ensures.entries

-- what it entered is not counted
pub returns-in-Failed-clause-called : goal.returns-in-Failed-clause-called
returns-in-Failed-clause-called g c =
    grows_by c.args.calls.now c.turn_within-asked.new.calls _ c.leave_failed.ensures.uncalled
    c.turn_within-asked.ensures.entries

-- and asks no purger
pub returns-in-Failed-clause-purged : goal.returns-in-Failed-clause-purged
returns-in-Failed-clause-purged g c =
    unpurged_by (log_of c.args.calls.now) (log_of c.turn_within-asked.new.calls)
    c.turn_within-asked.ensures.entries

-- it moved something, or hooks were called
pub returns-in-Moved-clause-cause : goal.returns-in-Moved-clause-cause
returns-in-Moved-clause-cause g c = λ faults.
    elim (moved_cause g.L.ByteLink.state g.L.ByteLink.start
    (world_of g.D.ByteLink.state c.args.client.now faults)
    (world_of g.D.ByteLink.state c.turn_within-asked.new.client faults) _ _ _ _ _ _
    c.turn_within-asked.ensures.turns
    (c.turn_within-asked.ensures.entries).0 (c.turn_within-asked.ensures.entries).1 c.in-Moved.is) [
      | inl moved ↦ inl moved
      | inr grew ↦ inr (refl, grew)
    ]

-- it waits because a link answered so
pub returns-in-Waited-NotReady-clause-cause : goal.returns-in-Waited-NotReady-clause-cause
returns-in-Waited-NotReady-clause-cause g c = λ faults.
    let here = c.in-Waited-NotReady in
    let pause : here.field-0 ≡ NotReady = rw here.is at here.field-0-is in
    inl (waited_cause g.L.ByteLink.state g.L.ByteLink.start
    (world_of g.D.ByteLink.state c.args.client.now faults)
    (world_of g.D.ByteLink.state c.turn_within-asked.new.client faults) _ _ _ _ _ _
    c.turn_within-asked.ensures.turns (here.is ∙ ap step.Waited pause))

-- in silence all that can be done asks a silent link
pub returns-in-Waited-Silent-clause-cause : goal.returns-in-Waited-Silent-clause-cause
returns-in-Waited-Silent-clause-cause g c = λ faults.
    let here = c.in-Waited-Silent in
    let pause : here.field-0 ≡ Silent = rw here.is at here.field-0-is in
    inl (silent_cause g.L.ByteLink.state g.L.ByteLink.start
    (world_of g.D.ByteLink.state c.args.client.now faults)
    (world_of g.D.ByteLink.state c.turn_within-asked.new.client faults) _ _ _ _ _ _
    c.turn_within-asked.ensures.turns (here.is ∙ ap step.Waited pause))

-- one that failed owes its client an answer where it moved
pub returns-in-Failed-clause-cause : goal.returns-in-Failed-clause-cause
returns-in-Failed-clause-cause g c = λ faults.
    inl (moved_or_ended {C = g.row.SV-CTX.Denot} g.L.ByteLink.state g.L.ByteLink.start (log_of c.args.calls.now)
    (world_of g.D.ByteLink.state c.args.client.now faults)
    (world_of g.D.ByteLink.state c.turn_within-asked.new.client faults) c.args.phase.now
    c.leave_failed.new.phase c.leave_failed.result.step c.leave_failed.ensures.step
    (λ did. failed_cause g.L.ByteLink.state g.L.ByteLink.start
    (world_of g.D.ByteLink.state c.args.client.now faults)
    (world_of g.D.ByteLink.state c.turn_within-asked.new.client faults) _ _ _ _ _ _
    c.turn_within-asked.ensures.turns c.leave_failed.new.phase (c.leave_failed.ensures.owes did)))

-- and its work is that of the branch
pub returns-in-Moved-clause-moves : goal.returns-in-Moved-clause-moves
returns-in-Moved-clause-moves g c = λ faults a is did.
    moved_work g.L.ByteLink.state g.L.ByteLink.start
    (world_of g.D.ByteLink.state c.args.client.now faults)
    (world_of g.D.ByteLink.state c.turn_within-asked.new.client faults) _ _ _ _ _ _
    c.turn_within-asked.ensures.turns _
    (c.turn_within-asked.ensures.entries).0 (c.turn_within-asked.ensures.entries).1 c.work_of.ensures.exact c.in-Moved.is a is

-- one that failed owes an answer
pub returns-in-Failed-clause-moves : goal.returns-in-Failed-clause-moves
returns-in-Failed-clause-moves g c = λ faults a is did. inr (inl (c.leave_failed.ensures.owes did))

-- its uses are those of the branch
pub returns-in-Moved-clause-uses : goal.returns-in-Moved-clause-uses
returns-in-Moved-clause-uses g c = λ s p a is under.
    rw c.work_of.ensures.exact
    (moved_uses_within g.L.ByteLink.state g.L.ByteLink.start
    (world_of g.D.ByteLink.state c.args.client.now 0)
    (world_of g.D.ByteLink.state c.turn_within-asked.new.client 0) _ _ _ _ _ _
    c.turn_within-asked.ensures.turns c.in-Moved.is s p a is under)

-- one that waits asked the link that it waits for
pub returns-in-Waited-NotReady-clause-uses : goal.returns-in-Waited-NotReady-clause-uses
returns-in-Waited-NotReady-clause-uses g c = λ s p a is under.
    let here = c.in-Waited-NotReady in
    let pause : here.field-0 ≡ NotReady = rw here.is at here.field-0-is in
    waited_uses_within g.L.ByteLink.state g.L.ByteLink.start
    (world_of g.D.ByteLink.state c.args.client.now 0)
    (world_of g.D.ByteLink.state c.turn_within-asked.new.client 0) _ _ _ _ _ _
    c.turn_within-asked.ensures.turns (here.is ∙ ap step.Waited pause)

-- one that met silence asked none
pub returns-in-Waited-Silent-clause-uses : goal.returns-in-Waited-Silent-clause-uses
returns-in-Waited-Silent-clause-uses g c = λ s p a is under.
    let here = c.in-Waited-Silent in
    let pause : here.field-0 ≡ Silent = rw here.is at here.field-0-is in
    silent_uses_within g.L.ByteLink.state g.L.ByteLink.start
    (world_of g.D.ByteLink.state c.args.client.now 0)
    (world_of g.D.ByteLink.state c.turn_within-asked.new.client 0) _ _ _ _ _ _
    c.turn_within-asked.ensures.turns (here.is ∙ ap step.Waited pause)

-- one that finished asked none
pub returns-in-Finished-clause-uses : goal.returns-in-Finished-clause-uses
returns-in-Finished-clause-uses g c = λ s p a is under.
    rw c.close_finished.ensures.work
    (finished_uses_within g.L.ByteLink.state g.L.ByteLink.start
    (world_of g.D.ByteLink.state c.args.client.now 0)
    (world_of g.D.ByteLink.state c.turn_within-asked.new.client 0) _ _ _ _ _ _
    c.turn_within-asked.ensures.turns c.args.first c.in-Finished.is _
    c.close_finished.ensures.closes)

-- one that failed asked one or none
pub returns-in-Failed-clause-uses : goal.returns-in-Failed-clause-uses
returns-in-Failed-clause-uses g c = λ s p a is under.
    rw c.leave_failed.ensures.used
    (failed_uses_within g.L.ByteLink.state g.L.ByteLink.start
    (world_of g.D.ByteLink.state c.args.client.now 0)
    (world_of g.D.ByteLink.state c.turn_within-asked.new.client 0) _ _ _ _ _ _
    c.turn_within-asked.ensures.turns _ c.in-Failed.is _ c.leave_failed.ensures.held)

-- what was counted went up by that
pub returns-in-Moved-clause-counts : goal.returns-in-Moved-clause-counts
returns-in-Moved-clause-counts g c = λ s p a n is under had.
    rw c.work_of.ensures.exact
    (moved_counts_within g.L.ByteLink.state g.L.ByteLink.start
    (world_of g.D.ByteLink.state c.args.client.now 0)
    (world_of g.D.ByteLink.state c.turn_within-asked.new.client 0) _ _ _ _ _ _
    c.turn_within-asked.ensures.turns c.in-Moved.is s p a n is under had)

-- by the use of a turn that waits
pub returns-in-Waited-NotReady-clause-counts : goal.returns-in-Waited-NotReady-clause-counts
returns-in-Waited-NotReady-clause-counts g c = λ s p a n is under had.
    let here = c.in-Waited-NotReady in
    let pause : here.field-0 ≡ NotReady = rw here.is at here.field-0-is in
    waited_counts_within g.L.ByteLink.state g.L.ByteLink.start
    (world_of g.D.ByteLink.state c.args.client.now 0)
    (world_of g.D.ByteLink.state c.turn_within-asked.new.client 0) _ _ _ _ _ _
    c.turn_within-asked.ensures.turns (here.is ∙ ap step.Waited pause) a n is had

-- by none in silence
pub returns-in-Waited-Silent-clause-counts : goal.returns-in-Waited-Silent-clause-counts
returns-in-Waited-Silent-clause-counts g c = λ s p a n is under had.
    let here = c.in-Waited-Silent in
    let pause : here.field-0 ≡ Silent = rw here.is at here.field-0-is in
    silent_counts_within g.L.ByteLink.state g.L.ByteLink.start
    (world_of g.D.ByteLink.state c.args.client.now 0)
    (world_of g.D.ByteLink.state c.turn_within-asked.new.client 0) _ _ _ _ _ _
    c.turn_within-asked.ensures.turns (here.is ∙ ap step.Waited pause) a n is had

-- by none at the end
pub returns-in-Finished-clause-counts : goal.returns-in-Finished-clause-counts
returns-in-Finished-clause-counts g c = λ s p a n is under had.
    rw c.close_finished.ensures.work
    (finished_counts_within g.L.ByteLink.state g.L.ByteLink.start
    (world_of g.D.ByteLink.state c.args.client.now 0)
    (world_of g.D.ByteLink.state c.turn_within-asked.new.client 0) _ _ _ _ _ _
    c.turn_within-asked.ensures.turns c.args.first c.in-Finished.is _
    c.close_finished.ensures.closes a n is had)

-- by one or none at a failure
pub returns-in-Failed-clause-counts : goal.returns-in-Failed-clause-counts
returns-in-Failed-clause-counts g c = λ s p a n is under had.
    rw c.leave_failed.ensures.used
    (failed_counts_within g.L.ByteLink.state g.L.ByteLink.start
    (world_of g.D.ByteLink.state c.args.client.now 0)
    (world_of g.D.ByteLink.state c.turn_within-asked.new.client 0) _ _ _ _ _ _
    c.turn_within-asked.ensures.turns _ c.in-Failed.is _ c.leave_failed.ensures.last a n is had)

-- what a turn that moved counts
pub returns-in-Moved-clause-bounds : goal.returns-in-Moved-clause-bounds
returns-in-Moved-clause-bounds g c = λ s tasks ends so_far had.
    rw c.work_of.ensures.exact
    (bounds_on g.L.ByteLink.state g.L.ByteLink.start
    (allowed_by (g.SV.ProxyHttp.allows c.args.hooks.now) g.SV.Modules.HttpModule.allows)
    (g.SV.ProxyHttp.mark_of c.args.hooks.now)
    (world_of g.D.ByteLink.state c.args.client.now 0)
    (world_of g.D.ByteLink.state c.turn_within-asked.new.client 0) c.args.calls.now c.turn_within-asked.new.calls _ _ _ _
    c.turn_within-asked.ensures.turns c.turn_within-asked.ensures.enters _ s tasks ends _ _ so_far
    (λ own. relay_moved g.L.ByteLink.state g.L.ByteLink.start s _ _
    (g.D.ByteLink.state c.args.client.now.link)
    (g.D.ByteLink.state c.turn_within-asked.new.client.link) c.args.client.now.ahead
    c.turn_within-asked.new.client.ahead _ _ _ _ c.turn_within-asked.ensures.turns tasks
    ends own c.in-Moved.is) had)

-- a turn that waits counts neither a task nor an end
pub returns-in-Waited-NotReady-clause-bounds : goal.returns-in-Waited-NotReady-clause-bounds
returns-in-Waited-NotReady-clause-bounds g c = λ s tasks ends so_far had.
    (bounds_on g.L.ByteLink.state g.L.ByteLink.start
    (allowed_by (g.SV.ProxyHttp.allows c.args.hooks.now) g.SV.Modules.HttpModule.allows)
    (g.SV.ProxyHttp.mark_of c.args.hooks.now)
    (world_of g.D.ByteLink.state c.args.client.now 0)
    (world_of g.D.ByteLink.state c.turn_within-asked.new.client 0) c.args.calls.now c.turn_within-asked.new.calls _ _ _ _
    c.turn_within-asked.ensures.turns c.turn_within-asked.ensures.enters _ s tasks ends _ _ so_far
    (λ own. relay_waited g.L.ByteLink.state g.L.ByteLink.start s _ _
    (g.D.ByteLink.state c.args.client.now.link)
    (g.D.ByteLink.state c.turn_within-asked.new.client.link) c.args.client.now.ahead
    c.turn_within-asked.new.client.ahead _ _ _ _ c.turn_within-asked.ensures.turns tasks
    ends own _ c.in-Waited-NotReady.is) had)

-- nor does one that meets silence
pub returns-in-Waited-Silent-clause-bounds : goal.returns-in-Waited-Silent-clause-bounds
returns-in-Waited-Silent-clause-bounds g c = λ s tasks ends so_far had.
    (bounds_on g.L.ByteLink.state g.L.ByteLink.start
    (allowed_by (g.SV.ProxyHttp.allows c.args.hooks.now) g.SV.Modules.HttpModule.allows)
    (g.SV.ProxyHttp.mark_of c.args.hooks.now)
    (world_of g.D.ByteLink.state c.args.client.now 0)
    (world_of g.D.ByteLink.state c.turn_within-asked.new.client 0) c.args.calls.now c.turn_within-asked.new.calls _ _ _ _
    c.turn_within-asked.ensures.turns c.turn_within-asked.ensures.enters _ s tasks ends _ _ so_far
    (λ own. relay_waited g.L.ByteLink.state g.L.ByteLink.start s _ _
    (g.D.ByteLink.state c.args.client.now.link)
    (g.D.ByteLink.state c.turn_within-asked.new.client.link) c.args.client.now.ahead
    c.turn_within-asked.new.client.ahead _ _ _ _ c.turn_within-asked.ensures.turns tasks
    ends own _ c.in-Waited-Silent.is) had)

-- one that finishes counts an end
pub returns-in-Finished-clause-bounds : goal.returns-in-Finished-clause-bounds
returns-in-Finished-clause-bounds g c = λ s tasks ends so_far had.
    rw (c.close_finished.ensures.work, c.close_finished.ensures.log)
    (bounds_on g.L.ByteLink.state g.L.ByteLink.start
    (allowed_by (g.SV.ProxyHttp.allows c.args.hooks.now) g.SV.Modules.HttpModule.allows)
    (g.SV.ProxyHttp.mark_of c.args.hooks.now)
    (world_of g.D.ByteLink.state c.args.client.now 0)
    (world_of g.D.ByteLink.state c.turn_within-asked.new.client 0) c.args.calls.now c.turn_within-asked.new.calls _ _ _ _
    c.turn_within-asked.ensures.turns c.turn_within-asked.ensures.enters _ s tasks ends _ _ so_far
    (λ own. relay_finished g.L.ByteLink.state g.L.ByteLink.start s _ _
    (g.D.ByteLink.state c.args.client.now.link)
    (g.D.ByteLink.state c.turn_within-asked.new.client.link) c.args.client.now.ahead
    c.turn_within-asked.new.client.ahead _ _ _ _ c.turn_within-asked.ensures.turns tasks
    ends own c.in-Finished.is c.close_finished.new.phase
    c.close_finished.ensures.leaves) had)

-- and so does one that fails
pub returns-in-Failed-clause-bounds : goal.returns-in-Failed-clause-bounds
returns-in-Failed-clause-bounds g c = λ s tasks ends so_far had.
    rw (c.leave_failed.ensures.unmoved, c.leave_failed.ensures.end)
    (bounds_on g.L.ByteLink.state g.L.ByteLink.start
    (allowed_by (g.SV.ProxyHttp.allows c.args.hooks.now) g.SV.Modules.HttpModule.allows)
    (g.SV.ProxyHttp.mark_of c.args.hooks.now)
    (world_of g.D.ByteLink.state c.args.client.now 0)
    (world_of g.D.ByteLink.state c.turn_within-asked.new.client 0) c.args.calls.now c.turn_within-asked.new.calls _ _ _ _
    c.turn_within-asked.ensures.turns c.turn_within-asked.ensures.enters _ s tasks ends _ _ so_far
    (λ own. relay_failed g.L.ByteLink.state g.L.ByteLink.start s _ _
    (g.D.ByteLink.state c.args.client.now.link)
    (g.D.ByteLink.state c.turn_within-asked.new.client.link) c.args.client.now.ahead
    c.turn_within-asked.new.client.ahead _ _ _ _ c.turn_within-asked.ensures.turns tasks
    ends own _ c.in-Failed.is c.leave_failed.new.phase
    c.leave_failed.ensures.leaves) had)
