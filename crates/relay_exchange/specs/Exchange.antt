-- An exchange so far over any two sides, and what a turn makes of it.
use Rattle.std.specs.Prelude.{◌≡◌, Bool, true, false, ◌⊎◌, List, [], Option, Some, None, option_to_list}
use Rattle.std.specs.List.{list_any}
use Rattle.relay_tasks.specs.declared.error.Error.{Error}
use Rattle.relay_tasks.specs.declared.error.Fail.TheVariants as fail
use Rattle.relay_tasks.specs.declared.task.HttpTask.{HttpTask}
use Rattle.relay_tasks.specs.Task.{is_end}
use Rattle.relay_links.specs.Count.{up}
use Rattle.relay_links.specs.Link.{LinkState}
use Rattle.relay_links.specs.declared.branch.Branch.{Branch}
use Rattle.relay_core.specs.Asked.{IsQuiet}
use Rattle.relay_core.specs.Counts.{Adds}
use Rattle.relay_core.specs.Down.{DownState}
use Rattle.relay_core.specs.Moves.{SoFar, Extends, Finishes, HasReason}
use Rattle.relay_core.specs.Past.{DownPast, UpPast}
use Rattle.relay_core.specs.Piece.{task_put_of}
use Rattle.relay_core.specs.Table.{State, is_failed, is_finished}
use Rattle.relay_core.specs.Table as core
use Rattle.relay_core.specs.Up.{UpState}
use Rattle.relay_core.specs.Uses.{AsksOne}
use Rattle.relay_core.specs.Uses as uses
use Rattle.relay_core.specs.declared.duplex.Duplex.{Duplex}
use Rattle.relay_core.specs.declared.piece.Piece.{Piece}
use Rattle.relay_core.specs.declared.step.Step.{Step}
use Rattle.relay_core.specs.declared.step.Step.TheVariants as step
use Rattle.relay_core.specs.declared.told.Told.{Told}
use Rattle.relay_exchange.specs.declared.exchange.Stage.{Stage}
use Rattle.relay_exchange.specs.declared.exchange.Stage.TheVariants as stage

-- the link is silent on a read or on a write
abbrev pub IsSilentLink : LinkState → Type 0
IsSilentLink link = (link.silent_on_read ≡ true) ⊎ (link.silent_on_write ≡ true)

-- the stage, bytes of the head waiting or not
abbrev pub stage_of : Bool → Stage
stage_of true = stage.Head
stage_of false = stage.Bodies

-- the link of the upstream may be kept, as far as the duplex knows: not while the head is being
-- sent
abbrev pub may_keep_at : Stage → Duplex → Bool
may_keep_at stage.Head d = false
may_keep_at stage.Bodies d = core.may_keep d.kind d

-- neither half failed, nor have both finished
pub record GoesOn (d : Duplex) : Type 0 where
  pub unfinished : is_finished d ≡ false
  pub unfailed : is_failed d.word ≡ false

-- the task that what was read of the request before puts, if it puts one
abbrev pub put_first : Option Piece → Option HttpTask
put_first None = None
put_first (Some piece) = task_put_of false piece

-- both sides as an exchange begins: of the request's body that first task was put, if there is one,
-- and it is an end exactly where the request has ended for the peer, as it has where the client's
-- body has ended; nothing else was queued but the head, and no call answered an error
pub record Begins
    (down_past : DownPast → Type 0) (up_past : UpPast → Type 0) (done : Bool)
    (first : Option HttpTask) (down : DownState) (up : UpState) (p : DownPast) (q : UpPast)
    : Type 0 where
  pub down_holds : down_past p
  pub up_holds : up_past q
  pub first_put : p.put ≡ option_to_list first
  pub end_put : list_any is_end p.put ≡ down.request_ended
  pub none_batched : p.batched ≡ []
  pub none_closing : p.closing ≡ []
  pub none_read : q.read ≡ []
  pub none_taken : q.taken ≡ []
  pub none_lost : q.lost ≡ false
  pub body_done : down.body_done ≡ done
  pub ended : done ≡ true → down.request_ended ≡ true
  pub unread : up.read_failed ≡ false
  pub unsent : up.send_failed ≡ None

-- an exchange under way: all that passed between both sides so far, and it goes on
pub record IsUnderWay
    (down_past : DownPast → Type 0) (up_past : UpPast → Type 0)
    (up_blames : UpPast → Error → Type 0) (s : State) (p : DownPast) (q : UpPast) : Type 0 where
  pub so_far : SoFar down_past up_past up_blames s p q
  pub goes_on : GoesOn s.duplex

-- what a turn came to, by its answer: the exchange goes on; both directions were relayed, without a
-- tunnel; or it failed, for a reason. Out of memory is free
abbrev pub ComesTo : (DownPast → Error → Type 0) → (DownPast → List HttpTask → Error → Type 0)
    → (DownPast → Error → Type 0) → (UpPast → Error → Type 0) → State → DownPast → UpPast → Step
    → Type 0
ComesTo blames refuses cannot_end up_blames s p q step.Moved = GoesOn s.duplex
ComesTo blames refuses cannot_end up_blames s p q (step.Waited pause) = GoesOn s.duplex
ComesTo blames refuses cannot_end up_blames s p q step.Finished =
    s.down.upgraded ≡ false → Finishes s p q
ComesTo blames refuses cannot_end up_blames s p q (step.Failed (fail.Error e)) =
    HasReason blames refuses cannot_end up_blames s.down p q e
ComesTo blames refuses cannot_end up_blames s p q (step.Failed fail.OutOfMemory) = Unit {0}

-- what the client's side tells of errors behind a turn, by its answer: no more than before, unless
-- the turn fails with one, which then is the last
abbrev pub TellsOn : Told → Told → Step → Type 0
TellsOn before after step.Moved = after.errors ≡ before.errors
TellsOn before after (step.Waited pause) = after.errors ≡ before.errors
TellsOn before after step.Finished = after.errors ≡ before.errors
TellsOn before after (step.Failed (fail.Error e)) =
    (after.errors ≡ before.errors)
    ⊎ ((after.errors ≡ up before.errors) × (after.last ≡ Some e))
TellsOn before after (step.Failed fail.OutOfMemory) = after.errors ≡ before.errors

-- a turn went on from these pasts, with this answer: what is held of the response more than before
-- was read, and ends that came stay
pub record Turns
    (down_past : DownPast → Type 0) (down_blames : DownPast → Error → Type 0)
    (down_refuses : DownPast → List HttpTask → Error → Type 0)
    (down_cannot_end : DownPast → Error → Type 0)
    (up_past : UpPast → Type 0) (up_blames : UpPast → Error → Type 0) (before : DownPast)
    (up_before : UpPast) (old s : State) (result : Step) : Type 0 where
  pub p : DownPast
  pub q : UpPast
  pub extends : Extends before up_before p q
  pub adds : Adds old s up_before q
  pub so_far : SoFar down_past up_past up_blames s p q
  pub comes_to : ComesTo down_blames down_refuses down_cannot_end up_blames s p q result

-- all that can be done asks a link that is silent on it: the write of the head, or each branch that
-- can be taken
abbrev pub SilentIn : Stage → State → LinkState → LinkState → Type 0
SilentIn stage.Head s client upstream = upstream.silent_on_write ≡ true
SilentIn stage.Bodies s client upstream = IsQuiet s client upstream

-- a turn met silence at that stage, and neither link changed
pub record MeetsSilence (at : Stage) (s : State) (client client' upstream upstream' : LinkState)
    : Type 0 where
  pub silent : SilentIn at s client' upstream'
  pub client_same : client' ≡ client
  pub upstream_same : upstream' ≡ upstream

-- what a turn moved, by its branch: while the head is being sent, which is none, the upstream's
-- link was asked once for it
abbrev pub HasMoved : Option Branch → State → State → LinkState → LinkState → LinkState → LinkState
    → Type 0
HasMoved None old new client client' upstream upstream' =
    AsksOne upstream upstream' client client'
HasMoved (Some b) old new client client' upstream upstream' =
    uses.HasMoved b old new client client' upstream upstream'
