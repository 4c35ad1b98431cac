-- What a step moved, and which link it asked for that: one of them once, or neither.
use Rattle.std.specs.Prelude.{◌≡◌, ◌<◌, Bool, true, false, ◌⊎◌, List, [], ◌∷◌, ◌++◌, is_some}
use Rattle.relay_tasks.specs.declared.task.HttpTask.{HttpTask}
use Rattle.relay_tasks.specs.declared.took.Pause.TheVariants as pause
use Rattle.relay_tasks.specs.declared.took.Took.{Took}
use Rattle.relay_tasks.specs.declared.took.Took.TheVariants as took
use Rattle.relay_links.specs.Count.{up}
use Rattle.relay_links.specs.Link.{LinkState}
use Rattle.relay_links.specs.declared.branch.Branch.{Branch}
use Rattle.relay_links.specs.declared.branch.Branch.TheVariants as branch
use Rattle.relay_links.specs.declared.link.Put.{Put}
use Rattle.relay_links.specs.declared.link.Put.TheVariants as put
use Rattle.relay_core.specs.declared.duplex.Duplex.{Duplex}
use Rattle.relay_core.specs.declared.piece.Piece.{Piece}
use Rattle.relay_core.specs.declared.step.Step.{Step}
use Rattle.relay_core.specs.declared.step.Step.TheVariants as step
use Rattle.relay_core.specs.Down.{DownState}
use Rattle.relay_core.specs.Piece.{task_put_of}
use Rattle.relay_core.specs.State.{is_reading, is_response_done}
use Rattle.relay_core.specs.Table.{State}

-- ---- one link

-- the link was asked once, and its answer was another than silence
abbrev pub IsUsed : LinkState → LinkState → Type 0
IsUsed before after = after.used ≡ up before.used

-- the link was asked once at most
abbrev pub MayUse : LinkState → LinkState → Type 0
MayUse before after = IsUsed before after ⊎ (after ≡ before)

-- how a read asks its link, by its answer
abbrev pub ReadUses : {T : Type 0} → LinkState → LinkState → Took T → Type 0
ReadUses before after (took.Item item) = MayUse before after
ReadUses before after took.More = MayUse before after
ReadUses before after (took.Waited pause.NotReady) = IsUsed before after
ReadUses before after (took.Waited pause.Silent) = after ≡ before
ReadUses before after took.End = MayUse before after
ReadUses before after (took.Failed why) = MayUse before after

-- how a write asks its link, by its answer: one that failed before may answer that fault again
abbrev pub WriteUses : LinkState → LinkState → Put → Type 0
WriteUses before after (put.Took n) = IsUsed before after
WriteUses before after put.NotReady = IsUsed before after
WriteUses before after put.Silent = after ≡ before
WriteUses before after (put.Failed fault) = MayUse before after
WriteUses before after put.OutOfMemory = MayUse before after

-- how a step asks the link of its branch, by its answer: an end asks none
abbrev pub StepUses : LinkState → LinkState → Step → Type 0
StepUses before after step.Moved = MayUse before after
StepUses before after (step.Waited pause.NotReady) = IsUsed before after
StepUses before after (step.Waited pause.Silent) = after ≡ before
StepUses before after step.Finished = after ≡ before
StepUses before after (step.Failed why) = MayUse before after

-- the piece puts a task into the request pipe
abbrev pub PutsTask : Bool → Piece → Type 0
PutsTask upgraded piece = is_some (task_put_of upgraded piece) ≡ true

-- the reads of the client made calls of hooks
abbrev pub HasCalled : DownState → DownState → Type 0
HasCalled before after = before.calls < after.calls

-- the piece puts a task, or a hook was called with it
abbrev pub PutsOrCalls : DownState → DownState → Piece → Type 0
PutsOrCalls before after piece = PutsTask before.upgraded piece ⊎ HasCalled before after

-- ---- both links

-- one link was asked once, and the other stands
pub record AsksOne (asked asked' other other' : LinkState) : Type 0 where
  pub used : IsUsed asked asked'
  pub other_same : other' ≡ other

-- neither link was asked, and both stand
pub record AsksNone (client client' upstream upstream' : LinkState) : Type 0 where
  pub client_same : client' ≡ client
  pub upstream_same : upstream' ≡ upstream

-- one of both links was asked once
abbrev pub AsksEither : LinkState → LinkState → LinkState → LinkState → Type 0
AsksEither client client' upstream upstream' =
    AsksOne client client' upstream upstream' ⊎ AsksOne upstream upstream' client client'

-- one of both links was asked once, or neither
abbrev pub MayAsk : LinkState → LinkState → LinkState → LinkState → Type 0
MayAsk client client' upstream upstream' =
    AsksEither client client' upstream upstream' ⊎ AsksNone client client' upstream upstream'

-- how a step asks both links, by its answer: it waits for the one that it asked, and an end and a
-- silence leave both as they were
abbrev pub Asks : Step → LinkState → LinkState → LinkState → LinkState → Type 0
Asks step.Moved client client' upstream upstream' = MayAsk client client' upstream upstream'
Asks (step.Waited pause.NotReady) client client' upstream upstream' =
    AsksEither client client' upstream upstream'
Asks (step.Waited pause.Silent) client client' upstream upstream' =
    AsksNone client client' upstream upstream'
Asks step.Finished client client' upstream upstream' = AsksNone client client' upstream upstream'
Asks (step.Failed why) client client' upstream upstream' = MayAsk client client' upstream upstream'

-- ---- what moved

-- a list gained a task at its end
abbrev pub GainsTask : List HttpTask → List HttpTask → Type 0
GainsTask before after = (task : HttpTask) × (after ≡ before ++ task ∷ [])

-- a list lost tasks at its front, one at least
pub record LosesTasks (before after : List HttpTask) : Type 0 where
  pub first : HttpTask
  pub more : List HttpTask
  pub parts : before ≡ (first ∷ more) ++ after

-- a read of the client put a task into the request pipe, or called a hook with what it read
abbrev pub ReadsInside : Duplex → DownState → Duplex → DownState → Type 0
ReadsInside before side after side' =
    GainsTask before.requests.tasks after.requests.tasks ⊎ HasCalled side side'

-- what a step by that branch moved where it asked no link: a task was put into a pipe or taken out
-- of one, an end came, or a hook was called
abbrev pub MovesInside : Branch → State → State → Type 0
MovesInside branch.UpWrite old new = ⊥
MovesInside branch.DownWrite old new = ⊥
MovesInside branch.UpTake old new = LosesTasks old.duplex.requests.tasks new.duplex.requests.tasks
MovesInside branch.DownTake old new =
    LosesTasks old.duplex.responses.tasks new.duplex.responses.tasks
MovesInside branch.DownDrop old new =
    LosesTasks old.duplex.responses.tasks new.duplex.responses.tasks
MovesInside branch.DownEnd old new =
    (is_response_done old.duplex.client_response ≡ false)
    × (is_response_done new.duplex.client_response ≡ true)
MovesInside branch.DownClosed old new =
    (is_reading old.duplex.client_request ≡ true) × (is_reading new.duplex.client_request ≡ false)
MovesInside branch.UpRead old new =
    GainsTask old.duplex.responses.tasks new.duplex.responses.tasks
MovesInside branch.DownRead old new = ReadsInside old.duplex old.down new.duplex new.down
MovesInside branch.UpFinish old new =
    (old.duplex.upstream_finished ≡ false) × (new.duplex.upstream_finished ≡ true)
MovesInside branch.DownFinish old new =
    ((old.down.pending ≡ false) × (new.down.pending ≡ true)
    × (old.down.body_finished ≡ false) × (new.down.body_finished ≡ true))
    ⊎ ((old.duplex.client_finished ≡ false) × (new.duplex.client_finished ≡ true))
MovesInside branch.MessageUp old new = ⊥
MovesInside branch.MessageDown old new = ⊥

-- a step by that branch asked its link once, and the other stands; a branch that asks none never
-- does
abbrev pub AsksItsLink : Branch → LinkState → LinkState → LinkState → LinkState → Type 0
AsksItsLink branch.UpWrite client client' upstream upstream' =
    AsksOne upstream upstream' client client'
AsksItsLink branch.DownWrite client client' upstream upstream' =
    AsksOne client client' upstream upstream'
AsksItsLink branch.UpTake client client' upstream upstream' = ⊥
AsksItsLink branch.DownTake client client' upstream upstream' = ⊥
AsksItsLink branch.DownDrop client client' upstream upstream' = ⊥
AsksItsLink branch.DownEnd client client' upstream upstream' = ⊥
AsksItsLink branch.DownClosed client client' upstream upstream' = ⊥
AsksItsLink branch.UpRead client client' upstream upstream' =
    AsksOne upstream upstream' client client'
AsksItsLink branch.DownRead client client' upstream upstream' =
    AsksOne client client' upstream upstream'
AsksItsLink branch.UpFinish client client' upstream upstream' = ⊥
AsksItsLink branch.DownFinish client client' upstream upstream' = ⊥
AsksItsLink branch.MessageUp client client' upstream upstream' = ⊥
AsksItsLink branch.MessageDown client client' upstream upstream' = ⊥

-- no link was asked, and something moved between them
pub record MovesBetween
    (b : Branch) (old new : State) (client client' upstream upstream' : LinkState)
    : Type 0 where
  pub unasked : AsksNone client client' upstream upstream'
  pub moves : MovesInside b old new

-- what a step by that branch moved: its link was asked once, or none was and it moved something
-- between them
abbrev pub HasMoved : Branch → State → State → LinkState → LinkState → LinkState → LinkState
    → Type 0
HasMoved b old new client client' upstream upstream' =
    AsksItsLink b client client' upstream upstream'
    ⊎ MovesBetween b old new client client' upstream upstream'

-- ---- by the branch, as its side answers

-- how a step by that branch asked its link, by its answer, while the other stands
abbrev pub BranchUses : Branch → Step → LinkState → LinkState → LinkState → LinkState → Type 0
BranchUses branch.UpWrite result client client' upstream upstream' =
    StepUses upstream upstream' result × (client' ≡ client)
BranchUses branch.DownWrite result client client' upstream upstream' =
    StepUses client client' result × (upstream' ≡ upstream)
BranchUses branch.UpTake result client client' upstream upstream' =
    (upstream' ≡ upstream) × (client' ≡ client)
BranchUses branch.DownTake result client client' upstream upstream' =
    (upstream' ≡ upstream) × (client' ≡ client)
BranchUses branch.DownDrop result client client' upstream upstream' =
    (upstream' ≡ upstream) × (client' ≡ client)
BranchUses branch.DownEnd result client client' upstream upstream' =
    (upstream' ≡ upstream) × (client' ≡ client)
BranchUses branch.DownClosed result client client' upstream upstream' =
    (upstream' ≡ upstream) × (client' ≡ client)
BranchUses branch.UpRead result client client' upstream upstream' =
    StepUses upstream upstream' result × (client' ≡ client)
BranchUses branch.DownRead result client client' upstream upstream' =
    StepUses client client' result × (upstream' ≡ upstream)
BranchUses branch.UpFinish result client client' upstream upstream' =
    (upstream' ≡ upstream) × (client' ≡ client)
BranchUses branch.DownFinish result client client' upstream upstream' =
    (upstream' ≡ upstream) × (client' ≡ client)
BranchUses branch.MessageUp result client client' upstream upstream' = ⊥
BranchUses branch.MessageDown result client client' upstream upstream' = ⊥

-- what a branch that asks a link did where it moved: it asked that link, put a task, or called a
-- hook
abbrev pub BranchGains : Branch → State → State → LinkState → LinkState → LinkState → LinkState
    → Type 0
BranchGains branch.UpWrite old new client client' upstream upstream' = IsUsed upstream upstream'
BranchGains branch.DownWrite old new client client' upstream upstream' = IsUsed client client'
BranchGains branch.UpTake old new client client' upstream upstream' = Unit {0}
BranchGains branch.DownTake old new client client' upstream upstream' = Unit {0}
BranchGains branch.DownDrop old new client client' upstream upstream' = Unit {0}
BranchGains branch.DownEnd old new client client' upstream upstream' = Unit {0}
BranchGains branch.DownClosed old new client client' upstream upstream' = Unit {0}
BranchGains branch.UpRead old new client client' upstream upstream' =
    IsUsed upstream upstream'
    ⊎ GainsTask old.duplex.responses.tasks new.duplex.responses.tasks
BranchGains branch.DownRead old new client client' upstream upstream' =
    IsUsed client client' ⊎ ReadsInside old.duplex old.down new.duplex new.down
BranchGains branch.UpFinish old new client client' upstream upstream' = Unit {0}
BranchGains branch.DownFinish old new client client' upstream upstream' = Unit {0}
BranchGains branch.MessageUp old new client client' upstream upstream' = Unit {0}
BranchGains branch.MessageDown old new client client' upstream upstream' = Unit {0}

-- a step that waits leaves the duplex, whether output is pending for the client, whether its
-- response's body was ended, and the calls of hooks
pub record Stands (old new : State) : Type 0 where
  pub duplex : new.duplex ≡ old.duplex
  pub pending : new.down.pending ≡ old.down.pending
  pub body_finished : new.down.body_finished ≡ old.down.body_finished
  pub calls : new.down.calls ≡ old.down.calls
