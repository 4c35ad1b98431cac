-- The calls of a side in order: all those that one piece or one batch led to, behind those of the
-- pieces and batches before it.
use Rattle.std.specs.Prelude.{◌≡◌, All, ◌⊎◌, Bool, List, [], ◌∷◌, ◌++◌, Option, Some, None}
use Rattle.relay_tasks.specs.declared.error.Error.{Error}
use Rattle.relay_tasks.specs.declared.error.Fail.{Fail}
use Rattle.relay_tasks.specs.declared.error.Fail.TheVariants as fail
use Rattle.relay_tasks.specs.declared.log.LogEntry.{LogEntry}
use Rattle.relay_tasks.specs.declared.task.HttpTask.{HttpTask}
use Rattle.relay_filters.specs.Chain.{Refuses}
use Rattle.relay_filters.specs.Request.{LetsOn, PieceChain}
use Rattle.relay_filters.specs.Response.{BatchPasses, BatchStops}

-- all calls of a piece, or of a batch, that passed
pub data Segment (of_head : Bool) (es : List LogEntry) : Type 0 where
  of_piece : (stand : Bool) (call : LogEntry) → PieceChain stand es call → call.error ≡ None
      → Segment of_head es
  of_batch : (stand : Bool) (tasks made : List HttpTask) → BatchPasses of_head stand tasks es made
      → Segment of_head es

-- all calls of a piece, or of a batch, that was refused with that error
pub data RefusedIn (of_head : Bool) (error : Error) (es : List LogEntry) : Type 0 where
  of_piece : (stand : Bool) (call : LogEntry) → PieceChain stand es call
      → call.error ≡ Some error → RefusedIn of_head error es
  of_batch : (stand : Bool) (tasks : List HttpTask) → BatchStops of_head stand tasks es
      → Refuses of_head error es → RefusedIn of_head error es

-- the calls of a batch that did not pass
pub record StopsIn (of_head : Bool) (es : List LogEntry) : Type 0 where
  pub stand : Bool
  pub tasks : List HttpTask
  pub stops : BatchStops of_head stand tasks es

-- the last calls of a side, by why it stopped: none where it goes on; those of what was refused; or
-- those of a piece or a batch before the one that wanted memory, since such a call has no entry
abbrev pub LastCalls : Bool → Option Fail → List LogEntry → Type 0
LastCalls of_head None es = es ≡ []
LastCalls of_head (Some (fail.Error error)) es = RefusedIn of_head error es
LastCalls of_head (Some fail.OutOfMemory) es = (es ≡ []) ⊎ (LetsOn es ⊎ StopsIn of_head es)

-- segments, one behind the other
abbrev pub joined : List (List LogEntry) → List LogEntry
joined [] = []
joined (segment ∷ segments) = segment ++ joined segments

-- the calls of a side are those of the pieces and batches that passed, one behind the other, and
-- behind them those of what stopped it
pub record InSegments (of_head : Bool) (stopped : Option Fail) (es : List LogEntry) : Type 0 where
  pub segments : List (List LogEntry)
  pub last : List LogEntry
  pub are : es ≡ joined segments ++ last
  pub passed : All (Segment of_head) segments
  pub ends : LastCalls of_head stopped last
