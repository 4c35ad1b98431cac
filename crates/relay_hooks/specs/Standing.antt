-- What stands before a call of a hook.
use Rattle.std.specs.Prelude.{ℕ, Bool, List, Option}
use Rattle.relay_tasks.specs.Head.{RequestHead}
use Rattle.relay_tasks.specs.declared.log.View.{View}
use Rattle.relay_tasks.specs.declared.peer.Peer.{Peer}
use Rattle.relay_tasks.specs.declared.task.HttpTask.{HttpTask}

-- what stood before a call: the mark of its context, and what the session showed. The peer of the
-- attempt, and whether its link had been used before, stand here for the hooks that are told of
-- them
pub record Standing : Type 0 where
  pub mark : ℕ
  pub head : RequestHead
  pub keepalive : Bool
  pub view : View
  pub peer : Option Peer
  pub reused : Bool

-- a session and a context as a call finds or leaves them: `touched` says that the head was lent to
-- be changed since the call was begun, `wrote` are the tasks that were queued since
pub record Moment : Type 0 where
  pub mark : ℕ
  pub head : RequestHead
  pub touched : Bool
  pub keepalive : Bool
  pub view : View
  pub wrote : List HttpTask

-- what stands at that moment, for a hook that is told of this peer
abbrev pub standing : Option Peer → Bool → Moment → Standing
standing peer reused at = record {
  mark = at.mark;
  head = at.head;
  keepalive = at.keepalive;
  view = at.view;
  peer = peer;
  reused = reused;
}
