-- Which link a call of the peer's side asked: once, or not at all.
--
--   peer_may, peer_waits    a read, by what the client of the peer says
--   put_uses, put_asked     a write of a link
use Rattle.std.proofs.Common.{◌≡◌, List, ℕ, Bool, true, Option, Some, None, ap, inl, inr}
use Rattle.relay_tasks.specs.declared.fault.Fault.{Fault}
use Rattle.relay_tasks.specs.declared.task.HttpTask.{HttpTask}
use Rattle.relay_tasks.specs.declared.took.Pause.{Pause}
use Rattle.relay_tasks.specs.declared.took.Pause.TheVariants.{NotReady, Silent}
use Rattle.relay_tasks.specs.declared.took.Took.{Took}
use Rattle.relay_tasks.specs.declared.took.Took.TheVariants as took
use Rattle.relay_links.specs.Count.{up}
use Rattle.relay_links.specs.Link.{LinkState, Writes}
use Rattle.relay_links.specs.declared.link.Got.{Got}
use Rattle.relay_links.specs.declared.link.Got.TheVariants as got
use Rattle.relay_links.specs.declared.link.Put.{Put}
use Rattle.relay_links.specs.declared.link.Put.TheVariants as put
use Rattle.relay_core.specs.Uses.{IsUsed, MayUse, ReadUses, WriteUses}
use Rattle.relay_peer.specs.ResponseReading.{Asks, ReadsTask}
use Rattle.relay_peer.specs.declared.response_reading.ResponseReading.{ResponseReading}

module _ (before after : LinkState) where
  -- the peer's link was asked once at most
  asked_may : (came : List ℕ) (asked : Option Got) → Asks before after came asked
      → MayUse before after
  asked_may came None asks = inr asks.0
  asked_may came (Some (got.Bytes n)) asks = inl asks.gives.used
  asked_may came (Some got.NotReady) asks = inl asks.0.used
  asked_may came (Some got.Silent) asks = inr asks.0.same
  asked_may came (Some got.End) asks = inl asks.0.used
  asked_may came (Some (got.Failed fault)) asks = inl asks.0.used

  -- a read of the peer asks it once at most
  pub peer_may : (method : List ℕ) (upgrade : Bool) (old new : ResponseReading)
      (answer : Took HttpTask)
      → ReadsTask method upgrade before after old new answer → MayUse before after
  peer_may method upgrade old new answer reads = asked_may reads.came reads.asked reads.asks

  -- a read of the peer that waits asked it, or the peer is silent
  pub peer_waits : (pause : Pause) (answer : Took HttpTask) → answer ≡ took.Waited pause
      → (answer ≡ took.Waited NotReady → after.used ≡ up before.used)
      → (answer ≡ took.Waited Silent → (after ≡ before) × (after.silent_on_read ≡ true))
      → ReadUses {T = HttpTask} before after (took.Waited pause)
  peer_waits NotReady answer is used silent = used is
  peer_waits Silent answer is used silent = (silent is).0

  -- a write to the peer asks it, unless it is silent
  pub put_uses : (part : List ℕ) (answer : Put) → Writes before part after answer
      → WriteUses before after answer
  put_uses part (put.Took n) writes = writes.used
  put_uses part put.NotReady writes = writes.used
  put_uses part put.Silent writes = writes.same
  put_uses part (put.Failed fault) writes = inl writes.used
  put_uses part put.OutOfMemory writes = inl (ap (λ (l : LinkState). l.used) writes.same)

  -- one that failed asked it
  pub put_asked : (part : List ℕ) (answer : Put) → Writes before part after answer
      → (fault : Fault) → answer ≡ put.Failed fault → IsUsed before after
  put_asked part (put.Took n) writes fault is = writes.used
  put_asked part put.NotReady writes fault is = writes.used
  put_asked part put.Silent writes fault is = absurd (cc)
  put_asked part (put.Failed told) writes fault is = writes.used
  put_asked part put.OutOfMemory writes fault is = absurd (cc)
