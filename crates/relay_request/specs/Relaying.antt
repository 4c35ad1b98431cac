-- A turn of a phase that relays, where it stands.
use Rattle.std.specs.Prelude.{◌≡◌, ℕ, Bool, true, false, List, []}
use Rattle.std.specs.Box.{with_value}
use Rattle.std.specs.Global.{Box}
use Rattle.relay_tasks.specs.declared.log.LogEntry.{LogEntry}
use Rattle.relay_tasks.specs.declared.took.Pause.TheVariants.{NotReady, Silent}
use Rattle.relay_links.specs.Link.{LinkState, LinkStart}
use Rattle.relay_core.specs.Asked.{WaitRose}
use Rattle.relay_core.specs.Causes.{says_failed}
use Rattle.relay_core.specs.Past.{Origin}
use Rattle.relay_core.specs.declared.step.Step.TheVariants as step
use Rattle.relay_exchange.specs.declared.exchange.Turn.{Turn}
use Rattle.relay_exchange.specs.Exchange as over
use Rattle.relay_attempt.specs.Passed.{Passed}
use Rattle.relay_hooked.specs.Bound.{CountsOn, HasCounted}
use Rattle.relay_hooked.specs.Exchange.{IsUnderWay, Turns, MeetsSilence, Asks, HasMoved}
use Rattle.relay_hooked.specs.Head.{core_in, link_of}
use Rattle.relay_hooked.specs.declared.exchange.HookedExchange.{HookedExchange}
use Rattle.relay_request.specs.Uses.{Measured}
use Rattle.relay_request.specs.declared.machine.Attempt.{Attempt}
use Rattle.relay_request.specs.declared.machine.Phase.{Phase}
use Rattle.relay_request.specs.declared.machine.Phase.TheVariants.{ReadHead, Connect, Unlinked, Prepare, Relay, Broken, Again, Fail, Close, Answer, Ended}

-- the exchange of an attempt is under way
abbrev pub is_relaying : {L C : Type 0} → Phase L C → Bool
is_relaying ReadHead = false
is_relaying (Connect context session tries) = false
is_relaying (Unlinked context session attempts error) = false
is_relaying (Prepare context session link lease) = false
is_relaying (Relay a) = true
is_relaying (Broken context session link lease keep error) = false
is_relaying (Again context session link lease keep error) = false
is_relaying (Fail link lease keep session error) = false
is_relaying (Close link lease keep outcome) = false
is_relaying (Answer session owed attempts) = false
is_relaying (Ended outcome attempts) = false

-- a link is to be handed back, the request having ended or its client being owed an answer
abbrev pub is_closing : {L C : Type 0} → Phase L C → Bool
is_closing ReadHead = false
is_closing (Connect context session tries) = false
is_closing (Unlinked context session attempts error) = false
is_closing (Prepare context session link lease) = false
is_closing (Relay a) = false
is_closing (Broken context session link lease keep error) = false
is_closing (Again context session link lease keep error) = true
is_closing (Fail link lease keep session error) = true
is_closing (Close link lease keep outcome) = true
is_closing (Answer session owed attempts) = false
is_closing (Ended outcome attempts) = false

-- an attempt where it stands, once its exchange and its context have come to these
abbrev pub turned : {L C : Type 0} → Box (Attempt L C) → HookedExchange L → C → Box (Attempt L C)
turned a x context =
    with_value a (record { exchange = x; lease = a.value.lease; context = context })

-- all that can be done in an exchange asks a link that is silent on it: the write of the head, or
-- each branch that can be taken. No call that was made matters to that
abbrev pub SilentIn : {L : Type 0} → (L → LinkState) → LinkState → HookedExchange L → Type 0
SilentIn state client x =
    over.SilentIn x.exchange.stage (core_in [] x) client (state (link_of x))

module _ {L : Type 0} (state : L → LinkState) (start_at : L → LinkStart) where
  -- one turn of an exchange, between these states of the client's link and these bytes that were
  -- read ahead from it, and between these logs, and whether a count of uses rose in it
  pub record TurnsOver
      (before after : LinkState) (ahead left : List ℕ) (log log' : List LogEntry)
      (x y : HookedExchange L) (did : Turn) (asked : Bool) : Type 0 where
    pub goes : (s : Origin) (p : Passed) → IsUnderWay state start_at s p before ahead log x
        → Turns state start_at s after left log' y did.step
    pub waits : did.step ≡ step.Waited NotReady
        → WaitRose before after (state (link_of x)) (state (link_of y))
    pub quiet : did.step ≡ step.Waited Silent → MeetsSilence state before after log' x y
    pub asks : Asks state did.step before after x y
    pub moves : (s : Origin) (p : Passed) → IsUnderWay state start_at s p before ahead log x
        → did.step ≡ step.Moved → HasMoved state did.branch before after log log' x y
    pub counts : (s : Origin) (tasks ends : ℕ)
        → HasCounted state start_at tasks ends s before ahead log x
        → CountsOn state start_at tasks ends s after left log log' x y did.step
    pub calm : says_failed did.step ≡ false → after.faults ≡ before.faults
    pub same_start : start_at (link_of y) ≡ start_at (link_of x)
    pub same_first : y.down.at_first ≡ x.down.at_first
    pub measured : Measured before after (state (link_of x)) (state (link_of y)) asked

module _ {L C : Type 0} (state : L → LinkState) (start_at : L → LinkStart) where
  -- a phase relayed, and relays behind one turn of its exchange
  pub record TurnsWithin
      (before after : LinkState) (ahead left : List ℕ) (log log' : List LogEntry)
      (phase next : Phase L C) (did : Turn) (asked : Bool) : Type 0 where
    pub attempt : Box (Attempt L C)
    pub was : phase ≡ Relay attempt
    pub exchange : HookedExchange L
    pub context : C
    pub stands : next ≡ Relay (turned attempt exchange context)
    pub turns : TurnsOver state start_at before after ahead left log log' attempt.value.exchange
        exchange did asked
