-- What one turn makes of a phase.
use Rattle.std.specs.Global.{Box}
use Rattle.std.specs.Prelude.{◌≡◌, ◌⊎◌, ℕ, ◌<◌, Bool, true, false, List, [], ◌∷◌, ◌++◌, length, Option, None, Some}
use Rattle.relay_tasks.specs.declared.log.LogEntry.{LogEntry}
use Rattle.relay_links.specs.Count.{up}
use Rattle.relay_links.specs.Link.{LinkState, LinkStart, GivesBytes, TakesBytes}
use Rattle.relay_links.specs.declared.branch.Branch.{Branch}
use Rattle.relay_connector.specs.declared.Returned.{Returned}
use Rattle.relay_tasks.specs.declared.took.Pause.TheVariants.{NotReady, Silent}
use Rattle.relay_h1.specs.Verdict.{IsOpen}
use Rattle.relay_h1.specs.declared.Connection.{Connection}
use Rattle.relay_session.specs.Response.{pending}
use Rattle.relay_session.specs.declared.session.HttpSession.{HttpSession}
use Rattle.relay_attempt.specs.Passed.{Passed}
use Rattle.relay_hooked.specs.Head.{link_of}
use Rattle.relay_request.specs.Passed.{World, Start}
use Rattle.relay_request.specs.Phases.{RunSoFar}
use Rattle.relay_request.specs.Relaying.{SilentIn, is_closing, is_relaying}
use Rattle.relay_request.specs.Tries.{tries_in}
use Rattle.relay_request.specs.Uses.{ExchangeMoved, OwesAnswer}
use Rattle.relay_request.specs.Work.{total_work}
use Rattle.relay_request.specs.declared.machine.Phase.{Phase}
use Rattle.relay_request.specs.declared.machine.Phase.TheVariants.{ReadHead, Connect, Unlinked, Prepare, Relay, Broken, Again, Fail, Close, Answer, Ended}
use Rattle.relay_request.specs.declared.machine.RunStep.{RunStep}
use Rattle.relay_request.specs.declared.machine.RunStep.TheVariants as step
use Rattle.relay_request.specs.declared.record.AttemptRecord.{AttemptRecord}
use Rattle.relay_request.specs.declared.work.Work.{Work}

-- the world, by its parts
abbrev pub world_with : LinkState → List ℕ → ℕ → World
world_with client ahead faults = record { client = client; ahead = ahead; connect_faults = faults }

-- the world, by the client's connection and the connector's count of faults
abbrev pub world_of : {D U : Type 0} → (D → LinkState) → Connection D U → ℕ → World
world_of state client faults =
    world_with (state client.link) client.ahead faults

-- a turn that moved or ended did some work, one that waited used a link, and one that met silence
-- did none
abbrev pub DoesWork : RunStep → Work → Type 0
DoesWork step.Moved work = 0 < total_work work
DoesWork step.Ended work = 0 < total_work work
DoesWork (step.Waited NotReady) work = total_work work ≡ 1
DoesWork (step.Waited Silent) work = total_work work ≡ 0

-- the client's head is still read
abbrev pub is_reading_head : {L C : Type 0} → Phase L C → Bool
is_reading_head ReadHead = true
is_reading_head (Connect context session tries) = false
is_reading_head (Unlinked context session attempts error) = false
is_reading_head (Prepare context session link lease) = false
is_reading_head (Relay a) = false
is_reading_head (Broken context session link lease keep error) = false
is_reading_head (Again context session link lease keep error) = false
is_reading_head (Fail link lease keep session error) = false
is_reading_head (Close link lease keep outcome) = false
is_reading_head (Answer session owed attempts) = false
is_reading_head (Ended outcome attempts) = false

-- hooks before the attempts are called, or a link is wanted
abbrev pub is_connecting : {L C : Type 0} → Phase L C → Bool
is_connecting ReadHead = false
is_connecting (Connect context session tries) = true
is_connecting (Unlinked context session attempts error) = false
is_connecting (Prepare context session link lease) = false
is_connecting (Relay a) = false
is_connecting (Broken context session link lease keep error) = false
is_connecting (Again context session link lease keep error) = false
is_connecting (Fail link lease keep session error) = false
is_connecting (Close link lease keep outcome) = false
is_connecting (Answer session owed attempts) = false
is_connecting (Ended outcome attempts) = false

-- a link was given, and it is not to be handed back yet
abbrev pub is_linked : {L C : Type 0} → Phase L C → Bool
is_linked ReadHead = false
is_linked (Connect context session tries) = false
is_linked (Unlinked context session attempts error) = false
is_linked (Prepare context session link lease) = true
is_linked (Relay a) = true
is_linked (Broken context session link lease keep error) = true
is_linked (Again context session link lease keep error) = false
is_linked (Fail link lease keep session error) = false
is_linked (Close link lease keep outcome) = false
is_linked (Answer session owed attempts) = false
is_linked (Ended outcome attempts) = false

-- the link that a phase holds, as it stands
abbrev pub held_state : {L C : Type 0} → (L → LinkState) → Phase L C → Option LinkState
held_state state ReadHead = None
held_state state (Connect context session tries) = None
held_state state (Unlinked context session attempts error) = None
held_state state (Prepare context session link lease) = Some (state link)
held_state state (Relay a) = Some (state (link_of a.value.exchange))
held_state state (Broken context session link lease keep error) = Some (state link)
held_state state (Again context session link lease keep error) = Some (state link)
held_state state (Fail link lease keep session error) = Some (state link)
held_state state (Close link lease keep outcome) = Some (state link)
held_state state (Answer session owed attempts) = None
held_state state (Ended outcome attempts) = None

-- a link that is held before and after answered in between that it has to be waited for
abbrev pub HeldWaited : Option LinkState → Option LinkState → Type 0
HeldWaited None after = ⊥
HeldWaited (Some before) None = ⊥
HeldWaited (Some before) (Some after) = after.waits ≡ up before.waits

-- the client's link gave bytes
abbrev pub HasGiven : LinkState → LinkState → Type 0
HasGiven before after = (room : List ℕ) × (n : ℕ) × GivesBytes before room n after

-- the client's link took bytes
abbrev pub HasTaken : LinkState → LinkState → Type 0
HasTaken before after = (part : List ℕ) × (n : ℕ) × TakesBytes before part n after

module _ {L C : Type 0} (state : L → LinkState) (start_at : L → LinkStart) where
  -- how many links a phase holds
  abbrev pub links_held : Phase L C → ℕ
  links_held ReadHead = 0
  links_held (Connect context session tries) = 0
  links_held (Unlinked context session attempts error) = 0
  links_held (Prepare context session link lease) = 1
  links_held (Relay a) = 1
  links_held (Broken context session link lease keep error) = 1
  links_held (Again context session link lease keep error) = 1
  links_held (Fail link lease keep session error) = 1
  links_held (Close link lease keep outcome) = 1
  links_held (Answer session owed attempts) = 0
  links_held (Ended outcome attempts) = 0

  -- a turn took the run so far on to the next phase, these links having been handed back before;
  -- `w` is the world after it
  pub record AdvancesOn (s : Start) (w : World) (own : List (Returned L)) (next : Phase L C)
      : Type 0 where
    pub passed : Passed
    pub run : RunSoFar state start_at s passed w own next

  -- the same where none was handed back
  abbrev pub Advances : Start → World → Phase L C → Type 0
  Advances s w next = AdvancesOn s w [] next

  -- all that a phase asks is silent: outside an exchange the one link that it asks, which is the
  -- client's where it is to take what waits, and in an exchange what its next write or each of its
  -- branches asks
  abbrev pub IsStalled : World → Phase L C → Type 0
  IsStalled w ReadHead = IsOpen w.ahead × (w.client.silent_on_read ≡ true)
  IsStalled w (Connect context session tries) = ⊥
  IsStalled w (Unlinked context session attempts error) = ⊥
  IsStalled w (Prepare context session link lease) = ⊥
  IsStalled w (Relay a) =
      SilentIn state w.client a.value.exchange
  IsStalled w (Broken context session link lease keep error) =
      (0 < length (pending session.value.writing.output)) × (w.client.silent_on_write ≡ true)
  IsStalled w (Again context session link lease keep error) = ⊥
  IsStalled w (Fail link lease keep session error) = ⊥
  IsStalled w (Close link lease keep outcome) = ⊥
  IsStalled w (Answer session owed attempts) = w.client.silent_on_write ≡ true
  IsStalled w (Ended outcome attempts) = ⊥

  -- another attempt follows, behind one more
  pub record TriesOn (tries : List AttemptRecord) (next : Phase L C) : Type 0 where
    pub context : C
    pub session : Box HttpSession
    pub attempt : AttemptRecord
    pub again : next ≡ Connect context session (tries ++ attempt ∷ [])

  -- a hook was called, behind which the request goes on as it stood
  pub record CallsOn (tries : List AttemptRecord) (next : Phase L C) : Type 0 where
    pub context : C
    pub session : Box HttpSession
    pub goes_on : next ≡ Connect context session tries

  -- another attempt follows one that had a link, behind these: the link is to be handed back, or it
  -- was, and the attempt was recorded
  abbrev pub IsAgain : List AttemptRecord → Phase L C → Type 0
  IsAgain tries ReadHead = ⊥
  IsAgain tries (Connect context session attempts) =
      (attempt : AttemptRecord) × (attempts ≡ tries ++ attempt ∷ [])
  IsAgain tries (Unlinked context session attempts error) = ⊥
  IsAgain tries (Prepare context session link lease) = ⊥
  IsAgain tries (Relay a) = ⊥
  IsAgain tries (Broken context session link lease keep error) = ⊥
  IsAgain tries (Again context session link lease keep error) = tries_in lease ≡ tries
  IsAgain tries (Fail link lease keep session error) = ⊥
  IsAgain tries (Close link lease keep outcome) = ⊥
  IsAgain tries (Answer session owed attempts) = ⊥
  IsAgain tries (Ended outcome attempts) = ⊥

  -- what a turn moved: bytes of the client's head came, or it was judged; a hook was called; a link
  -- was given, or none and another attempt follows; the exchange over that link began; the client
  -- is owed an answer for one of these; a branch of the exchange moved, or it failed and the client
  -- is owed an answer, which the treatment of an attempt's error leads to, or another attempt
  -- follows; or bytes of that answer were taken
  abbrev pub HasMoved : List LogEntry → World → World → Phase L C → Phase L C → Type 0
  HasMoved log w x ReadHead next = HasGiven w.client x.client ⊎ (is_reading_head next ≡ false)
  HasMoved log w x (Connect context session tries) next =
      (is_linked next ≡ true) ⊎ (TriesOn tries next ⊎ (CallsOn tries next ⊎ OwesAnswer next))
  HasMoved log w x (Unlinked context session attempts error) next = OwesAnswer next
  HasMoved log w x (Prepare context session link lease) next =
      (is_relaying next ≡ true) ⊎ OwesAnswer next
  HasMoved log w x (Relay a) next =
      ((branch : Option Branch) × ExchangeMoved state start_at branch log w x a.value.exchange next)
      ⊎ OwesAnswer next
  HasMoved log w x (Broken context session link lease keep error) next =
      OwesAnswer next ⊎ IsAgain (tries_in lease) next
  HasMoved log w x (Again context session link lease keep error) next = IsAgain (tries_in lease) next
  HasMoved log w x (Fail link lease keep session error) next = OwesAnswer next
  HasMoved log w x (Answer session owed attempts) next = HasTaken w.client x.client
  HasMoved log w x (Close link lease keep outcome) next = ⊥
  HasMoved log w x (Ended outcome attempts) next = ⊥

  -- the client's link, or the one that is held, answered in a turn that it has to be waited for
  abbrev pub HasWaited : World → World → Phase L C → Phase L C → Type 0
  HasWaited w x phase next =
      (x.client.waits ≡ up w.client.waits)
      ⊎ HeldWaited (held_state state phase) (held_state state next)

  -- a turn met silence alone, and neither link changed
  pub record MeetsSilence (w x : World) (phase next : Phase L C) : Type 0 where
    pub stalled : IsStalled x next
    pub client_same : x.client ≡ w.client
    pub held_same : held_state state next ≡ held_state state phase

  -- why a turn was answered so; the end of a request has its cause of its own
  abbrev pub HasCause : List LogEntry → World → World → Phase L C → Phase L C → RunStep → Type 0
  HasCause log w x phase next step.Moved = HasMoved log w x phase next
  HasCause log w x phase next (step.Waited NotReady) = HasWaited w x phase next
  HasCause log w x phase next (step.Waited Silent) = MeetsSilence w x phase next
  HasCause log w x phase next step.Ended = Unit {0}

-- a turn behind which a link is to be handed back moved, or it ended the request
abbrev pub HandsOn : {L C : Type 0} → Phase L C → RunStep → Type 0
HandsOn next did = is_closing next ≡ true → (did ≡ step.Moved) ⊎ (did ≡ step.Ended)

-- a turn did its work; a request that has ended does none
abbrev pub WorksIn : {L C : Type 0} → Phase L C → RunStep → Work → Type 0
WorksIn ReadHead did work = DoesWork did work
WorksIn (Connect context session tries) did work = DoesWork did work
WorksIn (Unlinked context session attempts error) did work = DoesWork did work
WorksIn (Prepare context session link lease) did work = DoesWork did work
WorksIn (Relay a) did work = DoesWork did work
WorksIn (Broken context session link lease keep error) did work = DoesWork did work
WorksIn (Again context session link lease keep error) did work = DoesWork did work
WorksIn (Fail link lease keep session error) did work = DoesWork did work
WorksIn (Answer session owed attempts) did work = DoesWork did work
WorksIn (Close link lease keep outcome) did work = (total_work work ≡ 0) × (did ≡ step.Ended)
WorksIn (Ended outcome attempts) did work = (total_work work ≡ 0) × (did ≡ step.Ended)

-- the request has ended
abbrev pub is_over : {L C : Type 0} → Phase L C → Bool
is_over ReadHead = false
is_over (Connect context session tries) = false
is_over (Unlinked context session attempts error) = false
is_over (Prepare context session link lease) = false
is_over (Relay a) = false
is_over (Broken context session link lease keep error) = false
is_over (Again context session link lease keep error) = false
is_over (Fail link lease keep session error) = false
is_over (Close link lease keep outcome) = true
is_over (Answer session owed attempts) = false
is_over (Ended outcome attempts) = true

-- the answer says that the request has ended
abbrev pub is_end : RunStep → Bool
is_end step.Moved = false
is_end (step.Waited pause) = false
is_end step.Ended = true
