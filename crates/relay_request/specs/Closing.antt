-- How a request gives its link back, and what it leaves.
use Rattle.std.specs.Prelude.{◌≡◌, ◌≢◌, ◌⊎◌, ℕ, Bool, true, false, List, [], ◌∷◌, ◌++◌, length, Option, None, Some}
use Rattle.relay_tasks.specs.Head.{RequestHead}
use Rattle.relay_tasks.specs.declared.Error.{Error}
use Rattle.relay_tasks.specs.declared.log.LogEntry.{LogEntry}
use Rattle.relay_links.specs.Link.{LinkState, LinkStart}
use Rattle.relay_links.specs.Told.{more}
use Rattle.relay_connector.specs.declared.Returned.{Returned}
use Rattle.relay_h1.specs.Verdict.{IsOpen}
use Rattle.relay_peer.specs.Body.{IsFrontOf}
use Rattle.relay_attempt.specs.Passed.{Passed}
use Rattle.relay_hooked.specs.Calls.{Filtering}
use Rattle.relay_hooked.specs.Exchange.{IsUnderWay}
use Rattle.relay_hooked.specs.Head.{link_of}
use Rattle.relay_hooked.specs.Order.{FailsFor, order_of, text_of}
use Rattle.relay_hooked.specs.declared.exchange.HookedExchange.{HookedExchange}
use Rattle.relay_request.specs.Answer.{past_at}
use Rattle.relay_request.specs.Sent.{Sends}
use Rattle.relay_request.specs.Legs.{RepeatsOn}
use Rattle.relay_request.specs.Bound.{IsWithin, OwnGave, PhaseCounts, most_sides}
use Rattle.relay_request.specs.Passed.{World, Start, StandsIn, origin_at, asked}
use Rattle.relay_request.specs.Relaying.{SilentIn}
use Rattle.relay_request.specs.Endings.{error_of, IsEnded}
use Rattle.relay_request.specs.Owed.{IsHalfGiven}
use Rattle.relay_request.specs.Taken.{offers_for, offers_before}
use Rattle.relay_request.specs.Refusals.{faults_for, attempts_in, faults_before}
use Rattle.relay_request.specs.Relayable.{IsRelayable}
use Rattle.relay_request.specs.Tries.{tries_in}
use Rattle.relay_request.specs.Turn.{links_held, IsStalled, AdvancesOn}
use Rattle.relay_request.specs.Uses.{PhaseUses, OwnUses}
use Rattle.relay_request.specs.declared.outcome.Ending.{Ending}
use Rattle.relay_request.specs.declared.machine.Lease.{Lease}
use Rattle.relay_request.specs.declared.machine.Phase.{Phase}
use Rattle.relay_request.specs.declared.machine.Phase.TheVariants.{ReadHead, Connect, Unlinked, Prepare, Relay, Broken, Again, Fail, Close, Answer, Ended}
use Rattle.relay_request.specs.declared.machine.RunStep.{RunStep}
use Rattle.relay_request.specs.declared.machine.RunStep.TheVariants as step
use Rattle.relay_request.specs.declared.outcome.Outcome.{Outcome}
use Rattle.relay_request.specs.declared.outcome.Outcome.TheVariants.{TurnLimit}
use Rattle.relay_request.specs.declared.outcome.Outcome.TheVariants as outcome
use Rattle.relay_request.specs.declared.owed.Owed.TheVariants.{Served}
use Rattle.relay_request.specs.declared.record.AttemptRecord.{AttemptRecord}

-- the link as it was handed back, and the record of its attempt
pub record Hands {L : Type 0}
    (link : L) (lease : Lease) (keep : Bool) (outcome : Outcome) (r : Returned L)
    (attempts : List AttemptRecord) : Type 0 where
  pub is_link : r.link ≡ link
  pub peer : r.peer ≡ lease.peer
  pub kept : r.keep ≡ keep
  pub attempt : AttemptRecord
  pub attempts_are : attempts ≡ tries_in lease ++ attempt ∷ []
  pub recorded : attempt.peer ≡ lease.recorded
  pub reused : attempt.reused ≡ lease.reused
  pub record_kept : attempt.kept ≡ keep
  pub error : attempt.error ≡ error_of outcome
  pub unfaulted : attempt.fault ≡ None

-- the link went back to the connector, whose list gained it
pub record HandsBack {L : Type 0}
    (link : L) (lease : Lease) (keep : Bool) (outcome : Outcome)
    (before after : Option (List (Returned L))) (attempts : List AttemptRecord) : Type 0 where
  pub entry : Returned L
  pub hands : Hands link lease keep outcome entry attempts
  pub gained : after ≡ more before (entry ∷ [])

-- a phase that is to be closed is ended, and its link goes back; the link of an exchange that
-- failed goes back, and its client is given what it is owed; any other phase stays
abbrev pub Settles : {L C : Type 0} → Phase L C → Option (List (Returned L))
    → Option (List (Returned L)) → Phase L C → Type 0
Settles ReadHead before after next = (next ≡ ReadHead) × (after ≡ before)
Settles (Connect context session tries) before after next =
    (next ≡ Connect context session tries) × (after ≡ before)
Settles (Unlinked context session attempts error) before after next =
    (next ≡ Unlinked context session attempts error) × (after ≡ before)
Settles (Prepare context session link lease) before after next =
    (next ≡ Prepare context session link lease) × (after ≡ before)
Settles (Relay a) before after next = (next ≡ Relay a) × (after ≡ before)
Settles (Broken context session link lease keep error) before after next =
    (next ≡ Broken context session link lease keep error) × (after ≡ before)
Settles (Again context session link lease keep error) before after next =
    (attempts : List AttemptRecord) × (next ≡ Connect context session attempts)
    × HandsBack link lease keep (outcome.Served (Some error) false) before after attempts
Settles (Fail link lease keep session error) before after next =
    (attempts : List AttemptRecord) × (next ≡ Answer session (Served error) attempts)
    × HandsBack link lease keep (outcome.Served (Some error) false) before after attempts
Settles (Answer session owed attempts) before after next =
    (next ≡ Answer session owed attempts) × (after ≡ before)
Settles (Close link lease keep outcome) before after next =
    (attempts : List AttemptRecord) × (next ≡ Ended outcome attempts)
    × HandsBack link lease keep outcome before after attempts
Settles (Ended outcome attempts) before after next =
    (next ≡ Ended outcome attempts) × (after ≡ before)

-- a request that has a link gives up, and the link is not kept
pub record GivesLinkUp {L : Type 0}
    (link : L) (lease : Lease) (before after : Option (List (Returned L))) (ending : Ending)
    : Type 0 where
  pub limit : ending.outcome ≡ TurnLimit
  pub back : HandsBack link lease false TurnLimit before after ending.attempts

-- a request whose attempt failed, and whose link was not handed back yet, gives up
pub record GivesFailedUp {L : Type 0}
    (link : L) (lease : Lease) (keep : Bool) (e : Error) (before after : Option (List (Returned L)))
    (ending : Ending) : Type 0 where
  pub limit : ending.outcome ≡ TurnLimit
  pub back : HandsBack link lease keep (outcome.Served (Some e) false) before after
      ending.attempts

-- a request that holds no link gives up, behind those attempts
pub record GivesUp {L : Type 0}
    (attempts : List AttemptRecord) (before after : Option (List (Returned L))) (ending : Ending)
    : Type 0 where
  pub limit : ending.outcome ≡ TurnLimit
  pub made : ending.attempts ≡ attempts
  pub same : after ≡ before

-- how a request is brought to its end, wherever it stands
abbrev pub Finishes : {L C : Type 0} → Phase L C → Option (List (Returned L))
    → Option (List (Returned L)) → Ending → Type 0
Finishes ReadHead before after ending = GivesUp [] before after ending
Finishes (Connect context session tries) before after ending = GivesUp tries before after ending
Finishes (Unlinked context session attempts error) before after ending =
    GivesUp attempts before after ending
Finishes (Prepare context session link lease) before after ending =
    GivesLinkUp link lease before after ending
Finishes (Relay a) before after ending =
    GivesLinkUp (link_of a.value.exchange) a.value.lease before after ending
Finishes (Broken context session link lease keep error) before after ending =
    GivesLinkUp link lease before after ending
Finishes (Again context session link lease keep error) before after ending =
    GivesLinkUp link lease before after ending
Finishes (Fail link lease keep session error) before after ending =
    GivesFailedUp link lease keep error before after ending
Finishes (Answer session owed attempts) before after ending =
    GivesUp attempts before after ending
Finishes (Close link lease keep outcome) before after ending =
    (ending.outcome ≡ outcome) × HandsBack link lease keep outcome before after ending.attempts
Finishes (Ended outcome attempts) before after ending =
    (ending.outcome ≡ outcome) × (ending.attempts ≡ attempts) × (after ≡ before)

-- a request that has ended stays as it is, in the same world
abbrev pub Rests : {L C : Type 0} → World → World → Phase L C → Phase L C → RunStep → Type 0
Rests w x ReadHead next did = Unit {0}
Rests w x (Connect context session tries) next did = Unit {0}
Rests w x (Unlinked context session attempts error) next did = Unit {0}
Rests w x (Prepare context session link lease) next did = Unit {0}
Rests w x (Relay a) next did = Unit {0}
Rests w x (Broken context session link lease keep error) next did = Unit {0}
Rests w x (Again context session link lease keep error) next did = Unit {0}
Rests w x (Fail link lease keep session error) next did = Unit {0}
Rests w x (Answer session owed attempts) next did = Unit {0}
Rests w x (Close link lease keep outcome) next did =
    (next ≡ Close link lease keep outcome) × (did ≡ step.Ended) × (x ≡ w)
Rests w x (Ended outcome attempts) next did =
    (next ≡ Ended outcome attempts) × (did ≡ step.Ended) × (x ≡ w)

module _ {L : Type 0} (state : L → LinkState) (start_at : L → LinkStart) where
  -- an exchange is under way over this link, and all that can be done in it asks a silent link
  pub record IsQuietExchange (s : Start) (p : Passed) (w : World) (link : L) : Type 0 where
    pub exchange : HookedExchange L
    pub is_link : link_of exchange ≡ link
    pub head : RequestHead
    pub sent : RequestHead
    pub relayable : IsRelayable head
    pub sends : Sends s.called head sent
    pub began : List LogEntry
    pub under_way : IsUnderWay state start_at
        (origin_at s head sent (start_at link).reused began) p w.client w.ahead s.called exchange
    pub silent : SilentIn state w.client exchange

  -- an exchange failed over this link, and the client was given a part of what was queued in it
  pub record IsHalfInformed (s : Start) (p : Passed) (w : World) (link : L) : Type 0 where
    pub head : RequestHead
    pub sent : RequestHead
    pub relayable : IsRelayable head
    pub sends : Sends s.called head sent
    pub before : List ℕ
    pub raised : Error
    -- by these calls of its filters, behind those
    pub f : Filtering
    pub began : List LogEntry
    pub stands : StandsIn s.called began f.calls
    pub why : FailsFor f (origin_at s head sent (start_at link).reused began) (past_at p before)
        w.client (state link) (start_at link) raised
    pub part : IsFrontOf p.written (text_of (order_of why)).text
    pub left : p.written ≢ (text_of (order_of why)).text

  -- all that a request asks is silent: without a link the client, that is to give more of an open
  -- head or to take more of a generated answer; with one the exchange, or the client that is to
  -- take more of what it is owed, or of what was queued before another attempt
  abbrev pub IsQuiet : Start → Passed → World → List (Returned L) → Type 0
  IsQuiet s p w [] =
      (IsOpen (asked s p) × (w.client.silent_on_read ≡ true))
      ⊎ (IsHalfGiven state start_at s p w [] × (w.client.silent_on_write ≡ true))
  IsQuiet s p w (r ∷ own) =
      IsQuietExchange s p w r.link
      ⊎ ((IsHalfGiven state start_at s p w (r ∷ own) × (w.client.silent_on_write ≡ true))
      ⊎ (IsHalfInformed s p w r.link × (w.client.silent_on_write ≡ true)))

module _ {L C : Type 0} (state : L → LinkState) (start_at : L → LinkStart) where
  -- a turn that wrote of a generated answer: the attempts stay, and no link is held
  pub record AnswersOn (s : Start) (x : World) (own : List (Returned L))
      (attempts : List AttemptRecord) (next : Phase L C) : Type 0 where
    pub advances : AdvancesOn state start_at s x own next
    pub same : attempts_in next ≡ attempts
    pub unlinked : links_held state start_at next ≡ 0

  -- a turn of a request that has not ended
  abbrev pub TurnOf : Start → World → List (Returned L) → Phase L C → Phase L C → Type 0
  TurnOf s x own ReadHead next = AdvancesOn state start_at s x own next
  TurnOf s x own (Connect context session tries) next = AdvancesOn state start_at s x own next
  TurnOf s x own (Unlinked context session attempts error) next =
      AdvancesOn state start_at s x own next
  TurnOf s x own (Prepare context session link lease) next = AdvancesOn state start_at s x own next
  TurnOf s x own (Relay a) next = AdvancesOn state start_at s x own next
  TurnOf s x own (Broken context session link lease keep error) next =
      AdvancesOn state start_at s x own next ⊎ RepeatsOn state start_at s x next
  TurnOf s x own (Again context session link lease keep error) next =
      AdvancesOn state start_at s x own next
  TurnOf s x own (Fail link lease keep session error) next = AdvancesOn state start_at s x own next
  TurnOf s x own (Close link lease keep outcome) next = Unit {0}
  TurnOf s x own (Answer session owed attempts) next = AnswersOn s x own attempts next
  TurnOf s x own (Ended outcome attempts) next = Unit {0}

  -- the end of a request: what passed is told, and the outcome has its cause
  pub record Ends
      (s : Start) (p : Passed) (w : World) (own : List (Returned L))
      (before after : Option (List (Returned L))) (phase : Phase L C) (ending : Ending)
      : Type 0 where
    pub handed : List (Returned L)
    pub gained : after ≡ more before handed
    pub ended : IsEnded state start_at s p w (own ++ handed) ending.attempts ending.outcome
    -- the connector answered faults for no other request
    pub refused : faults_for (own ++ handed) ending.attempts ≡ faults_before own phase
    -- nor were offers taken for another
    pub offered : offers_for start_at (own ++ handed) ending.attempts
        ≡ offers_before start_at own phase
    -- no link was asked any more
    pub uses : (n : ℕ) → PhaseUses state start_at n own phase
        → OwnUses state start_at n (own ++ handed)
    -- nor was more counted
    pub bounded : (tasks ends : ℕ)
        → PhaseCounts state start_at tasks ends s w.client w.ahead own phase
        → IsWithin tasks ends (most_sides (length ending.attempts)) s w.client
        (OwnGave state start_at (own ++ handed))
    pub quiet : ending.outcome ≡ TurnLimit → IsStalled state start_at w phase
        → IsQuiet state start_at s p w (own ++ handed)
