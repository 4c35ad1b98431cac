-- The attempts of a request that were given no link, as its calls tell them, and when another
-- follows: nothing was sent in them, so each request may be tried again (RFC 9110, section 9.2.2).
-- Those that had a link stand beside them, as they were recorded.
use Rattle.std.specs.Prelude.{◌≡◌, ◌≢◌, ℕ, ◌+◌, ◌<◌, ◌≤◌, false, true, All, drop, List, [], ◌∷◌, ◌++◌, length, map, Option, None, Some, if◌then◌else◌}
use Rattle.relay_tasks.specs.Error.{error_of_fault, may_retry}
use Rattle.relay_tasks.specs.Hooks.{same_hook}
use Rattle.relay_tasks.specs.declared.Error.{Error}
use Rattle.relay_tasks.specs.declared.ErrorSource.{ErrorSource}
use Rattle.relay_tasks.specs.declared.ErrorSource.TheVariants.{Upstream}
use Rattle.relay_tasks.specs.declared.Fault.{Fault}
use Rattle.relay_tasks.specs.declared.Peer.{Peer}
use Rattle.relay_tasks.specs.declared.hook.Hook.TheVariants as hook
use Rattle.relay_tasks.specs.declared.log.Item.{Item}
use Rattle.relay_tasks.specs.declared.log.Item.TheVariants as item
use Rattle.relay_tasks.specs.declared.log.LogEntry.{LogEntry}
use Rattle.relay_connector.specs.Connector.{IsConnectFault, connect_fault}
use Rattle.relay_request.specs.Named.{IsNamed, or_before, peer_of}
use Rattle.relay_request.specs.Passed.{Start}
use Rattle.relay_request.specs.declared.machine.Lease.{Lease}
use Rattle.relay_request.specs.declared.record.AttemptRecord.{AttemptRecord}

-- an error of that side which tells of the fault
abbrev pub fault_error : ErrorSource → Fault → Error
fault_error side fault = record (error_of_fault fault) { esource = side }

-- ---- by the calls of hooks

-- an attempt that was given no link: its peer, the error of which the application was told, and the
-- one that it made of that
pub record Refusal : Type 0 where
  pub peer : Peer
  pub raised : Error
  pub treated : Error

-- the one of which such a call tells, at that peer
abbrev pub refusal_with : Peer → Item → Item → List Refusal
refusal_with peer (item.Failure raised) (item.Failure treated) =
    record { peer = peer; raised = raised; treated = treated } ∷ []
refusal_with peer told answered = []

-- the one of which a call tells, where that peer was named last: `fail_to_connect` alone tells of
-- one
abbrev pub refusal_at : Option Peer → LogEntry → List Refusal
refusal_at None e = []
refusal_at (Some peer) e =
    if same_hook hook.FailToConnect e.hook then refusal_with peer e.input e.output else []

-- those of which calls tell, in order, behind the naming of that peer
abbrev pub refusals_from : Option Peer → List LogEntry → List Refusal
refusals_from peer [] = []
refusals_from peer (e ∷ es) = refusal_at peer e ++ refusals_from (or_before (peer_of e) peer) es

-- and those of a whole log
abbrev pub refusals_in : List LogEntry → List Refusal
refusals_in called = refusals_from None called

-- ---- their records

-- the error as it counts from then on: one of the peer's side
abbrev pub upstream_error : Error → Error
upstream_error treated = record treated { esource = Upstream }

-- the record of an attempt at that peer which was given no link, with that fault, and whose error
-- is that one
abbrev pub unlinked_record : Peer → Fault → Error → AttemptRecord
unlinked_record peer fault e = record {
  peer = peer;
  reused = false;
  kept = false;
  error = Some e;
  fault = Some fault;
}

-- the connector's fault of which an error tells: it has the error's mark
abbrev pub fault_of : Error → Fault
fault_of raised = connect_fault raised.retry

-- the record of one of which a call tells
abbrev pub record_of : Refusal → AttemptRecord
record_of r = unlinked_record r.peer (fault_of r.raised) (upstream_error r.treated)

-- the application was told of the connector's fault
abbrev pub IsRaised : Refusal → Type 0
IsRaised r = r.raised ≡ error_of_fault (fault_of r.raised)

-- all attempts but the last
abbrev pub tries_of : List AttemptRecord → List AttemptRecord
tries_of [] = []
tries_of (a ∷ []) = []
tries_of (a ∷ b ∷ attempts) = a ∷ tries_of (b ∷ attempts)

-- ---- when another follows

-- another attempt may be made behind so many, the last of which failed with that error before
-- anything was sent
abbrev pub MayTry : ℕ → ℕ → Error → Type 0
MayTry most made e = (may_retry e.retry ≡ true) × (made < most)

-- an attempt was refused a link, and what the application made of that lets another follow
pub record IsTry (r : Refusal) : Type 0 where
  pub raised : IsRaised r
  pub again : may_retry r.treated.retry ≡ true

-- the refusals of which the calls tell behind the last attempt that had a link and was tried again
abbrev pub refusals_since : Start → List Refusal
refusals_since s = drop s.refused (refusals_in s.called)

-- how many attempts came before the last: those up to the last that had a link and was tried again,
-- and those of which the calls tell
abbrev pub made_before : Start → ℕ
made_before s = length s.tried + length (refusals_since s)

-- the attempts before another one are those up to the last that had a link and was tried again, and
-- then those of which the calls tell: each was refused so, and one more was allowed
pub record AreTries (s : Start) (tries : List AttemptRecord) : Type 0 where
  pub fits : s.refused ≤ length (refusals_in s.called)
  pub told : tries ≡ s.tried ++ map record_of (refusals_since s)
  pub each : All IsTry (refusals_in s.called)
  pub allowed : tries ≢ [] → length tries < s.most

-- the last attempt of which calls tell that was given no link failed with that error, as the
-- application made it
pub record IsRefusedFor (called : List LogEntry) (e : Error) : Type 0 where
  pub before : List Refusal
  pub last : Refusal
  pub told : refusals_in called ≡ before ++ last ∷ []
  pub raised : IsRaised last
  pub error : e ≡ upstream_error last.treated

-- the attempts of a request whose last one failed with that error, for it was given no link: behind
-- those up to the last that had a link they are those of which the calls tell, and no other one
-- could follow
pub record EndsTrying (s : Start) (attempts : List AttemptRecord) (e : Error) : Type 0 where
  pub refused : IsRefusedFor s.called e
  pub fits : s.refused ≤ length refused.before
  pub told : attempts ≡ s.tried ++ map record_of (refusals_since s)
  pub each : All IsTry refused.before
  pub allowed : tries_of attempts ≢ [] → length (tries_of attempts) < s.most
  pub over : ¬ (MayTry s.most (length attempts) e)

-- behind attempts that another one followed, that was refused a link, and memory was wanted as the
-- application was to be told so
pub record LosesTry (s : Start) (attempts : List AttemptRecord) : Type 0 where
  pub tries : List AttemptRecord
  pub are_tries : AreTries s tries
  pub peer : Peer
  pub named : IsNamed s.called peer
  pub fault : Fault
  pub kind : IsConnectFault fault
  pub attempts_are : attempts
      ≡ tries ++ unlinked_record peer fault (fault_error Upstream fault) ∷ []

-- the attempts before the one that holds this lease
abbrev pub tries_in : Lease → List AttemptRecord
tries_in lease = lease.room.items.items
