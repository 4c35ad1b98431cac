-- The faults with which the connector refused a request its links.
use Rattle.std.specs.Prelude.{◌≡◌, List, [], ◌∷◌, ◌++◌, drop, length, Option, None, Some}
use Rattle.relay_tasks.specs.declared.Fault.{Fault}
use Rattle.relay_links.specs.Told.{Gains}
use Rattle.relay_connector.specs.declared.Returned.{Returned}
use Rattle.relay_request.specs.Tries.{tries_in, tries_of}
use Rattle.relay_request.specs.declared.machine.Phase.{Phase}
use Rattle.relay_request.specs.declared.machine.Phase.TheVariants.{ReadHead, Connect, Unlinked, Prepare, Relay, Broken, Again, Fail, Close, Answer, Ended}
use Rattle.relay_request.specs.declared.record.AttemptRecord.{AttemptRecord}

-- the fault of a record, where it has one
abbrev pub fault_told : Option Fault → List Fault
fault_told None = []
fault_told (Some fault) = fault ∷ []

-- those of attempts, in order
abbrev pub faults_told : List AttemptRecord → List Fault
faults_told [] = []
faults_told (a ∷ attempts) = fault_told a.fault ++ faults_told attempts

-- the faults that the connector answered for a request, by the links that it handed back and its
-- attempts: of one that handed a link back the last attempt had it
abbrev pub faults_for : {L : Type 0} → List (Returned L) → List AttemptRecord → List Fault
faults_for [] attempts = faults_told attempts
faults_for (r ∷ own) attempts = faults_told (tries_of attempts)

-- the attempts that a phase has recorded: those before its own
abbrev pub attempts_in : {L C : Type 0} → Phase L C → List AttemptRecord
attempts_in ReadHead = []
attempts_in (Connect context session tries) = tries
attempts_in (Unlinked context session attempts error) = attempts
attempts_in (Prepare context session link lease) = tries_in lease
attempts_in (Relay a) = tries_in a.value.lease
attempts_in (Broken context session link lease keep error) = tries_in lease
attempts_in (Again context session link lease keep error) = tries_in lease
attempts_in (Fail link lease keep session error) = tries_in lease
attempts_in (Close link lease keep outcome) = tries_in lease
attempts_in (Answer session owed attempts) = attempts
attempts_in (Ended outcome attempts) = attempts

-- the faults that the connector answered before that phase
abbrev pub faults_before : {L C : Type 0} → List (Returned L) → Phase L C → List Fault
faults_before own phase = faults_for own (attempts_in phase)

-- the faults of a turn: where a link is asked for those that the next phase has more, and else none
abbrev pub faults_of_turn : {L C : Type 0} → Phase L C → Phase L C → List Fault
faults_of_turn ReadHead next = faults_before [] next
faults_of_turn (Connect context session tries) next =
    drop (length (faults_told tries)) (faults_before [] next)
faults_of_turn (Unlinked context session attempts error) next = []
faults_of_turn (Prepare context session link lease) next = []
faults_of_turn (Relay a) next = []
faults_of_turn (Broken context session link lease keep error) next = []
faults_of_turn (Again context session link lease keep error) next = []
faults_of_turn (Fail link lease keep session error) next = []
faults_of_turn (Close link lease keep outcome) next = []
faults_of_turn (Answer session owed attempts) next = []
faults_of_turn (Ended outcome attempts) next = []

-- between two phases the connector answered these faults and no others; its list gained them, where
-- it tells one
pub record AnswersFaults {L C : Type 0}
    (before after : Option (List Fault)) (own : List (Returned L)) (phase : Phase L C)
    (now : List (Returned L)) (next : Phase L C) : Type 0 where
  pub faults : List Fault
  pub gained : Gains before faults after
  pub are : faults_before own phase ++ faults ≡ faults_before now next
