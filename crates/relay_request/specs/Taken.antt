-- What a request took of all that its connector has for it: the faults with which it was refused a
-- link, and then its link.
use Rattle.std.specs.Prelude.{◌≡◌, List, [], ◌∷◌, ◌++◌, drop, length, map, Option, Ok, Err}
use Rattle.relay_connector.specs.Connector.{GetResult, Handed, Offer, Takes}
use Rattle.relay_links.specs.Link.{LinkStart}
use Rattle.relay_links.specs.Told.{Gains}
use Rattle.relay_tasks.specs.declared.Fault.{Fault}
use Rattle.relay_connector.specs.declared.Returned.{Returned}
use Rattle.relay_request.specs.Refusals.{faults_for, faults_before, faults_told}
use Rattle.relay_request.specs.Stock.{items_held, items_back}
use Rattle.relay_request.specs.declared.machine.Phase.{Phase}
use Rattle.relay_request.specs.declared.machine.Phase.TheVariants.{ReadHead, Connect, Unlinked, Prepare, Relay, Broken, Again, Fail, Close, Answer, Ended}
use Rattle.relay_request.specs.declared.record.AttemptRecord.{AttemptRecord}

-- what a request took that handed these links back and made these attempts
abbrev pub offers_for : {L : Type 0} → (L → LinkStart) → List (Returned L) → List AttemptRecord
    → List GetResult
offers_for start own attempts =
    map Err (faults_for own attempts) ++ map Ok (items_back start own)

-- what a request took before that phase
abbrev pub offers_before : {L C : Type 0} → (L → LinkStart) → List (Returned L) → Phase L C
    → List GetResult
offers_before start own phase =
    map Err (faults_before own phase) ++ map Ok (items_back start own ++ items_held start phase)

-- what a turn takes: before there is a link what the next phase took more, and then nothing
abbrev pub offers_of_turn : {L C : Type 0} → (L → LinkStart) → Phase L C → Phase L C → List GetResult
offers_of_turn start ReadHead next = offers_before start [] next
offers_of_turn start (Connect context session tries) next =
    drop (length (faults_told tries)) (offers_before start [] next)
offers_of_turn start (Unlinked context session attempts error) next = []
offers_of_turn start (Prepare context session link lease) next = []
offers_of_turn start (Relay a) next = []
offers_of_turn start (Broken context session link lease keep error) next = []
offers_of_turn start (Again context session link lease keep error) next = []
offers_of_turn start (Fail link lease keep session error) next = []
offers_of_turn start (Close link lease keep outcome) next = []
offers_of_turn start (Answer session owed attempts) next = []
offers_of_turn start (Ended outcome attempts) next = []

-- behind those that it had answered, the connector answered the others of all these faults, which
-- its list gained where it tells one; they and then these links were the next that it had
pub record TakesAfter
    (had all : List Fault) (held : List Handed)
    (told_before told_after : Option (List Fault)) (before after : Option (List Offer))
    : Type 0 where
  pub faults : List Fault
  pub are : had ++ faults ≡ all
  pub gained : Gains told_before faults told_after
  pub takes : Takes before (map Err faults ++ map Ok held) after

-- between two phases these were taken, and no others
pub record TakesOn {L C : Type 0} (start : L → LinkStart)
    (before after : Option (List Offer)) (own : List (Returned L)) (phase : Phase L C)
    (now : List (Returned L)) (next : Phase L C) : Type 0 where
  pub taken : List GetResult
  pub takes : Takes before taken after
  pub are : offers_before start own phase ++ taken ≡ offers_before start now next
