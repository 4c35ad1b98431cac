-- The faults of the connector that a turn answered: that with which it refused a link, or none.
use Rattle.std.specs.Global.{Box}
use Rattle.std.proofs.Common.{◌≡◌, ◌⊎◌, ◌+◌, List, [], ◌∷◌, ◌++◌, drop, length, length-append, Option, Some, refl, sym, ap, subst, ◌∙◌, inl, inr, arith, append_assoc}
use Rattle.std.proofs.Math.Seq.{drop-append_seam}
use Rattle.relay_session.specs.declared.session.HttpSession.{HttpSession}
use Rattle.relay_tasks.specs.declared.Error.{Error}
use Rattle.relay_tasks.specs.declared.Fault.{Fault}
use Rattle.relay_tasks.specs.declared.fault.FaultKind.{FaultKind}
use Rattle.relay_connector.specs.Connector.{IsConnectFault, connect_fault}
use Rattle.relay_links.specs.Link.{LinkState, LinkStart}
use Rattle.relay_links.specs.Told.{Gains}
use Rattle.relay_links.proofs.GainsLemmas.{Gains-nothing}
use Rattle.relay_request.specs.Bound.{CountsLink}
use Rattle.relay_request.specs.Refusals.{attempts_in, fault_told, faults_before, faults_told}
use Rattle.relay_request.specs.Turn.{links_held}
use Rattle.relay_request.specs.declared.record.AttemptRecord.{AttemptRecord}
use Rattle.relay_request.specs.declared.work.Work.{Work}
use Rattle.relay_request.specs.declared.machine.Phase.{Phase}
use Rattle.relay_request.specs.declared.machine.Phase.TheVariants.{ReadHead, Connect, Unlinked, Prepare, Relay, Broken, Again, Fail, Close, Answer, Ended}

-- a fault of a connector is the one that has its mark
pub is_its_fault : (fault : Fault) → IsConnectFault fault → connect_fault fault.retry ≡ fault
is_its_fault fault kind =
    ap (λ (k : FaultKind). record { kind = k; retry = fault.retry }) (sym kind)

-- the connector's list stands still where it answered no fault
pub none_added : (faults : List Fault) (before after : Option (List Fault)) → faults ≡ []
    → after ≡ before → Gains before faults after
none_added faults before after none same =
    subst (λ (fs : List Fault). Gains before fs after) (sym none) (Gains-nothing before after same)

-- the faults of attempts, and of those behind them
pub told_append : (tries attempts : List AttemptRecord)
    → faults_told (tries ++ attempts) ≡ faults_told tries ++ faults_told attempts
told_append [] attempts = refl
told_append (a ∷ tries) attempts =
    ap (λ (fs : List Fault). fault_told a.fault ++ fs) (told_append tries attempts)
    ∙ sym (append_assoc (fault_told a.fault) (faults_told tries) (faults_told attempts))

-- those of one attempt more, which was given no link, with that fault
pub told_once : (tries attempts : List AttemptRecord) (a : AttemptRecord) (fault : Fault)
    → attempts ≡ tries ++ a ∷ [] → a.fault ≡ Some fault
    → faults_told attempts ≡ faults_told tries ++ fault ∷ []
told_once tries attempts a fault are is =
    ap (λ (xs : List AttemptRecord). faults_told xs) are ∙ told_append tries (a ∷ [])
    ∙ ap (λ (o : Option Fault). faults_told tries ++ (fault_told o ++ [])) is

-- and those of the phase that follows, in which another attempt is made or its client is answered
pub told_on : {L C : Type 0} (next : Phase L C) (context : C) (session : Box HttpSession)
    (attempts : List AttemptRecord) (e : Error) (told : List Fault)
    → (next ≡ Connect context session attempts) ⊎ (next ≡ Unlinked context session attempts e)
    → faults_told attempts ≡ told → faults_before [] next ≡ told
told_on {L = L} {C = C} next context session attempts e told (inl is) all =
    ap (λ (n : Phase L C). faults_before [] n) is ∙ all
told_on {L = L} {C = C} next context session attempts e told (inr is) all =
    ap (λ (n : Phase L C). faults_before [] n) is ∙ all

-- the turn counts an end, and one attempt more
pub refused_counts : {L C : Type 0} (next : Phase L C) (context : C) (session : Box HttpSession)
    (tries attempts : List AttemptRecord) (a : AttemptRecord) (e : Error) (work : Work)
    → work.moved ≡ 0 → work.ended ≡ 1 → attempts ≡ tries ++ a ∷ []
    → (next ≡ Connect context session attempts) ⊎ (next ≡ Unlinked context session attempts e)
    → CountsLink tries next work
refused_counts {L = L} {C = C} next context session tries attempts a e work moved ended are follows
    =
    let more : length attempts ≡ 1 + length tries =
    omega (
      arith,
      ap (λ (xs : List AttemptRecord). length xs) are,
      length-append tries (a ∷ []),
    ) in
    elim follows [
      | inl is ↦ subst (λ (n : Phase L C). CountsLink tries n work) (sym is) (moved, ended, more)
      | inr is ↦ subst (λ (n : Phase L C). CountsLink tries n work) (sym is) (moved, ended, more)
    ]

-- a request that holds a link was refused those of the attempts before
pub told_before_link : {L C : Type 0} (state : L → LinkState) (start_at : L → LinkStart)
    (tries : List AttemptRecord) (phase : Phase L C) (work : Work) → CountsLink tries phase work
    → links_held state start_at phase ≡ 1 → faults_before [] phase ≡ faults_told tries
told_before_link state start_at tries ReadHead work counts held = absurd counts
told_before_link state start_at tries (Connect context session again) work counts held = cc
told_before_link state start_at tries (Unlinked context session attempts error) work counts held =
    cc
told_before_link state start_at tries (Prepare context session link lease) work counts held =
    ap (λ (xs : List AttemptRecord). faults_told xs) counts.2
told_before_link state start_at tries (Relay a) work counts held = absurd counts
told_before_link state start_at tries (Broken context session link lease keep error) work counts
    held =
    ap (λ (xs : List AttemptRecord). faults_told xs) counts.2
told_before_link state start_at tries (Again context session link lease keep error) work counts
    held =
    absurd counts
told_before_link state start_at tries (Fail link lease keep session error) work counts held =
    absurd counts
told_before_link state start_at tries (Close link lease keep outcome) work counts held =
    ap (λ (xs : List AttemptRecord). faults_told xs) counts.2
told_before_link state start_at tries (Answer session owed attempts) work counts held = cc
told_before_link state start_at tries (Ended outcome attempts) work counts held = cc

-- the faults behind those that were told before are the others
pub others_told : (had faults all : List Fault) → had ++ faults ≡ all
    → faults ≡ drop (length had) all
others_told had faults all are =
    sym (drop-append_seam had faults) ∙ ap (λ (fs : List Fault). drop (length had) fs) are

-- a request that made no attempt was refused no link
pub none_unmade : {L C : Type 0} (phase : Phase L C) → attempts_in phase ≡ []
    → faults_before [] phase ≡ []
none_unmade phase none = rw none refl
