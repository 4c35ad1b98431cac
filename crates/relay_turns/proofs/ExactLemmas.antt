-- Each cause excludes the others, so that where one stands the outcome is its own.
use Rattle.std.proofs.Common.{◌≡◌, ◌≢◌, ℕ, ◌⊎◌, Bool, true, false, List, [], ◌∷◌, ◌++◌, Option, Some, None, refl, sym, ap, subst, ◌∙◌, inl, inr, lit<, true≢false}
use Rattle.std.specs.Prelude.{All}
use Rattle.std.proofs.lemmas.List.Elements.{All-head, All-tail}
use Rattle.relay_tasks.specs.Head.{RequestHead}
use Rattle.relay_tasks.specs.declared.Error.{Error}
use Rattle.relay_links.specs.Count.{Rose}
use Rattle.relay_links.specs.Link.{LinkState, LinkStart}
use Rattle.relay_connector.specs.declared.Returned.{Returned}
use Rattle.relay_tasks.specs.declared.Context.{Context}
use Rattle.relay_authority.specs.Entry.{Entered}
use Rattle.relay_authority.proofs.OneAnswer.{Entered-unique}
use Rattle.relay_h1.specs.Verdict.{IsOpen, HasRequest, IsRefusedRequest}
use Rattle.relay_h1.specs.declared.framing.Framing.{Framing}
use Rattle.relay_h1.proofs.VerdictLemmas.{HasRequest-IsOpen, IsRefusedRequest-IsOpen, HasRequest-IsRefusedRequest, HasRequest-unique}
use Rattle.relay_tasks.specs.declared.log.LogEntry.{LogEntry}
use Rattle.relay_phases.specs.Order.{Accepts, Station}
use Rattle.relay_phases.specs.Order.{Station as station}
use Rattle.relay_attempt.specs.Agrees.{Agrees, AsksAlike}
use Rattle.relay_attempt.specs.Passed.{Passed}
use Rattle.relay_valid.specs.Unfit.{IsUnfit}
use Rattle.relay_valid.specs.Valid.{AsksFor, AnswersWith, IsValid}
use Rattle.relay_valid.proofs.AskedLemmas.{asks_head, asks_unrefused, valid_over}
use Rattle.relay_hooked.specs.Calls.{Filtering, IsFilter}
use Rattle.relay_hooked.specs.Neutral.{AreNeutral, LeavesIt}
use Rattle.relay_hooked.specs.Order.{FailsFor, order_of}
use Rattle.relay_still.proofs.EarlyLemmas.{early_fit}
use Rattle.relay_still.proofs.FitLemmas.{relayed_fit}
use Rattle.relay_request.specs.Ahead.{IsOwedAhead, LetsGo, goes_on}
use Rattle.relay_request.specs.Answer.{past_at}
use Rattle.relay_request.specs.Relayable.{IsAccepted, IsConnect, IsRelayable, NamesUpgrade}
use Rattle.relay_request.specs.Sent.{Sends, RefusesToSend}
use Rattle.relay_request.specs.Passed.{World, Start, StandsIn, origin_at, origin_of, asked}
use Rattle.relay_request.specs.Endings as endings
use Rattle.relay_request.specs.Endings.{IsTurnedDown, IsLeftAlone, EndsUnlinked, EndsLinked, EndsAhead, IsEnded}
use Rattle.relay_request.specs.Exact.{IsUnfinished, IsRefusal, IsLeft, IsMissed, IsExact, LeaveAll, PassesHooks, is_filter}
use Rattle.relay_request.specs.declared.outcome.Outcome.{Outcome}
use Rattle.relay_request.specs.declared.outcome.Outcome.TheVariants.{NoRequest, Refused, Served, TurnLimit, OutOfMemory}
use Rattle.relay_request.specs.declared.record.AttemptRecord.{AttemptRecord}
use Rattle.relay_turns.proofs.AnswerSteps.{owed_head}
use Rattle.relay_turns.proofs.OpenHead.{turns_down_open}
use Rattle.relay_request.proofs.TreatLemmas.{LetsAt, lets_at}

-- no bytes are an open head
open_nothing : IsOpen []
open_nothing = record { no_end = refl; may_end = lit< tt }

-- a head in no bytes
has_nothing : {bytes : List ℕ} {head : RequestHead} {framing : Framing} {len : ℕ}
    → HasRequest bytes head framing len → bytes ≡ [] → ⊥
has_nothing {bytes} {head} {framing} {len} has none =
    HasRequest-IsOpen [] head framing len
    (subst (λ (xs : List ℕ). HasRequest xs head framing len) none has) open_nothing

-- a generated answer to no bytes
turns_down_nothing : {bytes answer : List ℕ} {error : Option Error}
    → IsTurnedDown bytes answer error → bytes ≡ [] → ⊥
turns_down_nothing (endings.IsTurnedDown.has_bad_head why refused is told) none =
    IsRefusedRequest-IsOpen [] why
    (subst (λ (xs : List ℕ). IsRefusedRequest xs why) none refused) open_nothing
turns_down_nothing
    (endings.IsTurnedDown.is_not_entered head framing len why has refused is told) none =
    has_nothing has none
turns_down_nothing
    (endings.IsTurnedDown.asks_to_connect head framing len has entered connect is told) none =
    has_nothing has none

-- a head that the entry check refuses, and one that passes it
enters_or_not : (head : RequestHead) (why : Context) → Entered head (Some why) → Entered head None
    → ⊥
enters_or_not head why refused entered =
    apart (Entered-unique head (Some why) None refused entered)
  where
    apart : Some why ≡ None → ⊥
    apart same = cc

-- a generated answer to a head that is valid, passes the entry check and asks for no tunnel
turns_down_other : {bytes answer : List ℕ} {error : Option Error} (head : RequestHead)
    (framing : Framing) (len : ℕ) → IsTurnedDown bytes answer error
    → HasRequest bytes head framing len → Entered head None → ¬ (IsConnect head) → ⊥
turns_down_other {bytes} head framing len
    (endings.IsTurnedDown.has_bad_head why refused is told) has entered no_connect =
    HasRequest-IsRefusedRequest bytes head framing len why has refused
turns_down_other {bytes} head framing len
    (endings.IsTurnedDown.is_not_entered a f n why x refused is told) has entered no_connect =
    enters_or_not head why (subst (λ (h : RequestHead). Entered h (Some why))
    (HasRequest-unique bytes a head f framing n len x has).0 refused) entered
turns_down_other {bytes} head framing len
    (endings.IsTurnedDown.asks_to_connect a f n x passed connect is told) has entered no_connect =
    no_connect (subst (λ (h : RequestHead). IsConnect h)
    (HasRequest-unique bytes a head f framing n len x has).0 connect)

-- a head that is relayed and one that names Upgrade
relayable_or_not : {bytes : List ℕ} {a b : RequestHead} {f g : Framing} {n m : ℕ}
    → HasRequest bytes a g n → IsRelayable a → HasRequest bytes b f m → NamesUpgrade b → ⊥
relayable_or_not {bytes} {a} {b} {f} {g} {n} {m} x relayable y upgrade =
    relayable.no_upgrade (subst (λ (h : RequestHead). NamesUpgrade h)
    (sym (HasRequest-unique bytes a b g f n m x y).0) upgrade)

-- a true flag is not false
not_both : {b : Bool} → b ≡ true → b ≡ false → ⊥
not_both on off = absurd (true_false (sym on ∙ off))
  where
    true_false : true ≡ false → ⊥
    true_false h = cc

-- the other way round, of a request that had no link
exact_no_request : (s : Start) (p : Passed) (w : World) (outcome : Outcome)
    → EndsUnlinked s p w outcome → asked s p ≡ [] → w.client.ended ≡ true
    → IsUnfinished outcome ⊎ (outcome ≡ NoRequest)
exact_no_request s p w NoRequest ends none ended = inr refl
exact_no_request s p w (Refused error) ends none ended =
    absurd (elim ends as (λ _. ⊥) [
      | inl answered ↦ turns_down_nothing answered.turned_down none
      | inr other ↦ elim other as (λ _. ⊥) [
        | inl alone ↦ left_nothing alone.why
        | inr fault ↦ elim fault.place as (λ _. ⊥) [
          | inl inside ↦ not_both ended inside.ended
          | inr refusing ↦ turns_down_nothing refusing.unfinished.turned_down none
        ]
      ]
    ])
  where
    left_nothing : {e : Error} → IsLeftAlone s p w e → ⊥
    left_nothing (endings.IsLeftAlone.ends_in_head inside is) = inside.begun none
    left_nothing (endings.IsLeftAlone.is_unrelayable unrelayable is) =
        has_nothing unrelayable.has none
exact_no_request s p w (Served None reuse) ends none ended =
    absurd (has_nothing (owed_head ends.ends.why ends.ends.text ends.ends.owed).1.has none)
exact_no_request s p w (Served (Some e) reuse) ends none ended =
    absurd (elim ends.0 as (λ _. ⊥) [
      | inl missed ↦ has_nothing missed.owed.unconnected.accepted.has none
      | inr ahead ↦ has_nothing (owed_head ahead.why ahead.text ahead.owed).1.has none
    ])
exact_no_request s p w TurnLimit ends none ended = inl (inl refl)
exact_no_request s p w OutOfMemory ends none ended = inl (inr refl)

-- a head that is turned down is not left alone
turned_down_or_left : {s : Start} {p : Passed} {w : World} {answer : List ℕ}
    {error : Option Error} {e : Error} → IsTurnedDown (asked s p) answer error
    → IsLeftAlone s p w e → ⊥
turned_down_or_left down (endings.IsLeftAlone.ends_in_head inside is) =
    turns_down_open down inside.open_head
turned_down_or_left down (endings.IsLeftAlone.is_unrelayable unrelayable is) =
    turns_down_other unrelayable.head unrelayable.framing unrelayable.len down
    unrelayable.has unrelayable.entered unrelayable.no_connect

-- nor is it accepted
turned_down_or_accepted : {s : Start} {p : Passed} {answer : List ℕ} {error : Option Error}
    → IsTurnedDown (asked s p) answer error → (head : RequestHead) → IsAccepted s p head → ⊥
turned_down_or_accepted down head accepted =
    turns_down_other head accepted.framing accepted.len down accepted.has
    accepted.relayable.entered accepted.relayable.method

-- the generated answer is one
one_answer : {bytes a b : List ℕ} {d e : Option Error}
    → IsTurnedDown bytes a d → IsTurnedDown bytes b e → a ≡ b
one_answer (endings.IsTurnedDown.has_bad_head why refused is told)
    (endings.IsTurnedDown.has_bad_head why2 refused2 is2 told2) = is ∙ sym is2
one_answer (endings.IsTurnedDown.has_bad_head why refused is told)
    (endings.IsTurnedDown.is_not_entered head framing len why2 has refused2 is2 told2) =
    is ∙ sym is2
one_answer {bytes} (endings.IsTurnedDown.has_bad_head why refused is told)
    (endings.IsTurnedDown.asks_to_connect head framing len has entered connect is2 told2) =
    absurd (HasRequest-IsRefusedRequest bytes head framing len why has refused)
one_answer (endings.IsTurnedDown.is_not_entered head framing len why2 has refused is told)
    (endings.IsTurnedDown.has_bad_head why refused2 is2 told2) = is ∙ sym is2
one_answer (endings.IsTurnedDown.is_not_entered head framing len why has refused is told)
    (endings.IsTurnedDown.is_not_entered head2 framing2 len2 why2 has2 refused2 is2 told2) =
    is ∙ sym is2
one_answer {bytes} (endings.IsTurnedDown.is_not_entered head framing len why has refused is told)
    (endings.IsTurnedDown.asks_to_connect head2 framing2 len2 has2 entered connect is2 told2) =
    absurd (enters_or_not head2 why (subst (λ (h : RequestHead). Entered h (Some why))
    (HasRequest-unique bytes head head2 framing framing2 len len2 has has2).0 refused) entered)
one_answer {bytes} (endings.IsTurnedDown.asks_to_connect head framing len has entered connect is
    told)
    (endings.IsTurnedDown.has_bad_head why refused is2 told2) =
    absurd (HasRequest-IsRefusedRequest bytes head framing len why has refused)
one_answer {bytes} (endings.IsTurnedDown.asks_to_connect head framing len has entered connect is
    told)
    (endings.IsTurnedDown.is_not_entered head2 framing2 len2 why has2 refused is2 told2) =
    absurd (enters_or_not head why (subst (λ (h : RequestHead). Entered h (Some why))
    (HasRequest-unique bytes head2 head framing2 framing len2 len has2 has).0 refused) entered)
one_answer (endings.IsTurnedDown.asks_to_connect head framing len has entered connect is told)
    (endings.IsTurnedDown.asks_to_connect head2 framing2 len2 has2 entered2 connect2 is2 told2) =
    is ∙ sym is2

-- a head that is turned down and answered whole is a refusal, where the request is finished
exact_refused : (s : Start) (p : Passed) (w : World) (outcome : Outcome)
    → EndsUnlinked s p w outcome → (answer : List ℕ) (error : Option Error)
    → IsTurnedDown (asked s p) answer error → p.written ≡ answer
    → IsUnfinished outcome ⊎ IsRefusal s p outcome
exact_refused s p w NoRequest ends answer error down whole =
    absurd (turns_down_nothing down ends.no_byte)
exact_refused s p w (Refused told) ends answer error down whole =
    elim ends as (λ _. IsUnfinished (Refused told) ⊎ IsRefusal s p (Refused told)) [
      | inl answered ↦ inr (record {
        answer = answered.answer;
        error = told;
        turned_down = answered.turned_down;
        is = refl;
      })
      | inr other ↦ absurd (elim other as (λ _. ⊥) [
        | inl alone ↦ turned_down_or_left down alone.why
        | inr fault ↦ elim fault.place as (λ _. ⊥) [
          | inl inside ↦ turns_down_open down inside.open_head
          | inr refusing ↦
              refusing.unfinished.left (whole ∙ one_answer down refusing.unfinished.turned_down)
        ]
      ])
    ]
exact_refused s p w (Served None reuse) ends answer error down whole =
    let one = owed_head ends.ends.why ends.ends.text ends.ends.owed in
    absurd (turned_down_or_accepted down one.0 one.1)
exact_refused s p w (Served (Some e) reuse) ends answer error down whole =
    absurd (elim ends.0 as (λ _. ⊥) [
      | inl missed ↦
          turned_down_or_accepted down missed.owed.unconnected.head missed.owed.unconnected.accepted
      | inr ahead ↦
          let one = owed_head ahead.why ahead.text ahead.owed in
          turned_down_or_accepted down one.0 one.1
    ])
exact_refused s p w TurnLimit ends answer error down whole = inl (inl refl)
exact_refused s p w OutOfMemory ends answer error down whole = inl (inr refl)

-- a head that is accepted is not left alone
relayed_or_not : {s : Start} {p : Passed} {w : World} {e : Error} (head : RequestHead)
    → IsAccepted s p head → IsLeftAlone s p w e → ⊥
relayed_or_not {s} {p} head accepted (endings.IsLeftAlone.ends_in_head inside is) =
    HasRequest-IsOpen (asked s p) head accepted.framing accepted.len accepted.has inside.open_head
relayed_or_not head accepted (endings.IsLeftAlone.is_unrelayable unrelayable is) =
    relayable_or_not accepted.has accepted.relayable unrelayable.has unrelayable.upgrade

-- nor is one that hooks ended
ahead_or_left : {s : Start} {p : Passed} {w : World} {told : Option Error} {e : Error}
    → EndsAhead s p w told → IsLeftAlone s p w e → ⊥
ahead_or_left ends cause =
    let one = owed_head ends.why ends.text ends.owed in relayed_or_not one.0 one.1 cause

-- a head that is left alone is left so, where the request is finished
exact_unrelayed : (s : Start) (p : Passed) (w : World) (outcome : Outcome)
    → EndsUnlinked s p w outcome → (e : Error) → IsLeftAlone s p w e
    → IsUnfinished outcome ⊎ IsLeft s p w outcome
exact_unrelayed s p w NoRequest ends e (endings.IsLeftAlone.ends_in_head inside is) =
    absurd (inside.begun ends.no_byte)
exact_unrelayed s p w NoRequest ends e (endings.IsLeftAlone.is_unrelayable unrelayable is) =
    absurd (has_nothing unrelayable.has ends.no_byte)
exact_unrelayed s p w (Refused told) ends e cause =
    elim ends as (λ _. IsUnfinished (Refused told) ⊎ IsLeft s p w (Refused told)) [
      | inl answered ↦ absurd (turned_down_or_left answered.turned_down cause)
      | inr other ↦ elim other as (λ _. IsUnfinished (Refused told) ⊎ IsLeft s p w (Refused told)) [
        | inl alone ↦ inr (record {
          e = alone.e;
          why = alone.why;
          is = ap (λ (x : Option Error). Refused x) alone.is;
        })
        | inr fault ↦ absurd (elim fault.place as (λ _. ⊥) [
          | inl inside ↦ fails_or_left inside.ended inside.open_head cause
          | inr refusing ↦ turned_down_or_left refusing.unfinished.turned_down cause
        ])
      ]
    ]
  where
    fails_or_left : {e : Error} → w.client.ended ≡ false
        → IsOpen (asked s p) → IsLeftAlone s p w e → ⊥
    fails_or_left live open_head (endings.IsLeftAlone.ends_in_head inside is) =
        not_both inside.ended live
    fails_or_left live open_head (endings.IsLeftAlone.is_unrelayable unrelayable is) =
        HasRequest-IsOpen (asked s p) unrelayable.head unrelayable.framing unrelayable.len
        unrelayable.has open_head
exact_unrelayed s p w (Served None reuse) ends e cause = absurd (ahead_or_left ends.ends cause)
exact_unrelayed s p w (Served (Some told) reuse) ends e cause =
    absurd (elim ends.0 as (λ _. ⊥) [
      | inl missed ↦
          relayed_or_not missed.owed.unconnected.head missed.owed.unconnected.accepted cause
      | inr ahead ↦ ahead_or_left ahead cause
    ])
exact_unrelayed s p w TurnLimit ends e cause = inl (inl refl)
exact_unrelayed s p w OutOfMemory ends e cause = inl (inr refl)

-- ---- a request that had a link

-- a head of the client's bytes
record IsHeadOf (s : Start) (p : Passed) (head : RequestHead) : Type 0 where
  framing : Framing
  len : ℕ
  has : HasRequest (asked s p) head framing len

-- the head of an attempt that failed is that of the client's bytes
failed_head : (s : Start) (p : Passed) (head sent : RequestHead) (reused : Bool)
    (began : List LogEntry) {f : Filtering} {client link : LinkState} {start : LinkStart}
    {e : Error}
    → FailsFor f (origin_at s head sent reused began) p client link start e → IsHeadOf s p head
failed_head s p head sent reused began why =
    let asks = (order_of why).asks in
    record { framing = asks.framing; len = asks.len; has = asks.has }

-- the head of a request that had a link, and was not left unfinished
linked_head : (s : Start) (p : Passed) (w : World) (link : LinkState) (start : LinkStart)
    (keep : Bool) (told : Option Error) (outcome : Outcome)
    → EndsLinked s p w link start keep told outcome
    → IsUnfinished outcome ⊎ ((head : RequestHead) × IsAccepted s p head)
linked_head s p w link start keep told NoRequest ends = absurd ends
linked_head s p w link start keep told (Refused error) ends = absurd ends
linked_head s p w link start keep told (Served None reuse) (inr ends) =
    let asks = ends.early.order.asks in
    inr (
      ends.head,
      record { framing = asks.framing; len = asks.len; has = asks.has; relayable = ends.relayable },
    )
linked_head s p w link start keep told (Served None reuse) (inl ends) =
    let asks = ends.relayed.order.asks in
    inr (
      ends.head,
      record { framing = asks.framing; len = asks.len; has = asks.has; relayable = ends.relayable },
    )
linked_head s p w link start keep told (Served (Some e) reuse) (inl ends) =
    let f = ends.failed in
    let own = failed_head s (past_at p f.before) f.head f.sent start.reused f.began f.why in
    inr (
      f.head,
      record { framing = own.framing; len = own.len; has = own.has; relayable = f.relayable },
    )
linked_head s p w link start keep told (Served (Some e) reuse) (inr ends) =
    inr (ends.refused.head, ends.refused.accepted)
linked_head s p w link start keep told TurnLimit ends = inl (inl refl)
linked_head s p w link start keep told OutOfMemory ends = inl (inr refl)

-- two heads of the client's bytes are one
one_head : {s : Start} {p : Passed} {a b : RequestHead}
    → IsAccepted s p a → IsAccepted s p b → a ≡ b
one_head {s} {p} {a} {b} x y =
    (HasRequest-unique (asked s p) a b x.framing y.framing x.len y.len x.has y.has).0

-- what holds of all holds of those behind others, and of those in front of them
rest_all : (P : LogEntry → Type 0) (front rest : List LogEntry) → All P (front ++ rest)
    → All P rest
rest_all P [] rest all = all
rest_all P (e ∷ front) rest all =
    rest_all P front rest (All-tail P e (front ++ rest) all)

front_neutral : (calls after : List LogEntry) → LeaveAll (calls ++ after) → All IsFilter calls
    → AreNeutral calls
front_neutral [] after all filters = tt
front_neutral (e ∷ calls) after all filters = (
  All-head (λ x. is_filter x ≡ true → LeavesIt x) e (calls ++ after) all
      (All-head IsFilter e calls filters),
  front_neutral calls after
      (All-tail (λ x. is_filter x ≡ true → LeavesIt x) e (calls ++ after) all)
      (All-tail IsFilter e calls filters),
)

-- where the filters of a log changed nothing, those of an exchange that stand in it did not
neutral_in : (called began calls : List LogEntry) → StandsIn called began calls
    → All IsFilter calls → LeaveAll called → AreNeutral calls
neutral_in called began calls stands filters all =
    front_neutral calls stands.after
    (rest_all (λ e. is_filter e ≡ true → LeavesIt e) began (calls ++ stands.after)
    (subst (λ (l : List LogEntry). LeaveAll l) stands.called_are all)) filters

-- an unfit response is missed, where the request is finished and its filters changed nothing
exact_unfit : (s : Start) (p : Passed) (w : World) (link : LinkState) (start : LinkStart)
    (keep : Bool) (told : Option Error) (outcome : Outcome)
    → EndsLinked s p w link start keep told outcome → (head : RequestHead) → IsAccepted s p head
    → LeaveAll s.called
    → ((sent : RequestHead) → Sends s.called head sent → AsksAlike head sent)
    → ((sent : RequestHead) → Sends s.called head sent → IsUnfit sent.method false p.got link.ended)
    → IsUnfinished outcome ⊎ IsMissed outcome
exact_unfit s p w link start keep told NoRequest ends head accepted left alike unfit = absurd ends
exact_unfit s p w link start keep told (Refused error) ends head accepted left alike unfit =
    absurd ends
exact_unfit s p w link start keep told (Served None reuse) (inl ends) head accepted left alike
    unfit =
    let asks = ends.relayed.order.asks in
    let own : IsAccepted s p ends.head =
    record { framing = asks.framing; len = asks.len; has = asks.has; relayable = ends.relayable } in
    absurd (relayed_fit ends.f (origin_at s ends.head ends.sent start.reused ends.began) p link
    start ends.relayed
    (neutral_in s.called ends.began ends.f.calls ends.stands ends.relayed.order.are_filters left)
    (unfit ends.sent (subst (λ (h : RequestHead). Sends s.called h ends.sent)
    (sym (one_head accepted own)) ends.sends)))
exact_unfit s p w link start keep told (Served None reuse) (inr ends) head accepted left alike
    unfit =
    let asks = ends.early.order.asks in
    let own : IsAccepted s p ends.head =
    record { framing = asks.framing; len = asks.len; has = asks.has; relayable = ends.relayable } in
    let same = one_head accepted own in
    let sends : Sends s.called head ends.sent =
    subst (λ (h : RequestHead). Sends s.called h ends.sent) (sym same) ends.sends in
    absurd (early_fit ends.f (origin_at s ends.head ends.sent start.reused ends.began) p link start
    ends.early
    (neutral_in s.called ends.began ends.f.calls ends.stands ends.early.order.are_filters left)
    (subst (λ (h : RequestHead). AsksAlike h ends.sent) same (alike ends.sent sends))
    (unfit ends.sent sends))
exact_unfit s p w link start keep told (Served (Some e) reuse) (inl ends) head accepted left alike
    unfit =
    inr (e, ap (λ (b : Bool). Served (Some e) b) ends.stays)
exact_unfit s p w link start keep told (Served (Some e) reuse) (inr ends) head accepted left alike
    unfit =
    inr (e, ap (λ (b : Bool). Served (Some e) b) ends.stays)
exact_unfit s p w link start keep told TurnLimit ends head accepted left alike unfit =
    inl (inl refl)
exact_unfit s p w link start keep told OutOfMemory ends head accepted left alike unfit =
    inl (inr refl)

-- ---- valid exchanges

-- a request that is relayed is not turned down, as far as it has come
asks_not_refused : (s : Start) (p : Passed) (w : World) {answer : List ℕ} {error : Option Error}
    (head : RequestHead) → IsRelayable head → AsksFor (origin_of s head head false) p w.client
    → IsTurnedDown (asked s p) answer error → ⊥
asks_not_refused s p w head relayable asks (endings.IsTurnedDown.has_bad_head why refused is told) =
    asks_unrefused (origin_of s head head false) p w.client why asks refused
asks_not_refused s p w head relayable asks
    (endings.IsTurnedDown.is_not_entered other framing len why has refused is told) =
    enters_or_not head why (subst (λ (h : RequestHead). Entered h (Some why))
    (asks_head (origin_of s head head false) p w.client other framing len asks has) refused)
    relayable.entered
asks_not_refused s p w head relayable asks
    (endings.IsTurnedDown.asks_to_connect other framing len has entered connect is told) =
    relayable.method (subst (λ (h : RequestHead). IsConnect h)
    (asks_head (origin_of s head head false) p w.client other framing len asks has) connect)

-- a request that is relayed is not left alone
asks_not_left : (s : Start) (p : Passed) (w : World) {e : Error} (head : RequestHead)
    → IsRelayable head → AsksFor (origin_of s head head false) p w.client → IsLeftAlone s p w e → ⊥
asks_not_left s p w head relayable asks (endings.IsLeftAlone.ends_in_head inside is) =
    not_both inside.ended asks.stays
asks_not_left s p w head relayable asks (endings.IsLeftAlone.is_unrelayable unrelayable is) =
    relayable.no_upgrade (subst (λ (h : RequestHead). NamesUpgrade h)
    (asks_head (origin_of s head head false) p w.client unrelayable.head unrelayable.framing
    unrelayable.len asks unrelayable.has) unrelayable.upgrade)

-- the calls of a log lead to one station
one_station : (called : List LogEntry) (a b : Station) → Accepts station.accepted called a
    → Accepts station.accepted called b → a ≢ b → ⊥
one_station called a b at_a at_b other =
    let same : Some a ≡ Some b = sym at_a ∙ at_b in other (cc)

-- where the request goes on it does not stand where it ends
not_there : (a b : Station) → goes_on a ≡ false → goes_on b ≡ true → a ≢ b
not_there a b stops goes same =
    true≢false (sym goes ∙ ap (λ (x : Station). goes_on x) (sym same) ∙ stops)

-- hooks that let the request go did not end it
ahead_or_at : (s : Start) (p : Passed) (why : Option Error) (text : List ℕ)
    → IsOwedAhead s p why text → LetsAt s.called → ⊥
ahead_or_at s p why text
    (IsOwedAhead.by_answer head tasks t has order is_answer is) lets =
    one_station s.called station.answered lets.at order lets.order
    (not_there station.answered lets.at refl lets.goes)
ahead_or_at s p why text
    (IsOwedAhead.by_error head e t has stops told is) lets =
    one_station s.called station.failing lets.at stops.order lets.order
    (not_there station.failing lets.at refl lets.goes)

pub lets_pass : (s : Start) (p : Passed) (w : World) → LetsGo s.called → PassesHooks s p w
lets_pass s p w lets told ahead =
    ahead_or_at s p ahead.why ahead.text ahead.owed (lets_at s.called lets ahead.untreated)

-- a valid request that had no link is served, where it is finished and no fault was met
whole_unlinked : (s : Start) (p : Passed) (w : World) (outcome : Outcome)
    → EndsUnlinked s p w outcome → (head : RequestHead) → IsRelayable head
    → PassesHooks s p w → AsksFor (origin_of s head head false) p w.client
    → ¬ (Rose s.faults w.client.faults) → ¬ (Rose s.connect_faults w.connect_faults)
    → IsUnfinished outcome ⊎ ((reuse : Bool) × (outcome ≡ Served None reuse))
whole_unlinked s p w NoRequest ends head relayable passes asks client connector =
    absurd (not_both ends.ended asks.stays)
whole_unlinked s p w (Refused error) ends head relayable passes asks client connector =
    absurd (elim ends as (λ _. ⊥) [
      | inl answered ↦ asks_not_refused s p w head relayable asks answered.turned_down
      | inr other ↦ elim other as (λ _. ⊥) [
        | inl alone ↦ asks_not_left s p w head relayable asks alone.why
        | inr fault ↦ client fault.rose
      ]
    ])
whole_unlinked s p w (Served None reuse) ends head relayable passes asks client connector =
    absurd (passes None ends.ends)
whole_unlinked s p w (Served (Some e) reuse) ends head relayable passes asks client connector =
    absurd (elim ends.0 as (λ _. ⊥) [
      | inl missed ↦ connector missed.owed.unconnected.rose
      | inr ahead ↦ passes (Some e) ahead
    ])
whole_unlinked s p w TurnLimit ends head relayable passes asks client connector = inl (inl refl)
whole_unlinked s p w OutOfMemory ends head relayable passes asks client connector = inl (inr refl)

-- what the client asks for does not depend on what is sent of it
asks_still : (s : Start) (p : Passed) (w : World) (head sent : RequestHead)
    → AsksFor (origin_of s head head false) p w.client
    → AsksFor (origin_of s head sent false) p w.client
asks_still s p w head sent asks = record {
  request = asks.request;
  gives = asks.gives;
  is_request = asks.is_request;
  stays = asks.stays;
}

-- a valid exchange is so behind whatever calls it began
valid_began : (s : Start) (p : Passed) (w : World) (head sent : RequestHead) (reused : Bool)
    (began : List LogEntry) (link : LinkState) (start : LinkStart)
    → IsValid (origin_of s head sent reused) p w.client link start
    → IsValid (origin_at s head sent reused began) p w.client link start
valid_began s p w head sent reused began link start valid = record {
  asks = record {
    request = valid.asks.request;
    gives = valid.asks.gives;
    is_request = valid.asks.is_request;
    stays = valid.asks.stays;
  };
  answers = valid.answers;
  agrees = valid.agrees;
  client_faultless = valid.client_faultless;
  link_faultless = valid.link_faultless;
}

-- a valid request that had a link is served, where it is finished, its filters changed nothing, and
-- no fault was met
whole_linked : (s : Start) (p : Passed) (w : World) (link : LinkState) (start : LinkStart)
    (keep : Bool) (told : Option Error) (outcome : Outcome)
    → EndsLinked s p w link start keep told outcome → (head : RequestHead) → LeaveAll s.called
    → ((keep : Bool) (e : Error) → ¬ (RefusesToSend s.called start head keep e))
    → ((sent : RequestHead) → Sends s.called head sent → Agrees head sent)
    → AsksFor (origin_of s head head false) p w.client
    → ((sent : RequestHead) → Sends s.called head sent → AnswersWith sent.method false p link)
    → ¬ (Rose s.faults w.client.faults)
    → ¬ (Rose start.faults link.faults)
    → IsUnfinished outcome ⊎ ((reuse : Bool) × (outcome ≡ Served None reuse))
whole_linked s p w link start keep told NoRequest ends head left goes agree asks answers client
    faults =
    absurd ends
whole_linked s p w link start keep told (Refused error) ends head left goes agree asks answers
    client faults =
    absurd ends
whole_linked s p w link start keep told (Served None reuse) ends head left goes agree asks answers
    client faults =
    inr (reuse, refl)
whole_linked s p w link start keep told (Served (Some e) reuse) (inl ends) head left goes agree asks
    answers client faults =
    let f = ends.failed in
    let own = failed_head s (past_at p f.before) f.head f.sent start.reused f.began f.why in
    let same = asks_head (origin_of s head head false) p w.client f.head own.framing own.len asks
    own.has in
    let sends : Sends s.called head f.sent =
    subst (λ (h : RequestHead). Sends s.called h f.sent) same f.sends in
    let valid : IsValid (origin_of s head f.sent start.reused) p w.client link start =
    valid_over (origin_of s head f.sent false) p w.client link start start.reused
    (asks_still s p w head f.sent asks) (answers f.sent sends)
    (agree f.sent sends) client faults in
    absurd (ends.invalid
    (neutral_in s.called f.began f.f.calls f.stands (order_of f.why).are_filters left)
    (subst (λ (h : RequestHead). IsValid (origin_at s h f.sent start.reused f.began) p w.client link
    start) (sym same) (valid_began s p w head f.sent start.reused f.began link start valid)))
whole_linked s p w link start keep told (Served (Some e) reuse) (inr ends) head left goes agree asks
    answers client faults =
    let r = ends.refused in
    absurd (goes keep r.raised
    (subst (λ (h : RequestHead). RefusesToSend s.called start h keep r.raised)
    (asks_head (origin_of s head head false) p w.client r.head r.accepted.framing r.accepted.len
    asks
    r.accepted.has) r.refused))
whole_linked s p w link start keep told TurnLimit ends head left goes agree asks answers client
    faults =
    inl (inl refl)
whole_linked s p w link start keep told OutOfMemory ends head left goes agree asks answers client
    faults =
    inl (inr refl)

-- lists of one and of none
one_not_none : {R : Type 0} {r : R} → [] ≡ r ∷ [] → ⊥
one_not_none {R} {r} same = cc

-- lists of one that are the same hold the same
same_one : {R : Type 0} {r q : R} → r ∷ [] ≡ q ∷ [] → r ≡ q
same_one {R} {r} {q} same = cc

module _ {L : Type 0} (state : L → LinkState) (start_at : L → LinkStart) where
  -- a request that had no link
  exact_unlinked : (s : Start) (p : Passed) (w : World) (outcome : Outcome)
      → EndsUnlinked s p w outcome → IsExact state start_at s p w [] outcome
  exact_unlinked s p w outcome ends = record {
    no_request = λ none ended. exact_no_request s p w outcome ends none ended;
    refused = λ answer error down whole. exact_refused s p w outcome ends answer error down whole;
    not_relayed = λ e cause. exact_unrelayed s p w outcome ends e cause;
    unfit = λ r head one accepted left alike unfit. absurd (one_not_none one);
    whole = λ head relayable lets left goes agree asks answers faultless.
        whole_unlinked s p w outcome ends head relayable lets asks faultless.client
        (faultless.connector refl);
  }

  -- a request that had this link
  exact_linked : (s : Start) (p : Passed) (w : World) (r : Returned L) (told : Option Error)
      (outcome : Outcome) → EndsLinked s p w (state r.link) (start_at r.link) r.keep told outcome
      → IsExact state start_at s p w (r ∷ []) outcome
  exact_linked s p w r told outcome ends =
      let own = linked_head s p w (state r.link) (start_at r.link) r.keep told outcome ends in
      record {
        no_request = λ none ended. elim own as (λ _. IsUnfinished outcome ⊎ (outcome ≡ NoRequest)) [
          | inl unfinished ↦ inl unfinished
          | inr one ↦ absurd (has_nothing one.1.has none)
        ];
        refused = λ answer error down whole.
            elim own as (λ _. IsUnfinished outcome ⊎ IsRefusal s p outcome) [
              | inl unfinished ↦ inl unfinished
              | inr one ↦ absurd (turned_down_or_accepted down one.0 one.1)
            ];
        not_relayed = λ e cause.
            elim own as (λ _. IsUnfinished outcome ⊎ IsLeft s p w outcome) [
              | inl unfinished ↦ inl unfinished
              | inr one ↦ absurd (relayed_or_not one.0 one.1 cause)
            ];
        unfit = λ q head one accepted left alike unfit.
            exact_unfit s p w (state r.link) (start_at r.link) r.keep told outcome ends head
            accepted left alike
            (λ sent sends. subst
            (λ (x : Returned L). IsUnfit sent.method false p.got (state x.link).ended)
            (sym (same_one one)) (unfit sent sends));
        whole = λ head relayable lets left goes agree asks answers faultless.
            whole_linked s p w (state r.link) (start_at r.link) r.keep told outcome ends head left
            (λ keep e. goes r keep e refl) agree asks
            (λ sent sends. answers r sent refl sends) faultless.client (faultless.link r refl);
      }

  -- how a request ended, the other way round
  pub exact_of : (s : Start) (p : Passed) (w : World) (own : List (Returned L))
      (attempts : List AttemptRecord) (outcome : Outcome)
      → IsEnded state start_at s p w own attempts outcome → IsExact state start_at s p w own outcome
  exact_of s p w [] attempts outcome ended = exact_unlinked s p w outcome ended.ends.0
  exact_of s p w (r ∷ []) attempts outcome ended =
      exact_linked s p w r ended.ends.attempt.error outcome ended.ends.ends
  exact_of s p w (r ∷ q ∷ rest) attempts outcome ended = absurd ended.ends
