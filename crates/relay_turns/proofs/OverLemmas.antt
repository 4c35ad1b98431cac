-- No other attempt follows one that failed: none may, or its client's session does not let one
-- begin.
--
--   made_as              how many attempts came before the last
--   over_as              why none follows, where none may or the session does not let one begin
--   begins_anew          a session of which nothing was queued lets one begin
--   writes_still         a write of the client's link that failed still did behind one more
--   over_on              none follows either once more was written
use Rattle.std.proofs.Common.{◌≡◌, ℕ, ◌+◌, Bool, true, false, not, ◌&&◌, List, [], ◌∷◌, length, map, refl, sym, ap, subst, ◌∙◌, inl, inr, true≢false, arith, length-append}
use Rattle.std.proofs.lemmas.Bool.{cases_Bool}
use Rattle.std.proofs.lemmas.List.{length-map}
use Rattle.std.specs.Prelude.{◌==◌, IsSome}
use Rattle.relay_tasks.specs.declared.Error.{Error}
use Rattle.relay_tasks.specs.declared.Fault.{Fault}
use Rattle.relay_tasks.specs.declared.log.LogEntry.{LogEntry}
use Rattle.relay_links.specs.Link.{LinkState}
use Rattle.relay_session.specs.Reading.{head_of, is_kept, is_truncated}
use Rattle.relay_session.specs.Response.{has_head, is_unqueued, is_written_out, pending}
use Rattle.relay_session.specs.Session.{may_begin_again}
use Rattle.relay_session.specs.declared.reading.Reading.{Reading}
use Rattle.relay_session.specs.declared.reading.Reading.TheVariants as reading
use Rattle.relay_session.specs.declared.session.HttpSession.{HttpSession}
use Rattle.relay_session.specs.declared.task_text.Place.{Place}
use Rattle.relay_session.specs.declared.task_text.Place.TheVariants as place
use Rattle.relay_session.specs.declared.writing.Outgoing.{Outgoing}
use Rattle.relay_session.specs.declared.writing.Outgoing.TheVariants as outgoing
use Rattle.relay_phases.specs.Order.{is_marked, may_try_again}
use Rattle.relay_peer.proofs.FaultLemmas.{among_still}
use Rattle.relay_sides.proofs.ClientPast.{rose_on}
use Rattle.relay_attempt.specs.Order.{WrittenTo}
use Rattle.relay_request.specs.Calls.{IsTreatedBefore}
use Rattle.relay_request.specs.Endings.{FailsToWrite, IsOver}
use Rattle.relay_request.specs.Passed.{Start}
use Rattle.relay_request.specs.Phases.{waits_to_begin}
use Rattle.relay_request.specs.Tries.{AreTries, MayTry, made_before, record_of, refusals_since}
use Rattle.relay_request.specs.declared.record.AttemptRecord.{AttemptRecord}
use Rattle.relay_turns.proofs.AgainLemmas.{kept_whole}
use Rattle.relay_turns.proofs.TryLemmas.{may_or_not}

-- ---- how many there were

-- the attempts before the last are those up to the last that had a link, and those of the calls
pub made_as : (s : Start) (tries : List AttemptRecord) → AreTries s tries
    → length tries ≡ made_before s
made_as s tries are =
    ap (λ (xs : List AttemptRecord). length xs) are.told
    ∙ length-append s.tried (map record_of (refusals_since s))
    ∙ ap (λ (n : ℕ). length s.tried + n) (length-map (refusals_since s) record_of)

-- ---- why none follows

-- what is not kept, of a request whose head was read, is lost
lost_of : (now : Reading) → IsSome (head_of now) → is_kept now ≡ false → is_truncated now ≡ true
lost_of reading.Head some none = cc
lost_of (reading.Body request) some none = ap (λ (b : Bool). not b) none

-- so the call was shown, and so it lets none follow
told_lost : (call : LogEntry) → call.view.truncated ≡ true → may_try_again call ≡ false
told_lost call lost =
    ap (λ (b : Bool). is_marked call.output && (not call.view.final_head && not b)) lost
    ∙ none (is_marked call.output) (not call.view.final_head)
  where
    none : (a b : Bool) → (a && (b && false)) ≡ false
    none true true = refl
    none true false = refl
    none false b = refl

-- nor does it where it was shown a final head
told_head : (call : LogEntry) → call.view.final_head ≡ true → may_try_again call ≡ false
told_head call has =
    ap (λ (b : Bool). is_marked call.output && (not b && not call.view.truncated)) has
    ∙ none (is_marked call.output)
  where
    none : (a : Bool) → (a && false) ≡ false
    none true = refl
    none false = refl

-- an output that is open and not written out waits
unwritten : (queue : List ℕ) → is_written_out (outgoing.Open queue) ≡ false
    → not (length queue == 0) ≡ true
unwritten [] waits = absurd (true≢false waits)
unwritten (b ∷ queue) waits = grind (arith)

-- so what waits keeps another attempt from beginning
waits_by : (session : HttpSession) (queue : List ℕ) → is_truncated session.reading ≡ false
    → has_head session.writing.place ≡ false → session.writing.output ≡ outgoing.Open queue
    → is_written_out session.writing.output ≡ false → waits_to_begin session ≡ true
waits_by session queue kept none is waits =
    ap (λ (b : Bool). not b && (not (has_head session.writing.place)
    && not (length (pending session.writing.output) == 0))) kept
    ∙ ap (λ (b : Bool). not b && not (length (pending session.writing.output) == 0)) none
    ∙ ap (λ (o : Outgoing). not (length (pending o) == 0)) is
    ∙ unwritten queue (sym (ap is_written_out is) ∙ waits)

module _ (s : Start) (client : LinkState) (raised treated : Error) (called : List LogEntry)
    (session : HttpSession) (v : IsTreatedBefore called raised treated session)
    (fails : (fault : Fault) → session.writing.output ≡ outgoing.Broken fault
    → FailsToWrite s client) (some : IsSome (head_of session.reading))
  where
    -- a write failed
    by_output : (output : Outgoing) → session.writing.output ≡ output
        → is_written_out session.writing.output ≡ false
        → is_truncated session.reading ≡ false → has_head session.writing.place ≡ false
        → waits_to_begin session ≡ false → IsOver s client v.was.e treated
    by_output (outgoing.Open queue) is waits kept none rests =
        absurd (true≢false (sym (waits_by session queue kept none is waits) ∙ rests))
    by_output (outgoing.Broken fault) is waits kept none rests =
        IsOver.is_broken (fails fault is)

    -- a final head was queued, or a write failed
    by_response : is_unqueued session.writing ≡ false → is_truncated session.reading ≡ false
        → waits_to_begin session ≡ false → IsOver s client v.was.e treated
    by_response queued kept rests =
        elim (cases_Bool (has_head session.writing.place)) [
          | inl has ↦ IsOver.is_told (told_head v.was.e (v.final_head ∙ has))
          | inr none ↦ by_output session.writing.output refl
              (sym (ap (λ (b : Bool). not b && is_written_out session.writing.output) none) ∙
              queued)
              kept none rests
        ]

    -- the session lets none begin, nor would it once it is written out
    by_session : may_begin_again session ≡ false → waits_to_begin session ≡ false
        → IsOver s client v.was.e treated
    by_session stops rests =
        elim (cases_Bool (is_kept session.reading)) [
          | inl kept ↦ by_response
              (sym (ap (λ (b : Bool). b && is_unqueued session.writing) kept) ∙ stops)
              (kept_whole session.reading kept) rests
          | inr lost ↦ IsOver.is_told
              (told_lost v.was.e (v.truncated ∙ lost_of session.reading some lost))
        ]

    -- none may follow, or the session lets none begin
    pub over_as : (made : ℕ) → made ≡ made_before s
        → (MayTry s.most (1 + made) treated
        → (may_begin_again session ≡ false) × (waits_to_begin session ≡ false))
        → IsOver s client v.was.e treated
    over_as made same stops =
        elim (may_or_not s.most (1 + made) treated) [
          | inl may ↦ by_session (stops may).0 (stops may).1
          | inr over ↦ IsOver.is_last
              (subst (λ (n : ℕ). ¬ (MayTry s.most (1 + n) treated)) same over)
        ]

-- ---- ahead of an exchange

-- a session whose body is kept and of which nothing was queued lets another attempt begin
pub begins_anew : (session : HttpSession) → is_kept session.reading ≡ true
    → session.writing.place ≡ place.NoHead → session.writing.output ≡ outgoing.Open []
    → may_begin_again session ≡ true
begins_anew session kept at output =
    ap (λ (b : Bool). b && is_unqueued session.writing) kept
    ∙ ap (λ (k : Place). not (has_head k) && is_written_out session.writing.output) at
    ∙ ap (λ (o : Outgoing). is_written_out o) output

-- ---- once more was written

-- a write that failed still did
pub writes_still : (s : Start) (before after : LinkState) → WrittenTo before after
    → FailsToWrite s before → FailsToWrite s after
writes_still s before after to fails = record {
  fault = fails.fault;
  kind = fails.kind;
  rose = rose_on s.faults before.faults after.faults to.faults fails.rose;
  among = among_still s.write_faults before.write_faults after.write_faults to.failed fails.fault
      to.told fails.among;
}

-- no attempt follows either
pub over_on : (s : Start) (before after : LinkState) (call : LogEntry) (e : Error)
    → WrittenTo before after → IsOver s before call e → IsOver s after call e
over_on s before after call e to (IsOver.is_last over) = IsOver.is_last over
over_on s before after call e to (IsOver.is_told told) = IsOver.is_told told
over_on s before after call e to (IsOver.is_broken fails) =
    IsOver.is_broken (writes_still s before after to fails)
