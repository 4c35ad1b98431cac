-- The client's writer refuses nothing of a valid exchange behind filters that change nothing.
--
--   never_short   from FailsFor by the writer, AreNeutral and IsValid: nothing
use Rattle.std.proofs.Common.{◌≡◌, ℕ, Bool, true, false, List, [], ◌++◌, map, refl, sym, ap, subst, ◌∙◌, append-nil, Option, Some, None}
use Rattle.std.specs.List.{list_any}
use Rattle.std.proofs.lemmas.List.{map-append}
use Rattle.relay_tasks.specs.Head.{ResponseHead}
use Rattle.relay_tasks.specs.Task.{is_end}
use Rattle.relay_tasks.specs.declared.error.Error.{Error}
use Rattle.relay_tasks.specs.declared.task.HttpTask.{HttpTask}
use Rattle.relay_tasks.specs.declared.task.HttpTask.TheVariants as task
use Rattle.relay_links.specs.Link.{LinkState, LinkStart}
use Rattle.relay_h1.specs.Tasks as tasks
use Rattle.relay_h1.specs.Tasks.{Tasks, ResponseText, ended, open_mark}
use Rattle.relay_peer.specs.Body.{IsFrontOf}
use Rattle.relay_session.specs.Asked.{request_of}
use Rattle.relay_session.specs.Response.{is_over}
use Rattle.relay_session.specs.TaskWire.{first_refusal, refusal, wire}
use Rattle.relay_session.specs.declared.task_text.Place.TheVariants as place
use Rattle.relay_core.specs.Past.{Origin}
use Rattle.relay_sides.specs.Filtered.{RefusesHead, handed, is_head_request}
use Rattle.relay_sides.proofs.FilterLemmas.{handed_ends}
use Rattle.relay_filters.specs.Response.{WasMade}
use Rattle.relay_attempt.specs.Agrees.{AsksAlike}
use Rattle.relay_attempt.specs.Order.{AreOf}
use Rattle.relay_attempt.specs.Passed.{Passed}
use Rattle.relay_attempt.proofs.FitLemmas.{front_passes}
use Rattle.relay_attempt.proofs.KeepLemmas.{over_ends}
use Rattle.relay_attempt.proofs.SentLemmas.{ends_over, stays_over}
use Rattle.relay_valid.specs.Valid.{IsValid}
use Rattle.relay_valid.proofs.ValidLemmas.{head_blameless, tasks_unrefused}
use Rattle.relay_hooked.specs.Calls.{Filtering}
use Rattle.relay_hooked.specs.Neutral.{AreNeutral}
use Rattle.relay_hooked.specs.Order.{FailsFor, IsInOrderWith, text_of}
use Rattle.relay_hooked.proofs.MadeLemmas.{made_neutral, makes_neutral}
use Rattle.relay_hooked.proofs.NeutralLemmas.{alike_head}
use Rattle.relay_still.specs.Laws.{is_refused}
use Rattle.relay_still.proofs.SaidLemmas.{are_handed}

-- ---- the end of a response

-- a final head was told
record HasTold (final : Option ResponseHead) : Type 0 where
  pub head : ResponseHead
  pub is : final ≡ Some head

-- a response that has ended has its final head
ended_final : (method : List ℕ) (upgrade closed : Bool) (got : List ℕ) (text : ResponseText)
    (n : ℕ) → Tasks method upgrade got closed text → text.mark ≡ ended n → HasTold text.final
ended_final method upgrade closed got _ n (tasks.Tasks.head_open heads k informs still) is =
    absurd (on closed is)
  where
    on : (closed : Bool) → open_mark closed ≡ ended n → ⊥
    on true same = cc
    on false same = cc
ended_final method upgrade closed got _ n (tasks.Tasks.head_refused heads k why informs refused)
    is =
    absurd (cc)
ended_final method upgrade closed got _ n
    (tasks.Tasks.has_final heads k head framing len text informs has final reads) is =
    record { head = head; is = refl }

module _
    (f : Filtering) (s : Origin) (p : Passed) (closed : Bool) (n : AreNeutral f.calls)
    (alike : AsksAlike s.head s.sent)
    (none : (e : Error) → RefusesHead s.sent.method s.asked p.got e → ⊥)
  where
    -- both heads ask alike
    pub one_method : is_head_request s.sent.method ≡ is_head_request s.head.method
    one_method = alike_head s.sent.method s.head.method alike

    module _ (refused : Option Error) (o : IsInOrderWith refused f s p closed) where
      -- what was queued is what passed the filters, as it is handed on
      pub queued_same : o.queued ≡ map (handed s.sent.method) o.batched
      queued_same =
          makes_neutral (is_head_request s.head.method) f.stood f.calls _ o.batched o.queued
          s.sent.method one_method n o.makes

      -- the tasks that the peer gave are handed on
      pub are : AreOf s.sent.method s.asked closed p.got (map (handed s.sent.method) o.read)
      are = are_handed s p closed none o.read o.are_said

      -- a front of these is handed on as one
      front_handed : (front : List HttpTask) → IsFrontOf front o.read
          → IsFrontOf (map (handed s.sent.method) front) (map (handed s.sent.method) o.read)
      front_handed front within = record {
        rest = map (handed s.sent.method) within.rest;
        joined = sym (map-append (handed s.sent.method) front within.rest)
            ∙ ap (map (handed s.sent.method)) within.joined;
      }

      -- so none of a front is refused
      front_unrefused : (front made : List HttpTask) (e : Error) → IsFrontOf front o.read
          → made ≡ map (handed s.sent.method) front
          → first_refusal (request_of s.head) place.NoHead made ≡ Some e → ⊥
      front_unrefused front made e within same fails =
          tasks_unrefused s p closed alike (map (handed s.sent.method) o.read)
          (map (handed s.sent.method) front) e are (front_handed front within)
          (ap (first_refusal (request_of s.head) place.NoHead) (sym same) ∙ fails)

      -- behind an end the response is over
      pub queued_over : list_any is_end o.queued ≡ true
          → is_over (wire (request_of s.head) place.NoHead o.queued).place ≡ true
      queued_over ends =
          let sm = s.sent.method in
          let among = sym (handed_ends sm o.batched)
          ∙ sym (ap (list_any is_end) queued_same) ∙ ends in
          let none = o.are_said.ends_last o.batched o.first_batched.rest
          (sym o.first_batched.joined) among in
          let all : o.batched ≡ o.read = sym (append-nil o.batched)
          ∙ ap (λ (l : List HttpTask). o.batched ++ l) (sym none) ∙ o.first_batched.joined in
          let found : list_any is_end o.read ≡ true = ap (list_any is_end) (sym all) ∙ among in
          let whole = o.are_said.whole found in
          let final = ended_final sm s.asked closed p.got _ whole.0 whole.1 refl in
          subst
          (λ (l : List HttpTask).
          is_over (wire (request_of s.head) place.NoHead l).place ≡ true)
          (ap (map (handed sm)) (sym all) ∙ sym queued_same)
          (ends_over (request_of s.head) sm o.read final.head o.are_said.ends_last found final.is
          (front_passes s.head sm alike s.asked closed p.got
          (map (handed sm) o.read) are (map (handed sm) o.read) [] (sym (append-nil _))))

      -- no batch is refused
      pub batch_unrefused : (stand : Bool) (batch made : List HttpTask) (e : Error)
          → IsFrontOf (o.batched ++ batch) o.read
          → WasMade (is_head_request s.head.method) stand f.calls batch made
          → first_refusal (request_of s.head) place.NoHead (o.queued ++ made) ≡ Some e → ⊥
      batch_unrefused stand batch made e within made_so fails =
          let sm = s.sent.method in
          let same = made_neutral (is_head_request s.head.method) stand f.calls batch made sm
          one_method n made_so in
          front_unrefused (o.batched ++ batch) (o.queued ++ made) e within
          (ap (λ (l : List HttpTask). o.queued ++ l) same
          ∙ ap (λ (l : List HttpTask). l ++ map (handed sm) batch) queued_same
          ∙ sym (map-append (handed sm) o.batched batch)) fails

      -- nor what was queued
      pub queued_unrefused : (e : Error)
          → first_refusal (request_of s.head) place.NoHead o.queued ≡ Some e → ⊥
      queued_unrefused e fails = front_unrefused o.batched o.queued e o.first_batched queued_same
          fails

      -- nor an end behind an end
      pub end_unrefused : (e : Error) → list_any is_end o.queued ≡ true
          → refusal (request_of s.head) (text_of o).place task.Done ≡ Some e → ⊥
      end_unrefused e ends fails =
          over_ends (request_of s.head) (text_of o).place e
          (stays_over (request_of s.head) place.NoHead o.queued o.closing (queued_over ends)) fails

-- the client's writer refuses nothing
pub never_short : (f : Filtering) (s : Origin) (p : Passed) (client link : LinkState)
    (start : LinkStart) (e : Error) (why : FailsFor f s p client link start e)
    → is_refused why ≡ true → AreNeutral f.calls → IsValid s p client link start → ⊥
never_short f s p client link start e (FailsFor.by_client o blames) is n valid = cc
never_short f s p client link start e (FailsFor.by_peer o lost blames) is n valid = cc
never_short f s p client link start e (FailsFor.by_piece o stopped front last are call answered)
    is n valid =
    cc
never_short f s p client link start e
    (FailsFor.by_batch o stopped unasked stand batch before own are within stops refuses) is n
    valid =
    cc
never_short f s p client link start e
    (FailsFor.by_writer o stand batch made unasked read made_so fails) is n valid =
    batch_unrefused f s p link.ended n valid.agrees.method
    (head_blameless s p client link start valid) None o stand batch made e read made_so fails
never_short f s p client link start e (FailsFor.by_cut o front at unasked last passes) is n valid =
    queued_unrefused f s p link.ended n valid.agrees.method
    (head_blameless s p client link start valid) (Some e) o e
    (ap (first_refusal (request_of s.head) place.NoHead)
    (sym (append-nil o.queued) ∙ ap (λ (l : List HttpTask). o.queued ++ l) (sym unasked))
    ∙ o.passes)
never_short f s p client link start e (FailsFor.by_end refused o ends why cannot) is n valid =
    end_unrefused f s p link.ended n valid.agrees.method
    (head_blameless s p client link start valid) refused o e ends cannot
