-- A read of the client: what the piece says of its state, and how what passed goes on with it.
use Rattle.std.proofs.Common.{◌≡◌, ℕ, ◌<◌, ◌≤◌, Bool, true, false, List, [], ◌∷◌, ◌++◌, length, Option, Some, refl, sym, ◌∙◌, ap, subst, append-nil, append_assoc, length-append, inl, inr, arith}
use Rattle.std.specs.Prelude.{◌||◌, ◌&&◌, ◌⊎◌, ◌==◌, not}
use Rattle.std.specs.List.{list_any}
use Rattle.std.proofs.lemmas.Bool.{cases_Bool}
use Rattle.std.proofs.lemmas.List.{length-take}
use Rattle.std.proofs.lemmas.List.Folds.{list_any-append}
use Rattle.relay_tasks.specs.declared.error.Error.{Error}
use Rattle.relay_tasks.specs.declared.error.Fail.TheVariants as fail
use Rattle.relay_tasks.specs.declared.fault.Fault.{Fault}
use Rattle.relay_tasks.specs.declared.took.Pause.TheVariants.{NotReady, Silent}
use Rattle.relay_tasks.specs.declared.took.Took.{Took}
use Rattle.relay_tasks.specs.declared.took.Took.TheVariants as took
use Rattle.relay_tasks.specs.declared.task.HttpTask.{HttpTask}
use Rattle.relay_tasks.specs.Task.{is_end}
use Rattle.relay_links.specs.Count.{up}
use Rattle.relay_links.specs.Link.{LinkState}
use Rattle.relay_links.proofs.SinceLemmas.{Since-kept, Since-grows}
use Rattle.relay_h1.proofs.VerdictLemmas.{HasRequest-append}
use Rattle.relay_h1.specs.Verdict.{HasRequest}
use Rattle.relay_session.specs.Front as front
use Rattle.relay_session.specs.Front.{Watches}
use Rattle.relay_session.specs.Reading as says
use Rattle.relay_session.specs.Reading.{RequestSoFar, SaysBody, IsWhole, ReadsRest, ReadsLink, EndsBy, RefusesRest, piece_of, head_of, is_body_done}
use Rattle.relay_session.specs.Response.{Holds, is_over}
use Rattle.relay_session.specs.Asked.{request_of}
use Rattle.relay_session.specs.TaskWire.{wire}
use Rattle.relay_session.specs.declared.task_text.Request.{Request}
use Rattle.relay_session.specs.declared.task_text.Place.TheVariants as place
use Rattle.relay_session.specs.declared.session.HttpSession.{HttpSession}
use Rattle.relay_session.specs.declared.writing.Writing.{Writing}
use Rattle.relay_core.specs.declared.told.Told.{Told}
use Rattle.relay_core.specs.Down.{ReadsPiece}
use Rattle.relay_core.specs.Past.{Origin, DownPast, GaveBytes, DownGoes, put_in, error_of_took}
use Rattle.relay_core.specs.Piece.{put_of}
use Rattle.relay_peer.specs.Body.{body_of}
use Rattle.relay_sides.specs.Client.{HaveSome, IsClient, HasPassed, IsUnanswered, ClientBlames, state_of, piece_answer, told_read, given_to}
use Rattle.relay_sides.specs.Client as client
use Rattle.relay_peer.specs.Faults.{TellsSince}
use Rattle.relay_sides.proofs.ClientPast.{stands_at, reading_whole, body_of-append, rose_from, failed_still}
use Rattle.relay_peer.proofs.FaultLemmas.{since_on, added_last}
use Rattle.relay_sides.proofs.ClientFaults.{body_grew}

-- what a read of the session left, by its answer; `still` says that the body had ended, so that the
-- client was only watched
pub record Left
    (before after : LinkState) (ahead left : List ℕ) (old new : HttpSession)
    (answer : Took (List ℕ)) : Type 0 where
  pub still : Bool
  pub is_still : still ≡ is_body_done old.reading
  pub goes : (given body : List ℕ) → RequestSoFar given body ahead old.reading
      → ReadsRest before after given body ahead left still new.reading answer
  pub link : ReadsLink before after answer
  pub ends : still ≡ false → EndsBy answer (is_body_done new.reading)
  pub watches : still ≡ true → Watches before after ahead left answer
  pub head : head_of new.reading ≡ head_of old.reading
  pub stays : still ≡ true → new ≡ old
  pub response : new.writing ≡ old.writing

-- a session that was asked whether its body has ended, twice
pub twice : (done : Bool) → done && done ≡ done
twice true = refl
twice false = refl

-- a client that may be read behind its request has not its whole response
open_behind : (body done finished over : Bool) → not (body && (done || finished)) ≡ true
    → body ≡ true → (over ≡ true → (done ≡ true) ⊎ (finished ≡ true)) → over ≡ false
open_behind false done finished over may is said = absurd (cc)
open_behind true true finished over may is said = absurd (cc)
open_behind true false true over may is said = absurd (cc)
open_behind true false false false may is said = refl
open_behind true false false true may is said = elim (said refl) [
  | inl done ↦ absurd (cc)
  | inr asked ↦ absurd (cc)
]

-- a list of some items has a length
some_items : (x : ℕ) (xs : List ℕ) → length (x ∷ xs) == 0 ≡ false
some_items x xs = grind (arith, length-append (x ∷ []) xs)

-- the body that a piece brings is its bytes
put_body : (bytes : List ℕ) (done : Bool)
    → body_of (put_of false (record { bytes = Some bytes; upstream_end = done; client_end = done }))
    ≡ bytes
put_body [] true = refl
put_body [] false = refl
put_body (x ∷ bytes) done = rw (some_items x bytes) (append-nil (x ∷ bytes))

-- and it ends the request where the body has ended
put_ends : (bytes : List ℕ) (done : Bool)
    → list_any is_end
    (put_of false (record { bytes = Some bytes; upstream_end = done; client_end = done })) ≡ done
put_ends [] true = refl
put_ends [] false = refl
put_ends (x ∷ bytes) true = rw (some_items x bytes) refl
put_ends (x ∷ bytes) false = rw (some_items x bytes) refl

-- it has a byte, or it is the end
put_some : (bytes : List ℕ) (done : Bool)
    → HaveSome
    (put_of false (record { bytes = Some bytes; upstream_end = done; client_end = done }))
put_some [] true = (inr refl, tt)
put_some [] false = tt
put_some (x ∷ bytes) done =
    rw (some_items x bytes) ((inl (omega (arith, length-append (x ∷ []) bytes)), tt))

module _
    (before after : LinkState) (ahead left : List ℕ) (old new : HttpSession)
    (answer : Took (List ℕ)) (l : Left before after ahead left old new answer) where
  -- a body that had ended still has
  done_stays : is_body_done old.reading ≡ true → is_body_done new.reading ≡ true
  done_stays done = rw (l.stays (l.is_still ∙ done)) done

  -- the two states of the body, joined
  done_joins : is_body_done new.reading ≡ is_body_done old.reading || is_body_done new.reading
  done_joins =
      elim (cases_Bool (is_body_done old.reading)) [
        | inl done ↦ rw done (done_stays done)
        | inr open_still ↦ rw open_still refl
      ]

  -- a body that stays open, or had ended
  done_same : (still : EndsBy answer (is_body_done new.reading)
      → is_body_done new.reading ≡ false) → is_body_done new.reading ≡ is_body_done old.reading
  done_same is_open =
      elim (cases_Bool (is_body_done old.reading)) [
        | inl done ↦ done_stays done ∙ sym done
        | inr open_still ↦ is_open (l.ends (l.is_still ∙ open_still)) ∙ sym open_still
      ]

-- the state where the body stays as it was
state_same : (old new : HttpSession) (told : Told) (done finished : Bool) (broken : Option Fault)
    → is_body_done new.reading ≡ is_body_done old.reading → new.writing ≡ old.writing
    → state_of new told done finished broken ≡ state_of old told done finished broken
state_same old new told done finished broken same response = rw (same, response) refl

-- the state where the body has ended or goes on
state_joined : (old new : HttpSession) (told : Told) (done finished : Bool) (broken : Option Fault)
    (last : Bool)
    → is_body_done new.reading ≡ is_body_done old.reading || last → new.writing ≡ old.writing
    → state_of new told done finished broken ≡ record (state_of old told done finished broken) {
      request_ended = is_body_done old.reading || last;
      body_done = is_body_done old.reading || last;
    }
state_joined old new told done finished broken last same response = rw (same, response) refl

-- what a read says of the state
pub reads_state : (before after : LinkState) (ahead left : List ℕ) (old new : HttpSession)
    (told : Told) (done finished : Bool) (broken : Option Fault) (answer : Took (List ℕ))
    → Left before after ahead left old new answer
    → ReadsPiece (state_of old told done finished broken)
    (state_of new (told_read (piece_answer answer (is_body_done new.reading)) told) done finished
    broken) (piece_answer answer (is_body_done new.reading))
reads_state before after ahead left old new told done finished broken (took.Item bytes) l = record {
  exact = state_joined old new told done finished broken (is_body_done new.reading)
      (done_joins before after ahead left old new (took.Item bytes) l) l.response;
  ends = λ is. is;
  nothing_behind = λ ended. absurd (l.watches (l.is_still ∙ ended));
  calls_stay = omega arith;
}
reads_state before after ahead left old new told done finished broken took.More l =
    state_same old new told done finished broken
    (done_same before after ahead left old new took.More l (λ is. is)) l.response
reads_state before after ahead left old new told done finished broken (took.Waited pause) l =
    state_same old new _ done finished broken
    (done_same before after ahead left old new (took.Waited pause) l (λ is. is)) l.response
reads_state before after ahead left old new told done finished broken took.End l =
    elim (cases_Bool (is_body_done old.reading)) [
      | inl was ↦ absurd (l.watches (l.is_still ∙ was))
      | inr open_still ↦ record {
        exact = state_joined old new told done finished broken true
            (rw open_still (l.ends (l.is_still ∙ open_still))) l.response;
        ends = λ is. l.ends (l.is_still ∙ open_still);
        nothing_behind = λ ended. absurd (l.watches (l.is_still ∙ ended));
        calls_stay = omega arith;
      }
    ]
reads_state before after ahead left old new told done finished broken (took.Failed why) l =
    state_same old new _ done finished broken
    (done_same before after ahead left old new (took.Failed why) l (λ is. is)) l.response

-- a link that the side waits for in silence is silent, and stays as it was
pub reads_silent : (before after : LinkState) (answer : Took (List ℕ)) (done : Bool)
    → ReadsLink before after answer → piece_answer answer done ≡ took.Waited Silent
    → (after ≡ before) × (after.silent_on_read ≡ true)
reads_silent before after (took.Item bytes) done link is = cc
reads_silent before after took.More done link is = cc
reads_silent before after (took.Waited NotReady) done link is = cc
reads_silent before after (took.Waited Silent) done link is = link.silent refl
reads_silent before after took.End done link is = cc
reads_silent before after (took.Failed why) done link is = cc

-- a link that the side waits for was counted to have to be waited for
pub reads_waits : (before after : LinkState) (answer : Took (List ℕ)) (done : Bool)
    → ReadsLink before after answer → piece_answer answer done ≡ took.Waited NotReady
    → after.waits ≡ up before.waits
reads_waits before after (took.Item bytes) done link is = cc
reads_waits before after took.More done link is = cc
reads_waits before after (took.Waited NotReady) done link is = link.waits refl
reads_waits before after (took.Waited Silent) done link is = cc
reads_waits before after took.End done link is = cc
reads_waits before after (took.Failed why) done link is = cc

-- where the side has to be asked again the link gave bytes
pub reads_more : (s : Origin) (p : DownPast) (before after : LinkState) (ahead left : List ℕ)
    (old new : HttpSession) (answer : Took (List ℕ)) (done : Bool) → IsClient s p before ahead old
    → Left before after ahead left old new answer → piece_answer answer done ≡ took.More
    → GaveBytes before after
reads_more s p before after ahead left old new (took.Item bytes) done h l is = absurd (cc)
reads_more s p before after ahead left old new took.More done h l is =
    elim (cases_Bool l.still) [
      | inl on ↦ absurd (l.watches on)
      | inr off ↦ let gave = ((l.goes (given_to s p) h.body h.request).tells off).1 in
          record { room = gave.room; n = gave.n; gives = gave.gives }
    ]
reads_more s p before after ahead left old new (took.Waited pause) done h l is = absurd (cc)
reads_more s p before after ahead left old new took.End done h l is = absurd (cc)
reads_more s p before after ahead left old new (took.Failed why) done h l is = absurd (cc)

-- pieces that have some, and more of them
have_more : (tasks more : List HttpTask) → HaveSome tasks → HaveSome more
    → HaveSome (tasks ++ more)
have_more [] more have behind = behind
have_more (task ∷ tasks) more have behind = (have.0, have_more tasks more have.1 behind)

-- what a read puts, by the body before and behind it
record Puts (old_done new_done : Bool) (answer : Took (List ℕ)) (put : List HttpTask) : Type 0 where
  ends : list_any is_end put ≡ true → new_done ≡ true
  ended : old_done ≡ false → new_done ≡ true → list_any is_end put ≡ true
  none : old_done ≡ true → put ≡ []
  body : body_of put ≡ piece_of answer
  some : HaveSome put

-- a read that puts nothing
puts_nothing : (old_done new_done : Bool) (answer : Took (List ℕ)) → piece_of answer ≡ []
    → (old_done ≡ false → new_done ≡ false) → Puts old_done new_done answer []
puts_nothing old_done new_done answer none is_open = record {
  ends = λ is. absurd (cc);
  ended = λ open_still done. let wrong = sym (is_open open_still) ∙ done in absurd (cc);
  none = λ done. refl;
  body = sym none;
  some = tt;
}

-- what a read of the session puts, and what passed with it
puts : (before after : LinkState) (ahead left : List ℕ) (old new : HttpSession)
    (answer : Took (List ℕ)) → Left before after ahead left old new answer
    → Puts (is_body_done old.reading) (is_body_done new.reading) answer
    (put_in false (piece_answer answer (is_body_done new.reading)))
puts before after ahead left old new (took.Item bytes) l = record {
  ends = λ is. sym (put_ends bytes (is_body_done new.reading)) ∙ is;
  ended = λ open_still done. put_ends bytes (is_body_done new.reading) ∙ done;
  none = λ done. absurd (l.watches (l.is_still ∙ done));
  body = put_body bytes (is_body_done new.reading);
  some = put_some bytes (is_body_done new.reading);
}
puts before after ahead left old new took.More l =
    puts_nothing _ _ took.More refl (λ open_still. l.ends (l.is_still ∙ open_still))
puts before after ahead left old new (took.Waited pause) l =
    puts_nothing _ _ (took.Waited pause) refl (λ open_still. l.ends (l.is_still ∙ open_still))
puts before after ahead left old new took.End l = record {
  ends = λ is.
      elim (cases_Bool (is_body_done old.reading)) [
        | inl was ↦ absurd (l.watches (l.is_still ∙ was))
        | inr open_still ↦ l.ends (l.is_still ∙ open_still)
      ];
  ended = λ open_still done. refl;
  none = λ done. absurd (l.watches (l.is_still ∙ done));
  body = refl;
  some = (inr refl, tt);
}
puts before after ahead left old new (took.Failed why) l =
    puts_nothing _ _ (took.Failed why) refl (λ open_still. l.ends (l.is_still ∙ open_still))

-- an end among tasks, or among those behind them
either_end : (a b : Bool) → a || b ≡ true → (a ≡ true) ⊎ (b ≡ true)
either_end true b is = inl refl
either_end false b is = inr is

-- one of two holds where the second does
end_behind : (a : Bool) → a || true ≡ true
end_behind true = refl
end_behind false = refl

-- the past behind a read in which these bytes came and these tasks were put
abbrev past_read : DownPast → List ℕ → List HttpTask → DownPast
past_read p came put = record {
  came = p.came ++ came;
  written = p.written;
  put = p.put ++ put;
  batched = p.batched;
  closing = p.closing;
}

module _
    (s : Origin) (p : DownPast) (before after : LinkState) (ahead left : List ℕ)
    (old new : HttpSession) (answer : Took (List ℕ)) (put : List HttpTask)
    (h : IsClient s p before ahead old) (l : Left before after ahead left old new answer)
    (puts : Puts (is_body_done old.reading) (is_body_done new.reading) answer put)
    (r : ReadsRest before after (given_to s p) h.body ahead left l.still new.reading answer) where
  -- the bytes given since the request began, with those of the read
  all_given : given_to s (past_read p r.came put) ≡ given_to s p ++ r.came
  all_given = sym (append_assoc s.ahead p.came r.came)

  -- how far the request has come
  request_on : RequestSoFar (given_to s (past_read p r.came put)) (h.body ++ piece_of answer) left
      new.reading
  request_on =
      subst
      (λ (given : List ℕ). RequestSoFar given (h.body ++ piece_of answer) left new.reading)
      (sym all_given) r.keeps

  -- the end of the request, among all that was put
  ended_on : list_any is_end (p.put ++ put) ≡ true → is_body_done new.reading ≡ true
  ended_on is =
      elim (either_end (list_any is_end p.put) (list_any is_end put)
      (sym (list_any-append is_end p.put put) ∙ is)) [
        | inl before_it ↦ done_stays before after ahead left old new answer l (h.ended before_it)
        | inr with_it ↦ puts.ends with_it
      ]

  -- it is put where the body has ended
  whole_on : is_body_done new.reading ≡ true → list_any is_end (p.put ++ put) ≡ true
  whole_on done =
      elim (cases_Bool (is_body_done old.reading)) [
        | inl was ↦ rw (puts.none was, append-nil) (h.whole was)
        | inr open_still ↦ list_any-append is_end p.put put
            ∙ ap (λ (b : Bool). list_any is_end p.put || b) (puts.ended open_still done)
            ∙ end_behind (list_any is_end p.put)
      ]

  -- what passed goes on with the read
  client_on : IsClient s (past_read p r.came put) after left new
  client_on = record {
    came = Since-grows [] s.given before.given after.given p.came r.came r.grown h.came;
    written = Since-kept [] s.taken before.taken after.taken p.written l.link.taken h.written;
    faults = omega (arith, h.faults, l.link.faults);
    head = h.head;
    own = h.own;
    framing = h.framing;
    len = h.len;
    has = subst (λ (given : List ℕ). HasRequest given h.head h.framing h.len) (sym all_given)
        (HasRequest-append (given_to s p) r.came h.head h.framing h.len h.has);
    has_head = rw l.head h.has_head;
    answers = ap (λ (w : Writing). w.request) l.response ∙ h.answers;
    body = h.body ++ piece_of answer;
    request = request_on;
    joined = body_of-append p.put put ∙ ap (λ (xs : List ℕ). xs ++ body_of put) h.joined
        ∙ ap (λ (xs : List ℕ). h.body ++ xs) puts.body;
    some = have_more p.put put h.some puts.some;
    ended = ended_on;
    whole = whole_on;
    headed = λ has_none. done_stays before after ahead left old new answer l (h.headed has_none);
    told_whole = reading_whole (given_to s (past_read p r.came put)) (h.body ++ piece_of answer)
        left new.reading request_on;
    response = subst (λ (w : Writing). Holds w (client.queued p) p.written) (sym l.response)
        h.response;
    broken = λ fault is.
        let was = h.broken fault (ap (λ (w : Writing). w.output) (sym l.response) ∙ is) in
        failed_still s before after fault l.link.faults (body_grew before after answer l.link) was;
    tells = since_on s.read_faults s.write_faults before after
        (body_grew before after answer l.link) h.tells;
  }

-- a read that gave bytes gave one at least
gave_some : (before after : LinkState) (came : List ℕ) → front.Gave before after came
    → 0 < length came
gave_some before after came gave =
    rw gave.are (omega (arith, gave.gives.some, gave.gives.fits, length-take gave.n gave.room))

-- why a read of a body that goes on was refused
refused_rest : (s : Origin) (q : DownPast) (before after : LinkState) (body : List ℕ) (e : Error)
    → s.faults ≤ before.faults → TellsSince s.read_faults s.write_faults before
    → RefusesRest before after (given_to s q) body e → ClientBlames s q after e
refused_rest s q before after body e earlier tells (says.RefusesRest.is_broken broken is) =
    client.ClientBlames.body_is_broken body broken is
refused_rest s q before after body e earlier tells
    (says.RefusesRest.ends_inside open_still ends is) =
    client.ClientBlames.ends_inside body open_still ends.ended is
refused_rest s q before after body e earlier tells
    (says.RefusesRest.link_failed fault open_still fails is) =
    client.ClientBlames.link_failed fault is
    (rose_from s.faults before.faults after.faults earlier fails.faults)
    (inr (record {
      kind = fails.kind;
      last = added_last s.read_faults before.read_faults after.read_faults tells.reads fault
          fails.read_faults tells.read;
      matters = inl (body, open_still);
    }))

-- where the session stands open, the response is not over
not_over : (s : Origin) (q : DownPast) (now : Writing) → Holds now (client.queued q) q.written
    → now.request ≡ request_of s.head → is_over now.place ≡ false → IsUnanswered s q
not_over s q now holds answers open_still =
    ap (λ (r : Request). is_over (wire r place.NoHead (client.queued q)).place) (sym answers)
    ∙ ap is_over (stands_at now now.output (client.queued q) q.written holds) ∙ open_still

-- why a client stirred that was to be still
stirred : (s : Origin) (q : DownPast) (before after : LinkState) (ahead left body : List ℕ)
    (e : Error) → s.faults ≤ before.faults → TellsSince s.read_faults s.write_faults before
    → IsWhole (given_to s q) body left → IsUnanswered s q
    → front.Stirs before after ahead left e → ClientBlames s q after e
stirred s q before after ahead left body e earlier tells whole unanswered
    (front.Stirs.had_sent some same kept is) =
    client.ClientBlames.sent_more body left whole (rw kept some) unanswered is
stirred s q before after ahead left body e earlier tells whole unanswered
    (front.Stirs.sends came none gave kept is) =
    client.ClientBlames.sent_more body left whole (rw kept (gave_some before after came gave))
    unanswered is
stirred s q before after ahead left body e earlier tells whole unanswered
    (front.Stirs.ends none ends kept is) =
    client.ClientBlames.ends_behind body
    (subst (λ (xs : List ℕ). IsWhole (given_to s q) body xs) (kept ∙ none) whole) ends.ended
    unanswered is
stirred s q before after ahead left body e earlier tells whole unanswered
    (front.Stirs.link_failed fault none fails kept is) =
    client.ClientBlames.link_failed fault is
    (rose_from s.faults before.faults after.faults earlier fails.faults)
    (inr (record {
      kind = fails.kind;
      last = added_last s.read_faults before.read_faults after.read_faults tells.reads fault
          fails.read_faults tells.read;
      matters = inr unanswered;
    }))

-- what is an error is that one
same_error : (a e : Error) → Some a ≡ Some e → a ≡ e
same_error a e is = cc

-- why a read was refused
blamed : (s : Origin) (q : DownPast) (before after : LinkState) (given ahead left body : List ℕ)
    (still : Bool) (new : HttpSession) (answer : Took (List ℕ)) (e : Error)
    → s.faults ≤ before.faults → TellsSince s.read_faults s.write_faults before
    → (still ≡ true → IsUnanswered s q)
    → (r : ReadsRest before after given body ahead left still new.reading answer)
    → given_to s q ≡ given ++ r.came
    → error_of_took (piece_answer answer (is_body_done new.reading)) ≡ Some e
    → ClientBlames s q after e
blamed s q before after given ahead left body still new (took.Item bytes) e earlier tells
    unanswered r all is =
    absurd (cc)
blamed s q before after given ahead left body still new took.More e earlier tells unanswered r all
    is = absurd (cc)
blamed s q before after given ahead left body still new (took.Waited pause) e earlier tells
    unanswered r all is =
    absurd (cc)
blamed s q before after given ahead left body still new took.End e earlier tells unanswered r all
    is = absurd (cc)
blamed s q before after given ahead left body still new (took.Failed fail.OutOfMemory) e earlier
    tells unanswered r all is =
    absurd (cc)
blamed s q before after given ahead left body still new (took.Failed (fail.Error error)) e earlier
    tells unanswered r all is =
    subst (λ (err : Error). ClientBlames s q after err) (same_error error e is)
    (elim (cases_Bool still) [
      | inl on ↦ let w = r.watches on in
          stirred s q before after ahead left body error earlier tells
          (subst (λ (xs : List ℕ). IsWhole xs body left) (sym all) w.0) (unanswered on) w.1
      | inr off ↦ refused_rest s q before after (body ++ []) error earlier tells
          (subst (λ (xs : List ℕ). RefusesRest before after xs (body ++ []) error) (sym all)
          (r.tells off))
    ])

-- a read of the client
pub reads_on : (s : Origin) (p : DownPast) (before after : LinkState) (ahead left : List ℕ)
    (old new : HttpSession) (done finished : Bool) (broken : Option Fault) (answer : Took (List ℕ))
    → not (is_body_done old.reading && (done || finished)) ≡ true
    → HasPassed s p before ahead old done finished broken
    → Left before after ahead left old new answer
    → DownGoes (λ q. HasPassed s q after left new done finished broken)
    (λ q e. ClientBlames s q after e)
    (p.put ++ put_in false (piece_answer answer (is_body_done new.reading))) p.batched p.closing
    (error_of_took (piece_answer answer (is_body_done new.reading)))
reads_on s p before after ahead left old new done finished broken answer may h l =
    let r = l.goes (given_to s p) h.client.body h.client.request in
    let put = put_in false (piece_answer answer (is_body_done new.reading)) in
    let given = puts before after ahead left old new answer l in
    record {
      past = past_read p r.came put;
      stands = record {
        client = client_on s p before after ahead left old new answer put h.client l given r;
        over = rw l.response h.over;
        plain = h.plain;
        plain_end = h.plain_end;
        place_over = rw l.response h.place_over;
        said = rw l.response h.said;
        unasked = h.unasked;
        asked = h.asked;
        closed = rw l.response h.closed;
        unbroken = rw l.response h.unbroken;
        fault = λ f is.
            failed_still s before after f l.link.faults (body_grew before after answer l.link)
            (h.fault f is);
      };
      is_put = refl;
      is_batched = refl;
      is_closing = refl;
      blamed = λ e is.
          blamed s (past_read p r.came put) before after (given_to s p) ahead left h.client.body
          l.still new answer e h.client.faults h.client.tells
          (λ on. not_over s (past_read p r.came put) old.writing h.client.response
          (h.client.answers ∙ ap request_of h.client.own)
          (open_behind (is_body_done old.reading) done finished (is_over old.writing.place) may
          (sym l.is_still ∙ on) h.said)) r
          (all_given s p before after ahead left old new answer put h.client l given r) is;
    }
