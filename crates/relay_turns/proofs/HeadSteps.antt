-- Turns before a link is asked for: the client's head comes, is accepted, or is refused.
use Rattle.std.proofs.Common.{◌≡◌, ℕ, ◌<◌, Bool, true, List, [], ◌∷◌, ◌++◌, length, take, drop, Option, Some, None, refl, le_refl, ◌≢◌, sym, ap, subst, ◌∙◌, inl, inr, arith, append_assoc, append-nil}
use Rattle.std.specs.Global.{Box}
use Rattle.relay_tasks.specs.declared.Error.{Error}
use Rattle.relay_tasks.specs.declared.ErrorSource.TheVariants.{Downstream}
use Rattle.relay_tasks.specs.declared.Fault.{Fault}
use Rattle.relay_tasks.specs.Head.{RequestHead}
use Rattle.relay_links.specs.Link.{LinkState, LinkStart, GivesBytes, EndsRead, FailsRead}
use Rattle.relay_links.specs.Told.{Since}
use Rattle.relay_links.proofs.SinceLemmas.{Since-start}
use Rattle.relay_h1.specs.BodyReader.{first_state, is_done}
use Rattle.relay_h1.specs.ClientHead.{is_sent_to}
use Rattle.relay_h1.specs.Wire.{generated}
use Rattle.relay_h1.specs.Verdict.{HasRequest, IsOpen}
use Rattle.relay_h1.specs.declared.framing.Framing.{Framing}
use Rattle.relay_h1.specs.declared.framing.Framing.TheVariants as framing
use Rattle.relay_session.specs.Asked.{request_of}
use Rattle.relay_session.specs.Front.{ends_with_head}
use Rattle.relay_session.specs.Reading.{head_of, is_body_done, is_kept, RequestSoFar, IsWhole}
use Rattle.relay_session.specs.Generated.{answer_tasks, AnswersText}
use Rattle.relay_session.specs.Response.{Holds, HoldsOn, IsText, AreQueued}
use Rattle.relay_session.specs.Session.{AnswersRead}
use Rattle.relay_session.specs.TaskWire.{Sent}
use Rattle.relay_session.specs.declared.reading.Reading.{Reading}
use Rattle.relay_session.specs.declared.reading.Reading.TheVariants as reading
use Rattle.relay_session.specs.declared.task_text.Place.TheVariants as place
use Rattle.relay_session.specs.declared.task_text.Request.{Request}
use Rattle.relay_session.specs.declared.writing.Outgoing.{Outgoing}
use Rattle.relay_session.specs.declared.writing.Writing.{Writing}
use Rattle.relay_session.specs.declared.session.HttpSession.{HttpSession}
use Rattle.relay_session.specs.declared.writing.Outgoing.TheVariants.{Open}
use Rattle.relay_sides.specs.Client.{BeginsBehind}
use Rattle.relay_attempt.specs.Passed.{Passed}
use Rattle.relay_authority.specs.Entry.{Entered}
use Rattle.relay_request.specs.Relayable.{IsConnect, NamesUpgrade}
use Rattle.relay_request.specs.Passed.{World, Start, start_of, origin_of, nothing, asked, TellsClient, IsUnsent}
use Rattle.relay_request.specs.Endings.{IsInOrder, IsLeftAlone, IsTurnedDown, EndsUnlinked, AttemptsUnlinked, MadeNone, ended_outcome, left_early}
use Rattle.relay_request.specs.Sent.{unrelayed}
use Rattle.relay_request.specs.Tries.{fault_error}
use Rattle.relay_request.specs.Phases.{RunSoFar}
use Rattle.relay_request.specs.Turn.{Advances}
use Rattle.relay_request.specs.declared.machine.Phase.TheVariants.{ReadHead, Answer, Ended}
use Rattle.relay_request.specs.declared.outcome.Outcome.{Outcome}
use Rattle.relay_request.specs.declared.outcome.Outcome.TheVariants as outcome
use Rattle.relay_request.specs.declared.owed.Owed.TheVariants as owed
use Rattle.relay_request.specs.declared.record.AttemptRecord.{AttemptRecord}
use Rattle.relay_turns.proofs.AnswerSteps.{answer_on}
use Rattle.relay_peer.proofs.FaultLemmas.{Grew, grew_none, more_none, added_last, since_none}
use Rattle.relay_turns.proofs.Tells.{Rose-le, came_more, client_gave, client_still}

-- a request whose body ends with its head is one whose body is done from the first on
pub done_at_first : (f : Framing) → is_done (first_state f) ≡ ends_with_head f
done_at_first framing.Empty = refl
done_at_first (framing.Length n) = refl
done_at_first framing.Chunked = refl
done_at_first framing.UntilClose = refl
done_at_first framing.Tunnel = refl

-- a session that stands behind this head, as it is made
pub record StandsBehind (head : RequestHead) (framing : Framing) (session : HttpSession)
    : Type 0 where
  pub is_head : head_of session.reading ≡ Some head
  pub done : is_body_done session.reading ≡ is_done (first_state framing)
  pub kept : is_kept session.reading ≡ true
  pub starts : (given : List ℕ) (len : ℕ) → HasRequest given head framing len
      → RequestSoFar given [] (drop len given) session.reading
  pub whole : (given : List ℕ) (len : ℕ) → HasRequest given head framing len
      → is_body_done session.reading ≡ true → IsWhole given [] (drop len given)
  pub answers : session.writing.request ≡ request_of head
  pub response : Holds session.writing [] []
  pub output : session.writing.output ≡ Open []

-- such a session begins behind the client's bytes, out of which its head was taken
pub begins_behind : (s : Start) (p : Passed) (w : World) (head : RequestHead) (framing : Framing)
    (len : ℕ) (session : HttpSession) (sent : RequestHead) (reused : Bool)
    → TellsClient s p w → p.written ≡ [] → HasRequest (asked s p) head framing len
    → w.ahead ≡ drop len (asked s p) → StandsBehind head framing session
    → BeginsBehind (origin_of s head sent reused) p.came w.client w.ahead session
begins_behind s p w head framing len session sent reused tells none has taken stands = record {
  gave = tells.came;
  written = subst (λ (xs : List ℕ). Since [] s.taken w.client.taken xs) none tells.written;
  faults = tells.faults;
  head = head;
  framing = framing;
  len = len;
  has = has;
  has_head = rw stands.is_head refl;
  own = refl;
  answers = stands.answers;
  body = [];
  request = rw taken (stands.starts (asked s p) len has);
  kept = stands.kept;
  headed = λ none. stands.done ∙ done_at_first framing ∙ none;
  whole = λ done. rw taken (stands.whole (asked s p) len has done);
  response = stands.response;
  output = stands.output;
  tells = tells.fault_lists;
}

-- a generated answer has bytes
pub generated_some : (status : ℕ) → 0 < length (generated status)
generated_some status =
    let first : generated status ≡ 72 ∷ drop 1 (generated status) = refl in
    omega (arith, ap length first)

-- the generated answer alone waits in a session that was just begun
pub begun_answer : (status : ℕ) (old new : Writing) → Holds old [] []
    → AreQueued old (answer_tasks old.place status) new → AnswersText status old new
    → is_sent_to old.request.version status ≡ true
    → new.output ≡ Open (generated status)
begun_answer status old new holds queued text sent =
    let queue = queued.grows.queue in
    let is : IsText old [] queue =
    subst (λ (o : Outgoing). HoldsOn old o [] []) queued.grows.was_open holds in
    let none : queue ≡ [] = sym (ap (λ (k : Sent). k.text) is.wire.is) in
    let stands : old.place ≡ place.NoHead = sym (ap (λ (k : Sent). k.place) is.wire.is) in
    text queue queued.grows.was_open stands sent
    ∙ ap (λ (xs : List ℕ). Open (xs ++ generated status)) none

-- a session without a head answers a client of HTTP/1.1
pub unread_sent : (status : ℕ) (reading : Reading) (old : Writing) → head_of reading ≡ None
    → ((given : List ℕ) → AnswersRead given reading old)
    → is_sent_to old.request.version status ≡ true
unread_sent status reading.Head old none answers =
    ap (λ (r : Request). is_sent_to r.version status) (answers [])
unread_sent status (reading.Body begun) old none answers = cc

-- how it ends where the client ended with these bytes of its head
ended_unlinked : (s : Start) (p : Passed) (x : World) (bytes : List ℕ) → bytes ≡ asked s p
    → IsOpen (asked s p) → x.client.ended ≡ true → p.written ≡ [] → IsUnsent p
    → EndsUnlinked s p x (ended_outcome bytes)
ended_unlinked s p x [] is open_head ended written unsent =
    record { no_byte = sym is; ended = ended; written = written; unsent = unsent }
ended_unlinked s p x (b ∷ bytes) is open_head ended written unsent =
    inr
    (inl (record {
      e = left_early;
      is = refl;
      why = IsLeftAlone.ends_in_head
          (record { begun = λ none. apart (is ∙ none); open_head = open_head; ended = ended }) refl;
      written = written;
      unsent = unsent;
    }))
  where
    apart : b ∷ bytes ≡ [] → ⊥
    apart same = cc

-- no attempt was made then
ended_attempts : (s : Start) (p : Passed) (x : World) (bytes : List ℕ)
    (attempts : List AttemptRecord) → MadeNone s attempts
    → AttemptsUnlinked s p x attempts (ended_outcome bytes)
ended_attempts s p x [] attempts none = none
ended_attempts s p x (b ∷ bytes) attempts none = none

-- and it is no end by its turns
ended_going : (bytes : List ℕ) → ended_outcome bytes ≢ outcome.TurnLimit
ended_going [] limit = cc
ended_going (b ∷ bytes) limit = cc

module _ {L C : Type 0} (state : L → LinkState) (start_at : L → LinkStart) where
  -- a request begins: nothing passed yet
  pub begins_reading : (most : ℕ) (w : World)
      → RunSoFar {C = C} state start_at (start_of most w) nothing w [] ReadHead
  begins_reading most w = record {
    tells = record {
      came = Since-start [] w.client.given;
      written = Since-start [] w.client.taken;
      faults = le_refl w.client.faults;
      connect_faults = le_refl w.connect_faults;
      fault_lists = since_none w.client;
    };
    order = IsInOrder.is_nothing refl refl;
    untouched = λ open_head. sym (append-nil w.ahead);
    going = tt;
    calm = refl;
    holds = record {
      whole = sym (append-nil w.ahead);
      written = refl;
      unsent = record { got = refl; sent = refl };
      untried = (refl, refl);
    };
  }

  -- the link gave nothing now, and the head is read on
  pub head_waits : (s : Start) (p : Passed) (w x : World) → x.ahead ≡ w.ahead
      → x.connect_faults ≡ w.connect_faults → x.client.given ≡ w.client.given
      → x.client.taken ≡ w.client.taken → x.client.faults ≡ w.client.faults
      → Grew w.client x.client → RunSoFar {C = C} state start_at s p w [] ReadHead
      → Advances {C = C} state start_at s x ReadHead
  head_waits s p w x kept same given taken faults grew run = record {
    passed = p;
    run = record {
      tells = client_still s p w x (omega arith) given taken (omega arith) grew run.tells;
      order = run.order;
      untouched = λ open_head. kept ∙ run.holds.whole;
      going = run.going;
      calm = faults ∙ run.calm;
      holds = record {
        whole = kept ∙ run.holds.whole;
        written = run.holds.written;
        unsent = run.holds.unsent;
        untried = run.holds.untried;
      };
    };
  }

  -- the client ended inside its head, or before it
  pub head_ends : (s : Start) (p : Passed) (w x : World) (end : Outcome)
      (attempts : List AttemptRecord) → IsOpen w.ahead → EndsRead w.client x.client
      → x.ahead ≡ w.ahead → x.connect_faults ≡ w.connect_faults → end ≡ ended_outcome x.ahead
      → attempts ≡ [] → RunSoFar {C = C} state start_at s p w [] ReadHead
      → Advances {C = C} state start_at s x (Ended end attempts)
  head_ends s p w x end attempts open_head ends kept same is none run = record {
    passed = p;
    run = record {
      tells = client_still s p w x (omega arith) ends.given ends.taken (omega (arith, ends.faults))
          (grew_none w.client x.client ends.read_faults ends.write_faults) run.tells;
      order = run.order;
      untouched = λ still. whole;
      going = λ limit. ended_going x.ahead (sym is ∙ limit);
      calm = tt;
      holds = subst
          (λ (o : Outcome). EndsUnlinked s p x o × AttemptsUnlinked s p x attempts o) (sym is) (
            ended_unlinked s p x x.ahead whole
                (subst (λ (xs : List ℕ). IsOpen xs) run.holds.whole open_head) ends.ended
                run.holds.written run.holds.unsent,
            ended_attempts s p x x.ahead attempts (none, run.holds.untried.0),
          );
    };
  }
    where
      whole : x.ahead ≡ asked s p
      whole = kept ∙ run.holds.whole

  -- a read of the head failed
  pub head_fails : (s : Start) (p : Passed) (w x : World) (fault : Fault) (f : Error)
      (attempts : List AttemptRecord) → IsOpen w.ahead → FailsRead w.client fault x.client
      → x.ahead ≡ w.ahead → x.connect_faults ≡ w.connect_faults
      → f ≡ fault_error Downstream fault → attempts ≡ []
      → RunSoFar {C = C} state start_at s p w [] ReadHead
      → Advances {C = C} state start_at s x (Ended (outcome.Refused (Some f)) attempts)
  head_fails s p w x fault f attempts open_head fails kept same is none run = record {
    passed = p;
    run = record {
      tells = client_still s p w x (omega arith) fails.given fails.taken
          (Rose-le w.client.faults x.client.faults fails.sound_before.faults_fit fails.faults)
          (record {
            reads = fault ∷ [];
            read = fails.read_faults;
            writes = [];
            written = fails.write_faults ∙ more_none w.client.write_faults;
          }) run.tells;
      order = run.order;
      untouched = λ still. kept ∙ run.holds.whole;
      going = λ limit. cc;
      calm = tt;
      holds = (
        inr (inr (record {
          fault = fault;
          is = ap (λ (x : Error). Some x) is;
          rose = λ below. omega (arith, run.tells.faults, fails.faults below);
          place = inl (record {
            kind = fails.kind;
            told = added_last s.read_faults w.client.read_faults x.client.read_faults
                run.tells.fault_lists.reads fault fails.read_faults run.tells.fault_lists.read;
            open_head = subst (λ (xs : List ℕ). IsOpen xs) run.holds.whole open_head;
            ended = fails.ended;
            written = run.holds.written;
          });
          unsent = run.holds.unsent;
        })),
        (none, run.holds.untried.0),
      );
    };
  }

  -- more of the head came
  pub head_came : (s : Start) (p : Passed) (w x : World) (room : List ℕ) (n : ℕ)
      → x.ahead ≡ w.ahead ++ take n room → x.connect_faults ≡ w.connect_faults
      → GivesBytes w.client room n x.client
      → RunSoFar {C = C} state start_at s p w [] ReadHead
      → Advances {C = C} state start_at s x ReadHead
  head_came s p w x room n grown same gives run =
      record {
        passed = came_more p (take n room);
        run = record {
          tells = client_gave s p w x room n same gives run.tells;
          order = IsInOrder.is_nothing run.holds.written run.holds.unsent.sent;
          untouched = λ open_head. all;
          going = run.going;
          calm = gives.faults ∙ run.calm;
          holds = record {
            whole = all;
            written = run.holds.written;
            unsent = record { got = run.holds.unsent.got; sent = run.holds.unsent.sent };
            untried = run.holds.untried;
          };
        };
      }
    where
      all : x.ahead ≡ asked s (came_more p (take n room))
      all = grown ∙ ap (λ (xs : List ℕ). xs ++ take n room) run.holds.whole
          ∙ append_assoc s.ahead p.came (take n room)

  -- the head passed the entry check, and names Upgrade
  pub head_upgrades : (s : Start) (p : Passed) (w : World) (head : RequestHead)
      (framing : Framing) (len : ℕ) (e : Error) (attempts : List AttemptRecord)
      → HasRequest w.ahead head framing len → Entered head None → ¬ (IsConnect head)
      → NamesUpgrade head → e ≡ unrelayed Downstream → attempts ≡ []
      → RunSoFar {C = C} state start_at s p w [] ReadHead
      → Advances {C = C} state start_at s w (Ended (outcome.Refused (Some e)) attempts)
  head_upgrades s p w head framing len e attempts has entered no_connect upgrade is none run =
      record {
        passed = p;
        run = record {
          tells = run.tells;
          order = run.order;
          untouched = run.untouched;
          going = λ limit. cc;
          calm = tt;
          holds = (
            inr (inl (record {
              e = e;
              is = refl;
              why = IsLeftAlone.is_unrelayable (record {
                head = head;
                framing = framing;
                len = len;
                has = subst (λ (xs : List ℕ). HasRequest xs head framing len) run.holds.whole has;
                entered = entered;
                no_connect = no_connect;
                upgrade = upgrade;
              }) is;
              written = run.holds.written;
              unsent = run.holds.unsent;
            })),
            (none, run.holds.untried.0),
          );
        };
      }

  -- the client is to be given a generated answer
  pub turned_down : (s : Start) (p : Passed) (w : World) (status : ℕ) (e : Option Error)
      (session : Box HttpSession) (attempts : List AttemptRecord)
      → IsTurnedDown w.ahead (generated status) e
      → session.value.writing.output ≡ Open (generated status) → attempts ≡ []
      → RunSoFar {C = C} state start_at s p w [] ReadHead
      → Advances {C = C} state start_at s w (Answer session (owed.Refused e) attempts)
  turned_down s p w status e session attempts why waits none run =
      answer_on state start_at s p w [] session (owed.Refused e) attempts run.tells (record {
        text = generated status;
        owes = (
          subst (λ (xs : List ℕ). IsTurnedDown xs (generated status) e) run.holds.whole why,
          run.holds.unsent,
        );
        tells = tt;
        waits = record {
          left = generated status;
          is_open = waits;
          some = generated_some status;
          joined = ap (λ (xs : List ℕ). xs ++ generated status) run.holds.written;
        };
        made = (none, run.holds.untried.0);
      })
