-- What passed through the client's side: how it begins, and how lists of tasks join.
use Rattle.std.proofs.Common.{◌≡◌, ℕ, ◌≤◌, Bool, true, false, List, [], ◌∷◌, ◌++◌, length, Option, Some, None, refl, sym, ◌∙◌, ap, subst, append-nil, append_assoc, inl, inr, arith}
use Rattle.std.proofs.lemmas.Bool.Decides.{nat_tests}
use Rattle.std.specs.Prelude.{◌==◌, IsSome, IsTrue}
use Rattle.std.specs.List.{list_any}
use Rattle.relay_tasks.specs.declared.task.HttpTask.{HttpTask}
use Rattle.relay_tasks.specs.declared.task.HttpTask.TheVariants as task
use Rattle.relay_tasks.specs.Task.{is_end}
use Rattle.relay_links.specs.Count.{Rose}
use Rattle.relay_links.specs.Link.{LinkState}
use Rattle.relay_session.specs.Reading.{RequestSoFar, IsWhole, head_of, is_body_done, is_kept, replay_of}
use Rattle.relay_session.specs.Replay as held
use Rattle.relay_session.specs.Replay.{Keeps, retry_buffer, some_bytes}
use Rattle.relay_session.specs.declared.replay.Replay.{Replay}
use Rattle.relay_session.specs.declared.replay.Replay.TheVariants as replay
use Rattle.relay_session.specs.declared.reading.Reading.{Reading}
use Rattle.relay_session.specs.declared.reading.Reading.TheVariants as reading
use Rattle.relay_session.specs.declared.session.HttpSession.{HttpSession}
use Rattle.relay_session.specs.Response.{HoldsOn, is_over}
use Rattle.relay_session.specs.TaskWire.{Sent, wire}
use Rattle.relay_session.specs.declared.task_text.Place.TheVariants as place
use Rattle.relay_session.specs.declared.writing.Writing.{Writing}
use Rattle.relay_session.specs.declared.writing.Outgoing.{Outgoing}
use Rattle.relay_session.specs.declared.writing.Outgoing.TheVariants as outgoing
use Rattle.relay_session.proofs.ReadingLemmas.{body_whole}
use Rattle.relay_tasks.specs.declared.fault.Fault.{Fault}
use Rattle.relay_core.specs.Past.{Origin, DownPast}
use Rattle.relay_peer.specs.Body.{bytes_of, body_of}
use Rattle.relay_sides.specs.Client.{HasPassed, HaveSome, FailsWrite, BeginsBehind, begun_past, first_put, put_again}
use Rattle.relay_peer.proofs.FaultLemmas.{Grew, among_still}

-- an output that is open has no fault
pub open_is_whole : (output : Outgoing) (queue : List ℕ) (fault : Fault)
    → output ≡ outgoing.Open queue → ¬ (output ≡ outgoing.Broken fault)
open_is_whole output queue fault is broken = let both = sym is ∙ broken in cc

-- the tasks that were queued leave the response where the session stands
pub stands_at : (now : Writing) (output : Outgoing) (tasks : List HttpTask) (taken : List ℕ)
    → HoldsOn now output tasks taken → (wire now.request place.NoHead tasks).place ≡ now.place
stands_at now (outgoing.Open queue) tasks taken holds =
    ap (λ (t : Sent). t.place) holds.wire.is
stands_at now (outgoing.Broken fault) tasks taken holds =
    ap (λ (t : Sent). t.place) holds.1.wire.is

-- bytes that are kept are one piece, with the end or without
first_piece : (b : ℕ) (bytes : List ℕ) (done : Bool)
    → first_put (Some (b ∷ bytes)) done ≡ task.Body (Some (b ∷ bytes)) done ∷ []
first_piece b bytes done =
    let some : (length (b ∷ bytes) == 0) ≡ false = grind (arith, nat_tests) in
    rw some refl

-- an end that is put first is put exactly where the body has ended
pub end_is : (kept : Option (List ℕ)) (done : Bool) → list_any is_end (first_put kept done) ≡ done
end_is None true = refl
end_is None false = refl
end_is (Some []) true = refl
end_is (Some []) false = refl
end_is (Some (b ∷ bytes)) true = rw (first_piece b bytes true) refl
end_is (Some (b ∷ bytes)) false = rw (first_piece b bytes false) refl

-- what is put first of a body that is kept brings that
first_body : (bytes : List ℕ) (done : Bool) → body_of (first_put (some_bytes bytes) done) ≡ bytes
first_body [] true = refl
first_body [] false = refl
first_body (b ∷ bytes) done = rw (first_piece b bytes done) (append-nil (b ∷ bytes))

-- and it has some, or is an end
first_some : (bytes : List ℕ) (done : Bool) → HaveSome (first_put (some_bytes bytes) done)
first_some [] true = (inr refl, tt)
first_some [] false = tt
first_some (b ∷ bytes) done = rw (first_piece b bytes done) (inl (omega arith), tt)

-- what is kept is the body so far
kept_body : (given body ahead : List ℕ) (now : Reading) → RequestSoFar given body ahead now
    → is_kept now ≡ true → retry_buffer (replay_of now) ≡ some_bytes body
kept_body given body ahead reading.Head so_far kept = absurd (cc)
kept_body given body ahead (reading.Body request) so_far kept =
    of request.replay so_far.kept kept
  where
    of : (now : Replay) → Keeps body now → held.is_kept now ≡ true
        → retry_buffer now ≡ some_bytes body
    of (replay.Kept bytes) keeps is = ap some_bytes keeps.0
    of replay.Truncated keeps is = absurd (cc)
    of replay.Lost keeps is = absurd (cc)

-- a side that begins behind the bytes that came
pub begins : (s : Origin) (came : List ℕ) (link : LinkState) (ahead : List ℕ)
    (session : HttpSession) → BeginsBehind s came link ahead session
    → HasPassed s (begun_past came (put_again session)) link ahead session false false None
begins s came link ahead session b =
    let done = is_body_done session.reading in
    let kept = kept_body (s.ahead ++ came) b.body ahead session.reading b.request b.kept in
    record {
      client = record {
        came = b.gave;
        written = b.written;
        faults = b.faults;
        head = b.head;
        own = b.own;
        framing = b.framing;
        len = b.len;
        has = b.has;
        has_head = b.has_head;
        answers = b.answers;
        body = b.body;
        request = b.request;
        joined = subst (λ (kept : Option (List ℕ)). body_of (first_put kept done) ≡ b.body) (sym kept)
            (first_body b.body done);
        some = subst (λ (kept : Option (List ℕ)). HaveSome (first_put kept done)) (sym kept)
            (first_some b.body done);
        ended = λ is. sym (end_is (retry_buffer (replay_of session.reading)) done) ∙ is;
        whole = λ over. end_is (retry_buffer (replay_of session.reading)) done ∙ over;
        headed = b.headed;
        told_whole = b.whole;
        response = b.response;
        broken = λ fault is.
            absurd (open_is_whole session.writing.output [] fault b.output is);
        tells = b.tells;
      };
      over = λ done. absurd (cc);
      plain = refl;
      plain_end = refl;
      place_over = λ done. absurd (cc);
      said = λ over.
          let at = stands_at session.writing session.writing.output [] [] b.response in
          let wrong : false ≡ true = ap is_over at ∙ over in
          absurd (cc);
      unasked = λ is. refl;
      asked = λ finished. absurd (cc);
      closed = λ finished. absurd (cc);
      unbroken = λ none. ([], b.output);
      fault = λ f is. absurd (cc);
    }

-- a request whose body has ended is whole
pub reading_whole : (given body ahead : List ℕ) (now : Reading) → RequestSoFar given body ahead now
    → is_body_done now ≡ true → IsWhole given body ahead
reading_whole given body ahead reading.Head so_far done = absurd (cc)
reading_whole given body ahead (reading.Body request) so_far done =
    body_whole given body ahead request so_far done

-- the body that tasks bring, joined
pub body_of-append : (tasks more : List HttpTask)
    → body_of (tasks ++ more) ≡ body_of tasks ++ body_of more
body_of-append [] more = refl
body_of-append (task ∷ tasks) more =
    ap (λ (xs : List ℕ). bytes_of task ++ xs) (body_of-append tasks more)
    ∙ sym (append_assoc (bytes_of task) (body_of tasks) (body_of more))

-- a count that rose before has risen since
pub rose_on : (start before after : ℕ) → before ≤ after → Rose start before → Rose start after
rose_on start before after grown rose = λ below.
    omega (arith, grown, below, rose (omega (arith, grown, below)))

-- a count that rises has risen from each earlier place
pub rose_from : (start before after : ℕ) → start ≤ before → Rose before after → Rose start after
rose_from start before after earlier rose = λ below. omega (arith, earlier, rose below)

-- a write that failed has failed since
pub failed_still : (s : Origin) (before after : LinkState) (fault : Fault)
    → before.faults ≤ after.faults → Grew before after → FailsWrite s before fault
    → FailsWrite s after fault
failed_still s before after fault grown grew was = (
  rose_on s.faults before.faults after.faults grown was.0,
  record {
    kind = was.1.kind;
    among = among_still s.write_faults before.write_faults after.write_faults grew.writes fault
        grew.written was.1.among;
  },
)

-- a side of which something passed has a head
pub no_head : (s : Origin) (p : DownPast) (link : LinkState) (ahead : List ℕ)
    (session : HttpSession) (done finished : Bool) (broken : Option Fault) (has : Bool)
    → has ≡ false → (IsSome (head_of session.reading) → IsTrue has)
    → ¬ (HasPassed s p link ahead session done finished broken)
no_head s p link ahead session done finished broken has none told h =
    let wrong = sym none ∙ told h.client.has_head in
    absurd (cc)
