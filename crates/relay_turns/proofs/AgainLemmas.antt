-- A session whose body is kept and whose response has not begun, so that another attempt may begin
-- with it.
--
--   uncounted               tasks behind which no final head was queued count no byte of a body
--   unqueued_parts          what a response has of which nothing was queued
--   out_same, out_still     a session of which nothing waits is written out, and one of which some
--                           was written is written out as before
--   begins_out              such a session begins anew once it is written out, where the client's
--                           link is
--   begins_then             one that begins does so where the client's link is then: that is
--   begins_there            said of one that began where the link was before, and
--   based_begins            of one of which nothing was queued or written
--   begins_any              it begins for each head that may be sent, whatever was called before
--   begins_accepted         its head was accepted
--   as_begun_before         a session that a hook left as begun was so before
use Rattle.std.proofs.Common.{◌≡◌, ℕ, ◌+◌, Bool, true, false, not, ◌&&◌, ◌||◌, List, [], ◌∷◌, ◌++◌, length, Option, Some, None, refl, sym, ap, subst, ◌∙◌, inl, inr, true≢false, arith, le_refl, append-nil}
use Rattle.std.proofs.lemmas.Bool.{eqb-true}
use Rattle.std.specs.Prelude.{◌⊎◌, if◌then◌else◌, min}
use Rattle.relay_tasks.specs.Head.{RequestHead}
use Rattle.relay_tasks.specs.declared.log.LogEntry.{LogEntry}
use Rattle.relay_tasks.specs.declared.task.HttpTask.{HttpTask}
use Rattle.relay_tasks.specs.declared.task.HttpTask.TheVariants as task
use Rattle.relay_links.specs.Count.{last_count}
use Rattle.relay_links.specs.Link.{LinkState}
use Rattle.relay_links.specs.Told.{Since, told_length}
use Rattle.relay_links.proofs.SinceLemmas.{Since-start}
use Rattle.relay_h1.specs.BodyWire.{after_piece}
use Rattle.relay_h1.specs.ClientHead.{is_informational}
use Rattle.relay_h1.specs.Verdict.{HasRequest}
use Rattle.relay_h1.specs.declared.framing.Framing.{Framing}
use Rattle.relay_session.specs.Reading.{is_kept, is_truncated}
use Rattle.relay_session.specs.Response.{Holds, HoldsOn, IsText, has_head, is_unqueued, is_written_out}
use Rattle.relay_session.specs.Session.{may_begin_again}
use Rattle.relay_session.specs.TaskSteps.{IsWire}
use Rattle.relay_session.specs.TaskWire.{Sent, ends_with, framing_of, framed_head_sent, informed, joined, only_end, only_piece, piece_sent, shown, task_sent, wire}
use Rattle.relay_session.specs.declared.reading.Reading.{Reading}
use Rattle.relay_session.specs.declared.reading.Reading.TheVariants as reading
use Rattle.relay_session.specs.declared.session.HttpSession.{HttpSession}
use Rattle.relay_session.specs.declared.task_text.Place.{Place}
use Rattle.relay_session.specs.declared.task_text.Place.TheVariants as place
use Rattle.relay_session.specs.declared.task_text.Request.{Request}
use Rattle.relay_session.specs.declared.writing.Outgoing.{Outgoing}
use Rattle.relay_session.specs.declared.writing.Outgoing.TheVariants as outgoing
use Rattle.relay_session.specs.declared.writing.Writing.{Writing}
use Rattle.relay_core.specs.Past.{DownPast, Origin}
use Rattle.relay_sides.specs.Client.{BeginsBehind, IsClient, queued}
use Rattle.relay_modules.specs.declared.seen.Seen.{Seen}
use Rattle.relay_opening.proofs.ToldLemmas.{reads_kept}
use Rattle.relay_phases.specs.Turns.{ReadsNothing}
use Rattle.relay_peer.specs.Faults.{TellsSince}
use Rattle.relay_attempt.specs.Passed.{Passed}
use Rattle.relay_request.specs.Phases.{written_out}
use Rattle.relay_request.specs.Passed.{Start}
use Rattle.relay_request.specs.Relayable.{IsAccepted, IsRelayable}

-- ---- what was queued before the final head

-- a piece of a body leaves the response behind its final head
piece_has : (rest : Framing) (piece : List ℕ) (ends : Bool)
    → has_head (piece_sent rest piece ends).place ≡ true
piece_has rest piece ends = on (ends_with rest piece ends)
  where
    on : (b : Bool)
        → has_head (if b then joined (only_piece rest piece) (only_end (after_piece rest piece))
        else only_piece rest piece).place ≡ true
    on true = refl
    on false = refl

-- so does each task behind it
keeps_head : (request : Request) (at : Place) (one : HttpTask) → has_head at ≡ true
    → has_head (task_sent request at one).place ≡ true
keeps_head request place.NoHead one has = absurd (true≢false (sym has))
keeps_head request (place.Body rest) (task.Header head ends) has = piece_has rest [] ends
keeps_head request (place.Body rest) (task.Body piece ends) has = piece_has rest _ ends
keeps_head request (place.Body rest) (task.UpgradedBody piece ends) has = piece_has rest _ ends
keeps_head request (place.Body rest) (task.Trailer fields) has = piece_has rest [] true
keeps_head request (place.Body rest) task.Done has = piece_has rest [] true
keeps_head request (place.Body rest) (task.Failed error) has = refl
keeps_head request place.Done (task.Header head ends) has = refl
keeps_head request place.Done (task.Body piece ends) has = refl
keeps_head request place.Done (task.UpgradedBody piece ends) has = refl
keeps_head request place.Done (task.Trailer fields) has = refl
keeps_head request place.Done task.Done has = refl
keeps_head request place.Done (task.Failed error) has = refl

-- and all of them
keep_head : (request : Request) (at : Place) (tasks : List HttpTask) → has_head at ≡ true
    → has_head (wire request at tasks).place ≡ true
keep_head request at [] has = has
keep_head request at (one ∷ tasks) has =
    keep_head request (task_sent request at one).place tasks (keeps_head request at one has)

-- what is sent leaves no final head, counts no byte of a body, and closes nothing
abbrev IsAhead : Sent → Type 0
IsAhead sent = (sent.place ≡ place.NoHead) × (sent.counted ≡ 0) × (sent.closes ≡ false)

-- a task before the final head is such, or it is one
task_ahead : (request : Request) (one : HttpTask)
    → IsAhead (task_sent request place.NoHead one)
    ⊎ (has_head (task_sent request place.NoHead one).place ≡ true)
task_ahead request (task.Header head ends) =
    by_status (is_informational head.status)
  where
    by_framing : (framed : Option Framing)
        → IsAhead (framed_head_sent (shown request head) ends framed)
        ⊎ (has_head (framed_head_sent (shown request head) ends framed).place ≡ true)
    by_framing None = inl (refl, refl, refl)
    by_framing (Some framing) = inr (piece_has framing [] ends)

    by_status : (b : Bool)
        → IsAhead (if b then informed request head
        else framed_head_sent (shown request head) ends (framing_of request head))
        ⊎ (has_head (if b then informed request head
        else framed_head_sent (shown request head) ends (framing_of request head)).place ≡ true)
    by_status true = inl (refl, refl, refl)
    by_status false = by_framing (framing_of request head)
task_ahead request (task.Body piece ends) = inl (refl, refl, refl)
task_ahead request (task.UpgradedBody piece ends) = inl (refl, refl, refl)
task_ahead request (task.Trailer fields) = inl (refl, refl, refl)
task_ahead request task.Done = inl (refl, refl, refl)
task_ahead request (task.Failed error) = inl (refl, refl, refl)

-- tasks behind which no final head was queued count no byte of a body
pub uncounted : (request : Request) (tasks : List HttpTask)
    → has_head (wire request place.NoHead tasks).place ≡ false
    → (wire request place.NoHead tasks).counted ≡ 0
uncounted request [] none = refl
uncounted request (one ∷ tasks) none =
    on (task_sent request place.NoHead one) (task_ahead request one) (uncounted request tasks) none
  where
    on : (sent : Sent) → IsAhead sent ⊎ (has_head sent.place ≡ true)
        → (has_head (wire request place.NoHead tasks).place ≡ false
        → (wire request place.NoHead tasks).counted ≡ 0)
        → has_head (wire request sent.place tasks).place ≡ false
        → sent.counted + (wire request sent.place tasks).counted ≡ 0
    on sent (inl (at, zero, shut)) behind none =
        let rest : has_head (wire request place.NoHead tasks).place ≡ false =
        subst (λ (k : Place). has_head (wire request k tasks).place ≡ false) at none in
        omega (arith, zero, ap (λ (k : Place). (wire request k tasks).counted) at, behind rest)
    on sent (inr has) behind none =
        absurd (true≢false (sym (keep_head request sent.place tasks has) ∙ none))

-- nor do they close the connection
unclosed : (request : Request) (tasks : List HttpTask)
    → has_head (wire request place.NoHead tasks).place ≡ false
    → (wire request place.NoHead tasks).closes ≡ false
unclosed request [] none = refl
unclosed request (one ∷ tasks) none =
    on (task_sent request place.NoHead one) (task_ahead request one) (unclosed request tasks) none
  where
    on : (sent : Sent) → IsAhead sent ⊎ (has_head sent.place ≡ true)
        → (has_head (wire request place.NoHead tasks).place ≡ false
        → (wire request place.NoHead tasks).closes ≡ false)
        → has_head (wire request sent.place tasks).place ≡ false
        → (sent.closes || (wire request sent.place tasks).closes) ≡ false
    on sent (inl (at, zero, shut)) behind none =
        let rest : has_head (wire request place.NoHead tasks).place ≡ false =
        subst (λ (k : Place). has_head (wire request k tasks).place ≡ false) at none in
        rw (shut, at) (behind rest)
    on sent (inr has) behind none =
        absurd (true≢false (sym (keep_head request sent.place tasks has) ∙ none))

-- ---- a response of which nothing is queued

-- no final head was queued, and nothing waits
pub record IsUnqueued (response : Writing) : Type 0 where
  pub at : response.place ≡ place.NoHead
  pub output : response.output ≡ outgoing.Open []

-- so its tests say
pub unqueued_parts : (response : Writing) → is_unqueued response ≡ true → IsUnqueued response
unqueued_parts response all =
    let both = on response.place response.output all in
    record { at = both.0; output = both.1 }
  where
    on : (at : Place) (output : Outgoing) → (not (has_head at) && is_written_out output) ≡ true
        → (at ≡ place.NoHead) × (output ≡ outgoing.Open [])
    on place.NoHead (outgoing.Open []) all = (refl, refl)
    on place.NoHead (outgoing.Open (b ∷ bytes)) all =
        absurd (omega (arith, eqb-true (length (b ∷ bytes)) 0 all))
    on place.NoHead (outgoing.Broken fault) all = absurd (true≢false (sym all))
    on (place.Body rest) output all = absurd (true≢false (sym all))
    on place.Done output all = absurd (true≢false (sym all))

-- it stands as one that holds no task
holds_none : (response : Writing) (tasks : List HttpTask) (taken : List ℕ)
    → Holds response tasks taken → IsUnqueued response → Holds response [] []
holds_none response tasks taken holds unqueued =
    subst (λ (o : Outgoing). HoldsOn response o [] []) (sym unqueued.output)
    (none (subst (λ (o : Outgoing). HoldsOn response o tasks taken) unqueued.output holds))
  where
    none : IsText response tasks (taken ++ []) → IsText response [] []
    none text =
        let stands : (wire response.request place.NoHead tasks).place ≡ place.NoHead =
        ap (λ (k : Sent). k.place) text.wire.is ∙ unqueued.at in
        let zero : text.counted ≡ 0 =
        sym (ap (λ (k : Sent). k.counted) text.wire.is)
        ∙ uncounted response.request tasks (ap (λ (k : Place). has_head k) stands) in
        let shut : false ≡ response.closes =
        sym (unclosed response.request tasks (ap (λ (k : Place). has_head k) stands))
        ∙ ap (λ (k : Sent). k.closes) text.wire.is in
        record {
          counted = 0;
          wire = subst (λ (b : Bool). IsWire response.request []
              (record { text = []; counted = 0; closes = b; place = response.place })) shut
              (subst (λ (k : Place). IsWire response.request []
              (record { text = []; counted = 0; closes = false; place = k })) (sym unqueued.at)
              (record { is = refl; body = tt }));
          counts = text.counts ∙ ap (λ (n : ℕ). min n last_count) zero;
        }

-- ---- a session with which another attempt may begin

-- both halves of it let one begin
pub as_begun_parts : (session : HttpSession) → may_begin_again session ≡ true
    → (is_kept session.reading ≡ true) × (is_unqueued session.writing ≡ true)
as_begun_parts session all = on (is_kept session.reading) (is_unqueued session.writing) all
  where
    on : (a b : Bool) → (a && b) ≡ true → (a ≡ true) × (b ≡ true)
    on true true all = (refl, refl)
    on true false all = absurd (true≢false (sym all))
    on false b all = absurd (true≢false (sym all))

-- what is kept is not lost
pub kept_whole : (now : Reading) → is_kept now ≡ true → is_truncated now ≡ false
kept_whole reading.Head kept = refl
kept_whole (reading.Body request) kept = ap (λ (b : Bool). not b) kept

-- the same place, where the client's link stands
abbrev pub rebased_to : Origin → LinkState → Origin
rebased_to o client = record o { taken = told_length client.taken; faults = client.faults }

-- one of which nothing waits is written out
pub out_same : (session : HttpSession) → session.writing.output ≡ outgoing.Open []
    → written_out session ≡ session
out_same session is =
    ap (λ (o : Outgoing). record session { writing = record session.writing { output = o } })
    (sym is)

-- one of which some was written, or tried to be, is written out as before
pub out_still : (old new : HttpSession)
    → new ≡ record old { writing = record old.writing { output = new.writing.output } }
    → written_out new ≡ written_out old
out_still old new same = ap written_out same

-- what was queued is the text that it has once it is written out
holds_out : (response : Writing) (queue : List ℕ) (tasks : List HttpTask) (taken : List ℕ)
    → response.output ≡ outgoing.Open queue → Holds response tasks taken
    → Holds (record response { output = outgoing.Open [] }) tasks (taken ++ queue)
holds_out response queue tasks taken is holds =
    let text : HoldsOn response (outgoing.Open queue) tasks taken =
    subst (λ (o : Outgoing). HoldsOn response o tasks taken) is holds in
    record {
      counted = text.counted;
      wire = subst (λ (xs : List ℕ). IsWire response.request tasks (record {
        text = xs;
        counted = text.counted;
        closes = response.closes;
        place = response.place;
      })) (sym (append-nil (taken ++ queue))) text.wire;
      counts = text.counts;
    }

-- such a session begins anew once it is written out, where the client's link stands
pub begins_out : (o : Origin) (down : DownPast) (client : LinkState) (ahead : List ℕ)
    (session : HttpSession) → IsClient o down client ahead session → (queue : List ℕ)
    → session.writing.output ≡ outgoing.Open queue → may_begin_again (written_out session) ≡ true
    → BeginsBehind (rebased_to o client) down.came client ahead (written_out session)
begins_out o down client ahead session c queue is begun =
    let parts = as_begun_parts (written_out session) begun in
    let unqueued = unqueued_parts (written_out session).writing parts.1 in
    record {
      gave = c.came;
      written = Since-start [] client.taken;
      faults = le_refl client.faults;
      head = c.head;
      framing = c.framing;
      len = c.len;
      has = c.has;
      has_head = c.has_head;
      own = c.own;
      answers = c.answers;
      body = c.body;
      request = c.request;
      kept = parts.0;
      headed = c.headed;
      whole = c.told_whole;
      response = holds_none (written_out session).writing (queued down) (down.written ++ queue)
          (holds_out session.writing queue (queued down) down.written is c.response) unqueued;
      output = unqueued.output;
      tells = c.tells;
    }

-- one that begins does so where the client's link stands then, having given no more
begins_then : (o : Origin) (came : List ℕ) (before after : LinkState) (ahead : List ℕ)
    (session : HttpSession) → after.given ≡ before.given
    → TellsSince o.read_faults o.write_faults after → BeginsBehind o came before ahead session
    → BeginsBehind (rebased_to o after) came after ahead session
begins_then o came before after ahead session same tells b = record {
  gave = subst (λ (given : Option (List ℕ)). Since [] o.given given came) (sym same) b.gave;
  written = Since-start [] after.taken;
  faults = le_refl after.faults;
  head = b.head;
  framing = b.framing;
  len = b.len;
  has = b.has;
  has_head = b.has_head;
  own = b.own;
  answers = b.answers;
  body = b.body;
  request = b.request;
  kept = b.kept;
  headed = b.headed;
  whole = b.whole;
  response = b.response;
  output = b.output;
  tells = tells;
}

-- so does one that begins where the link stood before
pub begins_there : (o : Origin) (came : List ℕ) (before after : LinkState) (ahead : List ℕ)
    (session : HttpSession) → after.given ≡ before.given
    → TellsSince o.read_faults o.write_faults after
    → BeginsBehind (rebased_to o before) came before ahead session
    → BeginsBehind (rebased_to o after) came after ahead session
begins_there o came before after ahead session same tells b =
    begins_then (rebased_to o before) came before after ahead session same tells b

-- and one that begins already, where nothing was written since
pub based_begins : (o : Origin) (came : List ℕ) (client : LinkState) (ahead : List ℕ)
    (session : HttpSession) → BeginsBehind o came client ahead session
    → BeginsBehind (rebased_to o client) came client ahead session
based_begins o came client ahead session b =
    begins_then o came client client ahead session refl b.tells b

-- it begins so for each head that may be sent, over whatever link, and whatever was called before
pub begins_any : (o : Origin) (came : List ℕ) (client : LinkState) (ahead : List ℕ)
    (session : HttpSession) (sent : RequestHead) (reused : Bool) (called : List LogEntry)
    → BeginsBehind o came client ahead session
    → BeginsBehind (record o { sent = sent; reused = reused; called = called }) came client ahead
    session
begins_any o came client ahead session sent reused called b = record {
  gave = b.gave;
  written = b.written;
  faults = b.faults;
  head = b.head;
  framing = b.framing;
  len = b.len;
  has = b.has;
  has_head = b.has_head;
  own = b.own;
  answers = b.answers;
  body = b.body;
  request = b.request;
  kept = b.kept;
  headed = b.headed;
  whole = b.whole;
  response = b.response;
  output = b.output;
  tells = b.tells;
}

-- the head of its request was accepted
pub begins_accepted : (s : Start) (p : Passed) (o : Origin) (client : LinkState) (ahead : List ℕ)
    (session : HttpSession) → o.ahead ≡ s.ahead → IsRelayable o.head
    → BeginsBehind o p.came client ahead session → IsAccepted s p o.head
begins_accepted s p o client ahead session same relayable b = record {
  framing = b.framing;
  len = b.len;
  has = subst (λ (xs : List ℕ). HasRequest (xs ++ p.came) o.head b.framing b.len) same
      (subst (λ (h : RequestHead). HasRequest (o.ahead ++ p.came) h b.framing b.len) b.own b.has);
  relayable = relayable;
}

-- ---- behind a hook

-- what hooks are shown, with a session that is written out
abbrev pub shown_out : Seen → Seen
shown_out seen = record seen { downstream = written_out seen.downstream }

-- a hook that read nothing did not of one that is written out
pub reads_out : (first now : Seen) → ReadsNothing first now
    → ReadsNothing (shown_out first) (shown_out now)
reads_out first now reads = record { head = reads.head; but_head = reads.but_head }

-- a session that stands as begun behind a hook that read and queued nothing stood so before it
pub as_begun_before : (first now : Seen) → ReadsNothing first now
    → now.downstream.writing ≡ first.downstream.writing
    → may_begin_again now.downstream ≡ true → may_begin_again first.downstream ≡ true
as_begun_before first now reads same begun =
    let kept = reads_kept first now reads in
    ap (λ (b : Bool). b && is_unqueued first.downstream.writing) (sym kept)
    ∙ ap (λ (w : Writing). is_kept now.downstream.reading && is_unqueued w) (sym same)
    ∙ begun
