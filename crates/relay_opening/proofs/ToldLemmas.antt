-- What the log of the hooks before the attempts tells of the session, for their caller.
use Rattle.std.proofs.Common.{◌≡◌, ℕ, true, false, List, [], ◌∷◌, Some, None, refl, sym, ap, subst, ◌∙◌, true≢false, unwrap_or, is_some}
use Rattle.std.specs.Prelude.{IsSome, Option}
use Rattle.relay_tasks.specs.Head.{RequestHead, new_request}
use Rattle.relay_tasks.specs.declared.log.LogEntry.{LogEntry}
use Rattle.relay_tasks.specs.declared.task.HttpTask.{HttpTask}
use Rattle.relay_session.specs.Reading.{RequestSoFar, head_of, is_body_done, is_body_empty, is_kept, is_truncated, received, with_head}
use Rattle.relay_session.specs.Response.{IsOpen}
use Rattle.relay_session.specs.declared.reading.Reading.{Reading}
use Rattle.relay_session.specs.declared.reading.Reading.TheVariants as reading
use Rattle.relay_session.specs.declared.writing.Writing.{Writing}
use Rattle.relay_modules.specs.declared.seen.Seen.{Seen}
use Rattle.relay_hooks.specs.Session.{moment, request_head}
use Rattle.relay_hooks.specs.Standing.{Standing, standing}
use Rattle.relay_calls.specs.Log.{Walk, after}
use Rattle.relay_phases.specs.Order.{Station}
use Rattle.relay_phases.specs.Order.{Station as station}
use Rattle.relay_phases.specs.Turns.{HasCalled, KeepsRest, QueuesNothing, ReadsNothing, wrote_in}
use Rattle.relay_opening.specs.Opens.{OpensSoFar}
use Rattle.relay_opening.specs.Place.{end_station, station_of}
use Rattle.relay_opening.specs.Queued.{QueuesAtEnd}
use Rattle.relay_opening.specs.Told.{TellsHead, head_behind, is_lost, is_quiet}
use Rattle.relay_opening.specs.declared.place.End.TheVariants as end
use Rattle.relay_opening.specs.declared.place.Place.{Place}
use Rattle.relay_opening.specs.declared.place.Place.TheVariants as place
use Rattle.relay_opening.proofs.QueuedLemmas.{end_answers_to, end_open}

-- ---- the head that a log tells

-- a log that walks leads to the head that it tells
pub walk_head : (allows : Standing → LogEntry → Type 0) (es : List LogEntry) (from to : Standing)
    → Walk allows from es to → to.head ≡ head_behind from.head es
walk_head allows [] from to views = views.head
walk_head allows (e ∷ es) from to (st, views, fits, allowed, rest) =
    walk_head allows es (after st e) to rest
    ∙ ap (λ (head : RequestHead). head_behind (unwrap_or e.head head) es) views.head

-- a reading that has a head has this one
head_or : (r : Reading) (other : RequestHead) → IsSome (head_of r)
    → head_of r ≡ Some (unwrap_or (head_of r) other)
head_or reading.Head other none = absurd (true≢false (sym none))
head_or (reading.Body request) other some = refl

-- a head that stands was read
some_head : (r : Reading) (head : RequestHead) → head_of r ≡ Some head → IsSome (head_of r)
some_head r head is = ap is_some is

module _ (allows : Standing → LogEntry → Type 0) (first : Seen) (mark : ℕ) where
  -- so do calls behind one another, whatever they queued
  pub called_head : (from to : Station) (queues : Writing → Writing → List HttpTask → Type 0)
      (now : Seen) (behind : ℕ) (called : HasCalled allows first mark from to queues now behind)
      → TellsHead first now called.entries
  called_head from to queues now behind called =
      let told : request_head now ≡ head_behind (request_head first) called.entries =
      walk_head allows called.entries (standing None false (moment first mark))
      (standing None false (moment now behind)) called.walks in
      record {
        log = called.log;
        told = told;
        read = λ head is.
            head_or now.downstream.reading (new_request [] [])
            (called.reads.head (some_head first.downstream.reading head is))
            ∙ ap Some
            (told
            ∙ ap (λ (o : Option RequestHead).
            head_behind (unwrap_or o (new_request [] [])) called.entries) is);
      }

  -- the opening does, where memory was not wanted
  pub opens_head : {K : Type 0} (p : Place K) (now : Seen) (behind : ℕ) → is_lost p ≡ false
      → OpensSoFar allows first mark p now behind
      → (entries : List LogEntry) × TellsHead first now entries
  opens_head (place.Behind last) now behind known called = (
    called.entries,
    called_head station.accepted (station_of last) QueuesNothing now behind called,
  )
  opens_head (place.Ended how) now behind known called = (
    called.entries,
    called_head station.accepted (end_station how) (QueuesAtEnd how) now behind called,
  )
  opens_head place.Lost now behind known called = absurd (true≢false known)

  -- nothing of the client's body was read, and nothing else has changed but what hooks may change
  pub opens_rest : {K : Type 0} (p : Place K) (now : Seen) (behind : ℕ) → is_lost p ≡ false
      → OpensSoFar allows first mark p now behind → ReadsNothing first now × KeepsRest first now
  opens_rest (place.Behind last) now behind known called = (called.reads, called.rest)
  opens_rest (place.Ended how) now behind known called = (called.reads, called.rest)
  opens_rest place.Lost now behind known called = absurd (true≢false known)

  -- ---- the response

  -- where nothing was queued the response is as it was
  pub writes_same : {K : Type 0} (p : Place K) (now : Seen) (behind : ℕ) → is_quiet p ≡ true
      → OpensSoFar allows first mark p now behind
      → now.downstream.writing ≡ first.downstream.writing
  writes_same (place.Behind last) now behind quiet called = called.queued.same
  writes_same (place.Ended end.Attempts) now behind quiet called = called.queued.same
  writes_same (place.Ended end.Answered) now behind quiet called =
      absurd (true≢false (sym quiet))
  writes_same (place.Ended end.Purge) now behind quiet called = called.queued.same
  writes_same (place.Ended end.Declined) now behind quiet called =
      absurd (true≢false (sym quiet))
  writes_same (place.Ended (end.Unwritten why)) now behind quiet called =
      absurd (true≢false (sym quiet))
  writes_same (place.Ended (end.Failed error)) now behind quiet called = called.queued.same
  writes_same place.Lost now behind quiet called = absurd (true≢false (sym quiet))

  -- wherever the opening stands the response answers the request that it answered at first
  pub opens_answers_to : {K : Type 0} (p : Place K) (now : Seen) (behind : ℕ) → is_lost p ≡ false
      → OpensSoFar allows first mark p now behind
      → now.downstream.writing.request ≡ first.downstream.writing.request
  opens_answers_to (place.Behind last) now behind known called =
      ap (λ (w : Writing). w.request) called.queued.same
  opens_answers_to (place.Ended how) now behind known called =
      end_answers_to how first.downstream.writing now.downstream.writing
      (wrote_in called.entries) called.queued
  opens_answers_to place.Lost now behind known called = absurd (true≢false known)

  -- and where no write had failed at first, none has
  pub opens_open : {K : Type 0} (p : Place K) (now : Seen) (behind : ℕ) → is_lost p ≡ false
      → OpensSoFar allows first mark p now behind → IsOpen first.downstream.writing.output
      → IsOpen now.downstream.writing.output
  opens_open (place.Behind last) now behind known called was_open =
      subst (λ (w : Writing). IsOpen w.output) (sym called.queued.same) was_open
  opens_open (place.Ended how) now behind known called was_open =
      end_open how first.downstream.writing now.downstream.writing (wrote_in called.entries)
      called.queued was_open
  opens_open place.Lost now behind known called was_open = absurd (true≢false known)

-- ---- the request

module _ (given body ahead : List ℕ) where
  -- how far a request has come does not depend on its head
  so_far_with : (r : Reading) (head : RequestHead) → RequestSoFar given body ahead r
      → RequestSoFar given body ahead (with_head r head)
  so_far_with reading.Head head so_far = so_far
  so_far_with (reading.Body request) head so_far =
      record {
        head = so_far.head;
        len = so_far.len;
        has = so_far.has;
        so_far = so_far.so_far;
        counted = so_far.counted;
        kept = so_far.kept;
      }

  so_far_without : (r : Reading) (head : RequestHead)
      → RequestSoFar given body ahead (with_head r head) → RequestSoFar given body ahead r
  so_far_without reading.Head head so_far = so_far
  so_far_without (reading.Body request) head so_far =
      record {
        head = so_far.head;
        len = so_far.len;
        has = so_far.has;
        so_far = so_far.so_far;
        counted = so_far.counted;
        kept = so_far.kept;
      }

  -- where nothing was read the request has come as far as before
  pub reads_so_far : (first now : Seen) → ReadsNothing first now
      → RequestSoFar given body ahead first.downstream.reading
      → RequestSoFar given body ahead now.downstream.reading
  reads_so_far first now reads so_far =
      let head = request_head first in
      so_far_without now.downstream.reading head
      (subst (λ (r : Reading). RequestSoFar given body ahead r) (sym (reads.but_head head))
      (so_far_with first.downstream.reading head so_far))

-- what is said of a reading with any head is said of it
done_with : (r : Reading) (head : RequestHead) → is_body_done (with_head r head) ≡ is_body_done r
done_with reading.Head head = refl
done_with (reading.Body request) head = refl

empty_with : (r : Reading) (head : RequestHead)
    → is_body_empty (with_head r head) ≡ is_body_empty r
empty_with reading.Head head = refl
empty_with (reading.Body request) head = refl

received_with : (r : Reading) (head : RequestHead) → received (with_head r head) ≡ received r
received_with reading.Head head = refl
received_with (reading.Body request) head = refl

kept_with : (r : Reading) (head : RequestHead) → is_kept (with_head r head) ≡ is_kept r
kept_with reading.Head head = refl
kept_with (reading.Body request) head = refl

truncated_with : (r : Reading) (head : RequestHead)
    → is_truncated (with_head r head) ≡ is_truncated r
truncated_with reading.Head head = refl
truncated_with (reading.Body request) head = refl

-- where nothing was read the body has ended if it had before
pub reads_done : (first now : Seen) → ReadsNothing first now
    → is_body_done now.downstream.reading ≡ is_body_done first.downstream.reading
reads_done first now reads =
    let head = request_head first in
    sym (done_with now.downstream.reading head)
    ∙ (ap is_body_done (reads.but_head head) ∙ done_with first.downstream.reading head)

-- it is kept if it was
pub reads_kept : (first now : Seen) → ReadsNothing first now
    → is_kept now.downstream.reading ≡ is_kept first.downstream.reading
reads_kept first now reads =
    let head = request_head first in
    sym (kept_with now.downstream.reading head)
    ∙ (ap is_kept (reads.but_head head) ∙ kept_with first.downstream.reading head)

-- no more of it is lost
pub reads_truncated : (first now : Seen) → ReadsNothing first now
    → is_truncated now.downstream.reading ≡ is_truncated first.downstream.reading
reads_truncated first now reads =
    let head = request_head first in
    sym (truncated_with now.downstream.reading head)
    ∙ (ap is_truncated (reads.but_head head) ∙ truncated_with first.downstream.reading head)

-- it has bytes if it had
pub reads_empty : (first now : Seen) → ReadsNothing first now
    → is_body_empty now.downstream.reading ≡ is_body_empty first.downstream.reading
reads_empty first now reads =
    let head = request_head first in
    sym (empty_with now.downstream.reading head)
    ∙ (ap is_body_empty (reads.but_head head) ∙ empty_with first.downstream.reading head)

-- and as many were given out
pub reads_received : (first now : Seen) → ReadsNothing first now
    → received now.downstream.reading ≡ received first.downstream.reading
reads_received first now reads =
    let head = request_head first in
    sym (received_with now.downstream.reading head)
    ∙ (ap received (reads.but_head head) ∙ received_with first.downstream.reading head)
