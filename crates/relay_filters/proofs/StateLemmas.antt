-- What a side shows behind filters that its client's session was lent to: as its inner side shows.
use Rattle.std.proofs.Common.{◌≡◌, ℕ, ◌<◌, Bool, true, false, ◌||◌, List, [], ◌∷◌, length, Option, Some, None, IsSome, IsTrue, arith, refl, sym, ap, subst, true≢false, ◌∙◌}
use Rattle.std.specs.List.{list_any}
use Rattle.relay_tasks.specs.declared.error.Error.{Error}
use Rattle.relay_tasks.specs.declared.error.Fail.{Fail}
use Rattle.relay_tasks.specs.declared.error.Fail.TheVariants as fail
use Rattle.relay_tasks.specs.declared.log.LogEntry.{LogEntry}
use Rattle.relay_tasks.specs.declared.task.HttpTask.{HttpTask}
use Rattle.relay_tasks.specs.declared.task.HttpTask.TheVariants as task
use Rattle.relay_tasks.specs.Error.{IsMemoryOr}
use Rattle.relay_session.specs.Reading.{head_of, is_body_done}
use Rattle.relay_core.specs.Down.{DownState, GivesPiece, QueuesBatch, RefusesBatch}
use Rattle.relay_core.specs.Pipe.{is_failure}
use Rattle.relay_core.specs.Piece.{put_of}
use Rattle.relay_core.specs.Told.{failed}
use Rattle.relay_core.specs.declared.piece.Piece.{Piece}
use Rattle.relay_core.specs.declared.told.Told.{Told}
use Rattle.relay_modules.specs.declared.seen.Seen.{Seen}
use Rattle.relay_hooks.specs.Standing.{Standing}
use Rattle.relay_calls.specs.Log.{requests_in}
use Rattle.relay_sides.specs.Lent.{SameButHead}
use Rattle.relay_sides.specs.declared.client_side.ClientSide.{ClientSide}
use Rattle.relay_sides.proofs.LentLemmas.{state_lent}
use Rattle.relay_filters.specs.Request.{Filtered, by_pieces, is_last, piece_of, pieces_in}
use Rattle.relay_filters.specs.Hooked.{seen_by, state_of_side, state_over}
use Rattle.relay_filters.specs.declared.rested.Shown.{Shown}
use Rattle.relay_filters.proofs.LentSide.{Swapped}

-- a side shows the same over a session that hooks were lent
pub lent_shows : (side lent : ClientSide) → Swapped side lent
    → IsSome (head_of side.session.reading) → SameButHead side.session lent.session
    → state_of_side lent ≡ state_of_side side
lent_shows side lent rest some same =
    ap state_of_side rest
    ∙ state_lent side.session lent.session side.told side.done side.finished side.broken some same

-- ---- a piece

or_true : (a b c : Bool) → b ≡ true → ((a || b) || c) ≡ true
or_true true b c is = refl
or_true false true c is = refl
or_true false false c is = absurd (true≢false (sym is))

-- what a piece that passed says of the request
record Passes (ended : Bool) (piece made : Piece) : Type 0 where
  pub ends : IsTrue made.client_end → (ended || made.upstream_end) ≡ true
  pub nothing_behind : IsTrue ended → put_of false made ≡ []
  pub client : made.client_end ≡ piece.client_end

passes_so : (ended given : Bool) (piece : Piece) (left : Option (List ℕ))
    → Passes ended piece (piece_of ended (is_last piece) piece.client_end given left)
passes_so true given piece left =
    record { ends = λ end. refl; nothing_behind = λ behind. refl; client = refl }
passes_so false given piece left = record {
  ends = λ end. or_true piece.upstream_end piece.client_end _ end;
  nothing_behind = λ wrong. absurd (true≢false (sym wrong));
  client = refl;
}

-- the client's body has ended behind the piece with which the request ends
pub ended_behind : (side given : ClientSide) (piece : Piece)
    → GivesPiece (state_of_side side) (state_of_side given) piece → is_last piece ≡ true
    → is_body_done given.session.reading ≡ true
ended_behind side given piece gives last =
    by_upstream piece.upstream_end piece.client_end last
    (ap (λ (x : DownState). x.request_ended) gives.exact)
    (ap (λ (x : DownState). x.body_done) gives.exact)
  where
    or_right : (b : Bool) → (b || true) ≡ true
    or_right true = refl
    or_right false = refl

    by_upstream : (up client : Bool) → (up || client) ≡ true
        → is_body_done given.session.reading ≡ (is_body_done side.session.reading || up)
        → is_body_done given.session.reading ≡ (is_body_done side.session.reading || client)
        → is_body_done given.session.reading ≡ true
    by_upstream true client ends is is' = is ∙ or_right (is_body_done side.session.reading)
    by_upstream false true ends is is' = is' ∙ or_right (is_body_done side.session.reading)
    by_upstream false false ends is is' = cc

-- a piece that passed its filter
pub gives_piece : (allows : Standing → LogEntry → Type 0) (stand : Bool)
    (side given lent : ClientSide) (seen : Seen) (mark : ℕ) (seen' : Seen) (mark' : ℕ)
    (ended : Bool) (was : Shown) (st : Option Fail)
    (told : Told) (log : List LogEntry) (piece made : Piece) → st ≡ None → Swapped given lent
    → IsSome (head_of given.session.reading)
    → GivesPiece (state_of_side side) (state_of_side given) piece
    → Filtered allows stand ended piece made (seen_by seen given.session) mark
    (seen_by seen' lent.session) mark'
    → length (pieces_in log) < length (pieces_in seen'.log)
    → GivesPiece (state_over (state_of_side side) ended st was told log)
    (state_over (state_of_side lent) (ended || made.upstream_end) st was told seen'.log) made
gives_piece allows stand side given lent seen mark seen' mark' ended was (Some why) told log piece
    made on rest some gives f called = cc
gives_piece allows stand side given lent seen mark seen' mark' ended was None told log piece made
    on rest some gives f called =
    let same = f.came.adds.client in
    let so = subst (λ (m : Piece). Passes ended piece m) (sym f.is_made)
    (passes_so ended _ piece f.left) in
    record {
      exact =
          ap (λ (x : DownState). record x {
            request_ended = ended || made.upstream_end;
            told = told;
            calls = length (pieces_in seen'.log);
          }) (lent_shows given lent rest some same ∙ gives.exact)
          ∙ ap (λ (b : Bool). record (state_of_side side) {
            request_ended = ended || made.upstream_end;
            body_done = (state_of_side side).body_done || b;
            told = told;
            calls = length (pieces_in seen'.log);
          }) (sym so.client);
      ends = so.ends;
      nothing_behind = so.nothing_behind;
      calls_stay = omega arith;
    }

-- ---- a batch

-- a batch that the inner side queued
pub queues_batch : (side lent took : ClientSide) (ended : Bool) (st : Option Fail) (was : Shown)
    (told : Told) (log log' : List LogEntry) (tasks made : List HttpTask) (done : Bool)
    → st ≡ None → Swapped side lent → IsSome (head_of side.session.reading)
    → SameButHead side.session lent.session → requests_in log' ≡ requests_in log
    → list_any is_failure made ≡ list_any is_failure tasks
    → QueuesBatch (state_of_side lent) made (state_of_side took) done
    → QueuesBatch (state_over (state_of_side side) ended st was told log) tasks
    (state_over (state_of_side took) ended st was told log') done
queues_batch side lent took ended (Some why) was told log log' tasks made done on rest
    some same calls failures q = cc
queues_batch side lent took ended None was told log log' tasks made done on rest some same calls
    failures q = record {
      exact =
          ap (λ (x : DownState). record x {
            request_ended = ended;
            told = told;
            calls = length (pieces_in log');
          }) q.exact
          ∙ ap (λ (x : DownState). record x {
            request_ended = ended;
            awaits_upgrade = false;
            upgraded = false;
            response_done = done;
            body_finished = (state_of_side took).body_finished;
            pending = (state_of_side took).pending;
            told = told;
            calls = length (pieces_in log');
          }) (lent_shows side lent rest some same)
          ∙ ap (λ (es : List LogEntry). record (state_of_side side) {
            request_ended = ended;
            response_done = done;
            body_finished = (state_of_side took).body_finished;
            pending = (state_of_side took).pending;
            told = told;
            calls = length (by_pieces es);
          }) calls;
      upgraded_stays = λ up. up;
      done_stays = λ was_done. q.done_stays
          (ap (λ (x : DownState). x.response_done) (lent_shows side lent rest some same)
          ∙ was_done);
      finished_stays = λ was_finished. q.finished_stays
          (ap (λ (x : DownState). x.body_finished) (lent_shows side lent rest some same)
          ∙ was_finished);
      no_failure = sym failures ∙ q.no_failure;
    }

-- one that it refused
pub refuses_batch : (side lent took : ClientSide) (ended : Bool) (st : Option Fail) (was : Shown)
    (told : Told) (log log' : List LogEntry) (tasks made : List HttpTask) (why : Fail)
    → st ≡ None → Swapped side lent → IsSome (head_of side.session.reading)
    → SameButHead side.session lent.session → requests_in log' ≡ requests_in log
    → ((e : Error) → tasks ≡ task.Failed e ∷ [] → made ≡ task.Failed e ∷ [])
    → RefusesBatch (state_of_side lent) made (state_of_side took) why
    → RefusesBatch (state_over (state_of_side side) ended st was told log) tasks
    (state_over (state_of_side took) ended st was (failed why told) log') why
refuses_batch side lent took ended (Some before) was told log log' tasks made why on rest
    some same calls alone r = cc
refuses_batch side lent took ended None was told log log' tasks made why on rest some same calls
    alone r = record {
      exact =
          ap (λ (x : DownState). record x {
            request_ended = ended;
            told = failed why told;
            calls = length (pieces_in log');
          }) r.exact
          ∙ ap (λ (x : DownState). record x {
            request_ended = ended;
            awaits_upgrade = false;
            upgraded = false;
            response_done = (state_of_side took).response_done;
            body_finished = (state_of_side took).body_finished;
            pending = (state_of_side took).pending;
            told = failed why told;
            calls = length (pieces_in log');
          }) (lent_shows side lent rest some same)
          ∙ ap (λ (es : List LogEntry). record (state_of_side side) {
            request_ended = ended;
            response_done = (state_of_side took).response_done;
            body_finished = (state_of_side took).body_finished;
            pending = (state_of_side took).pending;
            told = failed why told;
            calls = length (by_pieces es);
          }) calls;
      upgraded_stays = λ up. up;
      by_failure = λ error is. r.by_failure error (alone error is);
    }

-- one that a filter refused
pub fails_batch : (side lent : ClientSide) (ended : Bool) (st : Option Fail) (was now : Shown)
    (told : Told) (log log' : List LogEntry) (tasks : List HttpTask) (why : Fail) → st ≡ None
    → now.body_done ≡ (state_of_side side).body_done → requests_in log' ≡ requests_in log
    → ((e : Error) → tasks ≡ task.Failed e ∷ [] → why ≡ fail.OutOfMemory)
    → RefusesBatch (state_over (state_of_side side) ended st was told log) tasks
    (state_over (state_of_side lent) ended (Some why) now (failed why told) log') why
fails_batch side lent ended (Some before) was now told log log' tasks why on shows calls
    failure = cc
fails_batch side lent ended None was now told log log' tasks why on shows calls failure = record {
  exact =
      ap (λ (b : Bool). record (state_over (state_of_side lent) ended (Some why) now
      (failed why told) log') { body_done = b }) shows
      ∙ ap (λ (es : List LogEntry). record (state_over (state_of_side lent) ended (Some why) now
      (failed why told) log') { body_done = (state_of_side side).body_done; calls = length (by_pieces es) })
      calls;
  upgraded_stays = λ up. up;
  by_failure = λ error is.
      subst (λ (f : Fail). IsMemoryOr error f) (sym (failure error is)) tt;
}
