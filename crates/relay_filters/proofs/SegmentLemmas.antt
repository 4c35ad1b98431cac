-- The calls of a side in order, with those of one piece or one batch more.
use Rattle.std.proofs.Common.{◌≡◌, ℕ, Bool, List, [], ◌∷◌, ◌++◌, drop, length, Option, Some, None, Ok, Err, refl, sym, ap, subst, ◌∙◌, append-nil, append_assoc, inl, inr}
use Rattle.std.proofs.Math.Seq.{drop-append_seam}
use Rattle.std.proofs.lemmas.List.Elements.{All-nil, All-push}
use Rattle.relay_tasks.specs.declared.error.Fail.{Fail}
use Rattle.relay_tasks.specs.declared.error.Fail.TheVariants as fail
use Rattle.relay_tasks.specs.declared.log.Item.TheVariants as item
use Rattle.relay_tasks.specs.declared.log.LogEntry.{LogEntry}
use Rattle.relay_tasks.specs.declared.task.HttpTask.{HttpTask}
use Rattle.relay_core.specs.declared.piece.Piece.{Piece}
use Rattle.relay_modules.specs.declared.seen.Seen.{Seen}
use Rattle.relay_hooks.specs.Standing.{Standing}
use Rattle.relay_filters.specs.Chain.{Refuses}
use Rattle.relay_filters.specs.Request.{Filtered, Filters, is_last}
use Rattle.relay_filters.specs.Response.{BatchPasses, BatchStops, Outcome}
use Rattle.relay_filters.specs.Segments.{InSegments, LastCalls, RefusedIn, Segment, joined}
use Rattle.relay_filters.specs.Segments as segments
use Rattle.relay_filters.proofs.PieceLemmas.{lost_of}

-- ---- lists

-- segments with one more
joined_push : (xs : List (List LogEntry)) (es : List LogEntry)
    → joined (xs ++ es ∷ []) ≡ joined xs ++ es
joined_push [] es = append-nil es
joined_push (x ∷ xs) es =
    ap (λ (l : List LogEntry). x ++ l) (joined_push xs es) ∙ sym (append_assoc x (joined xs) es)

-- the side's own calls behind new ones
own_more : (called own es log log' : List LogEntry) → log ≡ called ++ own → log' ≡ log ++ es
    → drop (length called) log' ≡ drop (length called) log ++ es
own_more called own es log log' parts more =
    rw more
    (rw parts
    (rw (append_assoc called own es)
    (drop-append_seam called (own ++ es)
    ∙ ap (λ (l : List LogEntry). l ++ es) (sym (drop-append_seam called own)))))

-- no call is its own where all stood before
pub own_none : (called log : List LogEntry) → called ≡ log → drop (length called) log ≡ []
own_none called log is =
    ap (λ (l : List LogEntry). drop (length l) log) is
    ∙ ap (λ (l : List LogEntry). drop (length log) l) (sym (append-nil log))
    ∙ drop-append_seam log []

-- ---- a side that goes on

-- before the first call
pub segments_none : (oh : Bool) (es : List LogEntry) → es ≡ [] → InSegments oh None es
segments_none oh es none = record {
  segments = [];
  last = [];
  are = none;
  passed = All-nil (Segment oh);
  ends = refl;
}

-- one segment more
segments_push : (oh : Bool) (es fs : List LogEntry) → InSegments oh None es → Segment oh fs
    → InSegments oh None (es ++ fs)
segments_push oh es fs s passes = record {
  segments = s.segments ++ fs ∷ [];
  last = [];
  are = ap (λ (l : List LogEntry). l ++ fs)
      (s.are ∙ ap (λ (l : List LogEntry). joined s.segments ++ l) s.ends
      ∙ append-nil (joined s.segments))
      ∙ sym (joined_push s.segments fs)
      ∙ sym (append-nil (joined (s.segments ++ fs ∷ [])));
  passed = All-push (Segment oh) s.segments fs s.passed passes;
  ends = refl;
}

-- the calls for which it stops
segments_stop : (oh : Bool) (why : Fail) (es fs : List LogEntry) → InSegments oh None es
    → LastCalls oh (Some why) fs → InSegments oh (Some why) (es ++ fs)
segments_stop oh why es fs s stops = record {
  segments = s.segments;
  last = fs;
  are = ap (λ (l : List LogEntry). l ++ fs)
      (s.are ∙ ap (λ (l : List LogEntry). joined s.segments ++ l) s.ends
      ∙ append-nil (joined s.segments));
  passed = s.passed;
  ends = stops;
}

-- ---- the calls of an answer

module _ (called own log : List LogEntry) (parts : log ≡ called ++ own) (oh : Bool)
    (st : Option Fail) (on : st ≡ None) (s : InSegments oh st (drop (length called) log))
    (seen' : Seen)
  where
    -- calls that passed
    more_pass : (fs : List LogEntry) → seen'.log ≡ log ++ fs → Segment oh fs
        → InSegments oh st (drop (length called) seen'.log)
    more_pass fs more passes =
        subst (λ (o : Option Fail). InSegments oh o (drop (length called) seen'.log)) (sym on)
        (subst (λ (l : List LogEntry). InSegments oh None l)
        (sym (own_more called own fs log seen'.log parts more))
        (segments_push oh (drop (length called) log) fs
        (subst (λ (o : Option Fail). InSegments oh o (drop (length called) log)) on s) passes))

    -- calls for which the side stops
    more_stop : (why : Fail) (fs : List LogEntry) → seen'.log ≡ log ++ fs
        → LastCalls oh (Some why) fs → InSegments oh (Some why) (drop (length called) seen'.log)
    more_stop why fs more stops =
        subst (λ (l : List LogEntry). InSegments oh (Some why) l)
        (sym (own_more called own fs log seen'.log parts more))
        (segments_stop oh why (drop (length called) log) fs
        (subst (λ (o : Option Fail). InSegments oh o (drop (length called) log)) on s) stops)

    -- a piece passed its filters
    pub segments_piece : (allows : Standing → LogEntry → Type 0) (old : Seen) (mark mark' : ℕ)
        (stand ended' : Bool) (piece made : Piece) → old.log ≡ log
        → Filtered allows stand ended' piece made old mark seen' mark'
        → InSegments oh st (drop (length called) seen'.log)
    segments_piece allows old mark mark' stand ended' piece made same f =
        let es = f.came.es in
        more_pass es (f.came.adds.log ∙ ap (λ (l : List LogEntry). l ++ es) same)
        (segments.Segment.of_piece stand f.came.call f.came.chain f.came.says)

    -- one of them refused it, or memory was wanted
    pub segments_refused : (allows : Standing → LogEntry → Type 0) (old : Seen) (mark mark' : ℕ)
        (stand ended' : Bool) (piece : Piece) (why : Fail) → old.log ≡ log
        → Filters allows stand ended' piece (Err why) old mark seen' mark'
        → InSegments oh (Some why) (drop (length called) seen'.log)
    segments_refused allows old mark mark' stand ended' piece fail.OutOfMemory same f =
        more_stop fail.OutOfMemory f.es (f.adds.log ∙ ap (λ (l : List LogEntry). l ++ f.es) same)
        (elim (lost_of f.es stand (λ m. m.call.input ≡ item.Piece piece.bytes (is_last piece)) f.are) [
          | inl none ↦ inl none
          | inr m ↦ inr (inl m)
        ])
    segments_refused allows old mark mark' stand ended' piece (fail.Error error) same f =
        let es = f.came.es in
        more_stop (fail.Error error) es
        (f.came.adds.log ∙ ap (λ (l : List LogEntry). l ++ es) same)
        (segments.RefusedIn.of_piece stand f.came.call f.came.chain f.came.says)

    -- a batch passed its filters
    pub segments_batch : (allows : Standing → LogEntry → Type 0) (old : Seen) (mark mark' : ℕ)
        (stand : Bool) (tasks made : List HttpTask)
        → old.log ≡ log
        → Outcome allows (λ es out. BatchPasses oh stand tasks es out) (BatchStops oh stand tasks)
        (Refuses oh) (Ok made) old mark seen' mark' → InSegments oh st
        (drop (length called) seen'.log)
    segments_batch allows old mark mark' stand tasks made same (es, adds, b) =
        more_pass es (adds.log ∙ ap (λ (l : List LogEntry). l ++ es) same)
        (segments.Segment.of_batch stand tasks made b)

    -- one of them refused it, or memory was wanted
    pub segments_stopped : (allows : Standing → LogEntry → Type 0) (old : Seen) (mark mark' : ℕ)
        (stand : Bool) (tasks : List HttpTask)
        (why : Fail) → old.log ≡ log
        → Outcome {Y = List HttpTask} allows (λ es out. BatchPasses oh stand tasks es out)
        (BatchStops oh stand tasks) (Refuses oh) (Err why) old mark seen' mark'
        → InSegments oh (Some why) (drop (length called) seen'.log)
    segments_stopped allows old mark mark' stand tasks (fail.Error error) same
        (es, adds, fed, refused) =
        more_stop (fail.Error error) es (adds.log ∙ ap (λ (l : List LogEntry). l ++ es) same)
        (segments.RefusedIn.of_batch stand tasks fed refused)
    segments_stopped allows old mark mark' stand tasks fail.OutOfMemory same (es, adds, fed) =
        more_stop fail.OutOfMemory es (adds.log ∙ ap (λ (l : List LogEntry). l ++ es) same)
        (inr (inr (record { stand = stand; tasks = tasks; stops = fed })))
