-- An attempt that puts again what was read before: that passed the filters of requests first.
use Rattle.std.proofs.Common.{◌≡◌, ℕ, Bool, true, false, List, [], drop, length, Option, Some, None, is_some, Err, refl, ap, subst, ◌∙◌, IsSome}
use Rattle.std.specs.List.{list_any}
use Rattle.relay_tasks.specs.Task.{is_end}
use Rattle.relay_tasks.specs.declared.error.Error.{Error}
use Rattle.relay_tasks.specs.declared.error.Fail.{Fail}
use Rattle.relay_tasks.specs.declared.error.Fail.TheVariants as fail
use Rattle.relay_tasks.specs.declared.log.LogEntry.{LogEntry}
use Rattle.relay_tasks.specs.declared.task.HttpTask.{HttpTask}
use Rattle.relay_links.specs.Link.{LinkState}
use Rattle.relay_session.specs.Reading.{head_of}
use Rattle.relay_session.specs.declared.session.HttpSession.{HttpSession}
use Rattle.relay_core.specs.Past.{DownGoes, DownPast, Origin, error_of_fail}
use Rattle.relay_core.specs.Piece.{put_of, task_put_of}
use Rattle.relay_core.specs.declared.piece.Piece.{Piece}
use Rattle.relay_core.specs.declared.told.Told.{Told}
use Rattle.relay_modules.specs.declared.seen.Seen.{Seen}
use Rattle.relay_hooks.specs.Standing.{Standing}
use Rattle.relay_sides.specs.Filtered.{is_head_request}
use Rattle.relay_sides.specs.declared.client_side.ClientSide.{ClientSide}
use Rattle.relay_filters.specs.Hooked.{InnerPast, IsHooked, PastBy, seen_by}
use Rattle.relay_filters.specs.Request.{Filtered, Filters, is_last}
use Rattle.relay_filters.specs.Segments.{InSegments}
use Rattle.relay_filters.proofs.LentSide.{Swapped, lent_past, lost_past}
use Rattle.relay_filters.proofs.SegmentLemmas.{own_none, segments_none, segments_piece, segments_refused}
use Rattle.relay_filters.proofs.SideLemmas.{Comes, begins, reads_piece, stops_at}

-- ---- pasts

-- a past is what it has
past_is : (a b : DownPast) → a.came ≡ b.came → a.written ≡ b.written → a.put ≡ b.put
    → a.batched ≡ b.batched → a.closing ≡ b.closing → a ≡ b
past_is a b came written put batched closing =
    ap (λ (x : List ℕ). record a { came = x }) came
    ∙ ap (λ (x : List ℕ). record a { came = b.came; written = x }) written
    ∙ ap (λ (x : List HttpTask). record a { came = b.came; written = b.written; put = x }) put
    ∙ ap (λ (x : List HttpTask). record b { batched = x; closing = a.closing }) batched
    ∙ ap (λ (x : List HttpTask). record b { closing = x }) closing

-- what passed stands over what the inner side says less of
weaker : (inner inner' : DownPast → Type 0) (method : List ℕ) (c : HttpSession)
    (called log : List LogEntry) (oh a ended u rf stood : Bool) (st : Option Fail) (p : DownPast)
    → ((q : DownPast) → inner q → inner' q)
    → IsHooked inner method c called log oh a ended u rf stood st p
    → IsHooked inner' method c called log oh a ended u rf stood st p
weaker inner inner' method c called log oh a ended u rf stood st p so h = record {
  came = h.came;
  queued = h.queued;
  holds = so _ h.holds;
  own = h.own;
  parts = h.parts;
  chains = h.chains;
  request = h.request;
  is_of_head = h.is_of_head;
  response = h.response;
  head = h.head;
  told = h.told;
}

-- ---- the piece

-- before the first no end came
none_first : list_any is_end [] ≡ true → ⊥
none_first ended = cc

module _ (s : Origin) (link : LinkState) (ahead : List ℕ) (side lent : ClientSide)
    (allows : Standing → LogEntry → Type 0) (method : List ℕ) (called : List LogEntry) (seen : Seen)
    (mark : ℕ) (oh stand : Bool) (p : DownPast) (piece : Piece) (seen' : Seen) (mark' : ℕ)
    (stood : called ≡ seen.log) (head : IsSome (head_of side.session.reading))
    (is_put : p.put ≡ put_of false piece) (puts : is_some (task_put_of false piece) ≡ true)
    (none : p.batched ≡ [])
    (ends : is_last piece ≡ true → list_any is_end (put_of false piece) ≡ true)
    (own : oh ≡ is_head_request method) (rest : Swapped side lent)
    (holds : PastBy s link ahead side side.session p)
  where
    -- before the call nothing passed, and of the inner side nothing is said
    abbrev untold : IsHooked (λ q. Unit {0}) method side.session called seen.log oh false false
        false false true None (record p { put = [] })
    untold =
        begins (λ q. Unit {0}) method side.session called seen.log oh false false
        (record p { put = [] }) stood head refl none own tt

    -- the piece is the first that comes
    abbrev comes : Comes false piece []
    comes = record { puts = puts; first = none_first; ends = ends }

    -- the same bytes passed
    abbrev Same : DownPast → Type 0
    Same q = (q.came ≡ p.came) × (q.written ≡ p.written)

    -- the inner side put the piece
    again_puts : (st : Option Fail) → InnerPast st s link ahead lent p
        → DownGoes (λ q. InnerPast st s link ahead lent q × Same q) (λ q e. Unit {0})
        (put_of false piece) [] p.closing None
    again_puts st stands = record {
      past = p;
      stands = (stands, (refl, refl));
      is_put = is_put;
      is_batched = none;
      is_closing = refl;
      blamed = λ e told. tt;
    }

    -- what passed by the call, of these bytes
    settled : (st : Option Fail) (ended : Bool) (put : List HttpTask)
        (blames : DownPast → Error → Type 0) (error : Option Error)
        → DownGoes (IsHooked (λ q. InnerPast st s link ahead lent q × Same q) method lent.session
        called seen'.log oh false ended false false true st) blames put p.batched p.closing error
        → IsHooked (InnerPast st s link ahead lent) method lent.session called seen'.log oh false
        ended false false true st (record p { put = put })
    settled st ended put blames error g =
        subst (λ (q : DownPast). IsHooked (InnerPast st s link ahead lent) method lent.session
        called seen'.log oh false ended false false true st q)
        (past_is g.past (record p { put = put }) g.stands.holds.1.0 g.stands.holds.1.1 g.is_put
        g.is_batched g.is_closing)
        (weaker (λ q. InnerPast st s link ahead lent q × Same q) (InnerPast st s link ahead lent)
        method lent.session called seen'.log oh false ended false false true st g.past
        (λ q both. both.0) g.stands)

    -- it passed its filter
    pub again_reads : (made : Piece)
        → Filtered allows stand false piece made (seen_by seen side.session) mark
        (seen_by seen' lent.session) mark'
        → IsHooked (InnerPast None s link ahead lent) method lent.session called seen'.log oh false
        made.upstream_end false false true None (record p { put = put_of false made })
    again_reads made f =
        settled None made.upstream_end (put_of false made) _ None
        (reads_piece (λ q. Unit {0}) (λ q. InnerPast None s link ahead lent q × Same q)
        (λ q e. Unit {0}) (λ e. Unit {0}) allows method (seen_by seen side.session) mark called oh
        false false false false false true stand None (record p { put = [] }) piece made
        (seen_by seen' lent.session) mark' refl untold refl comes f
        (again_puts None (lent_past s link ahead side lent p rest f.came.adds.client holds)))

    -- what passed inside stands behind a call that failed
    fails_so : (why : Fail)
        → Filters allows stand false piece (Err why) (seen_by seen side.session) mark
        (seen_by seen' lent.session) mark' → InnerPast (Some why) s link ahead lent p
    fails_so fail.OutOfMemory f = lost_past s link ahead side lent p rest holds
    fails_so (fail.Error error) f =
        lent_past s link ahead side lent p rest f.came.adds.client holds

    -- it was refused, or memory was wanted
    pub again_stops : (told : Told) (why : Fail)
        → Filters allows stand false piece (Err why) (seen_by seen side.session) mark
        (seen_by seen' lent.session) mark'
        → IsHooked (InnerPast (Some why) s link ahead lent) method lent.session called seen'.log oh
        false false false false true (Some why) (record p { put = [] })
    again_stops told why f =
        settled (Some why) false [] _ (error_of_fail why)
        (stops_at (λ q. Unit {0}) (λ q. InnerPast (Some why) s link ahead lent q × Same q)
        (λ q e. Unit {0}) told allows method (seen_by seen side.session) mark called oh false
        false false false false true stand None (record p { put = [] }) piece why []
        (seen_by seen' lent.session) mark' refl untold refl refl comes f
        (again_puts (Some why) (fails_so why f)))

    -- the calls stand alone among the side's own
    abbrev first_calls : InSegments oh None (drop (length called) seen.log)
    first_calls = segments_none oh (drop (length called) seen.log) (own_none called seen.log stood)

    pub again_calls : (made : Piece)
        → Filtered allows stand false piece made (seen_by seen side.session) mark
        (seen_by seen' lent.session) mark'
        → InSegments oh None (drop (length called) seen'.log)
    again_calls made f =
        segments_piece called [] seen.log untold.parts oh None refl first_calls
        (seen_by seen' lent.session) allows (seen_by seen side.session) mark mark' stand false
        piece made refl f

    pub again_refused : (why : Fail)
        → Filters allows stand false piece (Err why) (seen_by seen side.session) mark
        (seen_by seen' lent.session) mark'
        → InSegments oh (Some why) (drop (length called) seen'.log)
    again_refused why f =
        segments_refused called [] seen.log untold.parts oh None refl first_calls
        (seen_by seen' lent.session) allows (seen_by seen side.session) mark mark' stand false
        piece why refl f
