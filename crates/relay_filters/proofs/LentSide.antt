-- A side whose client's session hooks are lent: what passed by its inner side, which reads and
-- writes that session, and by the filters, which are shown it.
use Rattle.std.proofs.Common.{◌≡◌, ℕ, ◌⊎◌, Bool, true, false, ◌||◌, ◌&&◌, List, [], ◌++◌, drop, length, Option, Some, None, is_some, option_to_list, Ok, Err, arith, inl, inr, append-nil, refl, sym, ap, subst, true≢false, ◌∙◌, IsSome}
use Rattle.std.specs.List.{list_any}
use Rattle.relay_tasks.specs.Head.{RequestHead}
use Rattle.relay_tasks.specs.Task.{is_end}
use Rattle.relay_tasks.specs.declared.error.Error.{Error}
use Rattle.relay_tasks.specs.declared.error.Fail.{Fail}
use Rattle.relay_tasks.specs.declared.error.Fail.TheVariants as fail
use Rattle.relay_tasks.specs.declared.log.LogEntry.{LogEntry}
use Rattle.relay_tasks.specs.declared.task.HttpTask.{HttpTask}
use Rattle.relay_links.specs.Link.{LinkState}
use Rattle.relay_session.specs.Reading.{head_of, is_body_done}
use Rattle.relay_session.specs.declared.session.HttpSession.{HttpSession}
use Rattle.relay_core.specs.Down.{GivesPiece}
use Rattle.relay_core.specs.Uses.{PutsOrCalls}
use Rattle.relay_core.specs.declared.told.Told.{Told}
use Rattle.relay_core.specs.Past.{BatchRefused, DownGoes, DownPast, Origin, error_of_fail}
use Rattle.relay_core.specs.Pipe.{is_failure}
use Rattle.relay_core.specs.Piece.{put_of, task_put_of}
use Rattle.relay_core.specs.declared.piece.Piece.{Piece}
use Rattle.relay_modules.specs.declared.seen.Seen.{Seen}
use Rattle.relay_hooks.specs.Standing.{Standing}
use Rattle.relay_sides.specs.Lent.{SameButHead}
use Rattle.relay_sides.specs.declared.client_side.ClientSide.{ClientSide}
use Rattle.relay_sides.proofs.LentLemmas.{IsSide-lent}
use Rattle.relay_filters.specs.Chain.{Refuses}
use Rattle.relay_filters.specs.Request.{Filtered, Filters, is_last}
use Rattle.relay_filters.specs.Response.{BatchPasses, BatchStops, Outcome}
use Rattle.relay_filters.specs.Hooked.{BlamesInside, BlamesOver, InnerPast, IsHooked, PastBy, PastOf, RefusesOver, inside, is_lost, refused_at_once, seen_by, state_of_side}
use Rattle.relay_filters.proofs.SideLemmas.{Comes, batch_goes, batch_refused, batch_stops, goes_on, reads_piece, stops_at}

-- ---- a session that is lost, or not

-- what passed over a session that is not lost
pub past_of : (lost : Bool) (past : HttpSession → DownPast → Type 0) (c : HttpSession)
    (p : DownPast) → lost ≡ false → PastOf lost past c p → past c p
past_of false past c p known h = h
past_of true past c p known h = absurd (true≢false known)

of_past : (lost : Bool) (past : HttpSession → DownPast → Type 0) (c : HttpSession) (p : DownPast)
    → lost ≡ false → past c p → PastOf lost past c p
of_past false past c p known h = h
of_past true past c p known h = absurd (true≢false known)

-- a side that goes on is not lost
pub not_lost : (st : Option Fail) → st ≡ None → is_lost st ≡ false
not_lost st on = ap is_lost on

-- ---- an answer over another session

-- what holds of each past holds of that of an answer
pub goes_so : (holds holds' : DownPast → Type 0) (blames : DownPast → Error → Type 0)
    (put batched closing : List HttpTask) (error : Option Error)
    → ((q : DownPast) → holds q → holds' q) → DownGoes holds blames put batched closing error
    → DownGoes holds' blames put batched closing error
goes_so holds holds' blames put batched closing error so g = record {
  past = g.past;
  stands = so g.past g.stands;
  is_put = g.is_put;
  is_batched = g.is_batched;
  is_closing = g.is_closing;
  blamed = g.blamed;
}

pub refused_so : (holds holds' : DownPast → Type 0)
    (refuses : DownPast → List HttpTask → Error → Type 0) (p : DownPast) (tasks : List HttpTask)
    (why : Fail) → ((q : DownPast) → holds q → holds' q)
    → BatchRefused holds refuses p tasks why → BatchRefused holds' refuses p tasks why
refused_so holds holds' refuses p tasks why so g = record {
  filtered = g.filtered;
  left = g.left;
  parts = g.parts;
  past = g.past;
  stands = so g.past g.stands;
  is_put = g.is_put;
  is_batched = g.is_batched;
  is_closing = g.is_closing;
  refused = g.refused;
}

-- ---- the session between two calls

-- what passed stands over a session with the same head
abbrev pub moved : (inner : DownPast → Type 0) (method : List ℕ) (c c' : HttpSession)
    (called log : List LogEntry) (oh a ended u rf stood : Bool) (st : Option Fail) (p : DownPast)
    → head_of c'.reading ≡ head_of c.reading
    → IsHooked inner method c called log oh a ended u rf stood st p
    → IsHooked inner method c' called log oh a ended u rf stood st p
moved inner method c c' called log oh a ended u rf stood st p same h = record {
  came = h.came;
  queued = h.queued;
  holds = h.holds;
  own = h.own;
  parts = h.parts;
  chains = h.chains;
  request = h.request;
  is_of_head = h.is_of_head;
  response = h.response;
  head = λ on. subst (λ (o : Option RequestHead). IsSome o) (sym same) (h.head on);
  told = h.told;
}

-- ---- the session behind a call of hooks

-- the same side with another session
abbrev pub Swapped : ClientSide → ClientSide → Type 0
Swapped side side' = side' ≡ record side { session = side'.session }

-- what passed before stands of the side that has the session again
swapped : (s : Origin) (link : LinkState) (ahead : List ℕ) (side side' : ClientSide)
    (c : HttpSession) (q : DownPast) → Swapped side side' → PastBy s link ahead side c q
    → PastBy s link ahead side' c q
swapped s link ahead side side' c q rest h =
    subst (λ (x : ClientSide). PastBy s link ahead x c q) (sym rest) h

pub lent_past : (s : Origin) (link : LinkState) (ahead : List ℕ) (side side' : ClientSide)
    (q : DownPast) → Swapped side side' → SameButHead side.session side'.session
    → PastBy s link ahead side side.session q → PastBy s link ahead side' side'.session q
lent_past s link ahead side side' q rest same h =
    swapped s link ahead side side' side'.session q rest
    (IsSide-lent s q link ahead side.session side'.session side.told side.done side.finished
    side.broken same h)

-- where memory was wanted, what passed is that of the session before
pub lost_past : (s : Origin) (link : LinkState) (ahead : List ℕ) (side side' : ClientSide)
    (q : DownPast) → Swapped side side' → PastBy s link ahead side side.session q
    → InnerPast (Some fail.OutOfMemory) s link ahead side' q
lost_past s link ahead side side' q rest h =
    (side.session, swapped s link ahead side side' side.session q rest h)

-- ---- a call of the inner side alone

-- no filter was called
pub client_goes : (s : Origin) (link link' : LinkState) (ahead ahead' : List ℕ)
    (side side' : ClientSide) (blames' : DownPast → Error → Type 0) (by : Error → Type 0)
    (method : List ℕ) (called log : List LogEntry) (oh a ended rf stood : Bool) (st : Option Fail) (p : DownPast)
    (put_in put batched_in batched closing : List HttpTask) (error : Option Error)
    (h : IsHooked (InnerPast st s link ahead side) method side.session called log oh a ended false
    rf stood st p)
    → is_lost st ≡ false → head_of side'.session.reading ≡ head_of side.session.reading
    → put_in ≡ h.came → put ≡ p.put → batched_in ≡ h.queued → batched ≡ p.batched
    → DownGoes (PastBy s link' ahead' side' side'.session) blames' put_in batched_in closing error
    → DownGoes (IsHooked (InnerPast st s link' ahead' side') method side'.session called log oh a
    ended false rf stood st) (λ past e. BlamesInside (InnerPast st s link' ahead' side') blames'
    past e ⊎ by e) put batched closing error
client_goes s link link' ahead ahead' side side' blames' by method called log oh a ended rf stood st p
    put_in put batched_in batched closing error h known head is same is' same' g =
    goes_on (InnerPast st s link ahead side) (InnerPast st s link' ahead' side') blames' by method
    side'.session called log oh a ended ended false false rf stood st p put_in put batched_in
    batched closing error
    (moved (InnerPast st s link ahead side) method side.session side'.session called log oh a ended
    false rf stood st p head h)
    (λ low. (refl, refl)) is same is' same'
    (goes_so (PastBy s link' ahead' side' side'.session) (InnerPast st s link' ahead' side') blames'
    put_in batched_in closing error
    (λ q stands. of_past (is_lost st) (PastBy s link' ahead' side') side'.session q known stands) g)

-- ---- a piece

-- the inner side calls no hook, so each of its pieces puts a task
pub puts_task : (side given : ClientSide) (piece : Piece)
    → PutsOrCalls (state_of_side side) (state_of_side given) piece
    → is_some (task_put_of false piece) ≡ true
puts_task side given piece (inl puts) = puts
puts_task side given piece (inr called) = absurd (omega (arith, called))

-- something that is put is not nothing
puts_none : (o : Option HttpTask) → is_some o ≡ true → option_to_list o ≡ [] → ⊥
puts_none None some none = cc
puts_none (Some task) some none = cc

-- the inner side gave a piece, and hooks were lent the session behind that
module _ (s : Origin) (link link' : LinkState) (ahead ahead' : List ℕ)
    (side given lent : ClientSide) (blames' : DownPast → Error → Type 0)
    (allows : Standing → LogEntry → Type 0) (method : List ℕ) (seen : Seen) (mark : ℕ)
    (called : List LogEntry) (oh a ended rf stood stand : Bool) (st : Option Fail) (p : DownPast)
    (piece : Piece) (seen' : Seen) (mark' : ℕ) (on : st ≡ None)
    (h : IsHooked (InnerPast st s link ahead side) method side.session called seen.log oh a ended
    false rf stood st p)
    (head : head_of given.session.reading ≡ head_of side.session.reading)
    (rest : Swapped given lent)
    (gives : GivesPiece (state_of_side side) (state_of_side given) piece)
    (puts : PutsOrCalls (state_of_side side) (state_of_side given) piece)
    (done : is_last piece ≡ true → is_body_done given.session.reading ≡ true)
    (g : DownGoes (PastBy s link' ahead' given given.session) blames'
    (h.came ++ put_of false piece) h.queued p.closing None) where
  -- the piece with which the client's body ends brings an end
  end_came : is_last piece ≡ true → list_any is_end (h.came ++ put_of false piece) ≡ true
  end_came last =
      ap (list_any is_end) (sym g.is_put) ∙ g.stands.passed.client.whole (done last)

  -- nothing came behind an end
  none_ended : list_any is_end h.came ≡ true → ⊥
  none_ended ended =
      let before = past_of (is_lost st) (PastBy s link ahead side) side.session
      (inside p h.came h.queued) (not_lost st on) h.holds in
      puts_none (task_put_of false piece) (puts_task side given piece puts)
      (gives.nothing_behind (before.passed.client.ended ended))

  -- it comes behind what came
  abbrev comes : Comes false piece h.came
  comes = record { puts = puts_task side given piece puts; first = none_ended; ends = end_came }

  -- before the hooks were called
  abbrev at_call : IsHooked (InnerPast st s link ahead side) method given.session called seen.log oh
      a ended false rf stood st p
  at_call =
      moved (InnerPast st s link ahead side) method side.session given.session called seen.log oh a
      ended false rf stood st p head h

  -- it passed
  pub lent_reads : (by : Error → Type 0) (made : Piece)
      → Filtered allows stand ended piece made (seen_by seen given.session) mark
      (seen_by seen' lent.session) mark'
      → DownGoes (IsHooked (InnerPast st s link' ahead' lent) method lent.session called seen'.log oh
      a (ended || made.upstream_end) false rf stood st)
      (λ past e. BlamesInside (InnerPast st s link' ahead' lent) blames' past e ⊎ by e)
      (p.put ++ put_of false made) p.batched p.closing None
  lent_reads by made f =
      reads_piece (InnerPast st s link ahead side) (InnerPast st s link' ahead' lent) blames' by
      allows method (seen_by seen given.session) mark called oh a ended false false rf stood stand
      st p piece made (seen_by seen' lent.session) mark' on at_call refl comes f
      (goes_so (PastBy s link' ahead' given given.session) (InnerPast st s link' ahead' lent)
      blames' (h.came ++ put_of false piece) h.queued p.closing None
      (λ q stands. of_past (is_lost st) (PastBy s link' ahead' lent) lent.session q
      (not_lost st on) (lent_past s link' ahead' given lent q rest f.came.adds.client stands)) g)

  -- what passed inside stands behind a call that failed
  fails_so : (why : Fail)
      → Filters allows stand ended piece (Err why) (seen_by seen given.session) mark
      (seen_by seen' lent.session) mark'
      → (q : DownPast) → PastBy s link' ahead' given given.session q
      → InnerPast (Some why) s link' ahead' lent q
  fails_so fail.OutOfMemory f q stands = lost_past s link' ahead' given lent q rest stands
  fails_so (fail.Error error) f q stands =
      lent_past s link' ahead' given lent q rest f.came.adds.client stands

  -- it was refused, or memory was wanted
  pub lent_stops : (told' : Told) (why : Fail)
      → Filters allows stand ended piece (Err why) (seen_by seen given.session) mark
      (seen_by seen' lent.session) mark'
      → DownGoes (IsHooked (InnerPast (Some why) s link' ahead' lent) method lent.session called
      seen'.log oh a ended false rf stood (Some why))
      (λ past e. BlamesOver (InnerPast (Some why) s link' ahead' lent) blames' (Some why) told'
      (drop (length called) seen'.log) past e)
      (p.put ++ []) p.batched p.closing (error_of_fail why)
  lent_stops told' why f =
      stops_at (InnerPast st s link ahead side) (InnerPast (Some why) s link' ahead' lent) blames'
      told' allows method (seen_by seen given.session) mark called oh a ended false false rf stood
      stand st p piece why (p.put ++ []) (seen_by seen' lent.session) mark' on at_call refl
      (append-nil p.put) comes f
      (goes_so (PastBy s link' ahead' given given.session)
      (InnerPast (Some why) s link' ahead' lent) blames' (h.came ++ put_of false piece) h.queued
      p.closing None (fails_so why f) g)

-- ---- a batch

-- a side takes on where a batch is not refused at once
pub takes_on : (st : Option Fail) (rf has : Bool) (tasks : List HttpTask)
    → refused_at_once st rf has tasks ≡ None → st ≡ None
takes_on None rf has tasks on = refl
takes_on (Some why) rf has tasks on = cc

-- and has a head
pub takes_head : (st : Option Fail) (rf has : Bool) (tasks : List HttpTask)
    → refused_at_once st rf has tasks ≡ None → has ≡ true
takes_head (Some why) rf has tasks on = cc
takes_head None true has tasks on = cc
takes_head None false true tasks on = refl
takes_head None false false tasks on = cc

-- hooks were lent the session for a batch
module _ (s : Origin) (link : LinkState) (ahead : List ℕ) (side lent : ClientSide)
    (allows : Standing → LogEntry → Type 0) (method : List ℕ) (seen : Seen) (mark : ℕ)
    (called : List LogEntry) (oh a ended rf stood stand has : Bool) (st : Option Fail)
    (p : DownPast)
    (tasks : List HttpTask) (seen' : Seen) (mark' : ℕ)
    (on : refused_at_once st rf has tasks ≡ None)
    (h : IsHooked (InnerPast st s link ahead side) method side.session called seen.log oh a ended
    false rf stood st p) (rest : Swapped side lent) where
  abbrev known : is_lost st ≡ false
  known = not_lost st (takes_on st rf has tasks on)

  -- what passed inside stands behind the filters
  pub lent_holds : (made : List HttpTask)
      → Outcome allows (λ es out. BatchPasses oh stand tasks es out) (BatchStops oh stand tasks)
      (Refuses oh) (Ok made) (seen_by seen side.session) mark (seen_by seen' lent.session) mark'
      → PastBy s link ahead lent lent.session (inside p h.came h.queued)
  lent_holds made (es, adds, passes) =
      lent_past s link ahead side lent (inside p h.came h.queued) rest adds.client
      (past_of (is_lost st) (PastBy s link ahead side) side.session (inside p h.came h.queued) known
      h.holds)

  -- the inner side queued what they made
  pub lent_batch : (took : ClientSide) (blames' : DownPast → Error → Type 0) (by : Error → Type 0)
      (made : List HttpTask)
      → head_of took.session.reading ≡ head_of lent.session.reading
      → (out : Outcome allows (λ es out. BatchPasses oh stand tasks es out)
      (BatchStops oh stand tasks) (Refuses oh) (Ok made) (seen_by seen side.session) mark
      (seen_by seen' lent.session) mark')
      → DownGoes (PastBy s link ahead took took.session) blames' h.came (h.queued ++ made) p.closing
      None
      → DownGoes (IsHooked (InnerPast st s link ahead took) method took.session called seen'.log oh
      a ended false rf (stood && stand) st)
      (λ past e. BlamesInside (InnerPast st s link ahead took) blames' past e ⊎ by e) p.put
      (p.batched ++ tasks) p.closing None
  lent_batch took blames' by made head out g =
      goes_so
      (IsHooked (InnerPast st s link ahead took) method lent.session called seen'.log oh a ended
      false rf (stood && stand) st)
      (IsHooked (InnerPast st s link ahead took) method took.session called seen'.log oh a ended
      false rf (stood && stand) st)
      (λ past e. BlamesInside (InnerPast st s link ahead took) blames' past e ⊎ by e) p.put
      (p.batched ++ tasks) p.closing None
      (λ q stands. moved (InnerPast st s link ahead took) method lent.session took.session called
      seen'.log oh a ended false rf (stood && stand) st q head stands)
      (batch_goes (InnerPast st s link ahead side) (InnerPast st s link ahead took) blames' by allows
      method (seen_by seen side.session) mark called oh a ended ended false false rf stood stand st
      has p tasks made (seen_by seen' lent.session) mark' on h (λ low. (refl, refl)) out
      (goes_so (PastBy s link ahead took took.session) (InnerPast st s link ahead took) blames'
      h.came (h.queued ++ made) p.closing None
      (λ q stands. of_past (is_lost st) (PastBy s link ahead took) took.session q known stands) g))

  -- it refused it
  pub lent_refused : (took : ClientSide) (refuses' : DownPast → List HttpTask → Error → Type 0)
      (told' : Told) (made : List HttpTask) (why : Fail)
      → head_of took.session.reading ≡ head_of lent.session.reading
      → list_any is_failure made ≡ list_any is_failure tasks
      → (out : Outcome allows (λ es out. BatchPasses oh stand tasks es out)
      (BatchStops oh stand tasks) (Refuses oh) (Ok made) (seen_by seen side.session) mark
      (seen_by seen' lent.session) mark')
      → BatchRefused (PastBy s link ahead took took.session) refuses' (inside p h.came h.queued)
      made why
      → BatchRefused (IsHooked (InnerPast st s link ahead took) method took.session called
      seen'.log oh a ended false true (stood && stand) st)
      (λ past left e.
      RefusesOver (InnerPast st s link ahead took) refuses' oh (stood && stand) stand true st told'
      called seen'.log past left e) p tasks why
  lent_refused took refuses' told' made why head failures out g =
      refused_so
      (IsHooked (InnerPast st s link ahead took) method lent.session called seen'.log oh a ended
      false true (stood && stand) st)
      (IsHooked (InnerPast st s link ahead took) method took.session called seen'.log oh a ended
      false true (stood && stand) st)
      (λ past left e.
      RefusesOver (InnerPast st s link ahead took) refuses' oh (stood && stand) stand true st told'
      called seen'.log past left e) p tasks why
      (λ q stands. moved (InnerPast st s link ahead took) method lent.session took.session called
      seen'.log oh a ended false true (stood && stand) st q head stands)
      (batch_refused (InnerPast st s link ahead side) (InnerPast st s link ahead took) refuses'
      told' allows method (seen_by seen side.session) mark called oh a ended false false rf stood stand st
      has p tasks made why (seen_by seen' lent.session) mark' on h (λ low. refl) failures out
      (refused_so (PastBy s link ahead took took.session) (InnerPast st s link ahead took) refuses'
      (inside p h.came h.queued) made why
      (λ q stands. of_past (is_lost st) (PastBy s link ahead took) took.session q known stands) g))

  -- what passed inside stands behind a batch that was refused
  batch_fails : (why : Fail)
      → Outcome {Y = List HttpTask} allows (λ es out. BatchPasses oh stand tasks es out)
      (BatchStops oh stand tasks) (Refuses oh) (Err why) (seen_by seen side.session) mark
      (seen_by seen' lent.session) mark'
      → (q : DownPast) → PastBy s link ahead side side.session q
      → InnerPast (Some why) s link ahead lent q
  batch_fails fail.OutOfMemory out q stands = lost_past s link ahead side lent q rest stands
  batch_fails (fail.Error error) (es, adds, fed, refused) q stands =
      lent_past s link ahead side lent q rest adds.client stands

  -- a filter refused it, or memory was wanted
  pub lent_fails : (refuses : DownPast → List HttpTask → Error → Type 0) (told' : Told) (why : Fail)
      → Outcome {Y = List HttpTask} allows (λ es out. BatchPasses oh stand tasks es out)
      (BatchStops oh stand tasks) (Refuses oh) (Err why) (seen_by seen side.session) mark
      (seen_by seen' lent.session) mark'
      → BatchRefused (IsHooked (InnerPast (Some why) s link ahead lent) method lent.session called
      seen'.log oh a ended false rf stood (Some why))
      (λ past left e.
      RefusesOver (InnerPast (Some why) s link ahead lent) refuses oh stood stand rf (Some why)
      told' called seen'.log past left e) p tasks why
  lent_fails refuses told' why out =
      batch_stops (InnerPast st s link ahead side) (InnerPast (Some why) s link ahead lent) refuses
      told' allows method (seen_by seen side.session) mark called oh a ended false rf stood stand st has p
      tasks why (seen_by seen' lent.session) mark' on
      (λ q stands. batch_fails why out q
      (past_of (is_lost st) (PastBy s link ahead side) side.session q known stands)) h out
