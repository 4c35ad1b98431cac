-- The calls of pieces and batches come in order while messages are relayed.
--
--   from_piece      the modules filtered a piece
--   piece_stays, piece_fails   the calls of one that passed, and of one that was refused
--   come_in_order   from InSegments: Leads
use Rattle.std.proofs.Common.{◌≡◌, ℕ, All, Bool, true, false, ◌⊎◌, List, [], ◌∷◌, ◌++◌, Option, Some, None, refl, sym, ap, subst, ◌∙◌, append_assoc, inl, inr, IsSome}
use Rattle.std.proofs.lemmas.List.Elements.{All-head, All-tail}
use Rattle.relay_tasks.specs.Head.{Fields, ResponseHead}
use Rattle.relay_tasks.specs.declared.error.Error.{Error}
use Rattle.relay_tasks.specs.declared.error.Fail.{Fail}
use Rattle.relay_tasks.specs.declared.error.Fail.TheVariants as fail
use Rattle.relay_tasks.specs.declared.hook.Hook.{Hook}
use Rattle.relay_tasks.specs.declared.hook.Hook.TheVariants as hook
use Rattle.relay_tasks.specs.declared.log.Item.{Item}
use Rattle.relay_tasks.specs.declared.log.LogEntry.{LogEntry}
use Rattle.relay_tasks.specs.declared.task.HttpTask.{HttpTask}
use Rattle.relay_tasks.specs.declared.task.HttpTask.TheVariants as task
use Rattle.relay_phases.specs.Order.{Accepts, Station, next, next_behind}
use Rattle.relay_phases.specs.Order.{Station as station}
use Rattle.relay_phases.proofs.OrderLemmas.{Accepts-append}
use Rattle.relay_filters.specs.Chain.{AllPass, BodyFeeds, Called, FrontPasses, Gave, HeadFeeds, ModuleChain, ModuleFeeds, OneCall, OneFeeds, PassesBy, PassesModules, Refuses, TaskChain, TaskFeeds, TrailerFeeds, checked}
use Rattle.relay_filters.specs.Chain as chains
use Rattle.relay_filters.specs.Request.{LetsOn, PieceChain}
use Rattle.relay_filters.specs.Response.{BatchPasses, BatchStops}
use Rattle.relay_filters.specs.Response as batches
use Rattle.relay_filters.specs.Segments.{InSegments, LastCalls, RefusedIn, Segment, joined}
use Rattle.relay_filters.specs.Segments as segments
use Rattle.relay_hooked.specs.Stations.{Leads, MayFail, Relays}

-- ---- one call

-- where a call leads is told by its hook and its error, but where an answer is asked for
go : (at at' : Station) (h : Hook) (o : Option Error) (e : LogEntry) (to : Option Station)
    → at ≡ at' → e.hook ≡ h → e.error ≡ o
    → next at' (record e { hook = h; error = o }) ≡ to → next at e ≡ to
go at at' h o e to is_at is_hook is_error is =
    ap (λ (x : Station). next x e) is_at
    ∙ ap (λ (x : Hook). next at' (record e { hook = x })) is_hook
    ∙ ap (λ (x : Option Error). next at' (record e { hook = h; error = x })) is_error ∙ is

-- the same from each station at which messages are relayed
while_relayed : (h : Hook) (o : Option Error) (to at : Station) (e : LogEntry) → Relays at
    → e.hook ≡ h → e.error ≡ o
    → ((x : LogEntry) → next station.sent (record x { hook = h; error = o }) ≡ Some to)
    → ((x : LogEntry) → next station.relaying (record x { hook = h; error = o }) ≡ Some to)
    → ((x : LogEntry) → next station.at_trailers (record x { hook = h; error = o }) ≡ Some to)
    → next at e ≡ Some to
while_relayed h o to at e relays is_hook is_error at_sent at_relaying at_trailers = elim relays [
  | inl is ↦ go at station.sent h o e (Some to) is is_hook is_error (at_sent e)
  | inr (inl is) ↦ go at station.relaying h o e (Some to) is is_hook is_error (at_relaying e)
  | inr (inr is) ↦ go at station.at_trailers h o e (Some to) is is_hook is_error (at_trailers e)
]

-- two calls
two : (from mid to : Station) (u r : LogEntry) → next from u ≡ Some mid → next mid r ≡ Some to
    → Accepts from (u ∷ r ∷ []) to
two from mid to u r first second =
    ap (λ (o : Option Station). next_behind o (r ∷ [])) first ∙ second

-- ---- what passes

-- the calls lead on to a station at which messages are relayed
abbrev pub Stays : Station → List LogEntry → Type 0
Stays from es = (to : Station) × Accepts from es to × Relays to

-- no call leads on
none_stays : (from : Station) (es : List LogEntry) → Relays from → es ≡ [] → Stays from es
none_stays from es relays none =
    subst (λ (l : List LogEntry). Stays from l) (sym none) (from, refl, relays)

-- one call does that came out well
one_stays : (from : Station) (es : List LogEntry) (e : LogEntry) → es ≡ e ∷ []
    → next from e ≡ Some station.relaying → Stays from es
one_stays from es e is leads =
    subst (λ (l : List LogEntry). Stays from l) (sym is)
    (station.relaying, leads, inr (inl refl))

-- both calls of a head or of a piece do
both_stay : (from mid : Station) (es : List LogEntry) (u r : LogEntry) → es ≡ u ∷ r ∷ []
    → next from u ≡ Some mid → next mid r ≡ Some station.relaying → Stays from es
both_stay from mid es u r is first second =
    subst (λ (l : List LogEntry). Stays from l) (sym is)
    (station.relaying, two from mid station.relaying u r first second, inr (inl refl))

-- those of one behind those of another do
stays_on : (from : Station) (es fs all : List LogEntry) → all ≡ es ++ fs
    → (first : Stays from es) → Stays first.0 fs → Stays from all
stays_on from es fs all is first second = (
  second.0,
  subst (λ (l : List LogEntry). Accepts from l second.0) (sym is)
      (Accepts-append from first.0 second.0 es fs first.1 second.1),
  second.2,
)

-- a head that came is filtered
from_head : (at : Station) (e : LogEntry) → Relays at → e.hook ≡ hook.UpstreamResponseFilter
    → e.error ≡ None → next at e ≡ Some station.at_head
from_head at e relays is ok =
    while_relayed hook.UpstreamResponseFilter None station.at_head at e relays is ok (λ x. refl)
    (λ x. refl) (λ x. refl)

-- and a piece
from_body : (at : Station) (e : LogEntry) → Relays at → e.hook ≡ hook.UpstreamResponseBodyFilter
    → e.error ≡ None → next at e ≡ Some station.at_body
from_body at e relays is ok =
    while_relayed hook.UpstreamResponseBodyFilter None station.at_body at e relays is ok (λ x. refl)
    (λ x. refl) (λ x. refl)

-- and trailer fields
from_trailers : (at : Station) (e : LogEntry) → Relays at
    → e.hook ≡ hook.UpstreamResponseTrailerFilter → e.error ≡ None
    → next at e ≡ Some station.at_trailers
from_trailers at e relays is ok =
    while_relayed hook.UpstreamResponseTrailerFilter None station.at_trailers at e relays is ok
    (λ x. refl) (λ x. refl) (λ x. refl)

-- a task passes the filters of the application
task_stays : (oh : Bool) (t : HttpTask) (es : List LogEntry) (out : HttpTask)
    → TaskChain oh t es out → (from : Station) → Relays from → Stays from es
task_stays oh (task.Header head end) es out (last, c, is) from relays =
    both_stay from station.at_head es c.u c.r c.calls
    (from_head from c.u relays c.upstream.is_hook c.upstream.ok)
    (go station.at_head station.at_head hook.ResponseFilter None c.r (Some station.relaying) refl
    c.response.is_hook c.response.ok refl)
task_stays oh (task.Body bytes end) es out (last, c, is) from relays =
    both_stay from station.at_body es c.u c.r c.calls
    (from_body from c.u relays c.upstream.is_hook c.upstream.ok)
    (go station.at_body station.at_body hook.ResponseBodyFilter None c.r (Some station.relaying)
    refl c.response.is_hook c.response.ok refl)
task_stays oh (task.UpgradedBody bytes end) es out (last, c, is) from relays =
    both_stay from station.at_body es c.u c.r c.calls
    (from_body from c.u relays c.upstream.is_hook c.upstream.ok)
    (go station.at_body station.at_body hook.ResponseBodyFilter None c.r (Some station.relaying)
    refl c.response.is_hook c.response.ok refl)
task_stays oh (task.Trailer None) es out (none, is) from relays = none_stays from es relays none
task_stays oh (task.Trailer (Some fields)) es out (last, c, is) from relays =
    subst (λ (l : List LogEntry). Stays from l) (sym c.calls) (
      station.at_trailers,
      from_trailers from c.u relays c.upstream.is_hook c.upstream.ok,
      inr (inr refl),
    )
task_stays oh task.Done es out (none, is) from relays = none_stays from es relays none
task_stays oh (task.Failed error) es out (none, is) from relays = none_stays from es relays none

-- and those of the modules
module_stays : (t : HttpTask) (es : List LogEntry) (out : HttpTask) → ModuleChain t es out
    → (from : Station) → Relays from → Stays from es
module_stays (task.Header head end) es out (last, c, plain, is) from relays =
    one_stays from es c.m c.calls
    (while_relayed hook.ModuleResponseHeader None station.relaying from c.m relays c.called.is_hook
    c.called.ok (λ x. refl) (λ x. refl) (λ x. refl))
module_stays (task.Body bytes end) es out (last, c, is) from relays =
    one_stays from es c.m c.calls
    (while_relayed hook.ModuleResponseBody None station.relaying from c.m relays c.called.is_hook
    c.called.ok (λ x. refl) (λ x. refl) (λ x. refl))
module_stays (task.UpgradedBody bytes end) es out (last, c, is) from relays =
    one_stays from es c.m c.calls
    (while_relayed hook.ModuleResponseBody None station.relaying from c.m relays c.called.is_hook
    c.called.ok (λ x. refl) (λ x. refl) (λ x. refl))
module_stays (task.Trailer fields) es out (last, answer, c, is) from relays =
    one_stays from es c.m c.calls
    (while_relayed hook.ModuleResponseTrailer None station.relaying from c.m relays
    c.called.is_hook c.called.ok (λ x. refl) (λ x. refl) (λ x. refl))
module_stays task.Done es out (answer, c, is) from relays =
    one_stays from es c.m c.calls
    (while_relayed hook.ModuleResponseDone None station.relaying from c.m relays c.called.is_hook
    c.called.ok (λ x. refl) (λ x. refl) (λ x. refl))
module_stays (task.Failed error) es out (none, is) from relays = none_stays from es relays none

-- where they stand
modules_stay : (stand : Bool) (t : HttpTask) (es : List LogEntry) (out : HttpTask)
    → PassesModules stand t es out → (from : Station) → Relays from → Stays from es
modules_stay true t es out c from relays = module_stays t es out c from relays
modules_stay false t es out (none, is) from relays = none_stays from es relays none

-- so do lists of tasks, by a chain each
module _ (chain : HttpTask → List LogEntry → HttpTask → Type 0)
    (so : (t : HttpTask) (es : List LogEntry) (out : HttpTask) → chain t es out → (from : Station)
    → Relays from → Stays from es) where
  all_stay : (es : List LogEntry) (xs ys : List HttpTask) → AllPass chain es xs ys
      → (from : Station) → Relays from → Stays from es
  all_stay es [] [] none from relays = none_stays from es relays none
  all_stay es [] (y ∷ ys) none from relays = absurd none
  all_stay es (x ∷ xs) [] none from relays = absurd none
  all_stay es (x ∷ xs) (y ∷ ys) (own, rest, is, c, pass) from relays =
      let first = so x own y c from relays in
      stays_on from own rest es is first (all_stay rest xs ys pass first.0 first.2)

-- the modules filtered a piece
pub from_piece : (at : Station) (es : List LogEntry) (m : LetsOn es) → Relays at
    → next at m.call ≡ Some station.at_piece
from_piece at es m relays =
    while_relayed hook.ModuleRequestBody None station.at_piece at m.call relays m.is_hook m.ok
    (λ x. refl) (λ x. refl) (λ x. refl)

-- both calls of one
two_are : (es first : List LogEntry) (m e : LogEntry) → first ≡ m ∷ [] → es ≡ first ++ e ∷ []
    → es ≡ m ∷ e ∷ []
two_are es first m e is are = are ∙ ap (λ (l : List LogEntry). l ++ e ∷ []) is

-- an error is one
no_error : {A : Type 0} (o : Option Error) → IsSome o → o ≡ None → A
no_error None bad ok = cc
no_error (Some error) bad ok = absurd (cc)

-- so do the calls of a piece
pub piece_stays : (stand : Bool) (es : List LogEntry) (call : LogEntry) → PieceChain stand es call
    → call.error ≡ None → (from : Station) → Relays from → Stays from es
piece_stays stand es call (PieceChain.by_app none are is piece) ok from relays =
    one_stays from es call are
    (while_relayed hook.RequestBodyFilter None station.relaying from call relays is ok (λ x. refl)
    (λ x. refl) (λ x. refl))
piece_stays stand es call (PieceChain.by_both there first m e are is was piece becomes) ok from
    relays =
    both_stay from station.at_piece es m.call e (two_are es first m.call e m.are are)
    (from_piece from first m relays)
    (go station.at_piece station.at_piece hook.RequestBodyFilter None e (Some station.relaying) refl
    is (sym (ap (λ (x : LogEntry). x.error) becomes) ∙ ok) refl)
piece_stays stand es call (PieceChain.by_modules there are is bad piece) ok from relays =
    no_error call.error bad ok

-- and all calls of a piece or a batch
segment_stays : (oh : Bool) (es : List LogEntry) → Segment oh es → (from : Station) → Relays from
    → Stays from es
segment_stays oh es (segments.Segment.of_piece stand call chain ok) from relays =
    piece_stays stand es call chain ok from relays
segment_stays oh es (segments.Segment.of_batch stand tasks made b) from relays =
    let first = all_stay (TaskChain oh) (task_stays oh) b.by_app tasks b.mid b.pass from relays in
    stays_on from b.by_app b.by_modules es b.calls first
    (all_stay (PassesModules stand) (modules_stay stand) b.by_modules b.mid made b.made_so first.0
    first.2)

-- and those of several
segments_stay : (oh : Bool) (xs : List (List LogEntry)) → All (Segment oh) xs → (from : Station)
    → Relays from → Stays from (joined xs)
segments_stay oh [] none from relays = none_stays from [] relays refl
segments_stay oh (x ∷ xs) all from relays =
    let first = segment_stays oh x (All-head (Segment oh) x xs all) from relays in
    stays_on from x (joined xs) (x ++ joined xs) refl first
    (segments_stay oh xs (All-tail (Segment oh) x xs all) first.0 first.2)

-- ---- what stops

-- the last of the calls filtered a piece as it came from the upstream, and failed with no error
abbrev AtBody : List LogEntry → Type 0
AtBody es = (pre : List LogEntry) × (u : LogEntry) × (es ≡ pre ++ u ∷ []) × (u.error ≡ None)
    × (u.hook ≡ hook.UpstreamResponseBodyFilter)

-- the calls lead to where an error may be told, or to between both filters of a piece
abbrev Comes : Station → List LogEntry → Type 0
Comes from es = (to : Station) × Accepts from es to × (MayFail to ⊎ AtBody es)

-- those behind calls that pass
comes_behind : (from : Station) (es fs all : List LogEntry) → all ≡ es ++ fs
    → (first : Stays from es) → Comes first.0 fs → Comes from all
comes_behind from es fs all is first second =
    subst (λ (l : List LogEntry). Comes from l) (sym is) (
      second.0,
      Accepts-append from first.0 second.0 es fs first.1 second.1,
      elim second.2 [
        | inl may ↦ inl may
        | inr body ↦ inr (
          es ++ body.0,
          body.1,
          ap (λ (l : List LogEntry). es ++ l) body.2 ∙ sym (append_assoc es body.0 (body.1 ∷ [])),
          body.3,
          body.4,
        )
      ],
    )

-- none
none_comes : (from : Station) (es : List LogEntry) → Relays from → es ≡ [] → Comes from es
none_comes from es relays none =
    subst (λ (l : List LogEntry). Comes from l) (sym none) (from, refl, inl (inr (inr relays)))

-- one that failed
fails_at : (from : Station) (h : Hook) (e : LogEntry) (o : Option Error) → Relays from
    → e.hook ≡ h → e.error ≡ o
    → ((x : LogEntry) (error : Error)
    → next station.sent (record x { hook = h; error = Some error }) ≡ Some station.broken)
    → ((x : LogEntry) (error : Error)
    → next station.relaying (record x { hook = h; error = Some error }) ≡ Some station.broken)
    → ((x : LogEntry) (error : Error)
    → next station.at_trailers (record x { hook = h; error = Some error }) ≡ Some station.broken)
    → (o ≡ None → Comes from (e ∷ [])) → Comes from (e ∷ [])
fails_at from h e None relays is_hook is_error at_sent at_relaying at_trailers well = well refl
fails_at from h e (Some error) relays is_hook is_error at_sent at_relaying at_trailers well = (
  station.broken,
  while_relayed h (Some error) station.broken from e relays is_hook is_error
      (λ x. at_sent x error) (λ x. at_relaying x error) (λ x. at_trailers x error),
  inl (inl refl),
)

-- the second of two
second_comes : (from mid : Station) (h : Hook) (u r : LogEntry) (o : Option Error)
    → next from u ≡ Some mid → r.hook ≡ h → r.error ≡ o
    → ((x : LogEntry) → next mid (record x { hook = h; error = None }) ≡ Some station.relaying)
    → ((x : LogEntry) (error : Error)
    → next mid (record x { hook = h; error = Some error }) ≡ Some station.broken)
    → Comes from (u ∷ r ∷ [])
second_comes from mid h u r None first is_hook is_error well badly = (
  station.relaying,
  two from mid station.relaying u r first
      (go mid mid h None r (Some station.relaying) refl is_hook is_error (well r)),
  inl (inr (inr (inr (inl refl)))),
)
second_comes from mid h u r (Some error) first is_hook is_error well badly = (
  station.broken,
  two from mid station.broken u r first
      (go mid mid h (Some error) r (Some station.broken) refl is_hook is_error (badly r error)),
  inl (inl refl),
)

-- the calls so far for a head
head_comes : (oh : Bool) (head : ResponseHead) (end : Bool) (es : List LogEntry)
    → HeadFeeds oh head end es → (from : Station) → Relays from → Comes from es
head_comes oh head end [] fed from relays = none_comes from [] relays refl
head_comes oh head end (u ∷ []) fed from relays =
    fails_at from hook.UpstreamResponseFilter u u.error relays fed.is_hook refl (λ x e. refl)
    (λ x e. refl) (λ x e. refl)
    (λ ok. (station.at_head, from_head from u relays fed.is_hook ok, inl (inr (inl refl))))
head_comes oh head end (u ∷ r ∷ []) (first, c, plain, fed) from relays =
    second_comes from station.at_head hook.ResponseFilter u r r.error
    (from_head from u relays c.is_hook c.ok) fed.is_hook refl (λ x. refl) (λ x e. refl)
head_comes oh head end (u ∷ r ∷ e ∷ es) fed from relays = absurd fed

-- the calls so far for a piece
body_comes : (bytes : Option (List ℕ)) (end : Bool) (es : List LogEntry) → BodyFeeds bytes end es
    → (from : Station) → Relays from → Comes from es
body_comes bytes end [] fed from relays = none_comes from [] relays refl
body_comes bytes end (u ∷ []) fed from relays =
    fails_at from hook.UpstreamResponseBodyFilter u u.error relays fed.is_hook refl (λ x e. refl)
    (λ x e. refl) (λ x e. refl)
    (λ ok. (
      station.at_body,
      from_body from u relays fed.is_hook ok,
      inr ([], u, refl, ok, fed.is_hook),
    ))
body_comes bytes end (u ∷ r ∷ []) (mid, c, fed) from relays =
    second_comes from station.at_body hook.ResponseBodyFilter u r r.error
    (from_body from u relays c.is_hook c.ok) fed.is_hook refl (λ x. refl) (λ x e. refl)
body_comes bytes end (u ∷ r ∷ e ∷ es) fed from relays = absurd fed

-- the calls so far for trailer fields
trailers_come : (fields : Fields) (es : List LogEntry) → TrailerFeeds fields es → (from : Station)
    → Relays from → Comes from es
trailers_come fields [] fed from relays = none_comes from [] relays refl
trailers_come fields (u ∷ []) fed from relays =
    fails_at from hook.UpstreamResponseTrailerFilter u u.error relays fed.is_hook refl (λ x e. refl)
    (λ x e. refl) (λ x e. refl)
    (λ ok. (
      station.at_trailers,
      from_trailers from u relays fed.is_hook ok,
      inl (inr (inr (inr (inr refl)))),
    ))
trailers_come fields (u ∷ e ∷ es) fed from relays = absurd fed

-- the calls so far for a task
task_comes : (oh : Bool) (t : HttpTask) (es : List LogEntry) → TaskFeeds oh t es → (from : Station)
    → Relays from → Comes from es
task_comes oh (task.Header head end) es fed from relays = head_comes oh head end es fed from relays
task_comes oh (task.Body bytes end) es fed from relays = body_comes bytes end es fed from relays
task_comes oh (task.UpgradedBody bytes end) es fed from relays =
    body_comes bytes end es fed from relays
task_comes oh (task.Trailer None) es none from relays = none_comes from es relays none
task_comes oh (task.Trailer (Some fields)) es fed from relays =
    trailers_come fields es fed from relays
task_comes oh task.Done es none from relays = none_comes from es relays none
task_comes oh (task.Failed error) es none from relays = none_comes from es relays none

-- the call of the modules for one, or none yet, of a hook that leads on where it comes out well
one_comes : (h : Hook) (input : Item) (es : List LogEntry) → OneFeeds h input es
    → ((x : LogEntry)
    → next station.sent (record x { hook = h; error = None }) ≡ Some station.relaying)
    → ((x : LogEntry)
    → next station.relaying (record x { hook = h; error = None }) ≡ Some station.relaying)
    → ((x : LogEntry)
    → next station.at_trailers (record x { hook = h; error = None }) ≡ Some station.relaying)
    → ((x : LogEntry) (error : Error)
    → next station.sent (record x { hook = h; error = Some error }) ≡ Some station.broken)
    → ((x : LogEntry) (error : Error)
    → next station.relaying (record x { hook = h; error = Some error }) ≡ Some station.broken)
    → ((x : LogEntry) (error : Error)
    → next station.at_trailers (record x { hook = h; error = Some error }) ≡ Some station.broken)
    → (from : Station) → Relays from → Comes from es
one_comes h input [] fed w w' w'' b b' b'' from relays = none_comes from [] relays refl
one_comes h input (m ∷ []) fed w w' w'' b b' b'' from relays =
    fails_at from h m m.error relays fed.is_hook refl b b' b''
    (λ ok. (
      station.relaying,
      while_relayed h None station.relaying from m relays fed.is_hook ok w w' w'',
      inl (inr (inr (inr (inl refl)))),
    ))
one_comes h input (m ∷ e ∷ es) fed w w' w'' b b' b'' from relays = absurd fed

-- the calls of the modules so far for a task
module_comes : (t : HttpTask) (es : List LogEntry) → ModuleFeeds t es → (from : Station)
    → Relays from → Comes from es
module_comes (task.Header head end) es fed from relays =
    one_comes hook.ModuleResponseHeader _ es fed (λ x. refl) (λ x. refl) (λ x. refl) (λ x e. refl)
    (λ x e. refl) (λ x e. refl) from relays
module_comes (task.Body bytes end) es fed from relays =
    one_comes hook.ModuleResponseBody _ es fed (λ x. refl) (λ x. refl) (λ x. refl) (λ x e. refl)
    (λ x e. refl) (λ x e. refl) from relays
module_comes (task.UpgradedBody bytes end) es fed from relays =
    one_comes hook.ModuleResponseBody _ es fed (λ x. refl) (λ x. refl) (λ x. refl) (λ x e. refl)
    (λ x e. refl) (λ x e. refl) from relays
module_comes (task.Trailer fields) es fed from relays =
    one_comes hook.ModuleResponseTrailer _ es fed (λ x. refl) (λ x. refl) (λ x. refl) (λ x e. refl)
    (λ x e. refl) (λ x e. refl) from relays
module_comes task.Done es fed from relays =
    one_comes hook.ModuleResponseDone _ es fed (λ x. refl) (λ x. refl) (λ x. refl) (λ x e. refl)
    (λ x e. refl) (λ x e. refl) from relays
module_comes (task.Failed error) es none from relays = none_comes from es relays none

-- the calls of a list of which not all passed
front_comes : (chain : HttpTask → List LogEntry → HttpTask → Type 0)
    (feeds : HttpTask → List LogEntry → Type 0)
    → ((t : HttpTask) (es : List LogEntry) (out : HttpTask) → chain t es out → (from : Station)
    → Relays from → Stays from es)
    → ((t : HttpTask) (es : List LogEntry) → feeds t es → (from : Station) → Relays from
    → Comes from es)
    → (xs : List HttpTask) (es : List LogEntry) → FrontPasses chain feeds xs es
    → (from : Station) → Relays from → Comes from es
front_comes chain feeds so ends xs es f from relays =
    let first = all_stay chain so f.calls f.front f.made f.pass from relays in
    comes_behind from f.calls f.last es f.parts first (ends f.at f.last f.fed first.0 first.2)

-- the calls of a batch of which not all passed
batch_comes : (oh stand : Bool) (tasks : List HttpTask) (es : List LogEntry)
    → BatchStops oh stand tasks es → (from : Station) → Relays from → Comes from es
batch_comes oh stand tasks es (batches.BatchStops.by_app are front) from relays =
    front_comes (TaskChain oh) (TaskFeeds oh) (task_stays oh) (task_comes oh) tasks es front from
    relays
batch_comes oh stand tasks es
    (batches.BatchStops.by_modules stands mid first last is are are' pass front) from relays =
    let on = all_stay (TaskChain oh) (task_stays oh) first tasks mid pass from relays in
    comes_behind from first last es is on
    (front_comes ModuleChain ModuleFeeds module_stays module_comes mid last front on.0 on.2)

-- ---- the last call

-- the last of a list
abbrev final : List LogEntry → Option LogEntry
final [] = None
final (x ∷ []) = Some x
final (x ∷ y ∷ xs) = final (y ∷ xs)

final_push : (xs : List LogEntry) (x : LogEntry) → final (xs ++ x ∷ []) ≡ Some x
final_push [] x = refl
final_push (y ∷ []) x = refl
final_push (y ∷ z ∷ xs) x = final_push (z ∷ xs) x

one_entry : (a b : LogEntry) → Some a ≡ Some b → a ≡ b
one_entry a b same = cc

-- two ends of one list have one last call
same_last : (es pre front : List LogEntry) (u last : LogEntry) → es ≡ pre ++ u ∷ []
    → es ≡ front ++ last ∷ [] → last ≡ u
same_last es pre front u last is is' =
    one_entry last u
    (sym (final_push front last) ∙ ap final (sym is' ∙ is) ∙ final_push pre u)

-- a piece is not refused between its two filters where the first came out well
never_between : {A : Type 0} (oh : Bool) (e : Error) (es : List LogEntry) → Refuses oh e es
    → AtBody es → A
never_between oh e es (chains.Refuses.by_hook front last is failed) (pre, u, is', ok, which) =
    absurd (none_some (sym ok ∙ ap (λ (x : LogEntry). x.error)
    (sym (same_last es pre front u last is' is)) ∙ failed))
  where
    none_some : ◌≡◌ {A = Option Error} None (Some e) → ⊥
    none_some is = cc
never_between oh e es (chains.Refuses.by_check front last is none refused)
    (pre, u, is', ok, which) =
    absurd (none_some (sym (ap (λ (h : Hook). checked h last.output)
    (ap (λ (x : LogEntry). x.hook) (same_last es pre front u last is' is) ∙ which)) ∙ refused))
  where
    none_some : checked hook.UpstreamResponseBodyFilter last.output ≡ Some e → ⊥
    none_some is = cc
never_between oh e es
    (chains.Refuses.by_room front last head end is called lacks full error) (pre, u, is', ok, which)
    =
    absurd (apart (sym called.is_hook
    ∙ ap (λ (x : LogEntry). x.hook) (same_last es pre front u last is' is) ∙ which))
  where
    apart : hook.UpstreamResponseFilter ≡ hook.UpstreamResponseBodyFilter → ⊥
    apart is = cc

-- ---- the calls of a side

-- those of a piece that was refused lead to where the attempt has failed
pub piece_fails : (stand : Bool) (es : List LogEntry) (call : LogEntry) (error : Error)
    → PieceChain stand es call → call.error ≡ Some error → (from : Station) → Relays from
    → Accepts from es station.broken
piece_fails stand es call error (PieceChain.by_app none are is piece) failed from relays =
    subst (λ (l : List LogEntry). Accepts from l station.broken) (sym are)
    (while_relayed hook.RequestBodyFilter (Some error) station.broken from call relays is failed
    (λ x. refl) (λ x. refl) (λ x. refl))
piece_fails stand es call error (PieceChain.by_both there first m e are is was piece becomes)
    failed from relays =
    subst (λ (l : List LogEntry). Accepts from l station.broken)
    (sym (two_are es first m.call e m.are are))
    (two from station.at_piece station.broken m.call e (from_piece from first m relays)
    (go station.at_piece station.at_piece hook.RequestBodyFilter (Some error) e
    (Some station.broken) refl is (sym (ap (λ (x : LogEntry). x.error) becomes) ∙ failed) refl))
piece_fails stand es call error (PieceChain.by_modules there are is bad piece) failed from relays =
    subst (λ (l : List LogEntry). Accepts from l station.broken) (sym are)
    (while_relayed hook.ModuleRequestBody (Some error) station.broken from call relays is failed
    (λ x. refl) (λ x. refl) (λ x. refl))

-- those of what was refused lead to where the error may be told
refused_comes : (oh : Bool) (error : Error) (es : List LogEntry) → RefusedIn oh error es
    → (from : Station) → Relays from → (to : Station) × Accepts from es to × MayFail to
refused_comes oh error es (segments.RefusedIn.of_piece stand call chain failed) from relays =
    (station.broken, piece_fails stand es call error chain failed from relays, inl refl)
refused_comes oh error es (segments.RefusedIn.of_batch stand tasks stops refuses) from relays =
    let there = batch_comes oh stand tasks es stops from relays in
    elim there.2 [
      | inl may ↦ (there.0, there.1, may)
      | inr body ↦ never_between oh error es refuses body
    ]

-- those of a side that wanted memory come in order too
lost_comes : (oh : Bool) (es : List LogEntry) → LastCalls oh (Some fail.OutOfMemory) es
    → (from : Station) → Relays from → (to : Station) × Accepts from es to
lost_comes oh es (inl none) from relays =
    subst (λ (l : List LogEntry). (to : Station) × Accepts from l to) (sym none) (from, refl)
lost_comes oh es (inr (inl m)) from relays =
    subst (λ (l : List LogEntry). (to : Station) × Accepts from l to) (sym m.are)
    (station.at_piece, from_piece from es m relays)
lost_comes oh es (inr (inr stops)) from relays =
    let there = batch_comes oh stops.stand stops.tasks es stops.stops from relays in
    (there.0, there.1)

-- so all of them come in order
pub come_in_order : (oh : Bool) (stopped : Option Fail) (es : List LogEntry) (from : Station)
    → Relays from → InSegments oh stopped es → Leads from es stopped
come_in_order oh None es from relays s =
    let first = segments_stay oh s.segments s.passed from relays in
    let all = stays_on from (joined s.segments) s.last es s.are first
    (none_stays first.0 s.last first.2 s.ends) in
    record { to = all.0; order = all.1; lands = all.2 }
come_in_order oh (Some (fail.Error error)) es from relays s =
    let first = segments_stay oh s.segments s.passed from relays in
    let there = refused_comes oh error s.last s.ends first.0 first.2 in
    record {
      to = there.0;
      order = subst (λ (l : List LogEntry). Accepts from l there.0) (sym s.are)
          (Accepts-append from first.0 there.0 (joined s.segments) s.last first.1 there.1);
      lands = there.2;
    }
come_in_order oh (Some fail.OutOfMemory) es from relays s =
    let first = segments_stay oh s.segments s.passed from relays in
    let there = lost_comes oh s.last s.ends first.0 first.2 in
    record {
      to = there.0;
      order = subst (λ (l : List LogEntry). Accepts from l there.0) (sym s.are)
          (Accepts-append from first.0 there.0 (joined s.segments) s.last first.1 there.1);
      lands = tt;
    }
