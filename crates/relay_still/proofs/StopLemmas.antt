-- Filters that change nothing stop no batch whose heads may pass.
--
--   MayPass       a head that switches no protocols, and has room where it is to be chunked
--   TaskMayPass   a task whose head may pass
--   front_of      the tasks in front of others
--   rest_of       and those behind them
--   last_neutral  the last of calls that change nothing changed nothing
--   unstopped     from BatchStops, Refuses and AreNeutral: nothing
use Rattle.std.proofs.Common.{◌≡◌, ℕ, Bool, true, false, List, [], ◌∷◌, ◌++◌, refl, sym, subst, ◌∙◌, Option, Some, None, if◌then◌else◌}
use Rattle.std.specs.Prelude.{codes}
use Rattle.std.specs.List.{AllByRecursion}
use Rattle.http_header.specs.HeaderMap.{RefusesInsert}
use Rattle.relay_tasks.specs.Head.{Fields, ResponseHead}
use Rattle.relay_tasks.specs.declared.error.Error.{Error}
use Rattle.relay_tasks.specs.declared.hook.Hook.{Hook}
use Rattle.relay_tasks.specs.declared.hook.Hook.TheVariants as hook
use Rattle.relay_tasks.specs.declared.log.Item.{Item}
use Rattle.relay_tasks.specs.declared.log.Item.TheVariants as item
use Rattle.relay_tasks.specs.declared.log.LogEntry.{LogEntry}
use Rattle.relay_tasks.specs.declared.task.HttpTask.{HttpTask}
use Rattle.relay_tasks.specs.declared.task.HttpTask.TheVariants as task
use Rattle.relay_h1.specs.ClientHead.{chunked_head, lacks_framing}
use Rattle.relay_core.proofs.BoolLemmas.{clash}
use Rattle.relay_filters.specs.Chain as chain
use Rattle.relay_filters.specs.Chain.{AllPass, BodyFeeds, Called, FrontPasses, Gave, HeadFeeds, ModuleChain, ModuleFeeds, OneFeeds, Refuses, TaskChain, TaskFeeds, TrailerFeeds, checked, framed, is_switch, method_of}
use Rattle.relay_filters.specs.Response as response
use Rattle.relay_filters.specs.Response.{BatchStops}
use Rattle.relay_hooked.specs.Neutral.{AreNeutral, LeavesIt}

-- ---- what may pass

-- a head that switches no protocols, and has room where it is to be chunked
pub record MayPass (of_head : Bool) (head : ResponseHead) (end : Bool) : Type 0 where
  pub stays : is_switch head ≡ false
  pub room : lacks_framing (method_of of_head) end head ≡ true
      → RefusesInsert head.fields (codes "transfer-encoding") → ⊥

-- a task whose head may pass
abbrev pub TaskMayPass : Bool → HttpTask → Type 0
TaskMayPass of_head (task.Header head end) = MayPass of_head head end
TaskMayPass of_head (task.Body bytes end) = Unit {0}
TaskMayPass of_head (task.UpgradedBody bytes end) = Unit {0}
TaskMayPass of_head (task.Trailer fields) = Unit {0}
TaskMayPass of_head task.Done = Unit {0}
TaskMayPass of_head (task.Failed error) = Unit {0}

-- a task whose head switches no protocols
abbrev TaskStays : HttpTask → Type 0
TaskStays (task.Header head end) = is_switch head ≡ false
TaskStays (task.Body bytes end) = Unit {0}
TaskStays (task.UpgradedBody bytes end) = Unit {0}
TaskStays (task.Trailer fields) = Unit {0}
TaskStays task.Done = Unit {0}
TaskStays (task.Failed error) = Unit {0}

-- a hook may be given this: of a head the filter of the upstream one that may pass, each other one
-- that switches no protocols
record MayGet (of_head : Bool) (which : Hook) (given : Item) : Type 0 where
  pub stays : (head : ResponseHead) (end : Bool) → given ≡ item.Response head end
      → is_switch head ≡ false
  pub room : (head : ResponseHead) (end : Bool) → which ≡ hook.UpstreamResponseFilter
      → given ≡ item.Response head end → lacks_framing (method_of of_head) end head ≡ true
      → RefusesInsert head.fields (codes "transfer-encoding") → ⊥

-- each call was given what its hook may be given
abbrev AreGiven : Bool → List LogEntry → Type 0
AreGiven of_head es = AllByRecursion (λ (e : LogEntry). MayGet of_head e.hook e.input) es

-- ---- tasks

-- what holds of each task holds of those in front of others
pub front_of : (P : HttpTask → Type 0) (xs ys : List HttpTask) → AllByRecursion P (xs ++ ys)
    → AllByRecursion P xs
front_of P [] ys all = tt
front_of P (x ∷ xs) ys all = (all.0, front_of P xs ys all.1)

-- and of those behind them
pub rest_of : (P : HttpTask → Type 0) (xs ys : List HttpTask) → AllByRecursion P (xs ++ ys)
    → AllByRecursion P ys
rest_of P [] ys all = all
rest_of P (x ∷ xs) ys all = rest_of P xs ys all.1

-- ---- a call

-- one head
same_given : (a b : ResponseHead) (x y : Bool) → item.Response a x ≡ item.Response b y → b ≡ a
same_given a b x y same = cc

-- one end
same_end : (a b : ResponseHead) (x y : Bool) → item.Response a x ≡ item.Response b y → y ≡ x
same_end a b x y same = cc

-- the filter of the upstream may be given a head that may pass
first_gets : (oh : Bool) (head : ResponseHead) (end : Bool) → MayPass oh head end
    → MayGet oh hook.UpstreamResponseFilter (item.Response head end)
first_gets oh head end may = record {
  stays = λ other last is. subst (λ (h : ResponseHead). is_switch h ≡ false)
      (sym (same_given head other end last is)) may.stays;
  room = λ other last same is lacks refuses.
      let h = same_given head other end last is in
      let l = same_end head other end last is in
      may.room
      (subst (λ (x : ResponseHead). lacks_framing (method_of oh) end x ≡ true) h
      (subst (λ (b : Bool). lacks_framing (method_of oh) b other ≡ true) l lacks))
      (subst (λ (x : ResponseHead). RefusesInsert x.fields (codes "transfer-encoding")) h refuses);
}

-- and each other one a head that switches no protocols
later_gets : (oh : Bool) (which : Hook) (head : ResponseHead) (end : Bool)
    → (which ≡ hook.UpstreamResponseFilter → ⊥) → is_switch head ≡ false
    → MayGet oh which (item.Response head end)
later_gets oh which head end apart stays = record {
  stays = λ other last is. subst (λ (h : ResponseHead). is_switch h ≡ false)
      (sym (same_given head other end last is)) stays;
  room = λ other last same is lacks refuses. apart same;
}

-- and each what is no head
other_gets : (oh : Bool) (which : Hook) (given : Item)
    → ((head : ResponseHead) (end : Bool) → given ≡ item.Response head end → ⊥)
    → MayGet oh which given
other_gets oh which given apart = record {
  stays = λ head end is. absurd (apart head end is);
  room = λ head end same is lacks refuses. apart head end is;
}

-- a piece is no head, nor are trailer fields or an end
piece_apart : (bytes : Option (List ℕ)) (last : Bool) (head : ResponseHead) (end : Bool)
    → item.Piece bytes last ≡ item.Response head end → ⊥
piece_apart bytes last head end is = cc

fields_apart : (fields : Option Fields) (head : ResponseHead) (end : Bool)
    → item.Trailers fields ≡ item.Response head end → ⊥
fields_apart fields head end is = cc

end_apart : (head : ResponseHead) (end : Bool) → item.Nothing ≡ item.Response head end → ⊥
end_apart head end is = cc

-- a call of that hook with that was given it
call_gets : (oh : Bool) (which : Hook) (given : Item) (e : LogEntry) → e.hook ≡ which
    → e.input ≡ given → MayGet oh which given → MayGet oh e.hook e.input
call_gets oh which given e is_hook was may =
    subst (λ (h : Hook). MayGet oh h e.input) (sym is_hook)
    (subst (λ (i : Item). MayGet oh which i) (sym was) may)

-- a head that is framed switches protocols where it did
framed_stays : (oh end : Bool) (head : ResponseHead) → is_switch head ≡ false
    → is_switch (framed oh end head) ≡ false
framed_stays oh end head stays = on (lacks_framing (method_of oh) end head)
  where
    on : (b : Bool) → is_switch (if b then chunked_head head else head) ≡ false
    on true = stays
    on false = stays

-- ---- the filters of the application

module _ (oh : Bool) where
  -- a call that went well was made
  gave : {which : Hook} {input output : Item} {e : LogEntry} → Called which input output e
      → Gave which input e
  gave c = record { is_hook = c.is_hook; was = c.was }

  -- those that a head passes
  head_gets : (head : ResponseHead) (end : Bool) (u r : LogEntry) (first : ResponseHead)
      → MayPass oh head end → is_switch first ≡ false
      → Gave hook.UpstreamResponseFilter (item.Response head end) u
      → Gave hook.ResponseFilter (item.Response (framed oh end first) end) r
      → AreGiven oh (u ∷ r ∷ [])
  head_gets head end u r first may passes upstream next = (
    call_gets oh _ _ u upstream.is_hook upstream.was (first_gets oh head end may),
    (
      call_gets oh _ _ r next.is_hook next.was
          (later_gets oh hook.ResponseFilter _ end (λ wrong. cc)
          (framed_stays oh end first passes)),
      tt,
    ),
  )

  -- those that a piece passes
  piece_gets : (u r : LogEntry) (one other : Hook) (a b : Option (List ℕ)) (x y : Bool)
      → Gave one (item.Piece a x) u → Gave other (item.Piece b y) r → AreGiven oh (u ∷ r ∷ [])
  piece_gets u r one other a b x y first next = (
    call_gets oh _ _ u first.is_hook first.was (other_gets oh one _ (piece_apart a x)),
    (
      call_gets oh _ _ r next.is_hook next.was (other_gets oh other _ (piece_apart b y)),
      tt,
    ),
  )

  -- those that a task passes
  app_gets : (x : HttpTask) (es : List LogEntry) (y : HttpTask) → TaskMayPass oh x
      → TaskChain oh x es y → AreGiven oh es
  app_gets (task.Header head end) es y may (last, h, is) =
      subst (λ (l : List LogEntry). AreGiven oh l) (sym h.calls)
      (head_gets head end h.u h.r h.first may h.first_passes (gave h.upstream) (gave h.response))
  app_gets (task.Body bytes end) es y may (last, b, is) =
      subst (λ (l : List LogEntry). AreGiven oh l) (sym b.calls)
      (piece_gets b.u b.r _ _ bytes b.mid end end (gave b.upstream) (gave b.response))
  app_gets (task.UpgradedBody bytes end) es y may (last, b, is) =
      subst (λ (l : List LogEntry). AreGiven oh l) (sym b.calls)
      (piece_gets b.u b.r _ _ bytes b.mid end end (gave b.upstream) (gave b.response))
  app_gets (task.Trailer None) es y may (none, is) =
      subst (λ (l : List LogEntry). AreGiven oh l) (sym none) tt
  app_gets (task.Trailer (Some fields)) es y may (last, t, is) =
      subst (λ (l : List LogEntry). AreGiven oh l) (sym t.calls) (
        call_gets oh _ _ t.u t.upstream.is_hook t.upstream.was
            (other_gets oh _ _ (fields_apart (Some fields))),
        tt,
      )
  app_gets task.Done es y may (none, is) =
      subst (λ (l : List LogEntry). AreGiven oh l) (sym none) tt
  app_gets (task.Failed error) es y may (none, is) =
      subst (λ (l : List LogEntry). AreGiven oh l) (sym none) tt

  -- the calls so far for a head
  head_fed : (head : ResponseHead) (end : Bool) (es : List LogEntry) → MayPass oh head end
      → HeadFeeds oh head end es → AreGiven oh es
  head_fed head end [] may fed = tt
  head_fed head end (u ∷ []) may fed =
      (call_gets oh _ _ u fed.is_hook fed.was (first_gets oh head end may), tt)
  head_fed head end (u ∷ r ∷ []) may (first, upstream, passes, next) =
      head_gets head end u r first may passes (gave upstream) next
  head_fed head end (u ∷ r ∷ e ∷ es) may fed = absurd fed

  -- for a piece
  piece_fed : (bytes : Option (List ℕ)) (end : Bool) (es : List LogEntry)
      → BodyFeeds bytes end es → AreGiven oh es
  piece_fed bytes end [] fed = tt
  piece_fed bytes end (u ∷ []) fed =
      (call_gets oh _ _ u fed.is_hook fed.was (other_gets oh _ _ (piece_apart bytes end)), tt)
  piece_fed bytes end (u ∷ r ∷ []) (mid, upstream, next) =
      piece_gets u r _ _ bytes mid end end (gave upstream) next
  piece_fed bytes end (u ∷ r ∷ e ∷ es) fed = absurd fed

  -- for trailer fields
  trailer_fed : (fields : Fields) (es : List LogEntry) → TrailerFeeds fields es → AreGiven oh es
  trailer_fed fields [] fed = tt
  trailer_fed fields (u ∷ []) fed =
      (call_gets oh _ _ u fed.is_hook fed.was (other_gets oh _ _ (fields_apart (Some fields))), tt)
  trailer_fed fields (u ∷ e ∷ es) fed = absurd fed

  -- and for any task
  app_fed : (x : HttpTask) (es : List LogEntry) → TaskMayPass oh x → TaskFeeds oh x es
      → AreGiven oh es
  app_fed (task.Header head end) es may fed = head_fed head end es may fed
  app_fed (task.Body bytes end) es may fed = piece_fed bytes end es fed
  app_fed (task.UpgradedBody bytes end) es may fed = piece_fed bytes end es fed
  app_fed (task.Trailer None) es may none =
      subst (λ (l : List LogEntry). AreGiven oh l) (sym none) tt
  app_fed (task.Trailer (Some fields)) es may fed = trailer_fed fields es fed
  app_fed task.Done es may none =
      subst (λ (l : List LogEntry). AreGiven oh l) (sym none) tt
  app_fed (task.Failed error) es may none =
      subst (λ (l : List LogEntry). AreGiven oh l) (sym none) tt

  -- what passed them switches no protocols
  app_stays : (x : HttpTask) (es : List LogEntry) (y : HttpTask) → TaskChain oh x es y
      → TaskStays y
  app_stays (task.Header head end) es y (last, h, is) =
      subst (λ (t : HttpTask). TaskStays t) (sym is) h.last_passes
  app_stays (task.Body bytes end) es y (last, b, is) =
      subst (λ (t : HttpTask). TaskStays t) (sym is) tt
  app_stays (task.UpgradedBody bytes end) es y (last, b, is) =
      subst (λ (t : HttpTask). TaskStays t) (sym is) tt
  app_stays (task.Trailer None) es y (none, is) =
      subst (λ (t : HttpTask). TaskStays t) (sym is) tt
  app_stays (task.Trailer (Some fields)) es y (last, t, is) =
      subst (λ (t : HttpTask). TaskStays t) (sym is) tt
  app_stays task.Done es y (none, is) = subst (λ (t : HttpTask). TaskStays t) (sym is) tt
  app_stays (task.Failed error) es y (none, is) =
      subst (λ (t : HttpTask). TaskStays t) (sym is) tt

  -- ---- the filters of the modules

  -- the call for a task
  one_fed : (which : Hook) (given : Item) (es : List LogEntry) → MayGet oh which given
      → OneFeeds which given es → AreGiven oh es
  one_fed which given [] may fed = tt
  one_fed which given (m ∷ []) may fed = (call_gets oh _ _ m fed.is_hook fed.was may, tt)
  one_fed which given (m ∷ e ∷ es) may fed = absurd fed

  module_fed : (x : HttpTask) (es : List LogEntry) → TaskStays x → ModuleFeeds x es
      → AreGiven oh es
  module_fed (task.Header head end) es stays fed =
      one_fed hook.ModuleResponseHeader _ es
      (later_gets oh hook.ModuleResponseHeader head end (λ wrong. cc) stays) fed
  module_fed (task.Body bytes end) es stays fed =
      one_fed hook.ModuleResponseBody _ es (other_gets oh _ _ (piece_apart bytes end)) fed
  module_fed (task.UpgradedBody bytes end) es stays fed =
      one_fed hook.ModuleResponseBody _ es (other_gets oh _ _ (piece_apart bytes end)) fed
  module_fed (task.Trailer fields) es stays fed =
      one_fed hook.ModuleResponseTrailer _ es (other_gets oh _ _ (fields_apart fields)) fed
  module_fed task.Done es stays fed =
      one_fed hook.ModuleResponseDone _ es (other_gets oh _ _ end_apart) fed
  module_fed (task.Failed error) es stays none =
      subst (λ (l : List LogEntry). AreGiven oh l) (sym none) tt

  -- a task that passed was given to it
  module_gets : (x : HttpTask) (es : List LogEntry) (y : HttpTask) → TaskStays x
      → ModuleChain x es y → AreGiven oh es
  module_gets (task.Header head end) es y stays (last, c, passes, is) =
      subst (λ (l : List LogEntry). AreGiven oh l) (sym c.calls)
      (module_fed (task.Header head end) (c.m ∷ []) stays (gave c.called))
  module_gets (task.Body bytes end) es y stays (last, c, is) =
      subst (λ (l : List LogEntry). AreGiven oh l) (sym c.calls)
      (module_fed (task.Body bytes end) (c.m ∷ []) stays (gave c.called))
  module_gets (task.UpgradedBody bytes end) es y stays (last, c, is) =
      subst (λ (l : List LogEntry). AreGiven oh l) (sym c.calls)
      (module_fed (task.UpgradedBody bytes end) (c.m ∷ []) stays (gave c.called))
  module_gets (task.Trailer fields) es y stays (last, answer, c, is) =
      subst (λ (l : List LogEntry). AreGiven oh l) (sym c.calls)
      (module_fed (task.Trailer fields) (c.m ∷ []) stays (gave c.called))
  module_gets task.Done es y stays (answer, c, is) =
      subst (λ (l : List LogEntry). AreGiven oh l) (sym c.calls)
      (module_fed task.Done (c.m ∷ []) stays (gave c.called))
  module_gets (task.Failed error) es y stays (none, is) =
      subst (λ (l : List LogEntry). AreGiven oh l) (sym none) tt

  -- ---- a batch

  -- two stretches of calls
  both_given : (es fs : List LogEntry) → AreGiven oh es → AreGiven oh fs → AreGiven oh (es ++ fs)
  both_given [] fs a b = b
  both_given (e ∷ es) fs a b = (a.0, both_given es fs a.1 b)

  module _ (P : HttpTask → Type 0) (link : HttpTask → List LogEntry → HttpTask → Type 0)
      (gets : (x : HttpTask) (es : List LogEntry) (y : HttpTask) → P x → link x es y
      → AreGiven oh es)
    where
      -- the calls of a list that passed
      list_gets : (es : List LogEntry) (xs ys : List HttpTask) → AllByRecursion P xs
          → AllPass link es xs ys → AreGiven oh es
      list_gets es [] [] all none =
          subst (λ (l : List LogEntry). AreGiven oh l) (sym none) tt
      list_gets es [] (y ∷ ys) all none = absurd none
      list_gets es (x ∷ xs) [] all none = absurd none
      list_gets es (x ∷ xs) (y ∷ ys) all (own, rest, is, c, pass) =
          subst (λ (l : List LogEntry). AreGiven oh l) (sym is)
          (both_given own rest (gets x own y all.0 c) (list_gets rest xs ys all.1 pass))

      -- those of one whose front did
      front_gets : (feeds : HttpTask → List LogEntry → Type 0)
          → ((x : HttpTask) (es : List LogEntry) → P x → feeds x es → AreGiven oh es)
          → (xs : List HttpTask) (es : List LogEntry) → AllByRecursion P xs
          → FrontPasses link feeds xs es → AreGiven oh es
      front_gets feeds fed xs es all f =
          let tasks = subst (λ (l : List HttpTask). AllByRecursion P l) f.are all in
          subst (λ (l : List LogEntry). AreGiven oh l) (sym f.parts)
          (both_given f.calls f.last
          (list_gets f.calls f.front f.made
          (front_of P f.front (f.at ∷ f.behind) tasks) f.pass)
          (fed f.at f.last (rest_of P f.front (f.at ∷ f.behind) tasks).0 f.fed))

  -- what passed the filters of the application
  list_stays : (es : List LogEntry) (xs ys : List HttpTask) → AllPass (TaskChain oh) es xs ys
      → AllByRecursion TaskStays ys
  list_stays es [] [] none = tt
  list_stays es [] (y ∷ ys) none = absurd none
  list_stays es (x ∷ xs) [] none = absurd none
  list_stays es (x ∷ xs) (y ∷ ys) (own, rest, is, c, pass) =
      (app_stays x own y c, list_stays rest xs ys pass)

  -- the calls of a batch that was stopped
  stop_gets : (stand : Bool) (batch : List HttpTask) (es : List LogEntry)
      → AllByRecursion (TaskMayPass oh) batch → BatchStops oh stand batch es → AreGiven oh es
  stop_gets stand batch es all (response.BatchStops.by_app apps f) =
      front_gets (TaskMayPass oh) (TaskChain oh) app_gets (TaskFeeds oh) app_fed batch es all f
  stop_gets stand batch es all
      (response.BatchStops.by_modules stands mid first last is apps mods pass f) =
      subst (λ (l : List LogEntry). AreGiven oh l) (sym is)
      (both_given first last
      (list_gets (TaskMayPass oh) (TaskChain oh) app_gets first batch mid all pass)
      (front_gets TaskStays ModuleChain module_gets ModuleFeeds module_fed mid last
      (list_stays first batch mid pass) f))

-- ---- the last call

-- what holds of each call holds of the last
last_given : (oh : Bool) (front : List LogEntry) (last : LogEntry)
    → AreGiven oh (front ++ last ∷ []) → MayGet oh last.hook last.input
last_given oh [] last all = all.0
last_given oh (e ∷ front) last all = last_given oh front last all.1

-- the last of calls that change nothing changed nothing
pub last_neutral : (front : List LogEntry) (last : LogEntry) → AreNeutral (front ++ last ∷ [])
    → LeavesIt last
last_neutral [] last n = n.0
last_neutral (e ∷ front) last n = last_neutral front last n.1

-- it is a head that switches protocols
record IsSwitchIn (given : Item) : Type 0 where
  pub head : ResponseHead
  pub end : Bool
  pub is : given ≡ item.Response head end
  pub switches : is_switch head ≡ true

-- a head that is refused behind a filter switches protocols
refused_switch : (head : ResponseHead) (end : Bool) (why e : Error) (b : Bool)
    → is_switch head ≡ b → (if b then Some why else None) ≡ Some e
    → IsSwitchIn (item.Response head end)
refused_switch head end why e true switches is =
    record { head = head; end = end; is = refl; switches = switches }
refused_switch head end why e false switches is = absurd (cc)

-- so does what the check refuses
checked_switch : (which : Hook) (given : Item) (e : Error) → checked which given ≡ Some e
    → IsSwitchIn given
checked_switch hook.UpstreamResponseFilter (item.Response head end) e is =
    refused_switch head end _ e (is_switch head) refl is
checked_switch hook.ResponseFilter (item.Response head end) e is =
    refused_switch head end _ e (is_switch head) refl is
checked_switch hook.ModuleResponseHeader (item.Response head end) e is =
    refused_switch head end _ e (is_switch head) refl is
checked_switch which given e is = absurd (cc)

-- calls that change nothing are not stopped for an error, where each may be given what it was
still_goes : (oh : Bool) (e : Error) (es : List LogEntry) → AreNeutral es → AreGiven oh es
    → Refuses oh e es → ⊥
still_goes oh e es n all (chain.Refuses.by_hook front last is fails) =
    let left = last_neutral front last (subst (λ (l : List LogEntry). AreNeutral l) is n) in
    let both = sym left.ok ∙ fails in cc
still_goes oh e es n all (chain.Refuses.by_check front last is ok checks) =
    let left = last_neutral front last (subst (λ (l : List LogEntry). AreNeutral l) is n) in
    let given = last_given oh front last (subst (λ (l : List LogEntry). AreGiven oh l) is all) in
    let head = checked_switch last.hook last.output e checks in
    clash (is_switch head.head) head.switches
    (given.stays head.head head.end (sym left.same ∙ head.is))
still_goes oh e es n all (chain.Refuses.by_room front last head end is called lacks refuses why) =
    let left = last_neutral front last (subst (λ (l : List LogEntry). AreNeutral l) is n) in
    let given = last_given oh front last (subst (λ (l : List LogEntry). AreGiven oh l) is all) in
    given.room head end called.is_hook (sym left.same ∙ called.left) lacks refuses

-- so no batch whose heads may pass is stopped for one
pub unstopped : (oh stand : Bool) (e : Error) (batch : List HttpTask) (es : List LogEntry)
    → AreNeutral es → AllByRecursion (TaskMayPass oh) batch → BatchStops oh stand batch es
    → Refuses oh e es → ⊥
unstopped oh stand e batch es n all stops refuses =
    still_goes oh e es n (stop_gets oh stand batch es all stops) refuses
