-- The filters of one task: their calls, one behind the other, and what the task goes on as.
use Rattle.std.proofs.Common.{◌≡◌, ℕ, Bool, true, false, if◌then◌else◌, List, [], ◌∷◌, ◌++◌, Option, Some, None, Result, Ok, Err, OnOk, IfErr, codes, refl, sym, ap, subst, ◌∙◌, append-nil, IsSome}
use Rattle.http_header.specs.HeaderMap.{RefusesInsert}
use Rattle.relay_tasks.specs.Head.{ResponseHead, Fields}
use Rattle.relay_tasks.specs.declared.context.Context.TheVariants.{Mismatch101, HeadTooLong}
use Rattle.relay_tasks.specs.declared.error.Error.{Error}
use Rattle.relay_tasks.specs.declared.error.ErrorSource.TheVariants.{Upstream, Internal}
use Rattle.relay_tasks.specs.declared.error.Fail.{Fail}
use Rattle.relay_tasks.specs.declared.error.Fail.TheVariants as fail
use Rattle.relay_tasks.specs.declared.hook.Hook.TheVariants as hook
use Rattle.relay_tasks.specs.declared.log.Item.TheVariants as item
use Rattle.relay_tasks.specs.declared.log.LogEntry.{LogEntry}
use Rattle.relay_tasks.specs.Error.{IsMemoryOr, refused}
use Rattle.relay_h1.specs.ClientHead.{lacks_framing}
use Rattle.relay_h1.specs.Verdict.{refused_from}
use Rattle.relay_session.specs.Reading.{head_of}
use Rattle.relay_modules.specs.Module.{ModuleCall}
use Rattle.relay_modules.specs.declared.seen.Seen.{Seen}
use Rattle.relay_hooks.specs.Call.{changed, delayed, only}
use Rattle.relay_hooks.specs.Standing.{Standing}
use Rattle.relay_calls.specs.Calls.{Calls, Enters}
use Rattle.relay_calls.specs.Log.{IsAllowed}
use Rattle.relay_sides.specs.Filtered.{inside}
use Rattle.relay_filters.specs.Chain.{BodyChain, BodyFeeds, Gave, HeadChain, HeadFeeds, Refuses, TrailerChain, TrailerFeeds, UpstreamHead, by_check, by_room, framed, is_switch, method_of}
use Rattle.relay_filters.specs.Response.{Adds, Outcome}
use Rattle.relay_filters.proofs.OutcomeLemmas.{adds_at_least, adds_both, adds_call, app_entry, call_fails, delayed_fails, stops_behind}

-- ---- the check of a head

-- why a check refuses, and that one which passes does not
pub check_refuses : (b : Bool) (w : Error) (why : Fail)
    → ◌≡◌ {A = Result Unit Fail} (Err why) (if b then Err (fail.Error w) else Ok tt)
    → (b ≡ true) × (why ≡ fail.Error w)
check_refuses true w why is = (refl, why_is is)
  where
    why_is : ◌≡◌ {A = Result Unit Fail} (Err why) (Err (fail.Error w)) → why ≡ fail.Error w
    why_is is = cc
check_refuses false w why is = cc

pub check_passes : (b : Bool) (w : Error)
    → ◌≡◌ {A = Result Unit Fail} (Ok tt) (if b then Err (fail.Error w) else Ok tt) → b ≡ false
check_passes true w is = cc
check_passes false w is = refl

-- ---- the framing

-- why a head is not framed, as one of the relay's own refusals
pub frame_causes : (why : Fail) → IsMemoryOr (refused HeadTooLong) why
    → IsMemoryOr (refused_from Internal HeadTooLong) (inside why)
frame_causes fail.OutOfMemory is = tt
frame_causes (fail.Error given) is = ap (λ (e : Error). record e { esource = Internal }) is

-- that it is not for want of memory says that there was no room
pub frame_full : {R : Type 0} (why : Fail) → IsMemoryOr (refused HeadTooLong) why
    → (◌≡◌ {A = Result Unit Fail} (Err why) (Err (fail.Error (refused HeadTooLong))) → R)
    → (e : Error) → inside why ≡ fail.Error e → R
frame_full fail.OutOfMemory is full e told = cc
frame_full (fail.Error given) is full e told =
    full (ap (λ (x : Error). Err (fail.Error x)) is)

-- ---- the filter of the upstream

module _ (app : Standing → LogEntry → Type 0) (modules : ModuleCall → Type 0) (oh : Bool)
    (head first : ResponseHead) (end : Bool) (old : Seen) (mark : ℕ) (new : Seen) (mark' : ℕ)
    (is : IsSome (head_of old.downstream.reading))
    (call : Calls app hook.UpstreamResponseFilter (item.Response head end) old mark new mark'
    (only (item.Response first end))) where
  -- its entry
  abbrev u : LogEntry
  u = app_entry app modules hook.UpstreamResponseFilter (item.Response head end) old mark new mark'
      (only (item.Response first end)) refl is call

  adds_u : Adds (IsAllowed app modules) old mark new mark' (u ∷ [])
  adds_u = adds_call app modules hook.UpstreamResponseFilter (item.Response head end) old mark new
      mark' (only (item.Response first end)) refl is call

  -- it left a head that switches protocols
  pub upstream_switches : {Y : Type 0} (chain : List LogEntry → Y → Type 0) (w : Error)
      (why : Fail) → w ≡ refused_from Upstream Mismatch101
      → ◌≡◌ {A = Result Unit Fail} (Err why)
      (if is_switch first then Err (fail.Error w) else Ok tt)
      → Outcome (IsAllowed app modules) chain (HeadFeeds oh head end) (Refuses oh) (Err why) old
      mark new mark'
  upstream_switches {Y} chain w why from refused =
      let r = check_refuses (is_switch first) w why refused in
      subst (λ (f : Fail). Outcome {Y = Y} (IsAllowed app modules) chain (HeadFeeds oh head end)
      (Refuses oh) (Err f) old mark new mark') (sym r.1) (
        u ∷ [],
        adds_u,
        record { is_hook = refl; was = refl },
        by_check [] u refl refl
            (ap (λ (b : Bool). if b then Some (refused_from Upstream Mismatch101) else None) r.0
            ∙ ap Some (sym from)),
      )

  -- it passed, and was framed or not
  pub upstream_frames : (w : Error) (left : ResponseHead) (r : Result Unit Fail)
      → ◌≡◌ {A = Result Unit Fail} (Ok tt) (if is_switch first then Err (fail.Error w) else Ok tt)
      → OnOk r (left ≡ framed oh end first)
      → IfErr r (IsMemoryOr (refused_from Internal HeadTooLong))
      → IfErr r (λ why. lacks_framing (method_of oh) end first ≡ true)
      → IfErr r (λ why. (e : Error) → why ≡ fail.Error e
      → RefusesInsert first.fields (codes "transfer-encoding"))
      → Outcome (IsAllowed app modules) (λ es done. UpstreamHead oh head end es left)
      (HeadFeeds oh head end) (Refuses oh) r old mark new mark'
  upstream_frames w left (Ok done) passes ok causes lacks full = (
    u ∷ [],
    adds_u,
    record {
      first = first;
      u = u;
      calls = refl;
      upstream = record { is_hook = refl; was = refl; left = refl; ok = refl };
      first_passes = check_passes (is_switch first) w passes;
      is_framed = ok;
    },
  )
  upstream_frames w left (Err (fail.Error e)) passes ok causes lacks full = (
    u ∷ [],
    adds_u,
    record { is_hook = refl; was = refl },
    by_room [] u first end refl
        (record { is_hook = refl; was = refl; left = refl; ok = refl }) lacks (full e refl) causes,
  )
  upstream_frames w left (Err fail.OutOfMemory) passes ok causes lacks full = (
    u ∷ [],
    adds_at_least _ old mark new mark' (u ∷ []) adds_u,
    record { is_hook = refl; was = refl },
  )

-- ---- the filter of the response

-- a head that passed the filter of the upstream was given to it
upstream_feeds : (oh : Bool) (head left : ResponseHead) (end : Bool) (es : List LogEntry)
    → UpstreamHead oh head end es left → HeadFeeds oh head end (es ++ [])
upstream_feeds oh head left end es h =
    subst (λ (l : List LogEntry). HeadFeeds oh head end l) (sym (append-nil es ∙ h.calls))
    (record { is_hook = h.upstream.is_hook; was = h.upstream.was })

-- and so to that of the response
response_feeds : (oh : Bool) (head left : ResponseHead) (end : Bool) (es : List LogEntry)
    (r : LogEntry) → UpstreamHead oh head end es left
    → Gave hook.ResponseFilter (item.Response left end) r → HeadFeeds oh head end (es ++ r ∷ [])
response_feeds oh head left end es r h gave =
    subst (λ (l : List LogEntry). HeadFeeds oh head end (l ++ r ∷ [])) (sym h.calls) (
      h.first,
      h.upstream,
      h.first_passes,
      record {
        is_hook = gave.is_hook;
        was = gave.was ∙ ap (λ (x : ResponseHead). item.Response x end) h.is_framed;
      },
    )

module _ (app : Standing → LogEntry → Type 0) (modules : ModuleCall → Type 0) (oh : Bool)
    (head mid last : ResponseHead) (end : Bool) (old : Seen) (m : ℕ) (seen : Seen) (m1 : ℕ)
    (new : Seen) (m2 : ℕ)
    (before : Outcome {Y = Unit} (IsAllowed app modules)
    (λ es done. UpstreamHead oh head end es mid) (HeadFeeds oh head end) (Refuses oh) (Ok tt) old m
    seen m1) where
  -- it answered an error, or wanted memory
  pub response_fails : {Y : Type 0} (chain : List LogEntry → Y → Type 0) (why : Fail)
      → Enters (changed {T = Unit} (item.Response last end) (Err why))
      (Calls app hook.ResponseFilter (item.Response mid end) seen m1 new m2) seen new
      → Outcome (IsAllowed app modules) chain (HeadFeeds oh head end) (Refuses oh) (Err why) old m
      new m2
  response_fails {Y} chain why call =
      let es = before.0 in
      stops_behind {X = Y} {Y = Y} (IsAllowed app modules) chain chain
      (λ fs. HeadFeeds oh head end (es ++ fs)) (HeadFeeds oh head end) oh why es old m seen m1 new
      m2 before.1 (λ fs fed. fed)
      (call_fails Unit app modules hook.ResponseFilter (item.Response mid end)
      (item.Response last end)
      seen m1 new m2 chain (λ fs. HeadFeeds oh head end (es ++ fs)) oh why refl before.1.head
      (upstream_feeds oh head mid end es before.2)
      (λ e gave. response_feeds oh head mid end es e before.2 gave) call)

-- it was checked
module _ (app : Standing → LogEntry → Type 0) (modules : ModuleCall → Type 0) (oh : Bool)
    (head mid last : ResponseHead) (end : Bool) (old : Seen) (m : ℕ) (seen : Seen) (m1 : ℕ)
    (new : Seen) (m2 : ℕ) (w : Error) (from : w ≡ refused_from Internal Mismatch101)
    (before : Outcome {Y = Unit} (IsAllowed app modules)
    (λ es done. UpstreamHead oh head end es mid) (HeadFeeds oh head end) (Refuses oh) (Ok tt) old m
    seen m1)
    (call : Calls app hook.ResponseFilter (item.Response mid end) seen m1 new m2
    (only (item.Response last end))) where
  abbrev checked_entry : LogEntry
  checked_entry = app_entry app modules hook.ResponseFilter (item.Response mid end) seen m1 new m2
      (only (item.Response last end)) refl before.1.head call

  adds_checked : Adds (IsAllowed app modules) old m new m2 (before.0 ++ checked_entry ∷ [])
  adds_checked = adds_both _ old m seen m1 new m2 before.0 (checked_entry ∷ []) before.1
      (adds_call app modules hook.ResponseFilter (item.Response mid end) seen m1 new m2
      (only (item.Response last end)) refl before.1.head call)

  checks_by : (b : Bool) (r : Result Unit Fail) → is_switch last ≡ b
      → r ≡ (if b then Err (fail.Error w) else Ok tt)
      → Outcome (IsAllowed app modules) (λ es done. HeadChain oh head end es last)
      (HeadFeeds oh head end) (Refuses oh) r old m new m2
  checks_by true r at is =
      subst (λ (x : Result Unit Fail). Outcome (IsAllowed app modules)
      (λ es done. HeadChain oh head end es last) (HeadFeeds oh head end) (Refuses oh) x old m
      new m2) (sym is) (
        before.0 ++ checked_entry ∷ [],
        adds_checked,
        response_feeds oh head mid end before.0 checked_entry before.2
            (record { is_hook = refl; was = refl }),
        by_check before.0 checked_entry refl refl
            (ap (λ (b : Bool). if b then Some (refused_from Internal Mismatch101) else None) at
            ∙ ap Some (sym from)),
      )
  checks_by false r at is =
      subst (λ (x : Result Unit Fail). Outcome (IsAllowed app modules)
      (λ es done. HeadChain oh head end es last) (HeadFeeds oh head end) (Refuses oh) x old m
      new m2) (sym is) (
        before.0 ++ checked_entry ∷ [],
        adds_checked,
        record {
          first = before.2.first;
          u = before.2.u;
          r = checked_entry;
          calls = ap (λ (l : List LogEntry). l ++ checked_entry ∷ []) before.2.calls;
          upstream = before.2.upstream;
          first_passes = before.2.first_passes;
          response = record {
            is_hook = refl;
            was = ap (λ (x : ResponseHead). item.Response x end) before.2.is_framed;
            left = refl;
            ok = refl;
          };
          last_passes = at;
        },
      )

  pub response_checks : (r : Result Unit Fail)
      → r ≡ (if is_switch last then Err (fail.Error w) else Ok tt)
      → Outcome (IsAllowed app modules) (λ es done. HeadChain oh head end es last)
      (HeadFeeds oh head end) (Refuses oh) r old m new m2
  response_checks r is = checks_by (is_switch last) r refl is

-- ---- a piece

module _ (app : Standing → LogEntry → Type 0) (modules : ModuleCall → Type 0) (oh : Bool)
    (bytes mid last : Option (List ℕ)) (end : Bool) (delay : Option ℕ) (old : Seen) (m : ℕ)
    (seen : Seen) (m1 : ℕ) (new : Seen) (m2 : ℕ) (is : IsSome (head_of old.downstream.reading))
    (first : Calls app hook.UpstreamResponseBodyFilter (item.Piece bytes end) old m seen m1
    (record { output = item.Piece mid end; error = None; delay = delay })) where
  -- the entry of the first call
  abbrev body_u : LogEntry
  body_u = app_entry app modules hook.UpstreamResponseBodyFilter (item.Piece bytes end) old m seen
      m1
      (record { output = item.Piece mid end; error = None; delay = delay }) refl is first

  adds_body_u : Adds (IsAllowed app modules) old m seen m1 (body_u ∷ [])
  adds_body_u = adds_call app modules hook.UpstreamResponseBodyFilter (item.Piece bytes end) old m
      seen m1 (record { output = item.Piece mid end; error = None; delay = delay }) refl is first

  -- the second answered an error, or wanted memory
  pub body_fails : {Y : Type 0} (chain : List LogEntry → Y → Type 0) (why : Fail)
      → Enters (delayed (item.Piece last end) (Err why))
      (Calls app hook.ResponseBodyFilter (item.Piece mid end) seen m1 new m2) seen new
      → Outcome (IsAllowed app modules) chain (BodyFeeds bytes end) (Refuses oh) (Err why) old m
      new m2
  body_fails {Y} chain why call =
      stops_behind {X = Y} {Y = Y} (IsAllowed app modules) chain chain
      (λ fs. BodyFeeds bytes end (body_u ∷ fs)) (BodyFeeds bytes end) oh why (body_u ∷ []) old m
      seen m1 new m2 adds_body_u (λ fs fed. fed)
      (delayed_fails app modules hook.ResponseBodyFilter (item.Piece mid end)
      (item.Piece last end) seen m1 new m2 chain (λ fs. BodyFeeds bytes end (body_u ∷ fs)) oh why
      refl adds_body_u.head (record { is_hook = refl; was = refl })
      (λ e gave. (mid, record { is_hook = refl; was = refl; left = refl; ok = refl }, gave)) call)

  -- both passed it
  pub body_passes : (delay' : Option ℕ)
      → Calls app hook.ResponseBodyFilter (item.Piece mid end) seen m1 new m2
      (record { output = item.Piece last end; error = None; delay = delay' })
      → Outcome {Y = Unit} (IsAllowed app modules) (λ es done. BodyChain bytes end es last)
      (BodyFeeds bytes end) (Refuses oh) (Ok tt) old m new m2
  body_passes delay' call = (
    body_u ∷ app_entry app modules hook.ResponseBodyFilter (item.Piece mid end) seen m1 new m2
        (record { output = item.Piece last end; error = None; delay = delay' }) refl
        adds_body_u.head call ∷ [],
    adds_both _ old m seen m1 new m2 (body_u ∷ []) _ adds_body_u
        (adds_call app modules hook.ResponseBodyFilter (item.Piece mid end) seen m1 new m2
        (record { output = item.Piece last end; error = None; delay = delay' }) refl
        adds_body_u.head call),
    record {
      mid = mid;
      u = body_u;
      r = _;
      calls = refl;
      upstream = record { is_hook = refl; was = refl; left = refl; ok = refl };
      response = record { is_hook = refl; was = refl; left = refl; ok = refl };
    },
  )

-- ---- trailer fields

pub fields_pass : (app : Standing → LogEntry → Type 0) (modules : ModuleCall → Type 0) (oh : Bool)
    (fields last : Fields) (r : Result Unit Fail) (old : Seen) (m : ℕ) (new : Seen) (m1 : ℕ)
    → IsSome (head_of old.downstream.reading)
    → Enters (changed (item.Trailers (Some last)) r)
    (Calls app hook.UpstreamResponseTrailerFilter (item.Trailers (Some fields)) old m new m1) old
    new
    → Outcome (IsAllowed app modules) (λ es done. TrailerChain fields es last)
    (TrailerFeeds fields) (Refuses oh) r old m new m1
fields_pass app modules oh fields last (Ok done) old m new m1 is call = (
  app_entry app modules hook.UpstreamResponseTrailerFilter (item.Trailers (Some fields)) old m new
      m1 _ refl is call ∷ [],
  adds_call app modules hook.UpstreamResponseTrailerFilter (item.Trailers (Some fields)) old m new
      m1 _ refl is call,
  record {
    u = _;
    calls = refl;
    upstream = record { is_hook = refl; was = refl; left = refl; ok = refl };
  },
)
fields_pass app modules oh fields last (Err why) old m new m1 is call =
    call_fails Unit {Y = Unit} app modules hook.UpstreamResponseTrailerFilter
    (item.Trailers (Some fields))
    (item.Trailers (Some last)) old m new m1 (λ es done. TrailerChain fields es last)
    (TrailerFeeds fields) oh why refl is tt (λ e gave. gave) call
