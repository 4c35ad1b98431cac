-- The calls of the end of a request: where they stand behind a turn that calls none, and behind
-- one.
--
--   unended_unlogged            before the end `logging` was not called
--   views_shown .. ends_failed  the session changed, of which hooks are shown the same
--   owing_logged .. come_logged the log is in order
--   owing_on                    what a request owes its client was written, or waits
--   answered_owing              its error was answered
--   turned_calls                a turn of its exchange
--   going_calls .. finished_come
--                               it goes on, failed, or finished
use Rattle.std.specs.Global.{Box}
use Rattle.std.proofs.Common.{◌≡◌, ℕ, Bool, true, false, not, ◌&&◌, ◌||◌, List, [], ◌∷◌, ◌++◌, drop, length, arith, Option, None, Some, refl, sym, ap, subst, ◌∙◌, true≢false, inl, inr}
use Rattle.std.specs.Prelude.{unwrap_or}
use Rattle.std.proofs.lemmas.List.Folds.{list_any-append}
use Rattle.std.specs.List.{list_any}
use Rattle.std.proofs.lemmas.List.{drop_at}
use Rattle.relay_tasks.specs.Head.{new_request}
use Rattle.relay_tasks.specs.Hooks.{same_hook}
use Rattle.relay_tasks.specs.declared.Error.{Error}
use Rattle.relay_tasks.specs.declared.ErrorSource.TheVariants.{Downstream}
use Rattle.relay_tasks.specs.declared.error.Fail.{Fail as Why}
use Rattle.relay_tasks.specs.declared.error.Fail.TheVariants as fail
use Rattle.relay_tasks.specs.declared.Fault.{Fault}
use Rattle.relay_tasks.specs.declared.hook.Hook.{Hook}
use Rattle.relay_tasks.specs.declared.hook.Hook.TheVariants as hook
use Rattle.relay_tasks.specs.declared.log.Item.{Item}
use Rattle.relay_tasks.specs.declared.log.LogEntry.{LogEntry}
use Rattle.relay_session.specs.Reading.{head_of, is_truncated}
use Rattle.relay_session.specs.Response.{has_head}
use Rattle.relay_session.specs.declared.reading.Reading.{Reading}
use Rattle.relay_session.specs.declared.session.HttpSession.{HttpSession}
use Rattle.relay_modules.specs.declared.seen.Seen.{Seen}
use Rattle.relay_hooks.specs.Session.{moment}
use Rattle.relay_hooks.specs.Standing.{Standing, standing}
use Rattle.relay_calls.specs.Log.{Views, Walk}
use Rattle.relay_calls.proofs.LogLemmas.{Walk-append}
use Rattle.relay_phases.specs.Order.{Accepts, Station}
use Rattle.relay_phases.specs.Order.{Station as station}
use Rattle.relay_phases.proofs.OrderLemmas.{Accepts-one}
use Rattle.relay_closing.specs.Closes.{logged_in}
use Rattle.relay_closing.specs.Place.{may_finish, station_of as closing_at}
use Rattle.relay_closing.specs.declared.place.Cause.TheVariants as cause
use Rattle.relay_closing.specs.declared.place.End.{End}
use Rattle.relay_closing.specs.declared.place.Place.{Place}
use Rattle.relay_closing.specs.declared.place.Place.TheVariants as closing
use Rattle.relay_closing.specs.declared.place.Stage.{Stage}
use Rattle.relay_closing.specs.declared.place.Stage.TheVariants as stage
use Rattle.relay_trying.specs.Trying.{may_break}
use Rattle.relay_core.proofs.BoolLemmas.{decide}
use Rattle.relay_filters.specs.Hooked.{Walks, is_lost as lost_by}
use Rattle.relay_filters.specs.Segments.{InSegments}
use Rattle.relay_hooked.specs.Calls.{calls_behind}
use Rattle.relay_hooked.specs.Stations.{Lands, MayFail, Relays}
use Rattle.relay_hooked.proofs.StationLemmas.{come_in_order}
use Rattle.relay_request.specs.Calls.{CallsSoFar, BreaksAt, BreaksOff, EntersCalls, CameIn, CountsCalls, EndsBy, HasAnswered, HasClosed, HasCome, HasFinished, IsBreaking, IsLackingCalls, IsLogged, IsOpening, IsOwing, IsRelayingCalls, IsUnended, KeepsValue, Owing, OwesIn, ShowsSame, StandsAt, StandsBy, closed_with, ended_with, log_of, seen_with, station_at, treated_at}
use Rattle.relay_request.specs.ClosingHooks.{failed_with, stays_alive}
use Rattle.relay_request.specs.Endings.{error_of}
use Rattle.relay_request.specs.Leaving.{WritesAhead}
use Rattle.relay_request.specs.Owed.{outcome_failed, outcome_written}
use Rattle.relay_request.specs.Passed.{begins_end}
use Rattle.relay_request.specs.declared.calls.At.{At}
use Rattle.relay_request.specs.declared.calls.At.TheVariants as at
use Rattle.relay_request.specs.declared.calls.Calls.{Calls}
use Rattle.relay_request.specs.declared.machine.Attempt.{Attempt}
use Rattle.relay_request.specs.declared.machine.Lease.{Lease}
use Rattle.relay_request.specs.declared.machine.Phase.{Phase}
use Rattle.relay_request.specs.declared.machine.Phase.TheVariants.{ReadHead, Connect, Unlinked, Prepare, Relay, Broken, Again, Fail, Close, Answer, Ended}
use Rattle.relay_request.specs.declared.outcome.Outcome.{Outcome}
use Rattle.relay_request.specs.declared.outcome.Outcome.TheVariants as outcome
use Rattle.relay_request.specs.declared.owed.Owed.{Owed}
use Rattle.relay_request.specs.declared.owed.Owed.TheVariants as owing
use Rattle.relay_request.specs.declared.record.AttemptRecord.{AttemptRecord}
use Rattle.relay_request.specs.declared.work.Work.{Work}
use Rattle.relay_request.specs.Turn.{is_over}
use Rattle.relay_request.specs.Tries.{fault_error, tries_in}
use Rattle.relay_request.proofs.CallLemmas.{never_again, never_viewed, none_logged, opening_logged, walk_further}
use Rattle.relay_request.proofs.FilterLemmas.{order_past, unended_past, walks_past}

-- ---- what `logging` was told

-- a call with which the end does not begin is none of `logging`
not_logging : (e : LogEntry) → begins_end e.hook ≡ false → same_hook hook.Logging e.hook ≡ false
not_logging e none = by (same_hook hook.FailToProxy e.hook) (same_hook hook.Logging e.hook) refl
    none
  where
    by : (a b : Bool) → same_hook hook.Logging e.hook ≡ b → (a || b) ≡ false
        → same_hook hook.Logging e.hook ≡ false
    by true b is or = absurd (true≢false or)
    by false b is or = is ∙ or

-- before the end it was not called
pub unended_unlogged : (log : List LogEntry) → IsUnended log → logged_in log ≡ []
unended_unlogged [] none = refl
unended_unlogged (e ∷ es) none = by (begins_end e.hook) refl none (unended_unlogged es)
  where
    by : (b : Bool) → begins_end e.hook ≡ b
        → (b || list_any (λ (x : LogEntry). begins_end x.hook) es) ≡ false
        → (IsUnended es → logged_in es ≡ []) → logged_in (e ∷ es) ≡ []
    by true is or rest = absurd (true≢false or)
    by false is or rest = rw (not_logging e is) (rest or)

-- nor by a call that is none of it
pub logged_append : (log : List LogEntry) (e : LogEntry) → same_hook hook.Logging e.hook ≡ false
    → logged_in (log ++ e ∷ []) ≡ logged_in log
logged_append [] e none = rw none refl
logged_append (x ∷ xs) e none = by (same_hook hook.Logging x.hook) refl (logged_append xs e none)
  where
    by : (b : Bool) → same_hook hook.Logging x.hook ≡ b
        → logged_in (xs ++ e ∷ []) ≡ logged_in xs
        → logged_in (x ∷ (xs ++ e ∷ [])) ≡ logged_in (x ∷ xs)
    by true is rest = rw is (ap (λ (told : List Item). x.input ∷ told) rest)
    by false is rest = rw is rest

-- where it was not called, it left no flag off
pub unlogged_alive : (log : List LogEntry) → logged_in log ≡ [] → stays_alive log ≡ true
unlogged_alive [] none = refl
unlogged_alive (e ∷ es) none =
    by (same_hook hook.Logging e.hook) refl none (unlogged_alive es)
  where
    by : (b : Bool) → same_hook hook.Logging e.hook ≡ b → logged_in (e ∷ es) ≡ []
        → (logged_in es ≡ [] → stays_alive es ≡ true) → stays_alive (e ∷ es) ≡ true
    by true is none rest = let some : e.input ∷ logged_in es ≡ [] = rw is at none in cc
    by false is none rest = rw is (rest (rw is at none))

-- the flags that it left behind one call more
alive_append : (log : List LogEntry) (e : LogEntry)
    → stays_alive (log ++ e ∷ [])
    ≡ not (not (stays_alive log) || ((same_hook hook.Logging e.hook && not e.keepalive) || false))
alive_append log e =
    ap (λ (b : Bool). not b)
    (list_any-append (λ (x : LogEntry). same_hook hook.Logging x.hook && not x.keepalive) log
    (e ∷ []))
    ∙ ap (λ (b : Bool). not (b || ((same_hook hook.Logging e.hook && not e.keepalive) || false)))
    (sym (twice
    (list_any (λ (x : LogEntry). same_hook hook.Logging x.hook && not x.keepalive) log)))
  where
    twice : (b : Bool) → not (not b) ≡ b
    twice true = refl
    twice false = refl

-- one that leaves none off leaves them as they were
pub alive_more : (log : List LogEntry) (e : LogEntry)
    → (same_hook hook.Logging e.hook && not e.keepalive) ≡ false
    → stays_alive log ≡ true → stays_alive (log ++ e ∷ []) ≡ true
alive_more log e quiet alive = alive_append log e ∙ rw (alive, quiet) refl

-- and one that leaves it off does that for all
pub alive_less : (log : List LogEntry) (e : LogEntry)
    → (same_hook hook.Logging e.hook && not e.keepalive) ≡ true
    → stays_alive (log ++ e ∷ []) ≡ false
alive_less log e off =
    alive_append log e
    ∙ ap (λ (b : Bool). not (not (stays_alive log) || (b || false))) off
    ∙ none (not (stays_alive log))
  where
    none : (b : Bool) → not (b || true) ≡ false
    none true = refl
    none false = refl

-- a call with which the end begins is one behind the others
pub begins_behind : (log : List LogEntry) (e : LogEntry) → begins_end e.hook ≡ true
    → list_any (λ (x : LogEntry). begins_end x.hook) (log ++ e ∷ []) ≡ true
begins_behind [] e is = rw is refl
begins_behind (x ∷ xs) e is = by (begins_end x.hook) refl (begins_behind xs e is)
  where
    by : (b : Bool) → begins_end x.hook ≡ b
        → list_any (λ (y : LogEntry). begins_end y.hook) (xs ++ e ∷ []) ≡ true
        → list_any (λ (y : LogEntry). begins_end y.hook) (x ∷ (xs ++ e ∷ [])) ≡ true
    by true first rest = rw first refl
    by false first rest = rw first rest

-- ---- a session of which hooks are shown the same

module _ {M K X : Type 0} where
  views_shown : (calls : Calls M K X) (mark : ℕ) (client left : HttpSession)
      → ShowsSame left client
      → Views (standing None false (moment (seen_with calls client) mark))
      (standing None false (moment (seen_with calls left) mark))
  views_shown calls mark client left same = record {
    mark = refl;
    head = ap (λ (r : Reading). unwrap_or (head_of r) (new_request [] [])) same.0;
    keepalive = refl;
    final_head = λ is. ap has_head same.1 ∙ is;
    upgraded = λ is. is;
  }

module _ {C M K : Type 0} (allows : Standing → LogEntry → Type 0) (mark_of : C → ℕ) where
  -- the log of a request whose end stands there is in order
  stands_logged : (calls : Calls M K C) (context : C) (client : HttpSession) (e : Option Error)
      (there : Place K) → StandsBy allows mark_of calls context client e there
      → (at : Station) × IsLogged allows (log_of calls) at
  stands_logged calls context client e (closing.At at) s = (
    _,
    record { from = s.from; to = _; walks = s.walks; order = s.order },
  )
  stands_logged calls context client e (closing.Ended how) s = (s.at, s.in_order)
  stands_logged calls context client e closing.Lost s = s

  ends_logged : (a : At K C) (calls : Calls M K C) (client : HttpSession) (e : Option Error)
      → EndsBy allows mark_of a calls client e → (at : Station) × IsLogged allows (log_of calls) at
  ends_logged (at.Kept kept) calls client e ends = absurd ends
  ends_logged (at.Opening there) calls client e ends = absurd ends
  ends_logged (at.Purging action) calls client e ends = absurd ends
  ends_logged (at.Named peer) calls client e ends = absurd ends
  ends_logged (at.Repeatable treated) calls client e ends = absurd ends
  ends_logged at.Warning calls client e ends = absurd ends
  ends_logged at.Linked calls client e ends = absurd ends
  ends_logged (at.Treated error) calls client e ends = absurd ends
  ends_logged (at.Closing held there) calls client e ends =
      stands_logged calls held client e there ends

  -- a stage of the end, where the log is the same and hooks are shown the same
  stands_shown : (calls now : Calls M K C) (context : C) (client left : HttpSession)
      (e : Option Error) (here : Stage) → seen_with now left ≡ seen_with calls left
      → ShowsSame left client → StandsAt allows mark_of calls context client e here
      → StandsAt allows mark_of now context left e here
  stands_shown calls now context client left e here shown same s =
      let log : log_of now ≡ log_of calls = ap (λ (k : Seen). k.log) shown in
      record {
        from = s.from;
        walks = subst (λ (k : Seen). Walk allows s.from k.log
            (standing None false (moment k (mark_of context)))) (sym shown)
            (walk_further allows (log_of calls) s.from
            (standing None false (moment (seen_with calls client) (mark_of context)))
            (standing None false (moment (seen_with calls left) (mark_of context))) s.walks
            (views_shown calls (mark_of context) client left same));
        start = s.start;
        begins = s.begins;
        order = subst (λ (l : List LogEntry). Accepts station.accepted l
            (closing_at s.start here)) (sym log) s.order;
        logged = ap logged_in log ∙ s.logged;
        alive = ap stays_alive log ∙ s.alive;
        begun = ap (λ (l : List LogEntry). list_any (λ (x : LogEntry). begins_end x.hook) l) log
            ∙ s.begun;
        error_is = s.error_is;
      }

  -- the hooks of the end were called, where the log is the same
  closed_shown : (calls now : Calls M K C) (e : Option Error) (how : End K)
      → log_of now ≡ log_of calls → HasClosed allows mark_of calls e how
      → HasClosed allows mark_of now e how
  closed_shown calls now e how log s = record {
    at = s.at;
    in_order = subst (λ (l : List LogEntry). IsLogged allows l s.at) (sym log) s.in_order;
    logged = ap logged_in log ∙ s.logged;
    begun = ap (λ (l : List LogEntry). list_any (λ (x : LogEntry). begins_end x.hook) l) log
        ∙ s.begun;
    keeps = λ some. subst (λ (l : List LogEntry). KeepsValue l) (sym log) (s.keeps some);
    alive = ap stays_alive log ∙ s.alive;
  }

  -- the end stands where it stood once its own error was told
  by_own_error : (calls now : Calls M K C) (context : C) (client left : HttpSession)
      (e : Option Error) (there : Place K) → seen_with now left ≡ seen_with calls left
      → ShowsSame left client → StandsBy allows mark_of calls context client e there
      → StandsBy allows mark_of now context left e (failed_with there e)
  by_own_error calls now context client left None (closing.At here) shown same s =
      stands_shown calls now context client left None here shown same s
  by_own_error calls now context client left (Some e) (closing.At (stage.Failing x)) shown same s =
      stands_shown calls now context client left (Some e) (stage.Failing x) shown same s
  by_own_error calls now context client left (Some e) (closing.At (stage.Told told)) shown same s =
      stands_shown calls now context client left (Some e) (stage.Told told) shown same s
  by_own_error calls now context client left (Some e) (closing.At (stage.Reporting told)) shown same
      s =
      stands_shown calls now context client left (Some e) (stage.Reporting told) shown same s
  by_own_error calls now context client left (Some e) (closing.At (stage.Ending cause.Finished))
      shown same s =
      let none : ◌≡◌ {A = Option Error} None (Some e) = s.error_is in cc
  by_own_error calls now context client left (Some e)
      (closing.At (stage.Ending (cause.Hidden told)))
      shown same s =
      stands_shown calls now context client left (Some e) (stage.Ending (cause.Hidden told)) shown
      same s
  by_own_error calls now context client left (Some e)
      (closing.At (stage.Ending (cause.Reported told summary))) shown same s =
      stands_shown calls now context client left (Some e)
      (stage.Ending (cause.Reported told summary)) shown same s
  by_own_error calls now context client left (Some e) (closing.At (stage.Logged why)) shown same s =
      stands_shown calls now context client left (Some e) (stage.Logged why) shown same s
  by_own_error calls now context client left None (closing.Ended how) shown same s =
      closed_shown calls now None how (ap (λ (k : Seen). k.log) shown) s
  by_own_error calls now context client left (Some e) (closing.Ended how) shown same s =
      closed_shown calls now (Some e) how (ap (λ (k : Seen). k.log) shown) s
  by_own_error calls now context client left None closing.Lost shown same s =
      subst (λ (l : List LogEntry). (at : Station) × IsLogged allows l at)
      (sym (ap (λ (k : Seen). k.log) shown)) s
  by_own_error calls now context client left (Some e) closing.Lost shown same s =
      subst (λ (l : List LogEntry). (at : Station) × IsLogged allows l at)
      (sym (ap (λ (k : Seen). k.log) shown)) s

  ends_shown : (a : At K C) (calls now : Calls M K C) (client left : HttpSession)
      (e : Option Error) → seen_with now left ≡ seen_with calls left → ShowsSame left client
      → EndsBy allows mark_of a calls client e
      → EndsBy allows mark_of (ended_with a e) now left e
  ends_shown (at.Kept kept) calls now client left e shown same ends = absurd ends
  ends_shown (at.Opening there) calls now client left e shown same ends = absurd ends
  ends_shown (at.Purging action) calls now client left e shown same ends = absurd ends
  ends_shown (at.Named peer) calls now client left e shown same ends = absurd ends
  ends_shown (at.Repeatable treated) calls now client left e shown same ends = absurd ends
  ends_shown at.Warning calls now client left e shown same ends = absurd ends
  ends_shown at.Linked calls now client left e shown same ends = absurd ends
  ends_shown (at.Treated error) calls now client left e shown same ends = absurd ends
  ends_shown (at.Closing held there) calls now client left e shown same ends =
      by_own_error calls now held client left e there shown same ends

  -- and where it waits for its client still
  stands_waiting : (calls : Calls M K C) (context : C) (client left : HttpSession)
      (e : Option Error) (there : Place K) → ShowsSame left client
      → StandsBy allows mark_of calls context client e there
      → StandsBy allows mark_of calls context left e there
  stands_waiting calls context client left e (closing.At here) same s =
      stands_shown calls calls context client left e here refl same s
  stands_waiting calls context client left e (closing.Ended how) same s = s
  stands_waiting calls context client left e closing.Lost same s = s

  ends_waiting : (a : At K C) (calls : Calls M K C) (client left : HttpSession) (e : Option Error)
      → ShowsSame left client → EndsBy allows mark_of a calls client e
      → EndsBy allows mark_of a calls left e
  ends_waiting (at.Kept kept) calls client left e same ends = absurd ends
  ends_waiting (at.Opening there) calls client left e same ends = absurd ends
  ends_waiting (at.Purging action) calls client left e same ends = absurd ends
  ends_waiting (at.Named peer) calls client left e same ends = absurd ends
  ends_waiting (at.Repeatable treated) calls client left e same ends = absurd ends
  ends_waiting at.Warning calls client left e same ends = absurd ends
  ends_waiting at.Linked calls client left e same ends = absurd ends
  ends_waiting (at.Treated error) calls client left e same ends = absurd ends
  ends_waiting (at.Closing held there) calls client left e same ends =
      stands_waiting calls held client left e there same ends

  owing_waiting : (calls : Calls M K C) (client left : HttpSession) (owed : Owed)
      → ShowsSame left client → IsOwing allows mark_of calls client owed
      → IsOwing allows mark_of calls left owed
  owing_waiting calls client left (owing.Refused error) same o = o
  owing_waiting calls client left (owing.Ahead None) same o =
      (ends_waiting calls.at calls client left None same o.0, o.1)
  owing_waiting calls client left (owing.Ahead (Some e)) same o =
      ends_waiting calls.at calls client left (Some e) same o
  owing_waiting calls client left (owing.Served e) same o =
      ends_waiting calls.at calls client left (Some e) same o

  -- ---- a write failed of what hooks answered

  -- the error of that is final
  stands_failed : (calls now : Calls M K C) (context : C) (client left : HttpSession)
      (x : Error) (there : Place K) → seen_with now left ≡ seen_with calls left
      → ShowsSame left client
      → Accepts station.accepted (log_of calls) station.answered → IsUnended (log_of calls)
      → StandsBy allows mark_of calls context client None there
      → StandsBy allows mark_of now context left (Some x) (failed_with there (Some x))
  stands_failed calls now context client left x (closing.At (stage.Ending cause.Finished)) shown
      same order open_to s =
      let log : log_of now ≡ log_of calls = ap (λ (k : Seen). k.log) shown in
      let on = stands_shown calls now context client left None (stage.Ending cause.Finished) shown
      same s in
      record {
        from = on.from;
        walks = on.walks;
        start = station.answered;
        begins = refl;
        order = subst (λ (l : List LogEntry). Accepts station.accepted l station.answered) (sym log)
            order;
        logged = on.logged;
        alive = on.alive;
        begun = on.begun;
        error_is = refl;
      }
  stands_failed calls now context client left x (closing.At (stage.Failing e)) shown same order
      open_to s =
      let none : ◌≡◌ {A = Option Error} (Some e) None = s.error_is in cc
  stands_failed calls now context client left x (closing.At (stage.Told told)) shown same order
      open_to s = absurd (true≢false (sym s.begun ∙ open_to))
  stands_failed calls now context client left x (closing.At (stage.Reporting told)) shown same order
      open_to s = absurd (true≢false (sym s.begun ∙ open_to))
  stands_failed calls now context client left x (closing.At (stage.Ending (cause.Hidden told)))
      shown same order open_to s = absurd (true≢false (sym s.begun ∙ open_to))
  stands_failed calls now context client left x
      (closing.At (stage.Ending (cause.Reported told summary))) shown same order open_to s =
      absurd (true≢false (sym s.begun ∙ open_to))
  stands_failed calls now context client left x (closing.At (stage.Logged why)) shown same order
      open_to s = absurd (true≢false (sym s.begun ∙ open_to))
  stands_failed calls now context client left x (closing.Ended how) shown same order open_to s =
      absurd (true≢false (sym s.begun ∙ open_to))
  stands_failed calls now context client left x closing.Lost shown same order open_to s =
      subst (λ (l : List LogEntry). (at : Station) × IsLogged allows l at)
      (sym (ap (λ (k : Seen). k.log) shown)) s

  ends_failed : (a : At K C) (calls now : Calls M K C) (client left : HttpSession) (x : Error)
      → seen_with now left ≡ seen_with calls left → ShowsSame left client
      → Accepts station.accepted (log_of calls) station.answered → IsUnended (log_of calls)
      → EndsBy allows mark_of a calls client None
      → EndsBy allows mark_of (ended_with a (Some x)) now left (Some x)
  ends_failed (at.Kept kept) calls now client left x shown same order open_to ends = absurd ends
  ends_failed (at.Opening there) calls now client left x shown same order open_to ends = absurd ends
  ends_failed (at.Purging action) calls now client left x shown same order open_to ends =
      absurd ends
  ends_failed (at.Named peer) calls now client left x shown same order open_to ends = absurd ends
  ends_failed (at.Repeatable treated) calls now client left x shown same order open_to ends =
      absurd ends
  ends_failed at.Warning calls now client left x shown same order open_to ends = absurd ends
  ends_failed at.Linked calls now client left x shown same order open_to ends = absurd ends
  ends_failed (at.Treated error) calls now client left x shown same order open_to ends = absurd ends
  ends_failed (at.Closing held there) calls now client left x shown same order open_to ends =
      stands_failed calls now held client left x there shown same order open_to ends

  -- ---- what is owed

  pub owing_logged : (calls : Calls M K C) (client : HttpSession) (owed : Owed)
      → IsOwing allows mark_of calls client owed → (at : Station) × IsLogged allows (log_of calls)
      at
  owing_logged calls client (owing.Refused error) o = none_logged allows (log_of calls) o
  owing_logged calls client (owing.Ahead None) o = ends_logged calls.at calls client None o.0
  owing_logged calls client (owing.Ahead (Some e)) o = ends_logged calls.at calls client (Some e) o
  owing_logged calls client (owing.Served e) o = ends_logged calls.at calls client (Some e) o

  pub come_logged : (calls : Calls M K C) (came : Outcome) → HasCome allows mark_of calls came
      → (at : Station) × IsLogged allows (log_of calls) at
  come_logged calls outcome.NoRequest o = none_logged allows (log_of calls) o
  come_logged calls (outcome.Refused error) o = none_logged allows (log_of calls) o
  come_logged calls (outcome.Served error reuse) o =
      ends_logged calls.at calls calls.session.seen.downstream error o
  come_logged calls outcome.TurnLimit o = o
  come_logged calls outcome.OutOfMemory o = o

  -- what was owed was written, and the session has its client again
  come_written : (calls : Calls M K C) (client left : HttpSession) (owed : Owed) (again : Bool)
      → ShowsSame left client → IsOwing allows mark_of calls client owed
      → HasCome allows mark_of (closed_with calls left (error_of (outcome_written owed again)))
      (outcome_written owed again)
  come_written calls client left (owing.Refused error) again same o = o
  come_written calls client left (owing.Ahead None) again same o =
      ends_shown calls.at calls (closed_with calls left None) client left None refl same o.0
  come_written calls client left (owing.Ahead (Some e)) again same o =
      ends_shown calls.at calls (closed_with calls left (Some e)) client left (Some e) refl same o
  come_written calls client left (owing.Served e) again same o =
      ends_shown calls.at calls (closed_with calls left (Some e)) client left (Some e) refl same o

  -- or a write of it failed
  come_failed : (calls : Calls M K C) (client left : HttpSession) (owed : Owed) (fault : Fault)
      → ShowsSame left client → IsOwing allows mark_of calls client owed
      → HasCome allows mark_of (closed_with calls left (error_of (outcome_failed owed fault)))
      (outcome_failed owed fault)
  come_failed calls client left (owing.Refused error) fault same o = o
  come_failed calls client left (owing.Ahead None) fault same o =
      let e = fault_error Downstream fault in
      ends_failed calls.at calls (closed_with calls left (Some e)) client left e refl same o.1.0
      o.1.1
      o.0
  come_failed calls client left (owing.Ahead (Some e)) fault same o =
      ends_shown calls.at calls (closed_with calls left (Some e)) client left (Some e) refl same o
  come_failed calls client left (owing.Served e) fault same o =
      ends_shown calls.at calls (closed_with calls left (Some e)) client left (Some e) refl same o

module _ {L C M K : Type 0} (allows : Standing → LogEntry → Type 0) (mark_of : C → ℕ) where
  -- the calls of a request that came to that outcome in its phase
  in_outcome : (calls : Calls M K C) (next : Phase L C) (came : Outcome) → CameIn next came
      → HasCome allows mark_of calls came → CallsSoFar allows mark_of calls next
  in_outcome calls ReadHead came is come = absurd is
  in_outcome calls (Connect context session tries) came is come = absurd is
  in_outcome calls (Unlinked context session attempts error) came is come = absurd is
  in_outcome calls (Prepare context session link lease) came is come = absurd is
  in_outcome calls (Relay a) came is come = absurd is
  in_outcome calls (Broken context session link lease keep error) came is come = absurd is
  in_outcome calls (Again context session link lease keep error) came is come = absurd is
  in_outcome calls (Fail link lease keep session error) came is come = absurd is
  in_outcome calls (Close link lease keep outcome) came is come =
      subst (λ (o : Outcome). HasCome allows mark_of calls o) (sym is) come
  in_outcome calls (Answer session owed attempts) came is come = absurd is
  in_outcome calls (Ended outcome attempts) came is come =
      subst (λ (o : Outcome). HasCome allows mark_of calls o) (sym is) come

  -- and of one that owes its client that still
  in_owing : (calls : Calls M K C) (next : Phase L C) (session : Box HttpSession) (owed : Owed)
      → OwesIn next session owed → IsOwing allows mark_of calls session.value owed
      → CallsSoFar allows mark_of calls next
  in_owing calls ReadHead session owed is o = absurd is
  in_owing calls (Connect context other tries) session owed is o = absurd is
  in_owing calls (Unlinked context other attempts error) session owed is o = absurd is
  in_owing calls (Prepare context other link lease) session owed is o = absurd is
  in_owing calls (Relay a) session owed is o = absurd is
  in_owing calls (Broken context other link lease keep error) session owed is o = absurd is
  in_owing calls (Again context other link lease keep error) session owed is o = absurd is
  in_owing calls (Fail link lease keep other error) session owed is o =
      subst (λ (b : Box HttpSession). IsOwing allows mark_of calls b.value (owing.Served error))
      (sym is.0)
      (subst (λ (k : Owed). IsOwing allows mark_of calls session.value k) is.1 o)
  in_owing calls (Close link lease keep outcome) session owed is o = absurd is
  in_owing calls (Answer other owes attempts) session owed is o =
      subst (λ (b : Box HttpSession). IsOwing allows mark_of calls b.value owes) (sym is.0)
      (subst (λ (k : Owed). IsOwing allows mark_of calls session.value k) (sym is.1) o)
  in_owing calls (Ended outcome attempts) session owed is o = absurd is

  -- what a request comes to that owes its client something
  pub owing_on : (old new : Calls M K C) (client : HttpSession) (owed : Owed) (next : Phase L C)
      → Owing client owed old new next → IsOwing allows mark_of old client owed
      → CallsSoFar allows mark_of new next
  owing_on old new client owed next (Owing.waits session is same stays) o =
      subst (λ (c : Calls M K C). CallsSoFar allows mark_of c next) (sym stays)
      (in_owing old next session owed is
      (owing_waiting allows mark_of old client session.value owed same o))
  owing_on old new client owed next (Owing.written left again came is comes same stays) o =
      subst (λ (c : Calls M K C). CallsSoFar allows mark_of c next) (sym stays)
      (in_outcome (closed_with old left (error_of came)) next came is
      (subst (λ (k : Outcome). HasCome allows mark_of (closed_with old left (error_of k)) k)
      (sym comes) (come_written allows mark_of old client left owed again same o)))
  owing_on old new client owed next (Owing.failed left fault came is comes same stays) o =
      subst (λ (c : Calls M K C). CallsSoFar allows mark_of c next) (sym stays)
      (in_outcome (closed_with old left (error_of came)) next came is
      (subst (λ (k : Outcome). HasCome allows mark_of (closed_with old left (error_of k)) k)
      (sym comes) (come_failed allows mark_of old client left owed fault same o)))
  owing_on old new client owed next (Owing.lost is log) o =
      in_outcome new next outcome.OutOfMemory is
      (subst (λ (l : List LogEntry). (at : Station) × IsLogged allows l at) (sym log)
      (owing_logged allows mark_of old client owed o))

-- what a request comes to that owes something calls no hook
pub owing_log : {L C M K : Type 0} (old new : Calls M K C) (client : HttpSession) (owed : Owed)
    (next : Phase L C) → Owing client owed old new next → log_of new ≡ log_of old
owing_log old new client owed next (Owing.waits session is same stays) =
    ap (λ (c : Calls _ _ _). log_of c) stays
owing_log old new client owed next (Owing.written left again came is comes same stays) =
    ap (λ (c : Calls _ _ _). log_of c) stays
owing_log old new client owed next (Owing.failed left fault came is comes same stays) =
    ap (λ (c : Calls _ _ _). log_of c) stays
owing_log old new client owed next (Owing.lost is log) = log

-- a session of which bytes were written shows hooks the same
pub shows_same : (old new : HttpSession)
    → new ≡ record old { writing = record old.writing { output = new.writing.output } }
    → ShowsSame new old
shows_same old new same = (
  ap (λ (h : HttpSession). h.reading) same,
  ap (λ (h : HttpSession). h.writing.place) same,
)

-- what is owed goes by what hooks are shown
pub owing_as : {L C M K : Type 0} (client left : HttpSession) (owed : Owed)
    (old new : Calls M K C) (next : Phase L C)
    → left ≡ record client { writing = record client.writing { output = left.writing.output } }
    → Owing left owed old new next → Owing client owed old new next
owing_as client left owed old new next same (Owing.waits session is shows stays) =
    let s = shows_same client left same in
    Owing.waits session is (shows.0 ∙ s.0, shows.1 ∙ s.1) stays
owing_as client left owed old new next same
    (Owing.written after again came is comes shows stays) =
    let s = shows_same client left same in
    Owing.written after again came is comes (shows.0 ∙ s.0, shows.1 ∙ s.1) stays
owing_as client left owed old new next same (Owing.failed after fault came is comes shows stays) =
    let s = shows_same client left same in
    Owing.failed after fault came is comes (shows.0 ∙ s.0, shows.1 ∙ s.1) stays
owing_as client left owed old new next same (Owing.lost is log) = Owing.lost is log

-- what is counted of calls goes by the log
pub counted_still : {M K X : Type 0} (old mid new : Calls M K X) (work : Work)
    → log_of new ≡ log_of mid → CountsCalls old mid work → CountsCalls old new work
counted_still old mid new work same counts =
    let long = ap (λ (l : List LogEntry). length l) same in
    record {
      counted = omega (arith, counts.counted, long);
      once = omega (arith, counts.once, long);
      grows = record { rest = counts.grows.rest; joined = counts.grows.joined ∙ sym same };
    }

-- ---- a turn of an exchange

-- where messages are relayed a request may end
finish_at : (here : Station) → Relays here → may_finish here ≡ true
finish_at here (inl is) = ap (λ (at : Station). may_finish at) is
finish_at here (inr (inl is)) = ap (λ (at : Station). may_finish at) is
finish_at here (inr (inr is)) = ap (λ (at : Station). may_finish at) is

-- and where the error of an attempt may be told it may be treated
break_at : (here : Station) → MayFail here → may_break here ≡ true
break_at here (inl is) = ap (λ (at : Station). may_break at) is
break_at here (inr (inl is)) = ap (λ (at : Station). may_break at) is
break_at here (inr (inr (inl is))) = ap (λ (at : Station). may_break at) is
break_at here (inr (inr (inr (inl is)))) = ap (λ (at : Station). may_break at) is
break_at here (inr (inr (inr (inr is)))) = ap (λ (at : Station). may_break at) is

-- a side that is not lost leads to where an error may be told
lands_failing : (stopped : Option Why) (here : Station) → lost_by stopped ≡ false
    → Lands stopped here → MayFail here
lands_failing None here alive relays = inr (inr relays)
lands_failing (Some (fail.Error error)) here alive may = may
lands_failing (Some fail.OutOfMemory) here alive lands = absurd (true≢false alive)

-- and one that goes on to where messages are relayed
lands_relaying : (stopped : Option Why) (here : Station) → stopped ≡ None → Lands stopped here
    → Relays here
lands_relaying stopped here none lands =
    subst (λ (o : Option Why). Lands o here) none lands

-- the calls behind those with which a log began are all that follow them
pub calls_are : (log began own : List LogEntry) → log ≡ began ++ own
    → log ≡ began ++ calls_behind began log
calls_are log began own parts =
    parts
    ∙ ap (λ (es : List LogEntry). began ++ es)
    (sym (ap (λ (l : List LogEntry). drop (length began) l) parts
    ∙ drop_at began own (length began) refl))

module _ {L C M K : Type 0} (allows : Standing → LogEntry → Type 0) (mark_of : C → ℕ) where
  -- the calls so far behind a turn of an exchange: they walk to where its session and its context
  -- stand, but where memory was wanted in a hook, and come in order up to where its side leads
  pub record IsTurnedCalls (calls : Calls M K C) (a : Attempt L C) : Type 0 where
    pub from : Standing
    pub to : Standing
    pub walks : Walk allows from (log_of calls) to
    pub stands : lost_by a.exchange.down.stopped ≡ false
        → to ≡ standing None false (moment (seen_with calls a.exchange.down.inner.session)
        (mark_of a.context))
    pub here : Station
    pub order : Accepts station.accepted (log_of calls) here
    pub lands : Lands a.exchange.down.stopped here
    pub unended : IsUnended (log_of calls)
    pub linked : calls.at ≡ at.Linked

  -- those of a turn lead on from those before it
  turned_by : (calls mid : Calls M K C) (a b : Attempt L C) (began : List LogEntry)
      (here : Station) (was lost : Bool) → was ≡ false → lost_by b.exchange.down.stopped ≡ lost
      → Walks allows was lost (seen_with calls a.exchange.down.inner.session) (mark_of a.context)
      (seen_with mid b.exchange.down.inner.session) (mark_of b.context)
      → mid.at ≡ calls.at → Accepts station.accepted (log_of mid) here
      → Lands b.exchange.down.stopped here → IsRelayingCalls allows mark_of calls a
      → IsTurnedCalls mid b
  turned_by calls mid a b began here false false was is w stands order lands so_far = record {
    from = so_far.from;
    to = standing None false (moment (seen_with mid b.exchange.down.inner.session)
        (mark_of b.context));
    walks = walks_past allows so_far.from (log_of calls) w.es (log_of mid)
        (standing None false (moment (seen_with calls a.exchange.down.inner.session)
        (mark_of a.context)))
        (standing None false (moment (seen_with mid b.exchange.down.inner.session)
        (mark_of b.context))) w.log so_far.walks w.walk;
    stands = λ alive. refl;
    here = here;
    order = order;
    lands = lands;
    unended = unended_past (log_of calls) w.es (log_of mid) w.log so_far.unended w.plain;
    linked = stands ∙ so_far.linked;
  }
  turned_by calls mid a b began here false true was is w stands order lands so_far = record {
    from = so_far.from;
    to = w.to;
    walks = walks_past allows so_far.from (log_of calls) w.es (log_of mid)
        (standing None false (moment (seen_with calls a.exchange.down.inner.session)
        (mark_of a.context))) w.to w.log so_far.walks w.walk;
    stands = λ alive. absurd (true≢false (sym is ∙ alive));
    here = here;
    order = order;
    lands = lands;
    unended = unended_past (log_of calls) w.es (log_of mid) w.log so_far.unended w.plain;
    linked = stands ∙ so_far.linked;
  }
  turned_by calls mid a b began here true lost was is w stands order lands so_far =
      absurd (true≢false was)

  -- a turn of an exchange that began behind those calls enters its calls in order
  pub turned_calls : (calls mid : Calls M K C) (a b : Attempt L C) (began own : List LogEntry)
      → log_of mid ≡ began ++ own → Accepts station.accepted began station.sent
      → InSegments b.exchange.down.of_head b.exchange.down.stopped
      (calls_behind began (log_of mid))
      → EntersCalls allows mark_of (lost_by a.exchange.down.stopped)
      (lost_by b.exchange.down.stopped) calls a.exchange.down.inner.session a.context mid
      b.exchange.down.inner.session b.context
      → IsRelayingCalls allows mark_of calls a → IsTurnedCalls mid b
  turned_calls calls mid a b began own parts at_sent segments enters so_far =
      let leads = come_in_order b.exchange.down.of_head b.exchange.down.stopped
      (calls_behind began (log_of mid)) station.sent (inl refl) segments in
      turned_by calls mid a b began leads.to (lost_by a.exchange.down.stopped)
      (lost_by b.exchange.down.stopped) so_far.alive refl enters.walks enters.stands
      (order_past began (calls_behind began (log_of mid)) (log_of mid) station.sent leads.to
      (calls_are (log_of mid) began own parts) at_sent leads.order) leads.lands so_far

  -- the log is in order
  pub turned_logged : (calls : Calls M K C) (a : Attempt L C) → IsTurnedCalls calls a
      → (at : Station) × IsLogged allows (log_of calls) at
  turned_logged calls a t =
      (t.here, record { from = t.from; to = t.to; walks = t.walks; order = t.order })

  -- they walk to where the session and the context stand
  walks_there : (calls : Calls M K C) (a : Attempt L C) → IsTurnedCalls calls a
      → lost_by a.exchange.down.stopped ≡ false
      → (from : Standing) × Walk allows from (log_of calls)
      (standing None false (moment (seen_with calls a.exchange.down.inner.session)
      (mark_of a.context)))
  walks_there calls a t alive = (
    t.from,
    subst (λ (to : Standing). Walk allows t.from (log_of calls) to) (t.stands alive) t.walks,
  )

  -- the exchange goes on
  pub going_calls : (calls : Calls M K C) (a : Attempt L C) → IsTurnedCalls calls a
      → a.exchange.down.stopped ≡ None → IsRelayingCalls allows mark_of calls a
  going_calls calls a t none =
      let alive : lost_by a.exchange.down.stopped ≡ false =
      ap (λ (o : Option Why). lost_by o) none in
      let there = walks_there calls a t alive in
      record {
        from = there.0;
        walks = there.1;
        here = t.here;
        order = t.order;
        relays = lands_relaying a.exchange.down.stopped t.here none t.lands;
        alive = alive;
        unended = t.unended;
        linked = t.linked;
      }

  -- it failed, and its error is to be treated
  pub failing_calls : (calls : Calls M K C) (a : Attempt L C) (error : Error)
      → IsTurnedCalls calls a → lost_by a.exchange.down.stopped ≡ false
      → IsBreaking allows mark_of calls a.context a.exchange.down.inner.session error
  failing_calls calls a error t alive =
      let there = walks_there calls a t alive in
      record {
        from = there.0;
        walks = there.1;
        at = t.here;
        order = t.order;
        breaks = subst (λ (k : At K C). BreaksAt k (log_of calls) error t.here) (sym t.linked)
            (break_at t.here (lands_failing a.exchange.down.stopped t.here alive t.lands));
        again = never_again calls.at a.exchange.down.inner.session t.here
            (ap (λ (k : At K C). treated_at k) t.linked);
        viewed = never_viewed calls.at a.exchange.down.inner.session (log_of calls) error
            (ap (λ (k : At K C). treated_at k) t.linked);
        unended = t.unended;
      }

  -- what a failed exchange left
  pub off_calls : (calls : Calls M K C) (a : Attempt L C) (next : Phase L C)
      → BreaksOff a.context a.exchange.down.inner.session next → IsTurnedCalls calls a
      → (lost_by a.exchange.down.stopped ≡ true → is_over next ≡ true)
      → CallsSoFar allows mark_of calls next
  off_calls calls a ReadHead off t lost = absurd off
  off_calls calls a (Connect context session tries) off t lost = absurd off
  off_calls calls a (Unlinked context session attempts error) off t lost = absurd off
  off_calls calls a (Prepare context session link lease) off t lost = absurd off
  off_calls calls a (Relay k) off t lost = absurd off
  off_calls calls a (Broken context session link lease keep error) off t lost =
      let alive : lost_by a.exchange.down.stopped ≡ false =
      elim (decide (lost_by a.exchange.down.stopped)) [
        | inl gone ↦ absurd (true≢false (sym (lost gone)))
        | inr kept ↦ kept
      ] in
      subst (λ (c : C). IsBreaking allows mark_of calls c session.value error) (sym off.0)
      (subst (λ (h : HttpSession). IsBreaking allows mark_of calls a.context h error) (sym off.1)
      (failing_calls calls a error t alive))
  off_calls calls a (Again context session link lease keep error) off t lost = absurd off
  off_calls calls a (Fail link lease keep session error) off t lost = absurd off
  off_calls calls a (Close link lease keep came) off t lost =
      subst (λ (o : Outcome). HasCome allows mark_of calls o) (sym off) (turned_logged calls a t)
  off_calls calls a (Answer session owed attempts) off t lost = absurd off
  off_calls calls a (Ended came attempts) off t lost = absurd off

  -- it finished: the end begins there
  pub finished_come : (calls new : Calls M K C) (a : Attempt L C) (came : Outcome)
      → HasFinished a calls new came → IsTurnedCalls calls a → a.exchange.down.stopped ≡ None
      → HasCome allows mark_of new came
  finished_come calls new a came f t none =
      let there = walks_there calls a t (ap (λ (o : Option Why). lost_by o) none) in
      subst (λ (c : Calls M K C). HasCome allows mark_of c came) (sym f.calls)
      (subst (λ (o : Outcome). HasCome allows mark_of
      (closed_with (record calls {
        at = at.Closing a.context (closing.At (stage.Ending cause.Finished));
      }) a.exchange.down.inner.session None) o) (sym f.served) (record {
        from = there.0;
        walks = there.1;
        start = t.here;
        begins = finish_at t.here (lands_relaying a.exchange.down.stopped t.here none t.lands);
        order = t.order;
        logged = unended_unlogged (log_of calls) t.unended;
        alive = unlogged_alive (log_of calls) (unended_unlogged (log_of calls) t.unended);
        begun = t.unended;
        error_is = refl;
      }))

-- ---- where the end begins

module _ {C M K : Type 0} (allows : Standing → LogEntry → Type 0) (mark_of : C → ℕ) where
  -- the application answered an error: the end stands behind that
  pub answered_ends : (c d : Calls M K C) (context : C) (client left : HttpSession) (e : Error)
      (from : Standing) (here : Station)
      → Walk allows from (log_of c)
      (standing None false (moment (seen_with c client) (mark_of context)))
      → Accepts station.accepted (log_of c) here → IsUnended (log_of c)
      → HasAnswered allows mark_of e here (seen_with c client) (mark_of context) d left
      → EndsBy allows mark_of d.at d left (Some e)
  answered_ends c d context client left e from here walks order open_to h =
      let log : log_of d ≡ log_of c ++ h.answers.turn.e ∷ [] = h.answers.turn.calls.log in
      subst (λ (a : At K C). EndsBy allows mark_of a d left (Some e)) (sym h.is_at) (record {
        from = from;
        walks = subst (λ (l : List LogEntry). Walk allows from l
            (standing None false (moment (seen_with d left) (mark_of h.context)))) (sym log)
            (Walk-append allows (log_of c) (h.answers.turn.e ∷ []) from
            (standing None false (moment (seen_with c client) (mark_of context)))
            (standing None false (moment (seen_with d left) (mark_of h.context))) walks
            h.answers.turn.calls.walk);
        start = here;
        begins = refl;
        order = subst (λ (l : List LogEntry). Accepts station.accepted l station.told) (sym log)
            (Accepts-one station.accepted here station.told (log_of c) h.answers.turn.e order
            h.answers.turn.order);
        logged = ap logged_in log
            ∙ logged_append (log_of c) h.answers.turn.e
            (ap (λ (k : Hook). same_hook hook.Logging k) h.answers.turn.hook)
            ∙ unended_unlogged (log_of c) open_to;
        alive = ap stays_alive log
            ∙ alive_more (log_of c) h.answers.turn.e
            (ap (λ (k : Hook). same_hook hook.Logging k && not h.answers.turn.e.keepalive)
            h.answers.turn.hook)
            (unlogged_alive (log_of c) (unended_unlogged (log_of c) open_to));
        begun = ap (λ (l : List LogEntry). list_any (λ (x : LogEntry). begins_end x.hook) l) log
            ∙ begins_behind (log_of c) h.answers.turn.e
            (ap (λ (k : Hook). begins_end k) h.answers.turn.hook);
        error_is = ap (λ (x : Error). Some x) h.error_is;
      })

  -- the same of an error of a hook before the attempts
  pub opening_ends : (c d : Calls M K C) (context : C) (client left : HttpSession)
      (tries : List AttemptRecord) (e : Error) (here : Station) → station_at c.at ≡ here
      → HasAnswered allows mark_of e here (seen_with c client) (mark_of context) d left
      → IsOpening allows mark_of c context client tries
      → IsOwing allows mark_of d left (owing.Ahead (Some e))
  opening_ends c d context client left tries e here is h o =
      answered_ends c d context client left e o.from here o.walks
      (subst (λ (a : Station). Accepts station.accepted (log_of c) a) is o.order) o.unended h

  -- of a request without a link the log is in order
  pub lacking_logged : (calls : Calls M K C) (context : C) (client : HttpSession)
      → IsLackingCalls allows mark_of calls context client
      → (at : Station) × IsLogged allows (log_of calls) at
  lacking_logged calls context client o = (
    o.at,
    record { from = o.from; to = _; walks = o.walks; order = o.order },
  )

  -- also behind no call more
  pub lacking_same : (c d : Calls M K C) (context : C) (client : HttpSession)
      → log_of d ≡ log_of c → IsLackingCalls allows mark_of c context client
      → (at : Station) × IsLogged allows (log_of d) at
  lacking_same c d context client same o =
      subst (λ (l : List LogEntry). (at : Station) × IsLogged allows l at) (sym same)
      (lacking_logged c context client o)

  -- and the application answered the error of its last attempt
  pub lacking_ends : (c d : Calls M K C) (context : C) (client left : HttpSession) (e : Error)
      → (o : IsLackingCalls allows mark_of c context client)
      → HasAnswered allows mark_of e o.at (seen_with c client) (mark_of context) d left
      → IsOwing allows mark_of d left (owing.Served e)
  lacking_ends c d context client left e o h =
      answered_ends c d context client left e o.from o.at o.walks o.order o.unended h

  -- the calls so far of an attempt that failed, where hooks are shown the same of its session
  breaking_shown : (calls : Calls M K C) (context : C) (client left : HttpSession) (e : Error)
      → ShowsSame left client → IsBreaking allows mark_of calls context client e
      → IsBreaking allows mark_of calls context left e
  breaking_shown calls context client left e same b = record {
    from = b.from;
    walks = walk_further allows (log_of calls) b.from
        (standing None false (moment (seen_with calls client) (mark_of context)))
        (standing None false (moment (seen_with calls left) (mark_of context))) b.walks
        (views_shown calls (mark_of context) client left same);
    at = b.at;
    order = b.order;
    breaks = b.breaks;
    again = λ treated is may none kept. b.again treated is may
        (sym (ap has_head same.1) ∙ none) (sym (ap is_truncated same.0) ∙ kept);
    viewed = λ treated is.
        let v = b.viewed treated is in
        record {
          was = v.was;
          final_head = v.final_head ∙ sym (ap has_head same.1);
          truncated = v.truncated ∙ sym (ap is_truncated same.0);
        };
    unended = b.unended;
  }

module _ {L C M K : Type 0} (allows : Standing → LogEntry → Type 0) (mark_of : C → ℕ) where
  -- wherever the request stands its log is in order
  pub calls_logged : (calls : Calls M K C) (phase : Phase L C) → CallsSoFar allows mark_of calls
      phase
      → (at : Station) × IsLogged allows (log_of calls) at
  calls_logged calls ReadHead so_far = none_logged allows (log_of calls) so_far
  calls_logged calls (Connect context session tries) so_far =
      opening_logged allows mark_of calls context session.value tries so_far
  calls_logged calls (Unlinked context session attempts error) so_far =
      lacking_logged allows mark_of calls context session.value so_far
  calls_logged calls (Prepare context session link lease) so_far =
      opening_logged allows mark_of calls context session.value (tries_in lease) so_far.0
  calls_logged calls (Relay a) so_far = (
    so_far.here,
    record { from = so_far.from; to = _; walks = so_far.walks; order = so_far.order },
  )
  calls_logged calls (Broken context session link lease keep error) so_far = (
    so_far.at,
    record { from = so_far.from; to = _; walks = so_far.walks; order = so_far.order },
  )
  calls_logged calls (Again context session link lease keep error) so_far =
      opening_logged allows mark_of calls context session.value (tries_in lease) so_far.0
  calls_logged calls (Fail link lease keep session error) so_far =
      owing_logged allows mark_of calls session.value (owing.Served error) so_far
  calls_logged calls (Close link lease keep outcome) so_far =
      come_logged allows mark_of calls outcome so_far
  calls_logged calls (Answer session owed attempts) so_far =
      owing_logged allows mark_of calls session.value owed so_far
  calls_logged calls (Ended outcome attempts) so_far =
      come_logged allows mark_of calls outcome so_far

  -- so they stand where what waits for its client was offered to it
  pub ahead_calls : (calls : Calls M K C) (context : C) (session : Box HttpSession) (link : L)
      (lease : Lease) (keep : Bool) (e : Error) (next : Phase L C)
      → WritesAhead context session.value link lease keep e next
      → CallsSoFar allows mark_of calls (Broken context session link lease keep e)
      → CallsSoFar allows mark_of calls next
  ahead_calls calls context session link lease keep e next (WritesAhead.stays left shows is)
      so_far =
      subst (λ (k : Phase L C). CallsSoFar allows mark_of calls k) (sym is)
      (breaking_shown allows mark_of calls context session.value left.value e shows so_far)
  ahead_calls calls context session link lease keep e next (WritesAhead.lost is) so_far =
      subst (λ (k : Phase L C). CallsSoFar allows mark_of calls k) (sym is)
      (calls_logged calls (Broken context session link lease keep e) so_far)
