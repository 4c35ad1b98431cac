-- The end of a request, so far: how it begins, and how each turn takes it on.
use Rattle.std.proofs.Common.{◌≡◌, ℕ, Bool, true, false, List, [], ◌∷◌, ◌++◌, append_assoc, None, Some, Option, is_some, map, refl, sym, ap, subst, ◌∙◌, true≢false}
use Rattle.std.specs.Prelude.{filter, unwrap_or}
use Rattle.std.proofs.lemmas.List.{map-append}
use Rattle.std.proofs.lemmas.List.Elements.{filter-append}
use Rattle.relay_tasks.specs.Hooks.{same_hook}
use Rattle.relay_tasks.specs.declared.error.Error.{Error}
use Rattle.relay_tasks.specs.declared.hook.Hook.{Hook}
use Rattle.relay_tasks.specs.declared.hook.Hook.TheVariants as hook
use Rattle.relay_tasks.specs.declared.log.Item.{Item}
use Rattle.relay_tasks.specs.declared.log.LogEntry.{LogEntry}
use Rattle.relay_tasks.specs.declared.task.HttpTask.{HttpTask}
use Rattle.relay_session.specs.Reading.{head_of}
use Rattle.relay_session.specs.declared.writing.Writing.{Writing}
use Rattle.relay_modules.specs.declared.seen.Seen.{Seen}
use Rattle.relay_hooks.specs.Call.{failure}
use Rattle.relay_hooks.specs.Standing.{Standing}
use Rattle.relay_phases.specs.Order.{Station}
use Rattle.relay_phases.specs.Order.{Station as station}
use Rattle.relay_phases.specs.Turns.{Rests}
use Rattle.relay_phases.proofs.TurnLemmas.{HasCalled-more, HasCalled-none, queues_before_nothing, queues_behind_nothing}
use Rattle.relay_closing.specs.Closes.{Asks, ClosesSoFar, HasClosed, HasClosedTo, TurnsAt, TurnsOn, TurnsTo, logged_in, logged_to}
use Rattle.relay_closing.specs.Place.{CameTo, EndedBehind, begins_at, begun, end_station, error_of, hooks_for, hooks_of, hooks_to, input_of, may_begin, may_go_on, next_hook, rested, station_of}
use Rattle.relay_closing.specs.Queued.{QueuesOnce, cause_of, queues_at, queues_for, told_to}
use Rattle.relay_closing.specs.declared.place.Cause.{Cause}
use Rattle.relay_closing.specs.declared.place.Cause.TheVariants as cause
use Rattle.relay_closing.specs.declared.place.End.TheVariants as end
use Rattle.relay_closing.specs.declared.place.Place.{Place}
use Rattle.relay_closing.specs.declared.place.Place.TheVariants as place
use Rattle.relay_closing.specs.declared.place.Stage.{Stage}
use Rattle.relay_closing.specs.declared.place.Stage.TheVariants as stage

-- ---- one call more

-- what `logging` was told by a call of that input, where it is one of `logging`
abbrev logged_by : Bool → Item → List Item
logged_by true input = input ∷ []
logged_by false input = []

logged_one : (b : Bool) (e : LogEntry) → same_hook hook.Logging e.hook ≡ b
    → logged_in (e ∷ []) ≡ logged_by b e.input
logged_one true e is = rw is refl
logged_one false e is = rw is refl

logged_in-append : (es fs : List LogEntry) → logged_in (es ++ fs) ≡ logged_in es ++ logged_in fs
logged_in-append es fs =
    ap (λ (l : List LogEntry). map (λ e. e.input) l)
    (filter-append {X = LogEntry} (λ e. same_hook hook.Logging e.hook) es fs)
    ∙ map-append (λ (e : LogEntry). e.input)
    (filter (λ e. same_hook hook.Logging e.hook) es)
    (filter (λ e. same_hook hook.Logging e.hook) fs)

module _ (allows : Standing → LogEntry → Type 0) (start : Station) (first : Seen) (mark : ℕ)
    (old : Seen) (before : ℕ) (new : Seen) (behind : ℕ) where
  -- the end as it stood at a stage
  abbrev HasClosedAt : Stage → Type 0
  HasClosedAt from =
      HasClosed allows start first mark (station_of start from) (hooks_to from) (told_to from)
      (logged_to from) old before

  -- a call of that hook takes it on
  closes_more : (which : Hook) (from : Stage) (at : Station) (leads : Stage → LogEntry → Type 0)
      (is_logging : Bool) (told : Option Error)
      → same_hook hook.Logging which ≡ is_logging
      → ((a b c : Writing) (v w : List HttpTask) → queues_for (told_to from) a b v
      → queues_at from b c w → queues_for told a c (v ++ w))
      → HasClosedAt from → Asks allows which start from at leads old before new behind
      → HasClosed allows start first mark at (hooks_to from ++ which ∷ []) told
      (logged_to from ++ logged_by is_logging (input_of from old)) new behind
  unfolding HasCalled-more
  closes_more which from at leads is_logging told is joins closed asks =
      let e : LogEntry = asks.turn.e in
      let same : same_hook hook.Logging e.hook ≡ is_logging =
      ap (λ (h : Hook). same_hook hook.Logging h) asks.turn.hook ∙ is in
      record {
        called =
            HasCalled-more allows (queues_for (told_to from)) (queues_at from) (queues_for told)
            joins first mark which start (station_of start from) at old before new behind
            closed.called asks.turn;
        hooks =
            map-append (λ (e : LogEntry). e.hook) closed.called.entries (e ∷ [])
            ∙ (ap (λ (l : List Hook). l ++ e.hook ∷ []) closed.hooks
            ∙ ap (λ (h : Hook). hooks_to from ++ h ∷ []) asks.turn.hook);
        logged =
            logged_in-append closed.called.entries (e ∷ [])
            ∙ (ap (λ (l : List Item). l ++ logged_in (e ∷ [])) closed.logged
            ∙ (ap (λ (l : List Item). logged_to from ++ l) (logged_one is_logging e same)
            ∙ ap (λ (i : Item). logged_to from ++ logged_by is_logging i) asks.input));
      }

  -- what is known of the stage at which that hook comes next is known of the stage that it is
  at_stage : (goes_back : Bool) (which known_hook : Hook) (from known : Stage) (at : Station)
      (leads : Stage → LogEntry → Type 0) (result : Type 0) → from ≡ known
      → next_hook known goes_back ≡ Some known_hook → next_hook from goes_back ≡ Some which
      → HasClosedAt from → Asks allows which start from at leads old before new behind
      → (HasClosedAt known → Asks allows known_hook start known at leads old before new behind
      → result)
      → result
  at_stage goes_back which known_hook from known at leads result is known_next next closed asks go =
      let is_hook : which ≡ known_hook =
      ap (λ (o : Option Hook). unwrap_or o which)
      (sym next ∙ (ap (λ (s : Stage). next_hook s goes_back) is ∙ known_next)) in
      go (subst HasClosedAt is closed)
      (subst (λ (s : Stage). Asks allows known_hook start s at leads old before new behind) is
      (subst (λ (h : Hook). Asks allows h start from at leads old before new behind) is_hook asks))

  -- behind `logging` a hook comes next only where the client goes back
  persists : (goes_back : Bool) (which : Hook) (why : Cause)
      → next_hook (stage.Logged why) goes_back ≡ Some which
      → next_hook (stage.Logged why) goes_back ≡ Some hook.PersistConnectionContext
  persists true which why next = refl
  persists false which why next = absurd (true≢false (sym (ap is_some next)))

  -- a turn that calls a hook takes the end on
  closes_call : {K : Type 0} (goes_back : Bool) (which : Hook) (from : Stage) (to : Place K)
      → next_hook from goes_back ≡ Some which → HasClosedAt from
      → TurnsTo allows which start from old before new behind to
      → HasClosedTo allows start first mark to new behind
  closes_call goes_back which from (place.At (stage.Failing error)) next closed asks =
      absurd asks.leads
  closes_call goes_back which from (place.At (stage.Told told)) next closed asks =
      at_stage goes_back which hook.FailToProxy from (stage.Failing told.error) station.told
      (CameTo (stage.Told told)) _ asks.leads.0 refl next closed asks
      (closes_more hook.FailToProxy (stage.Failing told.error) station.told
      (CameTo (stage.Told told)) false (Some told.error) refl (queues_behind_nothing QueuesOnce))
  closes_call goes_back which from (place.At (stage.Reporting told)) next closed asks =
      at_stage goes_back which hook.SuppressErrorLog from (stage.Told told) station.reporting
      (CameTo (stage.Reporting told)) _ asks.leads.0 refl next closed asks
      (closes_more hook.SuppressErrorLog (stage.Told told) station.reporting
      (CameTo (stage.Reporting told)) false (Some told.error) refl
      (queues_before_nothing QueuesOnce))
  closes_call goes_back which from (place.At (stage.Ending cause.Finished)) next closed asks =
      absurd asks.leads
  closes_call goes_back which from (place.At (stage.Ending (cause.Hidden told))) next closed asks =
      at_stage goes_back which hook.SuppressErrorLog from (stage.Told told) station.ending
      (CameTo (stage.Ending (cause.Hidden told))) _ asks.leads.0 refl next closed asks
      (closes_more hook.SuppressErrorLog (stage.Told told) station.ending
      (CameTo (stage.Ending (cause.Hidden told))) false (Some told.error) refl
      (queues_before_nothing QueuesOnce))
  closes_call goes_back which from (place.At (stage.Ending (cause.Reported told summary))) next
      closed asks =
      at_stage goes_back which hook.RequestSummary from (stage.Reporting told) station.ending
      (CameTo (stage.Ending (cause.Reported told summary))) _ asks.leads.0 refl next closed asks
      (closes_more hook.RequestSummary (stage.Reporting told) station.ending
      (CameTo (stage.Ending (cause.Reported told summary))) false (Some told.error) refl
      (queues_before_nothing QueuesOnce))
  closes_call goes_back which from (place.At (stage.Logged why)) next closed asks =
      at_stage goes_back which hook.Logging from (stage.Ending why) station.logged
      (CameTo (stage.Logged why)) _ asks.leads.0 refl next closed asks
      (closes_more hook.Logging (stage.Ending why) station.logged (CameTo (stage.Logged why)) true
      (error_of why) refl (queues_before_nothing (queues_for (error_of why))))
  closes_call {K = K} goes_back which from (place.Ended (end.Gone why)) next closed asks =
      at_stage goes_back which hook.Logging from (stage.Ending why) station.logged
      (EndedBehind {K = K} (end.Gone why)) _ asks.leads.0 refl next closed asks
      (closes_more hook.Logging (stage.Ending why) station.logged
      (EndedBehind {K = K} (end.Gone why)) true
      (error_of why) refl (queues_before_nothing (queues_for (error_of why))))
  closes_call {K = K} goes_back which from (place.Ended (end.Kept why kept)) next closed asks =
      let is_next : next_hook (stage.Logged why) goes_back ≡ Some hook.PersistConnectionContext =
      persists goes_back which why
      (sym (ap (λ (s : Stage). next_hook s goes_back) asks.leads.0) ∙ next) in
      let turned : HasClosed allows start first mark station.kept
      ((hooks_for why ++ hook.Logging ∷ []) ++ hook.PersistConnectionContext ∷ []) (error_of why)
      (failure (error_of why) ∷ []) new behind =
      at_stage goes_back which hook.PersistConnectionContext from (stage.Logged why) station.kept
      (EndedBehind (end.Kept why kept)) _ asks.leads.0 is_next next closed asks
      (closes_more hook.PersistConnectionContext (stage.Logged why) station.kept
      (EndedBehind (end.Kept why kept)) false (error_of why) refl
      (queues_before_nothing (queues_for (error_of why)))) in
      subst
      (λ (l : List Hook). HasClosed allows start first mark station.kept l (error_of why)
      (failure (error_of why) ∷ []) new behind)
      (append_assoc (hooks_for why) (hook.Logging ∷ []) (hook.PersistConnectionContext ∷ []))
      turned
  closes_call goes_back which from place.Lost next closed same = tt

  -- ---- a turn that calls nothing

  -- what was called stays called
  closes_rests : {P : Type 0} (there to : P) (at : Station) (hooks : List Hook)
      (told : Option Error) (logged : List Item)
      → Rests old before new behind there to
      → HasClosed allows start first mark at hooks told logged old before
      → HasClosed allows start first mark at hooks told logged new behind
  closes_rests there to at hooks told logged rests closed =
      subst
      (λ (s : Seen). HasClosed allows start first mark at hooks told logged s behind)
      (sym rests.seen)
      (subst (λ (m : ℕ). HasClosed allows start first mark at hooks told logged old m)
      (sym rests.mark) closed)

  -- at each stage
  closes_rested : {K : Type 0} (from : Stage) (to : Place K)
      → Rests old before new behind (rested from) to → HasClosedAt from
      → HasClosedTo allows start first mark (rested {K = K} from) new behind
  closes_rested (stage.Failing error) to rests closed = closes_rests _ to _ _ _ _ rests closed
  closes_rested (stage.Told told) to rests closed = closes_rests _ to _ _ _ _ rests closed
  closes_rested (stage.Reporting told) to rests closed = closes_rests _ to _ _ _ _ rests closed
  closes_rested (stage.Ending why) to rests closed = closes_rests _ to _ _ _ _ rests closed
  closes_rested (stage.Logged why) to rests closed = closes_rests _ to _ _ _ _ rests closed

  -- ---- each turn

  closes_at : {K : Type 0} (goes_back : Bool) (next : Option Hook) (from : Stage) (to : Place K)
      → next_hook from goes_back ≡ next → HasClosedAt from
      → TurnsAt allows next start from old before new behind to
      → HasClosedTo allows start first mark to new behind
  closes_at goes_back None from to is closed rests =
      subst (λ (p : Place _). HasClosedTo allows start first mark p new behind) (sym rests.place)
      (closes_rested from to rests closed)
  closes_at goes_back (Some which) from to is closed turns =
      closes_call goes_back which from to is closed turns

  closes_turn : {K : Type 0} (goes_back : Bool) (from to : Place K)
      → TurnsOn allows start goes_back from old before new behind to
      → HasClosedTo allows start first mark from old before
      → HasClosedTo allows start first mark to new behind
  closes_turn goes_back (place.At from) to turns closed =
      closes_at goes_back (next_hook from goes_back) from to refl closed turns
  closes_turn goes_back (place.Ended how) to rests closed =
      subst (λ (p : Place _). HasClosedTo allows start first mark p new behind) (sym rests.place)
      (closes_rests (place.Ended how) to (end_station how) (hooks_of how)
      (error_of (cause_of how)) (failure (error_of (cause_of how)) ∷ []) rests closed)
  closes_turn goes_back place.Lost to rests closed =
      subst (λ (p : Place _). HasClosedTo allows start first mark p new behind) (sym rests.place) tt

-- ---- the station at which the end began

module _ (allows : Standing → LogEntry → Type 0) (start : Station) (old : Seen) (before : ℕ)
    (new : Seen) (behind : ℕ) where
  begins_call : {K : Type 0} (which : Hook) (from : Stage) (to : Place K)
      → TurnsTo allows which start from old before new behind to → may_begin start to ≡ true
  begins_call which from (place.At (stage.Failing error)) asks = absurd asks.leads
  begins_call which from (place.At (stage.Told told)) asks = refl
  begins_call which from (place.At (stage.Reporting told)) asks = refl
  begins_call which from (place.At (stage.Ending cause.Finished)) asks = absurd asks.leads
  begins_call which from (place.At (stage.Ending (cause.Hidden told))) asks = refl
  begins_call which from (place.At (stage.Ending (cause.Reported told summary))) asks = refl
  begins_call which from (place.At (stage.Logged why)) asks = refl
  begins_call which from (place.Ended how) asks = refl
  begins_call which from place.Lost same = refl

  begins_rested : (K : Type 0) (from : Stage) → begins_at start from ≡ true
      → may_begin start (rested {K = K} from) ≡ true
  begins_rested K (stage.Failing error) h = h
  begins_rested K (stage.Told told) h = refl
  begins_rested K (stage.Reporting told) h = refl
  begins_rested K (stage.Ending why) h = h
  begins_rested K (stage.Logged why) h = refl

  begins_next : {K : Type 0} (next : Option Hook) (from : Stage) (to : Place K)
      → TurnsAt allows next start from old before new behind to → begins_at start from ≡ true
      → may_begin start to ≡ true
  begins_next None from to rests h =
      subst (λ (p : Place _). may_begin start p ≡ true) (sym rests.place) (begins_rested _ from h)
  begins_next (Some which) from to turns h = begins_call which from to turns

  -- a turn leaves it so
  pub begins_turn : {K : Type 0} (goes_back : Bool) (from to : Place K)
      → TurnsOn allows start goes_back from old before new behind to
      → may_begin start from ≡ true → may_begin start to ≡ true
  begins_turn goes_back (place.At from) to turns h =
      begins_next (next_hook from goes_back) from to turns h
  begins_turn goes_back (place.Ended how) to rests h =
      subst (λ (p : Place _). may_begin start p ≡ true) (sym rests.place) refl
  begins_turn goes_back place.Lost to rests h =
      subst (λ (p : Place _). may_begin start p ≡ true) (sym rests.place) refl

-- each turn takes the end on
pub ClosesSoFar-turn : {K : Type 0} (allows : Standing → LogEntry → Type 0) (start : Station)
    (first : Seen) (mark : ℕ) (old : Seen) (before : ℕ) (new : Seen) (behind : ℕ)
    (goes_back : Bool) (from to : Place K)
    → (may_begin start from ≡ true → TurnsOn allows start goes_back from old before new behind to)
    → ClosesSoFar allows start first mark from old before
    → ClosesSoFar allows start first mark to new behind
ClosesSoFar-turn allows start first mark old before new behind goes_back from to turns closed =
    record {
      begins =
          begins_turn allows start old before new behind goes_back from to (turns closed.begins)
          closed.begins;
      calls =
          closes_turn allows start first mark old before new behind goes_back from to
          (turns closed.begins) closed.calls;
    }

-- ---- how it begins

-- nothing was called yet
pub ClosesSoFar-begun : {K : Type 0} (allows : Standing → LogEntry → Type 0) (start : Station)
    (first : Seen) (mark : ℕ) (error : Option Error)
    → may_begin start (begun {K = K} error) ≡ true
    → ClosesSoFar allows start first mark (begun {K = K} error) first mark
unfolding HasCalled-none
ClosesSoFar-begun allows start first mark None begins =
    record {
      begins = begins;
      calls =
          record { called = HasCalled-none allows first mark start; hooks = refl; logged = refl };
    }
ClosesSoFar-begun allows start first mark (Some error) begins =
    record {
      begins = begins;
      calls =
          record { called = HasCalled-none allows first mark start; hooks = refl; logged = refl };
    }

-- ---- a hook may be called again

-- a station at which the end may have begun
abbrev pub start_of : Stage → Station
start_of (stage.Failing error) = station.failing
start_of (stage.Told told) = station.answered
start_of (stage.Reporting told) = station.answered
start_of (stage.Ending why) = station.answered
start_of (stage.Logged why) = station.answered

pub start_of-begins : (at : Stage) → begins_at (start_of at) at ≡ true
start_of-begins (stage.Failing error) = refl
start_of-begins (stage.Told told) = refl
start_of-begins (stage.Reporting told) = refl
start_of-begins (stage.Ending cause.Finished) = refl
start_of-begins (stage.Ending (cause.Hidden told)) = refl
start_of-begins (stage.Ending (cause.Reported told summary)) = refl
start_of-begins (stage.Logged why) = refl

module _ (allows : Standing → LogEntry → Type 0) (start : Station) (old : Seen) (before : ℕ)
    (new : Seen) (behind : ℕ) where
  ready_call : {K : Type 0} (which : Hook) (from : Stage) (to : Place K)
      → TurnsTo allows which start from old before new behind to
      → is_some (head_of old.downstream.reading) ≡ true → may_go_on to new ≡ true
  ready_call which from (place.At to) asks read = asks.turn.calls.reads.head read
  ready_call which from (place.Ended how) asks read = refl
  ready_call which from place.Lost same read = refl

  ready_rested : (K : Type 0) (from : Stage) → is_some (head_of new.downstream.reading) ≡ true
      → may_go_on (rested {K = K} from) new ≡ true
  ready_rested K (stage.Failing error) read = read
  ready_rested K (stage.Told told) read = read
  ready_rested K (stage.Reporting told) read = read
  ready_rested K (stage.Ending why) read = read
  ready_rested K (stage.Logged why) read = refl

  ready_at : {K : Type 0} (next : Option Hook) (from : Stage) (to : Place K)
      → TurnsAt allows next start from old before new behind to
      → is_some (head_of old.downstream.reading) ≡ true → may_go_on to new ≡ true
  ready_at None from to rests read =
      subst (λ (p : Place _). may_go_on p new ≡ true) (sym rests.place)
      (ready_rested _ from
      (subst (λ (s : Seen). is_some (head_of s.downstream.reading) ≡ true) (sym rests.seen) read))
  ready_at (Some which) from to turns read = ready_call which from to turns read

  -- a turn leaves it so, wherever a hook is called next
  pub ready_turn : {K : Type 0} (goes_back : Bool) (from : Stage) (to : Place K)
      → TurnsOn allows start goes_back (place.At from) old before new behind to
      → is_some (head_of old.downstream.reading) ≡ true → may_go_on to new ≡ true
  ready_turn goes_back from to turns read =
      ready_at (next_hook from goes_back) from to turns read
