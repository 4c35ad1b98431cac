-- Where each call leads.
use Rattle.std.proofs.Common.{◌≡◌, ℕ, Bool, true, false, ◌||◌, Option, Some, None, List, Result, Ok, Err, ◌⊎◌, inl, inr, refl, sym, ap, subst, is_some, true≢false}
use Rattle.std.specs.Prelude.{IsOkUnless}
use Rattle.relay_tasks.specs.declared.error.Error.{Error}
use Rattle.relay_tasks.specs.declared.error.Fail.{Fail}
use Rattle.relay_tasks.specs.declared.error.Fail.TheVariants as fail
use Rattle.relay_tasks.specs.declared.hook.Hook.{Hook}
use Rattle.relay_tasks.specs.declared.hook.Hook.TheVariants as hook
use Rattle.relay_tasks.specs.declared.log.Item.{Item}
use Rattle.relay_tasks.specs.declared.log.Item.TheVariants as item
use Rattle.relay_tasks.specs.declared.log.LogEntry.{LogEntry}
use Rattle.relay_tasks.specs.declared.task.HttpTask.{HttpTask}
use Rattle.relay_session.specs.Response.{GoesOnWith, IsOpen}
use Rattle.relay_session.specs.declared.writing.Writing.{Writing}
use Rattle.relay_modules.specs.Module.{ModuleCall, AllowsMade}
use Rattle.relay_modules.specs.Seen.{Responds}
use Rattle.relay_modules.specs.declared.seen.Seen.{Seen}
use Rattle.relay_hooks.specs.Standing.{Standing}
use Rattle.relay_hooks.specs.Answer.{is_whole, only_informs}
use Rattle.relay_hooks.specs.DefaultLaw.{lone_answer}
use Rattle.relay_hooks.specs.Call.{Left, answered, changed, failed, only}
use Rattle.relay_hooks.specs.Laws.{AnswersOnYes, AnswersOnNo}
use Rattle.relay_hooks.specs.Session.{Leaves, Queues, is_answered, moment}
use Rattle.relay_calls.specs.Calls.{Calls, CallsOf, Enters}
use Rattle.relay_calls.specs.Entry.{cleared}
use Rattle.relay_calls.specs.Log.{IsAllowed, is_module}
use Rattle.relay_phases.proofs.TurnLemmas.{Kept, Kept-leaves, Kept-queues, Calls-app, Leads, entered, goes_on_with_nothing, leaves_turn, looks_turn, queued_answers_to, queued_noted, queued_nothing, queued_open}
use Rattle.relay_phases.specs.Looks.{Looks}
use Rattle.relay_phases.specs.Modules.{CallsOnHead, MakesModules, told_error}
use Rattle.relay_phases.specs.Order.{Station}
use Rattle.relay_phases.specs.Order.{Station as station}
use Rattle.relay_phases.specs.Turns.{CallsOnce, QueuesNothing, Turns}
use Rattle.relay_opening.specs.Opens.{TurnsTo}
use Rattle.relay_opening.specs.Place.{behind, behind_say, Includes, station_of}
use Rattle.relay_opening.specs.Place.{failed as failed_at}
use Rattle.relay_opening.specs.Queued.{CannotRefuse, Completes, QueuesRefusal}
use Rattle.relay_opening.specs.Refusal.{Answers, IsStuck, Refuses}
use Rattle.relay_opening.specs.declared.place.Called.{Called}
use Rattle.relay_opening.specs.declared.place.Called.TheVariants as called
use Rattle.relay_opening.specs.declared.place.End.{End}
use Rattle.relay_opening.specs.declared.place.End.TheVariants as end
use Rattle.relay_opening.specs.declared.place.Place.TheVariants as place
use Rattle.relay_opening.proofs.CallLemmas.{Calls-head, CallsOnce-noted, entered_head, queued_nothing_of_head}

-- an error is not out of memory
abbrev is_error : Fail → Bool
is_error (fail.Error error) = true
is_error fail.OutOfMemory = false

error_is_no_memory : (error : Error) → ¬ (fail.Error error ≡ fail.OutOfMemory)
error_is_no_memory error is = true≢false (ap is_error is)

module _ (app : Standing → LogEntry → Type 0) (modules : ModuleCall → Type 0) (which : Hook)
    (is_app : is_module which ≡ false) (input : Item) (old : Seen) (before : ℕ) (new : Seen)
    (mark : ℕ) where
  -- such a call leads from the one station to the other
  abbrev pub LeadsOn : Left → Station → Station → Type 0
  LeadsOn left from to = Leads which input (moment (cleared old) before) left from to

  -- a hook that answers nothing, and whose error is final
  pub acts_turn : {K : Type 0} (from : Station) (last : Called K) (output : Item)
      → LeadsOn (only output) from (station_of last)
      → ((error : Error) → LeadsOn (failed output error) from station.failing)
      → (answer : Result Unit Fail)
      → Enters (changed output answer) (Calls app which input old before new mark) old new
      → TurnsTo (IsAllowed app modules) which from old before new mark
      (behind answer (place.Behind last))
  unfolding leaves_turn
  acts_turn from last output well badly (Ok done) call =
      leaves_turn app modules which is_app input old before new mark Leaves (only output) from
      (station_of last) (λ r h. h) well call
  acts_turn from last output well badly (Err (fail.Error error)) call = (
    leaves_turn app modules which is_app input old before new mark Leaves (failed output error)
        from station.failing (λ r h. h) (badly error) call,
    refl,
  )
  acts_turn from last output well badly (Err fail.OutOfMemory) same = same

  -- a hook that answers nothing and has no error
  pub hands_turn : {K : Type 0} (from : Station) (last : Called K) (output : Item)
      → LeadsOn (only output) from (station_of last)
      → (answer : Result Unit Fail) → IsOkUnless answer fail.OutOfMemory
      → Enters (changed output answer) (Calls app which input old before new mark) old new
      → TurnsTo (IsAllowed app modules) which from old before new mark
      (behind answer (place.Behind last))
  hands_turn from last output well (Ok done) memory call =
      leaves_turn app modules which is_app input old before new mark Leaves (only output) from
      (station_of last) (λ r h. h) well call
  hands_turn from last output well (Err (fail.Error error)) memory call =
      absurd (error_is_no_memory error memory)
  hands_turn from last output well (Err fail.OutOfMemory) memory same = same

  -- a hook that may answer the request with yes
  pub answers_turn : {K : Type 0} (from : Station) (last : Called K)
      → LeadsOn (only (item.Answer true)) from station.answered
      → LeadsOn (only (item.Answer false)) from (station_of last)
      → ((error : Error) → LeadsOn (failed item.Nothing error) from station.failing)
      → is_answered old ≡ false → (answer : Result Bool Fail)
      → Enters (answered item.Answer answer)
      (CallsOf None false (AnswersOnYes answer) app which input old before new mark) old new
      → TurnsTo (IsAllowed app modules) which from old before new mark
      (behind_say answer (place.Ended end.Answered) (place.Behind last))
  unfolding leaves_turn
  answers_turn from last on_yes on_no badly open_to (Ok true) call = (
    record {
      e =
          entered app modules (AnswersOnYes (Ok true)) which input old before new mark
          (only (item.Answer true)) call;
      calls =
          Calls-app app modules (AnswersOnYes (Ok true)) which input old before new mark
          (only (item.Answer true)) call is_app
          (Kept-queues (cleared old) call.returned open_to call.lawful.0);
      hook = refl;
      order = on_yes (moment call.returned mark);
      queued = record {
        queued =
            queued_noted app modules (AnswersOnYes (Ok true)) which input old before new mark
            (only (item.Answer true)) call call.lawful.0;
        answers_to =
            queued_answers_to app modules (AnswersOnYes (Ok true)) which input old before new
            mark (only (item.Answer true)) call call.lawful.0;
        stays_open =
            queued_open app modules (AnswersOnYes (Ok true)) which input old before new mark
            (only (item.Answer true)) call call.lawful.0;
        whole = call.lawful.1;
      };
    },
    tt,
  )
  answers_turn from last on_yes on_no badly open_to (Ok false) call =
      leaves_turn app modules which is_app input old before new mark (AnswersOnYes (Ok false))
      (only (item.Answer false)) from (station_of last)
      (λ r h. h) on_no call
  answers_turn from last on_yes on_no badly open_to (Err (fail.Error error)) call = (
    leaves_turn app modules which is_app input old before new mark
        (AnswersOnYes (Err (fail.Error error))) (failed item.Nothing error) from
        station.failing (λ r h. h) (badly error) call,
    refl,
  )
  answers_turn from last on_yes on_no badly open_to (Err fail.OutOfMemory) same = same

-- ---- hooks that only look

-- where the question has no error of its own, its call is told as with modules
pub asked : (looks : Left → Type 0) (answer : Result Bool Fail) (old new : Seen)
    → IsOkUnless answer fail.OutOfMemory → Enters (answered item.Answer answer) looks old new
    → MakesModules looks answer old new
asked looks (Ok say) old new memory call = call
asked looks (Err (fail.Error error)) old new memory call =
    absurd (error_is_no_memory error memory)
asked looks (Err fail.OutOfMemory) old new memory same = same

module _ (app : Standing → LogEntry → Type 0) (modules : ModuleCall → Type 0) (input : Item)
    (old : Seen) (mark : ℕ) (new : Seen) where
  -- the context was made
  pub makes_turn : Looks app hook.NewCtx input mark old new (only item.Nothing)
      → Turns (IsAllowed app modules) hook.NewCtx station.accepted station.made QueuesNothing old
      mark new mark
  makes_turn looks =
      looks_turn app modules hook.NewCtx refl input old mark new (only item.Nothing)
      station.accepted station.made (λ at. refl) looks

  -- it was asked for subrequests, and modules were made where there are any
  pub spawns_turn : (K : Type 0) (answer : Result Bool Fail)
      → MakesModules (Looks app hook.AllowSpawningSubrequest input mark old new) answer old new
      → TurnsTo (IsAllowed app modules) {K = K} hook.AllowSpawningSubrequest station.early old mark
      new mark
      (behind_say answer (place.Behind called.Spawning) (place.Behind called.Spawning))
  unfolding leaves_turn looks_turn
  spawns_turn K (Ok true) looks =
      looks_turn app modules hook.AllowSpawningSubrequest refl input old mark new
      (only (item.Answer true))
      station.early station.spawning (λ at. refl) looks
  spawns_turn K (Ok false) looks =
      looks_turn app modules hook.AllowSpawningSubrequest refl input old mark new
      (only (item.Answer false))
      station.early station.spawning (λ at. refl) looks
  spawns_turn K (Err (fail.Error error)) (say, looks) = (
    looks_turn app modules hook.AllowSpawningSubrequest refl input old mark new
        (failed (item.Answer say) error)
        station.early station.failing (λ at. refl) looks,
    refl,
  )
  spawns_turn K (Err fail.OutOfMemory) same = same

  -- it was asked whether the request is a purge
  pub purges_turn : (K : Type 0) (answer : Result Bool Fail) → IsOkUnless answer fail.OutOfMemory
      → Enters (answered item.Answer answer) (Looks app hook.IsPurge input mark old new) old new
      → TurnsTo (IsAllowed app modules) {K = K} hook.IsPurge station.filtered old mark new mark
      (behind_say answer (place.Ended end.Purge) (place.Behind called.Sending))
  purges_turn K (Ok true) memory looks = (
    looks_turn app modules hook.IsPurge refl input old mark new (only (item.Answer true))
        station.filtered station.purging (λ at. refl) looks,
    tt,
  )
  purges_turn K (Ok false) memory looks =
      looks_turn app modules hook.IsPurge refl input old mark new (only (item.Answer false))
      station.filtered station.sending (λ at. refl) looks
  purges_turn K (Err (fail.Error error)) memory looks = absurd (error_is_no_memory error memory)
  purges_turn K (Err fail.OutOfMemory) memory same = same

-- ---- the modules

-- the modules filtered the head
pub heads_turn : (K : Type 0) {M : Type 0} (app : Standing → LogEntry → Type 0)
    (modules : ModuleCall → Type 0)
    (allows : M → ModuleCall → Type 0) (made : Option M) (old : Seen) (mark : ℕ) (new : Seen)
    → is_some made ≡ true
    → Includes {K = K} allows (place.Behind called.Spawning) made modules
    → (answer : Result Unit Fail)
    → Enters (told_error answer) (CallsOnHead (AllowsMade allows made) old mark new) old new
    → TurnsTo (IsAllowed app modules) {K = K} hook.ModuleRequestHeader station.spawning old mark
    new mark
    (behind answer (place.Behind called.Headed))
heads_turn K app modules allows None old mark new is includes answer call =
    absurd (true≢false (sym is))
heads_turn K app modules allows (Some made) old mark new is includes (Ok done) call =
    record {
      e = entered_head app (allows made) modules old mark new None call;
      calls = Calls-head app (allows made) modules old mark new None call includes;
      hook = refl;
      order = refl;
      queued = queued_nothing_of_head app (allows made) modules old mark new None call;
    }
heads_turn K app modules allows (Some made) old mark new is includes (Err (fail.Error error)) call
    = (
      record {
        e = entered_head app (allows made) modules old mark new (Some error) call;
        calls = Calls-head app (allows made) modules old mark new (Some error) call includes;
        hook = refl;
        order = refl;
        queued = queued_nothing_of_head app (allows made) modules old mark new (Some error) call;
      },
      refl,
    )
heads_turn K app modules allows (Some made) old mark new is includes (Err fail.OutOfMemory) same =
    same

-- ---- a request that its application declines

module _ (app : Standing → LogEntry → Type 0) (modules : ModuleCall → Type 0) (input : Item)
    (old : Seen) (before : ℕ) (mid : Seen) (mark : ℕ)
    (call : CallsOf None false (AnswersOnNo (Ok false)) app hook.ProxyUpstreamFilter input old
    before mid mark (only (item.Answer false))) where
  -- the hook kept the session, and queued what it may
  record Declines : Type 0 where
    kept : Kept (cleared old) call.returned
    queued : GoesOnWith old.downstream.writing mid.downstream.writing call.returned.wrote
    answers_to : mid.downstream.writing.request ≡ old.downstream.writing.request
    stays_open : IsOpen old.downstream.writing.output → IsOpen mid.downstream.writing.output
    lawful : is_whole call.returned.wrote || only_informs call.returned.wrote ≡ true

  declines : is_answered old ≡ false
      → Leaves (cleared old) call.returned
      ⊎ (Queues (cleared old) call.returned
      × (is_whole call.returned.wrote || only_informs call.returned.wrote ≡ true))
      → Declines
  declines open_to (inl leaves) =
      let nothing =
      queued_nothing app modules (AnswersOnNo (Ok false)) hook.ProxyUpstreamFilter input old before
      mid mark (only (item.Answer false)) call leaves in
      record {
        kept = Kept-leaves (cleared old) call.returned leaves;
        queued =
            subst (λ (w : Writing). GoesOnWith old.downstream.writing w call.returned.wrote)
            (sym nothing.same)
            (subst
            (λ (l : List HttpTask). GoesOnWith old.downstream.writing old.downstream.writing l)
            (sym nothing.wrote_none) (goes_on_with_nothing old.downstream.writing));
        answers_to = ap (λ (w : Writing). w.request) nothing.same;
        stays_open = λ was_open.
            subst (λ (w : Writing). IsOpen w.output) (sym nothing.same) was_open;
        lawful = ap (λ (l : List HttpTask). is_whole l || only_informs l) nothing.wrote_none;
      }
  declines open_to (inr (queues, lawful)) =
      record {
        kept = Kept-queues (cleared old) call.returned open_to queues;
        queued =
            queued_noted app modules (AnswersOnNo (Ok false)) hook.ProxyUpstreamFilter input old
            before mid mark (only (item.Answer false)) call queues;
        answers_to =
            queued_answers_to app modules (AnswersOnNo (Ok false)) hook.ProxyUpstreamFilter input
            old before mid mark (only (item.Answer false)) call queues;
        stays_open =
            queued_open app modules (AnswersOnNo (Ok false)) hook.ProxyUpstreamFilter input old
            before mid mark (only (item.Answer false)) call queues;
        lawful = lawful;
      }

  abbrev e_of : LogEntry
  e_of =
      entered app modules (AnswersOnNo (Ok false)) hook.ProxyUpstreamFilter input old before mid
      mark (only (item.Answer false)) call

  calls_of : Kept (cleared old) call.returned
      → CallsOnce (IsAllowed app modules) old before mid mark e_of
  calls_of kept =
      Calls-app app modules (AnswersOnNo (Ok false)) hook.ProxyUpstreamFilter input old before mid
      mark (only (item.Answer false)) call refl kept

  -- the 502 was queued where no final head was
  refused : (answered : Bool) (new : Seen) → is_answered mid ≡ answered → Answers answered mid new
      → Declines
      → Turns (IsAllowed app modules) hook.ProxyUpstreamFilter station.sending station.answered
      QueuesRefusal old before new
      mark
  refused true new is same left =
      subst
      (λ (s : Seen). Turns (IsAllowed app modules) hook.ProxyUpstreamFilter station.sending
      station.answered QueuesRefusal
      old before s mark)
      (sym same)
      (record {
        e = e_of;
        calls = calls_of left.kept;
        hook = refl;
        order = refl;
        queued = record {
          left = mid.downstream.writing;
          queued = left.queued;
          answers_to = left.answers_to;
          stays_open = left.stays_open;
          lawful = left.lawful;
          completed =
              subst
              (λ (b : Bool). Completes b mid.downstream.writing mid.downstream.writing)
              (sym is) refl;
        };
      })
  refused false new is notes left =
      record {
        e = e_of;
        calls =
            CallsOnce-noted (IsAllowed app modules) old before mid new mark e_of
            (lone_answer 502) is notes (calls_of left.kept);
        hook = refl;
        order = refl;
        queued = record {
          left = mid.downstream.writing;
          queued = left.queued;
          answers_to = left.answers_to;
          stays_open = left.stays_open;
          lawful = left.lawful;
          completed =
              subst
              (λ (b : Bool). Completes b mid.downstream.writing new.downstream.writing)
              (sym is) notes.queued;
        };
      }

  -- it could not be queued
  stuck : (why : Fail) (new : Seen) → IsStuck why mid new → Declines
      → Turns (IsAllowed app modules) hook.ProxyUpstreamFilter station.sending station.answered
      (CannotRefuse why) old before
      new mark
  stuck why new is left =
      subst
      (λ (s : Seen). Turns (IsAllowed app modules) hook.ProxyUpstreamFilter station.sending
      station.answered
      (CannotRefuse why) old before s mark)
      (sym is.same)
      (record {
        e = e_of;
        calls = calls_of left.kept;
        hook = refl;
        order = refl;
        queued = record {
          queued = left.queued;
          answers_to = left.answers_to;
          stays_open = left.stays_open;
          lawful = left.lawful;
          no_head = is.no_head;
          fault = is.fault;
        };
      })

  -- a declined request ends so
  pub declined_turn : (K : Type 0) → is_answered old ≡ false → (how : End) (new : Seen)
      → Refuses how mid new
      → TurnsTo (IsAllowed app modules) {K = K} hook.ProxyUpstreamFilter station.sending old before
      new mark
      (place.Ended how)
  declined_turn K open_to end.Attempts new none = absurd none
  declined_turn K open_to end.Answered new none = absurd none
  declined_turn K open_to end.Purge new none = absurd none
  declined_turn K open_to (end.Failed error) new none = absurd none
  declined_turn K open_to end.Declined new answers =
      (refused (is_answered mid) new refl answers (declines open_to call.lawful), tt)
  declined_turn K open_to (end.Unwritten why) new is =
      (stuck why new is (declines open_to call.lawful), tt)

-- the hook let the request go on, or failed
pub sends_turn : (K : Type 0) (app : Standing → LogEntry → Type 0) (modules : ModuleCall → Type 0)
    (input : Item) (old : Seen) (before : ℕ) (new : Seen) (mark : ℕ)
    → CallsOf None false (AnswersOnNo (Ok true)) app hook.ProxyUpstreamFilter input old before new
    mark (only (item.Answer true))
    → TurnsTo (IsAllowed app modules) {K = K} hook.ProxyUpstreamFilter station.sending old before
    new mark
    (place.Ended end.Attempts)
sends_turn K app modules input old before new mark call = (
  leaves_turn app modules hook.ProxyUpstreamFilter refl input old before new mark
      (AnswersOnNo (Ok true)) (only (item.Answer true)) station.sending station.trying (λ r h. h)
      (λ at. refl) call,
  tt,
)

pub fails_turn : (K : Type 0) (app : Standing → LogEntry → Type 0) (modules : ModuleCall → Type 0)
    (input : Item) (old : Seen) (before : ℕ) (new : Seen) (mark : ℕ) (why : Fail)
    → Enters (answered item.Answer (Err why))
    (CallsOf None false (AnswersOnNo (Err why)) app hook.ProxyUpstreamFilter input old before new
    mark) old new
    → TurnsTo (IsAllowed app modules) {K = K} hook.ProxyUpstreamFilter station.sending old before
    new mark (failed_at why)
unfolding leaves_turn
fails_turn K app modules input old before new mark (fail.Error error) call = (
  leaves_turn app modules hook.ProxyUpstreamFilter refl input old before new mark
      (AnswersOnNo (Err (fail.Error error))) (failed item.Nothing error) station.sending
      station.failing (λ r h. h) (λ at. refl) call,
  refl,
)
fails_turn K app modules input old before new mark fail.OutOfMemory same = same

-- ---- the 502

-- an answer that could not be queued has changed nothing
pub stuck_behind : (tasks : List HttpTask) (why : Fail) (old new : Seen) → is_answered old ≡ false
    → Responds tasks (Err why) old new → IsStuck why old new
stuck_behind tasks (fail.Error error) old new no_head (fault, same) =
    record { no_head = no_head; fault = fault; same = same }
stuck_behind tasks fail.OutOfMemory old new no_head same =
    record { no_head = no_head; fault = tt; same = same }
