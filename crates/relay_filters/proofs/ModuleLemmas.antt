-- The filters of the modules for one task: their call, and what the task goes on as.
use Rattle.std.proofs.Common.{◌≡◌, ℕ, Bool, if◌then◌else◌, List, Option, Some, None, Result, Ok, Err, refl, sym, ap, subst, ◌∙◌, IsSome}
use Rattle.relay_tasks.specs.Head.{ResponseHead, Fields}
use Rattle.relay_tasks.specs.declared.context.Context.TheVariants.{Mismatch101}
use Rattle.relay_tasks.specs.declared.error.Error.{Error}
use Rattle.relay_tasks.specs.declared.error.ErrorSource.TheVariants.{Internal}
use Rattle.relay_tasks.specs.declared.error.Fail.{Fail}
use Rattle.relay_tasks.specs.declared.error.Fail.TheVariants as fail
use Rattle.relay_tasks.specs.declared.log.LogEntry.{LogEntry}
use Rattle.relay_tasks.specs.declared.task.HttpTask.{HttpTask}
use Rattle.relay_tasks.specs.declared.task.HttpTask.TheVariants as task
use Rattle.relay_tasks.specs.Error.{refused}
use Rattle.relay_h1.specs.Verdict.{refused_from}
use Rattle.relay_session.specs.Reading.{head_of}
use Rattle.relay_modules.specs.Filtering.{ended_by}
use Rattle.relay_modules.specs.Module.{AllowsMade, ModuleCall, response_body, response_done, response_header, response_trailer}
use Rattle.relay_modules.specs.declared.seen.Seen.{Seen}
use Rattle.relay_hooks.specs.Standing.{Standing}
use Rattle.relay_calls.specs.Calls.{Enters}
use Rattle.relay_calls.specs.Log.{IsAllowed}
use Rattle.relay_calls.specs.Modules.{CallsModule, called, replied}
use Rattle.relay_filters.specs.Chain.{ModuleChain, ModuleFeeds, Refuses, is_switch}
use Rattle.relay_filters.specs.Response.{Outcome, SomeAllow}
use Rattle.relay_filters.proofs.OutcomeLemmas.{module_fails, module_passes, module_refused, reply_fails}
use Rattle.relay_filters.proofs.ResponseLemmas.{check_passes, check_refuses}

-- ---- a head

module _ (app : Standing → LogEntry → Type 0) {M : Type 0} (allows : M → ModuleCall → Type 0)
    (m : Option M) (stand : IsSome m) (oh : Bool) (head last : ResponseHead) (end : Bool)
    (old : Seen) (mark : ℕ) (new : Seen) where
  -- the filter failed, or memory was wanted
  pub module_head_fails : (why : Fail) → IsSome (head_of old.downstream.reading)
      → Enters (called (λ error. response_header head last end error) (Err why))
      (CallsModule (AllowsMade allows m) old mark new) old new
      → Outcome (IsAllowed app (SomeAllow allows)) (ModuleChain (task.Header head end))
      (ModuleFeeds (task.Header head end)) (Refuses oh) (Err why) old mark new mark
  module_head_fails why is call =
      module_fails app allows m stand (λ error. response_header head last end error) old mark new
      (ModuleChain (task.Header head end)) (ModuleFeeds (task.Header head end)) oh why
      (λ error. refl) (λ error. refl) is tt (λ e error gave. gave) call

  -- it left a head that is refused
  pub module_head_refused : (w first : Error) (why : Fail)
      → w ≡ record first { esource = Internal } → first ≡ refused Mismatch101
      → IsSome (head_of old.downstream.reading)
      → CallsModule (AllowsMade allows m) old mark new (response_header head last end None)
      → ◌≡◌ {A = Result Unit Fail} (Err why) (if is_switch last then Err (fail.Error w) else Ok tt)
      → Outcome (IsAllowed app (SomeAllow allows)) (ModuleChain (task.Header head end))
      (ModuleFeeds (task.Header head end)) (Refuses oh) (Err why) old mark new mark
  module_head_refused w first why from from' is call refused =
      let r = check_refuses (is_switch last) w why refused in
      subst (λ (f : Fail). Outcome {Y = HttpTask} (IsAllowed app (SomeAllow allows))
      (ModuleChain (task.Header head end)) (ModuleFeeds (task.Header head end)) (Refuses oh)
      (Err f) old mark new mark) (sym r.1)
      (module_refused app allows m stand (response_header head last end None) old mark new
      (ModuleChain (task.Header head end)) (ModuleFeeds (task.Header head end)) oh w refl refl
      (ap (λ (b : Bool). if b then Some (refused_from Internal Mismatch101) else None) r.0
      ∙ ap Some (sym (from ∙ ap (λ (e : Error). record e { esource = Internal }) from')))
      is (λ e gave. gave) call)

  -- it passed
  pub module_head_passes : (w : Error) → IsSome (head_of old.downstream.reading)
      → CallsModule (AllowsMade allows m) old mark new (response_header head last end None)
      → ◌≡◌ {A = Result Unit Fail} (Ok tt) (if is_switch last then Err (fail.Error w) else Ok tt)
      → Outcome (IsAllowed app (SomeAllow allows)) (ModuleChain (task.Header head end))
      (ModuleFeeds (task.Header head end)) (Refuses oh) (Ok (task.Header last end)) old mark new
      mark
  module_head_passes w is call passes =
      module_passes app allows m stand (response_header head last end None) old mark new
      (ModuleChain (task.Header head end)) (ModuleFeeds (task.Header head end)) oh
      (task.Header last end) refl refl is
      (λ e called. (
        last,
        record { m = e; calls = refl; called = called },
        check_passes (is_switch last) w passes,
        refl,
      )) call

-- ---- a piece

module _ (app : Standing → LogEntry → Type 0) {M : Type 0} (allows : M → ModuleCall → Type 0)
    (m : Option M) (stand : IsSome m) (oh : Bool) (bytes last : Option (List ℕ)) (end : Bool)
    (old : Seen) (mark : ℕ) (new : Seen) (is : IsSome (head_of old.downstream.reading)) where
  -- the filter failed, or memory was wanted
  pub module_body_fails : (why : Fail)
      → Enters (called (λ error. response_body bytes last end error) (Err why))
      (CallsModule (AllowsMade allows m) old mark new) old new
      → Outcome (IsAllowed app (SomeAllow allows)) (ModuleChain (task.Body bytes end))
      (ModuleFeeds (task.Body bytes end)) (Refuses oh) (Err why) old mark new mark
  module_body_fails why call =
      module_fails app allows m stand (λ error. response_body bytes last end error) old mark new
      (ModuleChain (task.Body bytes end)) (ModuleFeeds (task.Body bytes end)) oh why
      (λ error. refl) (λ error. refl) is tt (λ e error gave. gave) call

  -- the piece passed
  pub module_body_passes : CallsModule (AllowsMade allows m) old mark new
      (response_body bytes last end None)
      → Outcome (IsAllowed app (SomeAllow allows)) (ModuleChain (task.Body bytes end))
      (ModuleFeeds (task.Body bytes end)) (Refuses oh) (Ok (task.Body last end)) old mark new mark
  module_body_passes call =
      module_passes app allows m stand (response_body bytes last end None) old mark new
      (ModuleChain (task.Body bytes end)) (ModuleFeeds (task.Body bytes end)) oh
      (task.Body last end) refl refl is
      (λ e called. (last, record { m = e; calls = refl; called = called }, refl)) call

  -- the same of a piece behind an upgrade
  pub module_upgraded_fails : (why : Fail)
      → Enters (called (λ error. response_body bytes last end error) (Err why))
      (CallsModule (AllowsMade allows m) old mark new) old new
      → Outcome (IsAllowed app (SomeAllow allows)) (ModuleChain (task.UpgradedBody bytes end))
      (ModuleFeeds (task.UpgradedBody bytes end)) (Refuses oh) (Err why) old mark new mark
  module_upgraded_fails why call =
      module_fails app allows m stand (λ error. response_body bytes last end error) old mark new
      (ModuleChain (task.UpgradedBody bytes end)) (ModuleFeeds (task.UpgradedBody bytes end)) oh
      why (λ error. refl) (λ error. refl) is tt (λ e error gave. gave) call

  pub module_upgraded_passes :
      CallsModule (AllowsMade allows m) old mark new (response_body bytes last end None)
      → Outcome (IsAllowed app (SomeAllow allows)) (ModuleChain (task.UpgradedBody bytes end))
      (ModuleFeeds (task.UpgradedBody bytes end)) (Refuses oh) (Ok (task.UpgradedBody last end))
      old mark new mark
  module_upgraded_passes call =
      module_passes app allows m stand (response_body bytes last end None) old mark new
      (ModuleChain (task.UpgradedBody bytes end)) (ModuleFeeds (task.UpgradedBody bytes end)) oh
      (task.UpgradedBody last end) refl refl is
      (λ e called. (last, record { m = e; calls = refl; called = called }, refl)) call

-- ---- trailer fields, and the end

module _ (app : Standing → LogEntry → Type 0) {M : Type 0} (allows : M → ModuleCall → Type 0)
    (m : Option M) (stand : IsSome m) (oh : Bool) (old : Seen) (mark : ℕ) (new : Seen)
    (is : IsSome (head_of old.downstream.reading)) where
  -- the filter of trailer fields failed, or memory was wanted
  pub module_trailer_fails : (fields last : Option Fields) (why : Fail)
      → Enters (replied (λ answer error. response_trailer fields last answer error) (Err why))
      (CallsModule (AllowsMade allows m) old mark new) old new
      → Outcome (IsAllowed app (SomeAllow allows)) (ModuleChain (task.Trailer fields))
      (ModuleFeeds (task.Trailer fields)) (Refuses oh) (Err why) old mark new mark
  module_trailer_fails fields last why call =
      reply_fails app allows m stand (λ answer error. response_trailer fields last answer error) old
      mark new (ModuleChain (task.Trailer fields)) (ModuleFeeds (task.Trailer fields)) oh why
      (λ error. refl) (λ error. refl) is tt (λ e error gave. gave) call

  -- it left these, and answered bytes or none
  pub module_trailer_passes : (fields last : Option Fields) (answer : Option (List ℕ))
      (made : HttpTask) → made ≡ ended_by answer (task.Trailer last)
      → CallsModule (AllowsMade allows m) old mark new (response_trailer fields last answer None)
      → Outcome (IsAllowed app (SomeAllow allows)) (ModuleChain (task.Trailer fields))
      (ModuleFeeds (task.Trailer fields)) (Refuses oh) (Ok made) old mark new mark
  module_trailer_passes fields last answer made becomes call =
      module_passes app allows m stand (response_trailer fields last answer None) old mark new
      (ModuleChain (task.Trailer fields)) (ModuleFeeds (task.Trailer fields)) oh made refl refl is
      (λ e called. (last, answer, record { m = e; calls = refl; called = called }, becomes)) call

  -- the filter of the end failed, or memory was wanted
  pub module_done_fails : (why : Fail)
      → Enters (replied response_done (Err why)) (CallsModule (AllowsMade allows m) old mark new)
      old new
      → Outcome (IsAllowed app (SomeAllow allows)) (ModuleChain task.Done)
      (ModuleFeeds task.Done) (Refuses oh) (Err why) old mark new mark
  module_done_fails why call =
      reply_fails app allows m stand response_done old mark new (ModuleChain task.Done)
      (ModuleFeeds task.Done) oh why (λ error. refl) (λ error. refl) is tt
      (λ e error gave. gave) call

  -- it answered bytes or none
  pub module_done_passes : (answer : Option (List ℕ)) (made : HttpTask)
      → made ≡ ended_by answer task.Done
      → CallsModule (AllowsMade allows m) old mark new (response_done answer None)
      → Outcome (IsAllowed app (SomeAllow allows)) (ModuleChain task.Done)
      (ModuleFeeds task.Done) (Refuses oh) (Ok made) old mark new mark
  module_done_passes answer made becomes call =
      module_passes app allows m stand (response_done answer None) old mark new
      (ModuleChain task.Done) (ModuleFeeds task.Done) oh made refl refl is
      (λ e called. (answer, record { m = e; calls = refl; called = called }, becomes)) call
