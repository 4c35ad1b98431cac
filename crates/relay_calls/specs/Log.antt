-- The log of a request: what stands behind a call, a log that walks from one standing to another
-- with each call allowed, and its parts by direction.
use Rattle.std.specs.Prelude.{◌≡◌, ℕ, Bool, true, false, List, [], ◌∷◌, None, unwrap_or, filter}
use Rattle.relay_tasks.specs.declared.hook.Hook.{Hook}
use Rattle.relay_tasks.specs.declared.hook.Hook.TheVariants as hook
use Rattle.relay_tasks.specs.declared.log.LogEntry.{LogEntry}
use Rattle.relay_modules.specs.Module.{ModuleCall, Tells}
use Rattle.relay_modules.specs.declared.seen.Seen.{Seen}
use Rattle.relay_hooks.specs.Standing.{Standing, standing}
use Rattle.relay_hooks.specs.Session.{moment}

-- ---- whose call it is

-- a filter of the modules
abbrev pub is_module : Hook → Bool
is_module hook.ModuleRequestHeader = true
is_module hook.ModuleRequestBody = true
is_module hook.ModuleResponseHeader = true
is_module hook.ModuleResponseBody = true
is_module hook.ModuleResponseTrailer = true
is_module hook.ModuleResponseDone = true
is_module other = false

-- a filter of the request's body: the modules', and the application's
abbrev pub filters_request : Hook → Bool
filters_request hook.ModuleRequestBody = true
filters_request hook.RequestBodyFilter = true
filters_request other = false

-- a filter of the application on the way of a response
abbrev pub filters_response : Hook → Bool
filters_response hook.UpstreamResponseFilter = true
filters_response hook.ResponseFilter = true
filters_response hook.UpstreamResponseBodyFilter = true
filters_response hook.ResponseBodyFilter = true
filters_response hook.UpstreamResponseTrailerFilter = true
filters_response hook.ResponseTrailerFilter = true
filters_response other = false

-- a filter of the modules on the way of a response
abbrev pub is_module_response : Hook → Bool
is_module_response hook.ModuleResponseHeader = true
is_module_response hook.ModuleResponseBody = true
is_module_response hook.ModuleResponseTrailer = true
is_module_response hook.ModuleResponseDone = true
is_module_response other = false

-- ---- a log that walks

-- what stands behind a call, as its entry tells
abbrev pub after : Standing → LogEntry → Standing
after st e = record st {
  mark = e.mark_after;
  head = unwrap_or e.head st.head;
  keepalive = e.keepalive;
}

-- a filter of the modules leaves the mark and the keepalive flag, queues nothing, and asks for no
-- delay
pub record LeavesRest (st : Standing) (e : LogEntry) : Type 0 where
  pub mark : e.mark_after ≡ st.mark
  pub keepalive : e.keepalive ≡ st.keepalive
  pub wrote : e.wrote ≡ []
  pub delay : e.delay ≡ None

-- the same, where a filter of the modules was called
abbrev pub LeavesIf : Bool → Standing → LogEntry → Type 0
LeavesIf true st e = LeavesRest st e
LeavesIf false st e = Unit {0}

-- the entry fits where it stands: the mark and the view before it are those there
pub record Fits (st : Standing) (e : LogEntry) : Type 0 where
  pub mark : e.mark_before ≡ st.mark
  pub view : e.view ≡ st.view
  pub by_module : LeavesIf (is_module e.hook) st e

-- between two calls the view may change, as may the attempt's peer; a final head that was queued,
-- and an upgrade, stay so
pub record Views (from to : Standing) : Type 0 where
  pub mark : to.mark ≡ from.mark
  pub head : to.head ≡ from.head
  pub keepalive : to.keepalive ≡ from.keepalive
  pub final_head : from.view.final_head ≡ true → to.view.final_head ≡ true
  pub upgraded : from.view.upgraded ≡ true → to.view.upgraded ≡ true

-- the calls lead from one standing to the other: each fits where it stands and is allowed there,
-- and the next begins at its mark
abbrev pub Walk : (Standing → LogEntry → Type 0) → Standing → List LogEntry → Standing → Type 0
Walk allows from [] to = Views from to
Walk allows from (e ∷ es) to =
    (st : Standing) × Views from st × Fits st e × allows st e × Walk allows (after st e) es to

-- by whom an entry is allowed: by the modules where a filter of theirs was called, else by the
-- application
abbrev pub AllowsBy : Bool → (Standing → LogEntry → Type 0) → (ModuleCall → Type 0) → Standing
    → LogEntry → Type 0
AllowsBy true app modules st e = (call : ModuleCall) × Tells e call × modules call
AllowsBy false app modules st e = app st e

-- an entry is allowed
abbrev pub IsAllowed : (Standing → LogEntry → Type 0) → (ModuleCall → Type 0) → Standing → LogEntry
    → Type 0
IsAllowed app modules st e = AllowsBy (is_module e.hook) app modules st e

-- a log that walked up to the session as it was walks up to the session as it is
abbrev pub WalksOn : (Standing → LogEntry → Type 0) → Seen → ℕ → Seen → ℕ → Type 0
WalksOn allows old before new after =
    (from : Standing) → Walk allows from old.log (standing None false (moment old before))
    → Walk allows from new.log (standing None false (moment new after))

-- ---- its parts

-- the filters of the request's body
abbrev pub requests_in : List LogEntry → List LogEntry
requests_in log = filter (λ e. filters_request e.hook) log

-- the application's filters of the response
abbrev pub responses_in : List LogEntry → List LogEntry
responses_in log = filter (λ e. filters_response e.hook) log

-- the modules' filters of the response
abbrev pub modules_in : List LogEntry → List LogEntry
modules_in log = filter (λ e. is_module_response e.hook) log
