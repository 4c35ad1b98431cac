-- A call that was entered takes a log on that walks.
use Rattle.std.proofs.Common.{◌≡◌, ℕ, Bool, true, false, Option, Some, None, List, [], ◌∷◌, refl, sym, ap, subst, ◌∙◌, unwrap_or, true≢false}
use Rattle.relay_tasks.specs.Head.{RequestHead, new_request}
use Rattle.relay_tasks.specs.declared.hook.Hook.{Hook}
use Rattle.relay_tasks.specs.declared.log.Item.{Item}
use Rattle.relay_tasks.specs.declared.log.LogEntry.{LogEntry}
use Rattle.relay_tasks.specs.declared.peer.Peer.{Peer}
use Rattle.relay_session.specs.Reading.{head_of}
use Rattle.relay_session.specs.Response.{has_head}
use Rattle.relay_session.specs.declared.reading.Reading.{Reading}
use Rattle.relay_modules.specs.Module.{ModuleCall, request_header, request_body, response_header, response_body, response_trailer, response_done, hook_of, Tells}
use Rattle.relay_modules.specs.declared.seen.Seen.{Seen}
use Rattle.relay_hooks.specs.Standing.{Standing, standing}
use Rattle.relay_hooks.specs.Call.{Left, told_head, entry}
use Rattle.relay_hooks.specs.Session.{Leaves, moment, request_head}
use Rattle.relay_calls.specs.Entry.{cleared}
use Rattle.relay_calls.specs.Calls.{CallsOf, Calls, Enters}
use Rattle.relay_calls.specs.Modules.{CallsModule, module_entry}
use Rattle.relay_calls.specs.Log.{AllowsBy, IsAllowed, LeavesIf, LeavesRest, Views, Walk, WalksOn, after, is_module}
use Rattle.relay_calls.proofs.LogLemmas.{Views-same, Walk-append}

-- ---- whose call it is

-- a call of the application's is allowed by it
pub AllowsBy-app : (is_modules : Bool) (app : Standing → LogEntry → Type 0)
    (modules : ModuleCall → Type 0) (st : Standing) (e : LogEntry) → is_modules ≡ false → app st e
    → AllowsBy is_modules app modules st e
AllowsBy-app true app modules st e is_app allowed = absurd (true≢false is_app)
AllowsBy-app false app modules st e is_app allowed = allowed

-- it may leave all that a call of the modules leaves otherwise
pub LeavesIf-app : (is_modules : Bool) (st : Standing) (e : LogEntry) → is_modules ≡ false
    → LeavesIf is_modules st e
LeavesIf-app true st e is_app = absurd (true≢false is_app)
LeavesIf-app false st e is_app = tt

-- a call of the modules' is allowed by them
AllowsBy-modules : (is_modules : Bool) (app : Standing → LogEntry → Type 0)
    (modules : ModuleCall → Type 0) (st : Standing) (e : LogEntry) (call : ModuleCall)
    → is_modules ≡ true → Tells e call → modules call → AllowsBy is_modules app modules st e
AllowsBy-modules true app modules st e call is_modules tells allowed = (call, tells, allowed)
AllowsBy-modules false app modules st e call is_modules tells allowed =
    absurd (true≢false (sym is_modules))

-- it leaves all that it has to
LeavesIf-modules : (is_modules : Bool) (st : Standing) (e : LogEntry) → LeavesRest st e
    → LeavesIf is_modules st e
LeavesIf-modules true st e leaves = leaves
LeavesIf-modules false st e leaves = tt

-- the hook of a call of a module's filter is one of the modules'
is_module-hook_of : (call : ModuleCall) → is_module (hook_of call) ≡ true
is_module-hook_of (request_header before left error) = refl
is_module-hook_of (request_body before left end error) = refl
is_module-hook_of (response_header before left end error) = refl
is_module-hook_of (response_body before left end error) = refl
is_module-hook_of (response_trailer before left answer error) = refl
is_module-hook_of (response_done answer error) = refl

-- ---- a call of the application's

-- the head that an entry tells, or else the one before, is the head behind the call
pub told_head-stands : (touched : Bool) (left before : RequestHead) → (touched ≡ false → left ≡ before)
    → left ≡ unwrap_or (told_head touched left) before
told_head-stands true left before untouched = refl
told_head-stands false left before untouched = untouched refl

module _ (app : Standing → LogEntry → Type 0) (modules : ModuleCall → Type 0) (peer : Option Peer)
    (reused : Bool) (which : Hook) (input : Item) (old : Seen) (before : ℕ) (new : Seen)
    (behind : ℕ) (left : Left)
    (call : CallsOf peer reused Leaves app which input old before new behind left) where
  -- its entry
  abbrev entered : LogEntry
  entered = entry which input (moment (cleared old) before) left (moment call.returned behind)

  -- behind the call stands what its entry tells
  Views-behind : Views (after (standing peer reused (moment old before)) entered)
      (standing peer reused (moment new behind))
  Views-behind =
      record {
        mark = refl;
        head =
            ap request_head call.rest
            ∙ told_head-stands call.returned.touched (request_head call.returned) (request_head old)
            (λ h. ap (λ (r : Reading). unwrap_or (head_of r) (new_request [] []))
            (call.lawful.request.untouched h));
        keepalive = ap (λ (s : Seen). s.keepalive) call.rest;
        final_head =
            subst (λ (s : Seen). has_head old.downstream.writing.place ≡ true
            → has_head s.downstream.writing.place ≡ true) (sym call.rest)
            (subst (λ (s : Seen). has_head old.downstream.writing.place ≡ true
            → has_head s.downstream.writing.place ≡ true) (sym call.lawful.rest) (λ h. h));
        upgraded = λ h. h;
      }

  -- the call is a walk of its one entry
  pub CallsOf-walks : is_module which ≡ false
      → Walk (IsAllowed app modules) (standing peer reused (moment old before)) (entered ∷ [])
      (standing peer reused (moment new behind))
  CallsOf-walks is_app = (
    standing peer reused (moment old before),
    Views-same _,
    record {
      mark = refl;
      view = refl;
      by_module = LeavesIf-app _ _ _ is_app;
    },
    AllowsBy-app _ app modules _ _ is_app call.allowed,
    Views-behind,
  )

-- a log that walked up to the call walks on past it
pub Calls-walks : (app : Standing → LogEntry → Type 0) (modules : ModuleCall → Type 0)
    (which : Hook) (input : Item) (old : Seen) (before : ℕ) (new : Seen) (behind : ℕ) (left : Left)
    → is_module which ≡ false → Calls app which input old before new behind left
    → WalksOn (IsAllowed app modules) old before new behind
Calls-walks app modules which input old before new behind left is_app call from walked =
    subst
    (λ (es : List LogEntry).
    Walk (IsAllowed app modules) from es (standing None false (moment new behind)))
    (sym call.log)
    (Walk-append (IsAllowed app modules) old.log _ from (standing None false (moment old before))
    (standing None false (moment new behind)) walked
    (CallsOf-walks app modules None false which input old before new behind left call is_app))

-- ---- a call of the modules'

-- the call is a walk of its one entry
CallsModule-walk : (app : Standing → LogEntry → Type 0) (modules : ModuleCall → Type 0) (old : Seen)
    (mark : ℕ) (new : Seen) (call : ModuleCall) → CallsModule modules old mark new call
    → Walk (IsAllowed app modules) (standing None false (moment old mark))
    (module_entry call (moment (cleared old) mark) ∷ []) (standing None false (moment new mark))
CallsModule-walk app modules old mark new call made = (
  standing None false (moment old mark),
  Views-same _,
  record {
    mark = refl;
    view = refl;
    by_module =
        LeavesIf-modules _ _ _
        (record { mark = refl; keepalive = refl; wrote = refl; delay = refl });
  },
  AllowsBy-modules _ app modules _ _ call (is_module-hook_of call)
      (record { hook = refl; input = refl; output = refl; error = refl })
      made.allowed,
  record {
    mark = refl;
    head = ap request_head made.rest;
    keepalive = ap (λ (s : Seen). s.keepalive) made.rest;
    final_head =
        subst (λ (s : Seen). has_head old.downstream.writing.place ≡ true
        → has_head s.downstream.writing.place ≡ true) (sym made.rest) (λ h. h);
    upgraded = λ h. h;
  },
)

-- a log that walked up to the call walks on past it
pub CallsModule-walks : (app : Standing → LogEntry → Type 0) (modules : ModuleCall → Type 0)
    (old : Seen) (mark : ℕ) (new : Seen) (call : ModuleCall)
    → CallsModule modules old mark new call → WalksOn (IsAllowed app modules) old mark new mark
CallsModule-walks app modules old mark new call made from walked =
    subst
    (λ (es : List LogEntry).
    Walk (IsAllowed app modules) from es (standing None false (moment new mark)))
    (sym made.log)
    (Walk-append (IsAllowed app modules) old.log _ from (standing None false (moment old mark))
    (standing None false (moment new mark)) walked
    (CallsModule-walk app modules old mark new call made))

-- ---- where it was entered

-- what follows from a call follows where it was entered
pub Enters-map : {T : Type 0} (came : Option T) (made then : T → Type 0) (old new : Seen)
    → ((left : T) → made left → then left) → Enters came made old new → Enters came then old new
Enters-map (Some left) made then old new follows entered = follows left entered
Enters-map None made then old new follows entered = entered
