-- One call of an application's hook as a turn, and turns behind one another.
use Rattle.std.proofs.Common.{◌≡◌, ℕ, Bool, true, false, Option, Some, None, List, [], ◌∷◌, ◌++◌, refl, sym, ap, subst, ◌∙◌, unwrap_or, append-nil, append_assoc, true≢false}
use Rattle.relay_tasks.specs.Head.{new_request}
use Rattle.relay_tasks.specs.declared.hook.Hook.{Hook}
use Rattle.relay_tasks.specs.declared.log.Item.{Item}
use Rattle.relay_tasks.specs.declared.log.LogEntry.{LogEntry}
use Rattle.relay_tasks.specs.declared.peer.Peer.{Peer}
use Rattle.relay_tasks.specs.declared.task.HttpTask.{HttpTask}
use Rattle.relay_session.specs.Reading.{head_of}
use Rattle.relay_session.specs.Response.{GoesOnWith, Holds, IsOpen}
use Rattle.relay_session.specs.declared.reading.Reading.{Reading}
use Rattle.relay_session.specs.declared.writing.Writing.{Writing}
use Rattle.relay_modules.specs.Module.{ModuleCall}
use Rattle.relay_modules.specs.declared.seen.Seen.{Seen}
use Rattle.relay_hooks.specs.Standing.{Standing, Moment, standing}
use Rattle.relay_hooks.specs.Call.{Left, entry}
use Rattle.relay_hooks.specs.Session.{Leaves, Queues, SameRequest, is_answered, moment, request_head}
use Rattle.relay_calls.specs.Calls.{CallsOf}
use Rattle.relay_calls.specs.Entry.{cleared}
use Rattle.relay_calls.specs.Log.{IsAllowed, Views, after, is_module}
use Rattle.relay_calls.proofs.CallLemmas.{AllowsBy-app, LeavesIf-app, told_head-stands}
use Rattle.relay_calls.proofs.LogLemmas.{Views-same, Walk-append}
use Rattle.relay_phases.specs.Looks.{Looks}
use Rattle.relay_phases.specs.Order.{Station, next}
use Rattle.relay_phases.specs.Turns.{CallsOnce, HasCalled, KeepsRest, QueuesNothing, ReadsNothing, Rests, Turns, with_calls, wrote_in}
use Rattle.relay_phases.proofs.EnterLemmas.{Looks-calls}
use Rattle.relay_phases.proofs.OrderLemmas.{Accepts-one}

-- ---- what a hook left

-- a hook left the session as calls may leave it, and a final head that was queued stays so
pub record Kept (old new : Seen) : Type 0 where
  pub request : SameRequest old new
  pub final_head : is_answered old ≡ true → is_answered new ≡ true
  pub rest : KeepsRest old new

-- a hook that queues nothing did
pub Kept-leaves : (old new : Seen) → Leaves old new → Kept old new
Kept-leaves old new leaves =
    record {
      request = leaves.request;
      final_head =
          subst (λ (s : Seen). is_answered old ≡ true → is_answered s ≡ true) (sym leaves.rest)
          (λ h. h);
      rest = subst (λ (s : Seen). KeepsRest old s) (sym leaves.rest) refl;
    }

-- a hook that may answer did, where no final head was queued
pub Kept-queues : (old new : Seen) → is_answered old ≡ false → Queues old new → Kept old new
Kept-queues old new open_to queues =
    record {
      request = queues.request;
      final_head = λ h. absurd (true≢false (sym h ∙ open_to));
      rest = subst (λ (s : Seen). KeepsRest old s) (sym queues.rest) refl;
    }

-- ---- a call of the application's

-- a hook may be told of a peer: that changes nothing else of what stands before it
told_of : (peer : Option Peer) (reused : Bool) (at : Moment)
    → Views (standing None false at) (standing peer reused at)
told_of peer reused at =
    record {
      mark = refl;
      head = refl;
      keepalive = refl;
      final_head = λ h. h;
      upgraded = λ h. h;
    }

-- the hook may be told of a peer, or of none
module _ {peer : Option Peer} {reused : Bool} (app : Standing → LogEntry → Type 0)
    (modules : ModuleCall → Type 0) (law : Seen → Seen → Type 0) (which : Hook) (input : Item)
    (old : Seen) (before : ℕ) (new : Seen) (behind : ℕ) (left : Left)
    (call : CallsOf peer reused law app which input old before new behind left) where
  -- its entry
  abbrev pub entered : LogEntry
  entered = entry which input (moment (cleared old) before) left (moment call.returned behind)

  -- the session behind it is as the hook left it, but for the log
  kept_rest : KeepsRest (cleared old) call.returned → KeepsRest old new
  kept_rest rest =
      subst (λ (s : Seen). KeepsRest old s) (sym call.rest)
      (subst (λ (r : Seen). KeepsRest old (record r { log = new.log; wrote = [] })) (sym rest)
      refl)

  -- what stands behind it is what its entry tells
  views : Kept (cleared old) call.returned
      → Views (after (standing peer reused (moment old before)) entered)
      (standing None false (moment new behind))
  views kept =
      record {
        mark = refl;
        head =
            ap request_head call.rest
            ∙ told_head-stands call.returned.touched (request_head call.returned) (request_head old)
            (λ h. ap (λ (r : Reading). unwrap_or (head_of r) (new_request [] []))
            (kept.request.untouched h));
        keepalive = ap (λ (s : Seen). s.keepalive) call.rest;
        final_head =
            subst (λ (s : Seen). is_answered old ≡ true → is_answered s ≡ true) (sym call.rest)
            kept.final_head;
        upgraded = λ h. h;
      }

  -- it is one call, allowed by the application
  pub Calls-app : is_module which ≡ false → Kept (cleared old) call.returned
      → CallsOnce (IsAllowed app modules) old before new behind entered
  Calls-app is_app kept =
      record {
        log = call.log;
        walk = (
          standing peer reused (moment old before),
          told_of peer reused (moment old before),
          record { mark = refl; view = refl; by_module = LeavesIf-app _ _ _ is_app },
          AllowsBy-app _ app modules _ _ is_app call.allowed,
          views kept,
        );
        reads =
            subst (λ (s : Seen). ReadsNothing old s) (sym call.rest)
            (record { head = kept.request.head; but_head = kept.request.but_head });
        rest = kept_rest kept.rest;
      }

  -- a hook that queues nothing queued nothing, and noted so
  pub queued_nothing : Leaves (cleared old) call.returned
      → QueuesNothing old.downstream.writing new.downstream.writing entered.wrote
  queued_nothing leaves =
      record {
        same =
            ap (λ (s : Seen). s.downstream.writing) call.rest
            ∙ ap (λ (s : Seen). s.downstream.writing) leaves.rest;
        wrote_none = ap (λ (s : Seen). s.wrote) leaves.rest;
      }

  -- a hook that queued went on with what is noted
  pub queued_noted : Queues (cleared old) call.returned
      → GoesOnWith old.downstream.writing new.downstream.writing entered.wrote
  queued_noted queues =
      subst
      (λ (s : Seen). GoesOnWith old.downstream.writing s.downstream.writing call.returned.wrote)
      (sym call.rest) queues.goes_on

  -- it left the response that of the same request
  pub queued_answers_to : Queues (cleared old) call.returned
      → new.downstream.writing.request ≡ old.downstream.writing.request
  queued_answers_to queues =
      ap (λ (s : Seen). s.downstream.writing.request) call.rest ∙ queues.answers_to

  -- and open, where it was
  pub queued_open : Queues (cleared old) call.returned → IsOpen old.downstream.writing.output
      → IsOpen new.downstream.writing.output
  queued_open queues was_open =
      subst (λ (s : Seen). IsOpen s.downstream.writing.output) (sym call.rest)
      (queues.stays_open was_open)

-- such a call leads from the one station to the other, whatever stands behind it
abbrev pub Leads : Hook → Item → Moment → Left → Station → Station → Type 0
Leads which input at left from to =
    (behind : Moment) → next from (entry which input at left behind) ≡ Some to

-- the call of a hook that queues nothing is a turn
unfoldable pub leaves_turn : {peer : Option Peer} {reused : Bool}
    (app : Standing → LogEntry → Type 0) (modules : ModuleCall → Type 0) (which : Hook)
    → is_module which ≡ false → (input : Item) (old : Seen) (before : ℕ) (new : Seen) (mark : ℕ)
    (law : Seen → Seen → Type 0) (left : Left) (from to : Station)
    → ((r : Seen) → law (cleared old) r → Leaves (cleared old) r)
    → Leads which input (moment (cleared old) before) left from to
    → CallsOf peer reused law app which input old before new mark left
    → Turns (IsAllowed app modules) which from to QueuesNothing old before new mark
leaves_turn app modules which is_app input old before new mark law left from to keeps leads call =
    let leaves = keeps call.returned call.lawful in
    record {
      e = entered app modules law which input old before new mark left call;
      calls =
          Calls-app app modules law which input old before new mark left call is_app
          (Kept-leaves (cleared old) call.returned leaves);
      hook = refl;
      order = leads (moment call.returned mark);
      queued = queued_nothing app modules law which input old before new mark left call leaves;
    }

-- the call of a hook that only looks is one
unfoldable pub looks_turn : (app : Standing → LogEntry → Type 0) (modules : ModuleCall → Type 0)
    (which : Hook) → is_module which ≡ false → (input : Item) (old : Seen) (mark : ℕ) (new : Seen)
    (left : Left) (from to : Station)
    → Leads which input (moment (cleared old) mark) left from to
    → Looks app which input mark old new left
    → Turns (IsAllowed app modules) which from to QueuesNothing old mark new mark
looks_turn app modules which is_app input old mark new left from to leads looks =
    leaves_turn app modules which is_app input old mark new mark Leaves left from to (λ r h. h)
    leads (Looks-calls app which input mark old new left looks)

-- ---- what is left behind several calls

-- no task goes on
pub goes_on_with_nothing : (old : Writing) → GoesOnWith old old []
goes_on_with_nothing old tasks taken holds =
    subst (λ (l : List HttpTask). Holds old l taken) (sym (append-nil tasks)) holds

-- with calls twice, the last tell
pub KeepsRest-trans : (old mid new : Seen) → KeepsRest old mid → KeepsRest mid new
    → KeepsRest old new
KeepsRest-trans old mid new first next = next ∙ ap (λ (s : Seen). with_calls s new) first

-- nothing was read twice
pub ReadsNothing-trans : (old mid new : Seen) → ReadsNothing old mid → ReadsNothing mid new
    → ReadsNothing old new
ReadsNothing-trans old mid new first next =
    record {
      head = λ h. next.head (first.head h);
      but_head = λ head. next.but_head head ∙ first.but_head head;
    }

-- what two logs queued, one behind the other
pub wrote_in-append : (es fs : List LogEntry)
    → wrote_in (es ++ fs) ≡ wrote_in es ++ wrote_in fs
wrote_in-append [] fs = refl
wrote_in-append (e ∷ es) fs =
    ap (λ (l : List HttpTask). e.wrote ++ l) (wrote_in-append es fs)
    ∙ sym (append_assoc e.wrote (wrote_in es) (wrote_in fs))

-- ---- turns, so far

module _ (allows : Standing → LogEntry → Type 0) where
  -- before the first turn
  unfoldable pub HasCalled-none : (first : Seen) (mark : ℕ) (at : Station)
      → HasCalled allows first mark at at QueuesNothing first mark
  HasCalled-none first mark at =
      record {
        entries = [];
        log = sym (append-nil first.log);
        walks = Views-same _;
        order = refl;
        queued = record { same = refl; wrote_none = refl };
        reads = record { head = λ h. h; but_head = λ head. refl };
        rest = refl;
      }

  -- one turn more: behind turns that queued so, it queued so that all have queued so
  unfoldable pub HasCalled-more : (queued queues all : Writing → Writing → List HttpTask → Type 0)
      → ((a b c : Writing) (v w : List HttpTask) → queued a b v → queues b c w → all a c (v ++ w))
      → (first : Seen) (mark : ℕ) (which : Hook) (start from to : Station)
      (old : Seen) (before : ℕ) (new : Seen) (behind : ℕ)
      → HasCalled allows first mark start from queued old before
      → Turns allows which from to queues old before new behind
      → HasCalled allows first mark start to all new behind
  HasCalled-more queued queues all joins first mark which start from to old before new behind called
      turns =
      let wrote : wrote_in (called.entries ++ turns.e ∷ [])
      ≡ wrote_in called.entries ++ turns.e.wrote =
      wrote_in-append called.entries (turns.e ∷ [])
      ∙ ap (λ (l : List HttpTask). wrote_in called.entries ++ l) (append-nil turns.e.wrote) in
      record {
        entries = called.entries ++ turns.e ∷ [];
        log =
            turns.calls.log
            ∙ (ap (λ (l : List LogEntry). l ++ turns.e ∷ []) called.log
            ∙ append_assoc first.log called.entries (turns.e ∷ []));
        walks =
            Walk-append allows called.entries (turns.e ∷ [])
            (standing None false (moment first mark)) (standing None false (moment old before))
            (standing None false (moment new behind)) called.walks turns.calls.walk;
        order =
            Accepts-one start from to called.entries turns.e called.order turns.order;
        queued =
            subst
            (λ (l : List HttpTask). all first.downstream.writing new.downstream.writing l)
            (sym wrote)
            (joins first.downstream.writing old.downstream.writing new.downstream.writing
            (wrote_in called.entries) turns.e.wrote called.queued turns.queued);
        reads = ReadsNothing-trans first old new called.reads turns.calls.reads;
        rest = KeepsRest-trans first old new called.rest turns.calls.rest;
      }

  -- a turn that calls nothing leaves what the turns before it left
  pub HasCalled-rests : {P : Type 0} (first : Seen) (mark : ℕ) (start at : Station)
      (queues : Writing → Writing → List HttpTask → Type 0)
      (old : Seen) (before : ℕ) (new : Seen) (behind : ℕ) (there to : P)
      → Rests old before new behind there to → HasCalled allows first mark start at queues old before
      → HasCalled allows first mark start at queues new behind
  HasCalled-rests first mark start at queues old before new behind there to rests called =
      subst (λ (s : Seen). HasCalled allows first mark start at queues s behind) (sym rests.seen)
      (subst (λ (m : ℕ). HasCalled allows first mark start at queues old m) (sym rests.mark) called)

-- where nothing was queued before, all that was queued is the last
pub queues_behind_nothing : (queues : Writing → Writing → List HttpTask → Type 0)
    (a b c : Writing) (v w : List HttpTask) → QueuesNothing a b v → queues b c w
    → queues a c (v ++ w)
queues_behind_nothing queues a b c v w nothing queued =
    subst (λ (l : List HttpTask). queues a c (l ++ w)) (sym nothing.wrote_none)
    (subst (λ (o : Writing). queues o c w) nothing.same queued)

-- where nothing is queued any more, all that was queued is the first
pub queues_before_nothing : (queues : Writing → Writing → List HttpTask → Type 0)
    (a b c : Writing) (v w : List HttpTask) → queues a b v → QueuesNothing b c w
    → queues a c (v ++ w)
queues_before_nothing queues a b c v w queued nothing =
    subst (λ (l : List HttpTask). queues a c l)
    (sym (ap (λ (l : List HttpTask). v ++ l) nothing.wrote_none ∙ append-nil v))
    (subst (λ (n : Writing). queues a n v) (sym nothing.same) queued)
