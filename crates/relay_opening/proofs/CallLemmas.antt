-- One call of a hook, as the hooks before the attempts make it.
use Rattle.std.proofs.Common.{◌≡◌, ℕ, true, false, Option, None, List, [], ◌∷◌, refl, sym, ap, subst, ◌∙◌, true≢false}
use Rattle.std.specs.Prelude.{IsSome}
use Rattle.relay_tasks.specs.Head.{RequestHead}
use Rattle.relay_tasks.specs.declared.error.Error.{Error}
use Rattle.relay_tasks.specs.declared.hook.Hook.TheVariants as hook
use Rattle.relay_tasks.specs.declared.log.Item.TheVariants as item
use Rattle.relay_tasks.specs.declared.log.LogEntry.{LogEntry}
use Rattle.relay_tasks.specs.declared.task.HttpTask.{HttpTask}
use Rattle.relay_session.specs.Reading.{head_of, with_head}
use Rattle.relay_session.specs.declared.reading.Reading.{Reading}
use Rattle.relay_session.specs.declared.reading.Reading.TheVariants as reading
use Rattle.relay_modules.specs.Lent.{with_touched}
use Rattle.relay_modules.specs.Module.{ModuleCall, request_header}
use Rattle.relay_modules.specs.Seen.{Notes}
use Rattle.relay_modules.specs.declared.seen.Seen.{Seen}
use Rattle.relay_hooks.specs.Standing.{Standing, standing}
use Rattle.relay_hooks.specs.Call.{entry}
use Rattle.relay_hooks.specs.Session.{is_answered, moment, request_head}
use Rattle.relay_calls.specs.Entry.{cleared}
use Rattle.relay_calls.specs.Log.{IsAllowed}
use Rattle.relay_calls.specs.Modules.{left_by}
use Rattle.relay_calls.proofs.LogLemmas.{Views-same, Walk-append}
use Rattle.relay_phases.specs.Modules.{CallsOnHead}
use Rattle.relay_phases.specs.Turns.{CallsOnce, KeepsRest, QueuesNothing, ReadsNothing}
use Rattle.relay_phases.proofs.TurnLemmas.{KeepsRest-trans}

-- ---- what is queued behind a call

-- the relay's own answer behind a call is no call
pub CallsOnce-noted : (allows : Standing → LogEntry → Type 0) (old : Seen) (before : ℕ)
    (mid new : Seen)
    (behind : ℕ) (e : LogEntry) (tasks : List HttpTask) → is_answered mid ≡ false
    → Notes tasks mid new → CallsOnce allows old before mid behind e
    → CallsOnce allows old before new behind e
CallsOnce-noted allows old before mid new behind e tasks open_to notes calls =
    record {
      log = ap (λ (s : Seen). s.log) notes.rest ∙ calls.log;
      walk =
          Walk-append allows (e ∷ []) [] (standing None false (moment old before))
          (standing None false (moment mid behind)) (standing None false (moment new behind))
          calls.walk
          (record {
            mark = refl;
            head = ap request_head notes.rest;
            keepalive = ap (λ (s : Seen). s.keepalive) notes.rest;
            final_head = λ h. absurd (true≢false (sym h ∙ open_to));
            upgraded = λ h. h;
          });
      reads =
          subst (λ (s : Seen). ReadsNothing old s) (sym notes.rest)
          (record { head = calls.reads.head; but_head = calls.reads.but_head });
      rest =
          KeepsRest-trans old mid new calls.rest
          (subst (λ (s : Seen). KeepsRest mid s) (sym notes.rest) refl);
    }

-- ---- the call of the modules

-- a head in the place of another is read, and nothing else of the request is
with_head-reads : (r : Reading) (head : RequestHead) → IsSome (head_of r)
    → IsSome (head_of (with_head r head))
with_head-reads reading.Head head some = some
with_head-reads (reading.Body request) head some = refl

with_head-twice : (r : Reading) (first next : RequestHead)
    → with_head (with_head r first) next ≡ with_head r next
with_head-twice reading.Head first next = refl
with_head-twice (reading.Body request) first next = refl

module _ (app : Standing → LogEntry → Type 0) (allows modules : ModuleCall → Type 0) (old : Seen)
    (mark : ℕ) (new : Seen) (error : Option Error) (call : CallsOnHead allows old mark new error)
  where
    -- its entry
    abbrev pub entered_head : LogEntry
    entered_head =
        entry hook.ModuleRequestHeader (item.Request (request_head old)) (moment (cleared old) mark)
        (left_by (request_header (request_head old) call.head error))
        (moment (with_touched (cleared old) call.head) mark)

    -- it is one call, allowed by the modules
    pub Calls-head : ((c : ModuleCall) → allows c → modules c)
        → CallsOnce (IsAllowed app modules) old mark new mark entered_head
    Calls-head includes =
        record {
          log = call.log;
          walk = (
            standing None false (moment old mark),
            Views-same _,
            record {
              mark = refl;
              view = refl;
              by_module =
                  record { mark = refl; keepalive = refl; wrote = refl; delay = refl };
            },
            (
              request_header (request_head old) call.head error,
              record { hook = refl; input = refl; output = refl; error = refl },
              includes _ call.allowed,
            ),
            record {
              mark = refl;
              head = ap request_head call.rest;
              keepalive = ap (λ (s : Seen). s.keepalive) call.rest;
              final_head =
                  subst (λ (s : Seen). is_answered old ≡ true → is_answered s ≡ true)
                  (sym call.rest) (λ h. h);
              upgraded = λ h. h;
            },
          );
          reads =
              subst (λ (s : Seen). ReadsNothing old s) (sym call.rest)
              (record {
                head = with_head-reads old.downstream.reading call.head;
                but_head = with_head-twice old.downstream.reading call.head;
              });
          rest = subst (λ (s : Seen). KeepsRest old s) (sym call.rest) refl;
        }

    -- nothing was queued
    pub queued_nothing_of_head :
        QueuesNothing old.downstream.writing new.downstream.writing entered_head.wrote
    queued_nothing_of_head =
        record {
          same = ap (λ (s : Seen). s.downstream.writing) call.rest;
          wrote_none = refl;
        }
