-- An answer that a rule gives is a whole final answer.
use Rattle.std.proofs.Common.{◌≡◌, ℕ, ◌≤◌, ◌<◌, true, false, List, [], ◌∷◌, ◌++◌, refl, sym, ap, subst, ◌∙◌, inl, inr, arith}
use Rattle.std.proofs.lemmas.Bool.{cases_Bool}
use Rattle.std.proofs.lemmas.Bool.Decides.{nat_tests}
use Rattle.std.specs.List.{list_all}
use Rattle.std.specs.Prelude.{Bool, ◌&&◌, nat_le, nat_lt, Result, Ok, Err}
use Rattle.relay_tasks.specs.Head.{IsStatus}
use Rattle.relay_tasks.specs.declared.error.Error.{Error}
use Rattle.relay_tasks.specs.declared.error.Fail.{Fail}
use Rattle.relay_tasks.specs.declared.error.Fail.TheVariants as fail
use Rattle.relay_tasks.specs.declared.hook.Hook.{Hook}
use Rattle.relay_tasks.specs.declared.task.HttpTask.{HttpTask}
use Rattle.relay_h1.specs.ClientHead.{is_informational}
use Rattle.relay_session.specs.Generated.{IsFaultOrMemory, IsKeptFault, answer_tasks, generated_head}
use Rattle.relay_session.specs.Reading.{with_head}
use Rattle.relay_session.specs.Response.{GoesOnWith, has_head}
use Rattle.relay_session.specs.declared.task_text.Place.{Place}
use Rattle.relay_session.specs.declared.task_text.Place.TheVariants as place
use Rattle.relay_session.specs.declared.writing.Outgoing.{Outgoing}
use Rattle.relay_session.specs.declared.writing.Outgoing.TheVariants as outgoing
use Rattle.relay_session.specs.declared.writing.Writing.{Writing}
use Rattle.relay_modules.specs.Seen.{Notes, Responds}
use Rattle.relay_modules.specs.declared.seen.Seen.{Seen}
use Rattle.relay_hooks.specs.Answer.{is_whole}
use Rattle.relay_hooks.specs.DefaultLaw.{lone_answer}
use Rattle.relay_hooks.specs.Session.{MayAnswer, Queues}
use Rattle.relay_script.proofs.FoldLemmas.{both_true}
use Rattle.relay_script.specs.Fold.{apply_rules}
use Rattle.relay_tasks.specs.Hooks.{same_hook}
use Rattle.relay_script.specs.Lawful.{has_code, is_final_code}
use Rattle.relay_script.specs.declared.rule.Action.{Action}
use Rattle.relay_script.specs.declared.rule.Action.TheVariants as action
use Rattle.relay_script.specs.declared.rule.Rule.{Rule}
use Rattle.relay_scripted.specs.Decision.{on_reply}
use Rattle.relay_scripted.specs.Reply.{AnswersWith, IsFinalReply, IsWriteFault}
use Rattle.relay_scripted.specs.declared.decision.Reply.{Reply}

-- ---- the code of an answer

-- an action with a code of a final head leaves the answer a final one
action_final : (act : Action) (given : Reply) → has_code act ≡ true → IsFinalReply given
    → IsFinalReply (on_reply act given)
action_final (action.Set name value) given code final = final
action_final (action.Remove name) given code final = final
action_final (action.Status status) given code final = final
action_final action.Drop given code final = final
action_final (action.Text text) given code final = final
action_final (action.Answer status say) given code final = code
action_final (action.Error etype) given code final = final
action_final (action.Retry mark) given code final = final
action_final (action.Say say) given code final = final
action_final (action.Keep value) given code final = final
action_final (action.Inject up down) given code final = final

-- so do rules with such codes
pub reply_final : (on : Hook) (rules : List Rule) (given : Reply)
    → list_all (λ rule. has_code rule.action) rules ≡ true → IsFinalReply given
    → IsFinalReply (apply_rules on_reply on rules given)
reply_final on [] given codes final = final
reply_final on (rule ∷ rules) given codes final =
    let parts =
    both_true (has_code rule.action) (list_all (λ rule. has_code rule.action) rules) codes in
    elim (cases_Bool (same_hook rule.hook on)) [
      | inl same ↦
          rw same
          (reply_final on rules (on_reply rule.action given) parts.1
          (action_final rule.action given parts.0 final))
      | inr off ↦ rw off (reply_final on rules given parts.1 final)
    ]

-- it is 200 at least
from_200 : (code : ℕ) → nat_le 200 code ≡ true → 200 ≤ code
from_200 code h = grind (arith, nat_tests)

-- and has three digits
below_1000 : (code : ℕ) → nat_lt code 1000 ≡ true → code < 1000
below_1000 code h = grind (arith, nat_tests)

-- a code of a final head is a status
pub final_status : (code : ℕ) → is_final_code code ≡ true → IsStatus code
final_status code final =
    let parts = both_true (nat_le 200 code) (nat_lt code 1000) final in
    record {
      from_100 = omega (arith, from_200 code parts.0);
      below_1000 = below_1000 code parts.1;
    }

-- what is false with anything is false
and_false : (b : Bool) → (b && false) ≡ false
and_false true = refl
and_false false = refl

-- a status of 200 and more is not below 200
not_below : (code : ℕ) → nat_le 200 code ≡ true → nat_lt code 200 ≡ false
not_below code h = grind (arith, nat_tests)

-- a head with such a code is final
final_head : (code : ℕ) → is_final_code code ≡ true → is_informational code ≡ false
final_head code final =
    rw (
      not_below code (both_true (nat_le 200 code) (nat_lt code 1000) final).0,
      and_false (nat_le 100 code),
    )

-- the answer with such a code is whole
pub lone_answer_whole : (code : ℕ) → is_final_code code ≡ true → is_whole (lone_answer code) ≡ true
unfolding generated_head
lone_answer_whole code final = rw (final_head code final)

-- ---- its failure

-- a failure that is not out of memory is the fault of a write that failed before
write_fault : (output : Outgoing) (error : Error) → IsFaultOrMemory output (fail.Error error)
    → IsWriteFault error
write_fault (outgoing.Open queue) error is = absurd cc
write_fault (outgoing.Broken fault) error is = record { fault = fault; is = cc }

-- and it is the one that is kept
kept_fault : (output : Outgoing) (error : Error) → IsFaultOrMemory output (fail.Error error)
    → IsKeptFault output (fail.Error error)
kept_fault (outgoing.Open queue) error is = absurd cc
kept_fault (outgoing.Broken fault) error is = is

-- ---- the call

-- where no final head was queued the answer is queued
no_head : (at : Place) (code : ℕ) → has_head at ≡ false → answer_tasks at code ≡ lone_answer code
no_head place.NoHead code none = refl
no_head (place.Body rest) code none = absurd cc
no_head place.Done code none = absurd cc

-- tasks that were noted were queued, and all else is as every hook leaves it
noted_queues : (tasks : List HttpTask) (old new : Seen) → Notes tasks old new → new.wrote ≡ tasks
    → Queues old new
noted_queues tasks old new notes wrote =
    let same = ap (λ (s : Seen). s.downstream.reading) notes.rest in
    record {
      request = record {
        head = λ some. rw same some;
        but_head = λ head. ap (λ (s : Seen). with_head s.downstream.reading head) notes.rest;
        untouched = λ _. same;
      };
      goes_on =
          subst
          (λ (more : List HttpTask). GoesOnWith old.downstream.writing new.downstream.writing more)
          (sym wrote) notes.queued.goes_on;
      answers_to = ap (λ (w : Writing). w.request) notes.queued.grows.grown;
      stays_open = λ _. (_, ap (λ (w : Writing). w.output) notes.queued.grows.grown);
      rest =
          subst
          (λ (s : Seen). s ≡ record old {
            downstream = s.downstream;
            touched = s.touched;
            wrote = s.wrote;
            keepalive = s.keepalive;
            tasks_enabled = s.tasks_enabled;
            headers_mutated = s.headers_mutated;
          }) (sym notes.rest) refl;
    }

-- a session that may be answered is answered with a final code
pub answers_with : (code : ℕ) (r : Result Unit Fail) (old new : Seen) → is_final_code code ≡ true
    → MayAnswer old → Responds (answer_tasks old.downstream.writing.place code) r old new
    → AnswersWith code r old new
answers_with code (Ok done) old new final may notes =
    let tasks = answer_tasks old.downstream.writing.place code in
    let wrote : new.wrote ≡ tasks =
    ap (λ (s : Seen). s.wrote) notes.rest
    ∙ ap (λ (front : List HttpTask). front ++ tasks) may.ready.fresh in
    let is = wrote ∙ no_head old.downstream.writing.place code may.open_to in
    record {
      queues = noted_queues tasks old new notes wrote;
      wrote = is;
      whole = ap (λ (queued : List HttpTask). is_whole queued) is ∙ lone_answer_whole code final;
      untouched = ap (λ (s : Seen). s.touched) notes.rest ∙ may.ready.untouched;
      keepalive = ap (λ (s : Seen). s.keepalive) notes.rest;
    }
answers_with code (Err (fail.Error error)) old new final may failed = (
  record {
    is_fault = write_fault old.downstream.writing.output error failed.0;
    is_kept = kept_fault old.downstream.writing.output error failed.0;
  },
  failed.1,
)
answers_with code (Err fail.OutOfMemory) old new final may same = same
