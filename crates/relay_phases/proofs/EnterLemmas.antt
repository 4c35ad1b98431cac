-- A call that was made and entered stands in the log.
use Rattle.std.proofs.Common.{◌≡◌, ℕ, Bool, [], ◌∷◌, ◌++◌, Option, Some, refl, sym, ap, subst, ◌∙◌}
use Rattle.relay_tasks.specs.declared.hook.Hook.{Hook}
use Rattle.relay_tasks.specs.declared.log.Item.{Item}
use Rattle.relay_tasks.specs.declared.log.LogEntry.{LogEntry}
use Rattle.relay_tasks.specs.declared.peer.Peer.{Peer}
use Rattle.relay_modules.specs.Seen.{view_of}
use Rattle.relay_modules.specs.declared.seen.Seen.{Seen}
use Rattle.relay_hooks.specs.Standing.{Standing}
use Rattle.relay_hooks.specs.Call.{Left, AskedOf, entry}
use Rattle.relay_hooks.specs.Session.{Leaves, moment}
use Rattle.relay_calls.specs.Calls.{Calls, CallsOf, Enters}
use Rattle.relay_calls.specs.Entry.{cleared, told, with_entry}
use Rattle.relay_calls.specs.declared.entry.Begun.{Begun}
use Rattle.relay_calls.specs.declared.entry.Outcome.{Outcome}
use Rattle.relay_phases.specs.Looks.{Looks, Stays}
use Rattle.relay_phases.specs.Settled.{left_of}

-- the call of a hook that kept its law and answered what the application allows was entered behind
-- it
pub entered : (peer : Option Peer) (reused : Bool) (law : Seen → Seen → Type 0)
    (allows : Standing → LogEntry → Type 0) (which : Hook) (input : Item) (old returned new : Seen)
    (before after : ℕ) (answer : Option Left) (begun : Begun) (outcome : Outcome)
    → begun ≡ record { hook = which; mark = before; input = input; view = view_of old }
    → answer ≡ Some (left_of outcome)
    → law (cleared old) returned
    → returned.log ≡ old.log
    → AskedOf peer reused allows which input (moment (cleared old) before) answer
    (moment returned after)
    → new ≡ with_entry returned (told begun outcome (moment returned after))
    → Enters answer (CallsOf peer reused law allows which input old before new after) old new
entered peer reused law allows which input old returned new before after answer begun outcome
    is_begun
    is_answer lawful stays allowed is_new =
    let e : LogEntry =
    entry which input (moment (cleared old) before) (left_of outcome) (moment returned after) in
    let is_entry : told begun outcome (moment returned after) ≡ e =
    ap (λ b. told b outcome (moment returned after)) is_begun in
    let grows : new.log ≡ returned.log ++ e ∷ [] =
    ap (λ seen. seen.log) is_new ∙ ap (λ last. returned.log ++ last ∷ []) is_entry in
    let log : new.log ≡ old.log ++ e ∷ [] = grows ∙ ap (λ before. before ++ e ∷ []) stays in
    let rest : new ≡ record returned { log = new.log; wrote = [] } =
    is_new
    ∙ ap (λ log. record returned { log = log; wrote = [] }) (sym (ap (λ seen. seen.log) is_new)) in
    let is_allowed : AskedOf peer reused allows which input (moment (cleared old) before)
    (Some (left_of outcome)) (moment returned after) =
    subst (λ left. AskedOf peer reused allows which input (moment (cleared old) before) left
    (moment returned after)) is_answer allowed in
    subst
    (λ left. Enters left (CallsOf peer reused law allows which input old before new after) old new)
    (sym is_answer)
    (record {
      returned = returned;
      lawful = lawful;
      allowed = is_allowed;
      log = log;
      rest = rest;
    })

-- a hook that left its session as it was kept every law of a hook that queues nothing
Stays-leaves : (old new : Seen) → Stays old new → Leaves old new
Stays-leaves old new same =
    subst (λ (s : Seen). Leaves old s) (sym same)
    (record {
      request = record { head = λ h. h; but_head = λ head. refl; untouched = λ h. refl };
      rest = refl;
    })

-- the call of a hook that only looks is one of a hook that queues nothing
pub Looks-calls : (allows : Standing → LogEntry → Type 0) (which : Hook) (input : Item) (mark : ℕ)
    (old new : Seen) (left : Left) → Looks allows which input mark old new left
    → Calls allows which input old mark new mark left
Looks-calls allows which input mark old new left looks =
    record {
      returned = looks.returned;
      lawful = Stays-leaves (cleared old) looks.returned looks.lawful;
      allowed = looks.allowed;
      log = looks.log;
      rest = looks.rest;
    }
