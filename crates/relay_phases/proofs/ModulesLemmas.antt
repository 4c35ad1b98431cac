-- The filter of the modules for the head of a request, which stands in the log.
use Rattle.std.proofs.Common.{◌≡◌, ℕ, List, [], ◌∷◌, ◌++◌, Option, Some, None, Result, Ok, Err, refl, sym, ap, subst, ◌∙◌, unwrap_or, is_some, true≢false}
use Rattle.relay_tasks.specs.Head.{RequestHead, new_request}
use Rattle.relay_tasks.specs.declared.error.Error.{Error}
use Rattle.relay_tasks.specs.declared.error.Fail.{Fail}
use Rattle.relay_tasks.specs.declared.error.Fail.TheVariants as fail
use Rattle.relay_tasks.specs.declared.hook.Hook.{Hook}
use Rattle.relay_tasks.specs.declared.hook.Hook.TheVariants as hook
use Rattle.relay_tasks.specs.declared.log.Item.{Item}
use Rattle.relay_tasks.specs.declared.log.Item.TheVariants as item
use Rattle.relay_tasks.specs.declared.log.LogEntry.{LogEntry}
use Rattle.relay_session.specs.Reading.{head_of, with_head}
use Rattle.relay_session.specs.declared.reading.Reading.{Reading}
use Rattle.relay_session.specs.declared.reading.Reading.TheVariants as reading
use Rattle.relay_modules.specs.Filtering.{FiltersHead, FiltersRequest}
use Rattle.relay_modules.specs.Lent.{with_touched}
use Rattle.relay_modules.specs.Module.{ModuleCall, request_header}
use Rattle.relay_modules.specs.Seen.{view_of}
use Rattle.relay_modules.specs.declared.seen.Seen.{Seen}
use Rattle.relay_hooks.specs.Call.{Left, changed, entry}
use Rattle.relay_hooks.specs.Session.{moment, request_head}
use Rattle.relay_hooks.specs.Standing.{Moment}
use Rattle.relay_calls.specs.Calls.{Enters}
use Rattle.relay_calls.specs.Entry.{cleared, told, with_entry}
use Rattle.relay_calls.specs.Modules.{left_by}
use Rattle.relay_calls.specs.declared.entry.Begun.{Begun}
use Rattle.relay_calls.specs.declared.entry.Outcome.{Outcome}
use Rattle.relay_phases.specs.Modules.{CallsOnHead, told_error}
use Rattle.relay_phases.specs.Settled.{left_of}

-- the filter leaves the log, whatever it answers
pub filters_log : (allows : ModuleCall → Type 0) (answer : Result Unit Fail) (old new : Seen)
    → FiltersRequest allows answer old new → new.log ≡ old.log
filters_log allows (Ok done) old new filters = ap (λ seen. seen.log) filters.rest
filters_log allows (Err (fail.Error error)) old new filters = ap (λ seen. seen.log) filters.rest
filters_log allows (Err fail.OutOfMemory) old new (head, rest) = ap (λ seen. seen.log) rest

-- a head that was put in the place of another stands there
head_of-with_head : (r : Reading) (before head : RequestHead) → head_of r ≡ Some before
    → head_of (with_head r head) ≡ Some head
head_of-with_head reading.Head before head stood =
    absurd (true≢false (sym (ap is_some stood)))
head_of-with_head (reading.Body request) before head stood = refl

-- the entry that a call is told by, from its parts
told_is : (which : Hook) (input : Item) (old : Seen) (mark : ℕ) (begun : Begun) (outcome : Outcome)
    (left : Left) (m m' : Moment)
    → begun ≡ record { hook = which; mark = mark; input = input; view = view_of old }
    → left ≡ left_of outcome → m ≡ m'
    → told begun outcome m ≡ entry which input (moment (cleared old) mark) left m'
told_is which input old mark begun outcome left m m' is_begun is_left is_moment =
    ap (λ b. told b outcome m) is_begun
    ∙ (ap (λ l. entry which input (moment (cleared old) mark) l m) (sym is_left)
    ∙ ap (λ n. entry which input (moment (cleared old) mark) left n) is_moment)

-- the call of a filter that did not want memory
stands : (allows : ModuleCall → Type 0) (old returned new : Seen) (mark : ℕ) (error : Option Error)
    (begun : Begun) (outcome : Outcome) (head : RequestHead)
    → FiltersHead allows error (cleared old) returned
    → head_of returned.downstream.reading ≡ Some head
    → begun ≡ record {
      hook = hook.ModuleRequestHeader;
      mark = mark;
      input = item.Request (request_head old);
      view = view_of old;
    }
    → record { output = item.Request head; error = error; delay = None } ≡ left_of outcome
    → new ≡ with_entry returned (told begun outcome (moment returned mark))
    → CallsOnHead allows old mark new error
stands allows old returned new mark error begun outcome head filters shown is_begun is_left is_new =
    let after : RequestHead = filters.after in
    let is_before : request_head old ≡ filters.before =
    ap (λ (o : Option RequestHead). unwrap_or o (new_request [] [])) filters.stood in
    let is_shown : Some head ≡ Some after =
    sym shown
    ∙ (ap (λ (s : Seen). head_of s.downstream.reading) filters.rest
    ∙ head_of-with_head old.downstream.reading filters.before after filters.stood) in
    let is_head : head ≡ after =
    ap (λ (o : Option RequestHead). unwrap_or o head) is_shown in
    let e : LogEntry =
    entry hook.ModuleRequestHeader (item.Request (request_head old)) (moment (cleared old) mark)
    (left_by (request_header (request_head old) after error))
    (moment (with_touched (cleared old) after) mark) in
    let is_entry : told begun outcome (moment returned mark) ≡ e =
    told_is hook.ModuleRequestHeader (item.Request (request_head old)) old mark begun outcome
    (left_by (request_header (request_head old) after error)) (moment returned mark)
    (moment (with_touched (cleared old) after) mark) is_begun
    (ap (λ (h : RequestHead). record { output = item.Request h; error = error; delay = None })
    (sym is_head)
    ∙ is_left)
    (ap (λ (s : Seen). moment s mark) filters.rest) in
    let grows : new.log ≡ returned.log ++ e ∷ [] =
    ap (λ (s : Seen). s.log) is_new
    ∙ ap (λ (last : LogEntry). returned.log ++ last ∷ []) is_entry in
    let log : new.log ≡ old.log ++ e ∷ [] =
    grows ∙ ap (λ (s : Seen). s.log ++ e ∷ []) filters.rest in
    record {
      head = after;
      allowed =
          subst (λ (b : RequestHead). allows (request_header b after error)) (sym is_before)
          filters.allowed;
      log = log;
      rest =
          is_new
          ∙ (ap (λ (l : List LogEntry). record returned { log = l; wrote = [] })
          (sym (ap (λ (s : Seen). s.log) is_new))
          ∙ ap (λ (s : Seen). record s { log = new.log; wrote = [] }) filters.rest);
    }

-- the call of the filter was entered behind it
pub entered_head : (allows : ModuleCall → Type 0) (old returned new : Seen) (mark : ℕ)
    (answer : Result Unit Fail) (begun : Begun) (outcome : Outcome) (head : RequestHead)
    → FiltersRequest allows answer (cleared old) returned
    → head_of returned.downstream.reading ≡ Some head
    → begun ≡ record {
      hook = hook.ModuleRequestHeader;
      mark = mark;
      input = item.Request (request_head old);
      view = view_of old;
    }
    → changed (item.Request head) answer ≡ Some (left_of outcome)
    → new ≡ with_entry returned (told begun outcome (moment returned mark))
    → Enters (told_error answer) (CallsOnHead allows old mark new) old new
entered_head allows old returned new mark (Ok done) begun outcome head filters shown is_begun
    is_left
    is_new =
    stands allows old returned new mark None begun outcome head filters shown is_begun
    (ap (λ (o : Option Left). unwrap_or o (left_of outcome)) is_left) is_new
entered_head allows old returned new mark (Err (fail.Error error)) begun outcome head filters shown
    is_begun is_left is_new =
    stands allows old returned new mark (Some error) begun outcome head filters shown is_begun
    (ap (λ (o : Option Left). unwrap_or o (left_of outcome)) is_left) is_new
entered_head allows old returned new mark (Err fail.OutOfMemory) begun outcome head filters shown
    is_begun is_left is_new =
    absurd (true≢false (sym (ap is_some is_left)))
