-- Each law of a hook leaves the log.
use Rattle.std.proofs.Common.{◌≡◌, Bool, true, false, Result, Ok, Err, Some, inl, inr, sym, ap, is_some, true≢false}
use Rattle.relay_tasks.specs.declared.error.Fail.{Fail}
use Rattle.relay_tasks.specs.declared.error.Fail.TheVariants as fail
use Rattle.relay_modules.specs.declared.seen.Seen.{Seen}
use Rattle.relay_tasks.specs.declared.log.Item.{Item}
use Rattle.relay_hooks.specs.Call.{Left, changed}
use Rattle.relay_hooks.specs.Session.{Leaves, Queues}
use Rattle.relay_hooks.specs.Laws.{LeavesUnless, AnswersOnYes, AnswersOnNo, AnswersOnce}

-- a hook that queues nothing
pub Leaves-log : (old new : Seen) → Leaves old new → new.log ≡ old.log
Leaves-log old new leaves = ap (λ seen. seen.log) leaves.rest

-- a hook that queued
pub Queues-log : (old new : Seen) → Queues old new → new.log ≡ old.log
Queues-log old new queues = ap (λ seen. seen.log) queues.rest

-- a hook that queues nothing, whatever it answers
pub LeavesUnless-log : {T : Type 0} (answer : Result T Fail) (old new : Seen)
    → LeavesUnless answer old new → new.log ≡ old.log
LeavesUnless-log (Ok value) old new law = Leaves-log old new law
LeavesUnless-log (Err (fail.Error error)) old new law = Leaves-log old new law
LeavesUnless-log (Err fail.OutOfMemory) old new law = law

-- a hook that answers with true
pub AnswersOnYes-log : (answer : Result Bool Fail) (old new : Seen)
    → AnswersOnYes answer old new → new.log ≡ old.log
AnswersOnYes-log (Ok true) old new (queues, whole) = Queues-log old new queues
AnswersOnYes-log (Ok false) old new law = Leaves-log old new law
AnswersOnYes-log (Err (fail.Error error)) old new law = Leaves-log old new law
AnswersOnYes-log (Err fail.OutOfMemory) old new law = law

-- a hook that answers with false
pub AnswersOnNo-log : (answer : Result Bool Fail) (old new : Seen)
    → AnswersOnNo answer old new → new.log ≡ old.log
AnswersOnNo-log (Ok true) old new law = Leaves-log old new law
AnswersOnNo-log (Ok false) old new (inl leaves) = Leaves-log old new leaves
AnswersOnNo-log (Ok false) old new (inr (queues, whole)) = Queues-log old new queues
AnswersOnNo-log (Err (fail.Error error)) old new law = Leaves-log old new law
AnswersOnNo-log (Err fail.OutOfMemory) old new law = law

-- a hook that answers once
pub AnswersOnce-log : {T : Type 0} (answer : Result T Fail) (old new : Seen)
    → AnswersOnce answer old new → new.log ≡ old.log
AnswersOnce-log (Ok value) old new (inl leaves) = Leaves-log old new leaves
AnswersOnce-log (Ok value) old new (inr (queues, open_to, once)) = Queues-log old new queues
AnswersOnce-log (Err (fail.Error error)) old new law = Leaves-log old new law
AnswersOnce-log (Err fail.OutOfMemory) old new law = law

-- a hook that queues nothing, wherever what it left is told
pub leaves_told : (output : Item) (left : Left) (answer : Result Unit Fail) (old new : Seen)
    → changed output answer ≡ Some left → LeavesUnless answer old new → Leaves old new
leaves_told output left (Ok done) old new is law = law
leaves_told output left (Err (fail.Error error)) old new is law = law
leaves_told output left (Err fail.OutOfMemory) old new is law =
    absurd (true≢false (sym (ap is_some is)))
