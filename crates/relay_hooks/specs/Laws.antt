-- The laws of hooks: what each may do beside answering (RFC 9110, sections 8.6 and 15.2; RFC 9112,
-- section 6.1). A hook that answers out of memory may leave much behind, but never another log.
use Rattle.std.specs.Prelude.{◌≡◌, Bool, true, false, ◌||◌, ◌⊎◌, [], ◌∷◌, codes, map, Result, Ok, Err}
use Rattle.http_header.specs.HeaderMap.{get_all}
use Rattle.relay_tasks.specs.Head.{ResponseHead}
use Rattle.relay_tasks.specs.declared.error.Fail.{Fail}
use Rattle.relay_tasks.specs.declared.error.Fail.TheVariants as fail
use Rattle.relay_h1.specs.ClientHead.{is_informational}
use Rattle.relay_modules.specs.declared.seen.Seen.{Seen}
use Rattle.relay_hooks.specs.Answer.{is_whole, only_informs, is_answer}
use Rattle.relay_hooks.specs.Session.{Leaves, Queues, is_answered}

-- ---- what a hook queues

-- a hook that queues nothing, whatever it answers
abbrev pub LeavesUnless : {T : Type 0} → Result T Fail → Seen → Seen → Type 0
LeavesUnless (Ok answer) old new = Leaves old new
LeavesUnless (Err (fail.Error error)) old new = Leaves old new
LeavesUnless (Err fail.OutOfMemory) old new = new.log ≡ old.log

-- with true it queued one whole final answer, else nothing
abbrev pub AnswersOnYes : Result Bool Fail → Seen → Seen → Type 0
AnswersOnYes (Ok true) old new = Queues old new × (is_whole new.wrote ≡ true)
AnswersOnYes (Ok false) old new = Leaves old new
AnswersOnYes (Err (fail.Error error)) old new = Leaves old new
AnswersOnYes (Err fail.OutOfMemory) old new = new.log ≡ old.log

-- with false it queued nothing, informational heads, or one whole final answer; else nothing
abbrev pub AnswersOnNo : Result Bool Fail → Seen → Seen → Type 0
AnswersOnNo (Ok false) old new =
    Leaves old new
    ⊎ (Queues old new × (is_whole new.wrote || only_informs new.wrote ≡ true))
AnswersOnNo (Ok true) old new = Leaves old new
AnswersOnNo (Err (fail.Error error)) old new = Leaves old new
AnswersOnNo (Err fail.OutOfMemory) old new = new.log ≡ old.log

-- it queued nothing, or one answer where no final head was queued before
abbrev pub AnswersOnce : {T : Type 0} → Result T Fail → Seen → Seen → Type 0
AnswersOnce (Ok answer) old new =
    Leaves old new
    ⊎ (Queues old new × (is_answered old ≡ false) × (is_answer new.wrote ≡ true))
AnswersOnce (Err (fail.Error error)) old new = Leaves old new
AnswersOnce (Err fail.OutOfMemory) old new = new.log ≡ old.log

-- ---- what a hook does to a head

-- a informational head stays one, and a final head stays one
abbrev pub KeepsKind : ResponseHead → ResponseHead → Type 0
KeepsKind old new = is_informational new.status ≡ is_informational old.status

-- the same, wherever the hook answered anything but out of memory
abbrev pub KeepsKindUnless : {T : Type 0} → Result T Fail → ResponseHead → ResponseHead → Type 0
KeepsKindUnless (Ok answer) old new = KeepsKind old new
KeepsKindUnless (Err (fail.Error error)) old new = KeepsKind old new
KeepsKindUnless (Err fail.OutOfMemory) old new = Unit {0}

-- a final head behind which no body comes: its length is 0, and nothing is coded
pub record IsBodiless (head : ResponseHead) : Type 0 where
  pub is_final : is_informational head.status ≡ false
  pub length_0 :
      map (λ value. value.bytes) (get_all head.fields (codes "content-length")) ≡ codes "0" ∷ []
  pub uncoded : get_all head.fields (codes "transfer-encoding") ≡ []
