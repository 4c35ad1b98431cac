-- What the relay makes of a request that its application declined.
use Rattle.std.specs.Prelude.{◌≡◌, Bool, true, false}
use Rattle.relay_tasks.specs.declared.error.Fail.{Fail}
use Rattle.relay_session.specs.Generated.{IsFaultOrMemory}
use Rattle.relay_modules.specs.Seen.{Notes, OrMemory}
use Rattle.relay_modules.specs.declared.seen.Seen.{Seen}
use Rattle.relay_hooks.specs.DefaultLaw.{lone_answer}
use Rattle.relay_hooks.specs.Session.{is_answered}
use Rattle.relay_opening.specs.declared.place.End.{End}
use Rattle.relay_opening.specs.declared.place.End.TheVariants as end

-- the 502 was queued where no final head was; nothing has changed where one was
abbrev pub Answers : Bool → Seen → Seen → Type 0
Answers true old new = new ≡ old
Answers false old new = Notes (lone_answer 502) old new

-- the 502 could not be queued, though no final head was; nothing has changed
pub record IsStuck (why : Fail) (old new : Seen) : Type 0 where
  pub no_head : is_answered old ≡ false
  pub fault : OrMemory (IsFaultOrMemory old.downstream.writing.output) why
  pub same : new ≡ old

-- how a declined request ends
abbrev pub Refuses : End → Seen → Seen → Type 0
Refuses end.Attempts old new = ⊥
Refuses end.Answered old new = ⊥
Refuses end.Purge old new = ⊥
Refuses end.Declined old new = Answers (is_answered old) old new
Refuses (end.Unwritten why) old new = IsStuck why old new
Refuses (end.Failed error) old new = ⊥
