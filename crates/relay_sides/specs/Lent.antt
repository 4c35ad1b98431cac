-- A client's session that was lent to hooks: what they may have changed of it.
use Rattle.std.specs.Prelude.{◌≡◌, IsSome}
use Rattle.relay_tasks.specs.Head.{RequestHead}
use Rattle.relay_session.specs.Reading.{head_of, with_head}
use Rattle.relay_session.specs.declared.session.HttpSession.{HttpSession}

-- the session as hooks left it, which may change the head of its request: one that was read still
-- stands, the request came as far as before, and nothing was queued or written
pub record SameButHead (old new : HttpSession) : Type 0 where
  pub head : IsSome (head_of old.reading) → IsSome (head_of new.reading)
  pub but_head : (head : RequestHead)
      → with_head new.reading head ≡ with_head old.reading head
  pub writing : new.writing ≡ old.writing
