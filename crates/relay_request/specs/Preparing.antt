-- What becomes of the head of an attempt before it is sent: it is made ready, filtered by the
-- application, and made as it is sent (RFC 9110, section 7.6).
use Rattle.std.specs.Prelude.{◌≡◌, ◌⊎◌, ℕ, false, Result, Ok, Err, Some}
use Rattle.relay_tasks.specs.Head.{RequestHead}
use Rattle.relay_tasks.specs.declared.Error.{Error}
use Rattle.relay_tasks.specs.declared.error.Fail.{Fail}
use Rattle.relay_tasks.specs.declared.error.Fail.TheVariants as fail
use Rattle.relay_tasks.specs.declared.log.LogEntry.{LogEntry}
use Rattle.relay_authority.specs.Upstream.{ReadyHead}
use Rattle.relay_authority.specs.declared.upstream.Upstream.TheVariants as over
use Rattle.relay_session.specs.Reading.{head_of}
use Rattle.relay_session.specs.declared.session.HttpSession.{HttpSession}
use Rattle.relay_hooks.specs.Standing.{Standing}
use Rattle.relay_trying.specs.Trying.{FiltersHead}
use Rattle.relay_request.specs.Calls.{log_of, seen_with}
use Rattle.relay_request.specs.Sent.{SettlesFramed, client_in}
use Rattle.relay_request.specs.declared.calls.Calls.{Calls}

-- the client's head is made ready for the filter, or refused, as its session has it
abbrev pub Readies : HttpSession → Result RequestHead Error → Type 0
Readies client answer =
    (head : RequestHead) → head_of client.reading ≡ Some head → ReadyHead over.H1 false head answer

-- what the filter left is made as it is sent, or refused, beside the head that the session has
abbrev pub Settles : HttpSession → RequestHead → Result RequestHead Error → Type 0
Settles client filtered answer =
    (asked : RequestHead) → head_of client.reading ≡ Some asked
    → SettlesFramed (client_in client) asked filtered answer

module _ (allows : Standing → LogEntry → Type 0) {M K X : Type 0} (old : Calls M K X)
    (client : HttpSession) (mark : ℕ) (new : Calls M K X) (left : HttpSession) (behind : ℕ)
  where
    -- the filter was called with what the client's head was made ready to, and left that head
    pub record FiltersReady (filtered : RequestHead) : Type 0 where
      pub ready : RequestHead
      pub readies : Readies client (Ok ready)
      pub call : FiltersHead allows ready (seen_with old client) mark (seen_with new left) behind
          (Ok filtered)

    -- and that is made as it is sent
    pub record Prepares (sent : RequestHead) : Type 0 where
      pub filtered : RequestHead
      pub filters : FiltersReady filtered
      pub settles : Settles left filtered (Ok sent)

    -- why no head is made: it is refused as it is made ready, and no hook was called; the filter
    -- failed; or what it left is refused
    pub data Unprepared (e : Error) : Type 0 where
      unready : new ≡ old → left ≡ client → behind ≡ mark → Readies client (Err e) → Unprepared e
      unfiltered : (ready : RequestHead)
          → FiltersHead allows ready (seen_with old client) mark (seen_with new left) behind
          (Err (fail.Error e)) → Unprepared e
      unsettled : (filtered : RequestHead) → FiltersReady filtered → Settles left filtered (Err e)
          → Unprepared e

    -- the head that is made, or why none is; out of memory the filter was called or not
    abbrev pub MakesHead : Result RequestHead Fail → Type 0
    MakesHead (Ok sent) = Prepares sent
    MakesHead (Err (fail.Error e)) = Unprepared e
    MakesHead (Err fail.OutOfMemory) =
        (log_of new ≡ log_of old) ⊎ ((filtered : RequestHead) × FiltersReady filtered)
