-- How an exchange behind filters begins: what was kept of the client's body passes the filters of
-- requests as one piece, and what passes of it is put before more is read.
use Rattle.std.specs.Prelude.{◌≡◌, ◌⊎◌, ℕ, Bool, true, false, is_some, List, [], length, None, Result, Err}
use Rattle.std.specs.List.{list_any}
use Rattle.relay_tasks.specs.declared.error.Error.{Error}
use Rattle.relay_tasks.specs.declared.error.Fail.{Fail}
use Rattle.relay_tasks.specs.declared.error.Fail.TheVariants as fail
use Rattle.relay_tasks.specs.declared.log.LogEntry.{LogEntry}
use Rattle.relay_tasks.specs.Head.{RequestHead}
use Rattle.relay_tasks.specs.Task.{is_end}
use Rattle.relay_h1.specs.Framing.{request_framing}
use Rattle.relay_session.specs.Reading.{is_body_done, replay_of}
use Rattle.relay_session.specs.Replay.{retry_buffer}
use Rattle.relay_session.specs.TaskWire.{bad_framing}
use Rattle.relay_session.specs.declared.session.HttpSession.{HttpSession}
use Rattle.relay_modules.specs.declared.session.Session.{Session}
use Rattle.relay_core.specs.Piece.{put_of}
use Rattle.relay_core.specs.declared.piece.Piece.{Piece}
use Rattle.relay_hooks.specs.Standing.{Standing}
use Rattle.relay_sides.specs.Client.{put_again}
use Rattle.relay_filters.specs.Hooked.{seen_by}
use Rattle.relay_filters.specs.Request.{Filtered, IsLost, Refused, is_last}
use Rattle.relay_filters.specs.declared.rested.Rested.{Rested}
use Rattle.relay_hooked.specs.declared.exchange.HookedExchange.{HookedExchange}
use Rattle.relay_hooked.specs.declared.exchange.Unbegun.{Unbegun}

-- what was kept of a body as one piece, with the end of a body that has ended
abbrev pub kept_piece : HttpSession → Piece
kept_piece client = record {
  bytes = retry_buffer (replay_of client.reading);
  upstream_end = is_body_done client.reading;
  client_end = is_body_done client.reading;
}

-- a side that has that put first, over the client's session: it goes on and has told no error. Its
-- request has ended exactly where what is put is an end, as it has where the client's body has
-- ended; and it had not before its first call
pub record IsBegun (client : HttpSession) (u : Rested) (piece : Piece) : Type 0 where
  pub ended : u.ended ≡ list_any is_end (put_of false piece)
  pub done : is_body_done client.reading ≡ true → u.ended ≡ true
  pub body : is_body_done u.inner.session.reading ≡ is_body_done client.reading
  pub goes_on : u.stopped ≡ None
  pub untold : u.told.errors ≡ 0
  pub at_first : u.at_first ≡ false

-- how many calls a piece that passes leads to: one more where modules stand
abbrev pub calls_each : Bool → ℕ
calls_each true = 2
calls_each false = 1

-- by the session, the context and the client's session that an exchange is given
module _ {M C : Type 0} (session : Session M) (ctx : C) (client : HttpSession) where
  -- no hook was called: these are the same
  pub record AreSame (session' : Session M) (ctx' : C) (client' : HttpSession) : Type 0 where
    pub session_same : session' ≡ session
    pub ctx_same : ctx' ≡ ctx
    pub client_same : client' ≡ client

  module _ (allows : Standing → LogEntry → Type 0) (mark_of : C → ℕ) where
    -- what the beginning called, up to these: no hook, where nothing is put again; or the filters of
    -- requests, the modules' where they stand, which were given what is put again and let that pass
    pub data CallsOnce (session' : Session M) (ctx' : C) (client' : HttpSession) : Type 0 where
      none : put_again client ≡ [] → AreSame session' ctx' client'
          → CallsOnce session' ctx' client'
      once : length (put_again client) ≡ 1 → (made : Piece)
          → Filtered allows (is_some session.modules) false (kept_piece client) made
          (seen_by session.seen client) (mark_of ctx) (seen_by session'.seen client')
          (mark_of ctx') → CallsOnce session' ctx' client'

    -- why nothing could be put first, and what that left: memory was wanted before any call; or the
    -- filters of requests were called with what is put again, and their calls, the only ones, stand
    -- in the log, the last with its error; or memory was wanted in one, which has no entry
    pub data CannotPut (why : Fail) (session' : Session M) (ctx' : C) (client' : HttpSession)
        : Type 0 where
      before : why ≡ fail.OutOfMemory → AreSame session' ctx' client'
          → CannotPut why session' ctx' client'
      by_filter : (e : Error) → why ≡ fail.Error e → length (put_again client) ≡ 1
          → Refused allows (is_some session.modules) e (kept_piece client)
          (seen_by session.seen client) (mark_of ctx) (seen_by session'.seen client')
          (mark_of ctx') → CannotPut why session' ctx' client'
      in_filter : why ≡ fail.OutOfMemory → length (put_again client) ≡ 1
          → IsLost allows (is_some session.modules) (kept_piece client).bytes
          (is_last (kept_piece client)) (seen_by session.seen client) (mark_of ctx)
          (seen_by session'.seen client') → CannotPut why session' ctx' client'

    -- why an exchange was not begun, what came back, and up to what hooks were called: the head has
    -- no framing, and no hook was called; or nothing could be put first
    abbrev pub IsUnbegun : {L : Type 0} → RequestHead → Session M → C → Unbegun L → Type 0
    IsUnbegun head session' ctx' x =
        ((x.why ≡ fail.Error bad_framing) × (request_framing head ≡ None)
        × AreSame session' ctx' x.client)
        ⊎ CannotPut x.why session' ctx' x.client

-- the exchange was not begun, for that reason, and the log is as it was
abbrev pub IsRefusedFor : {L : Type 0} → Result (HookedExchange L) (Unbegun L) → Fail
    → List LogEntry → List LogEntry → Type 0
IsRefusedFor {L} result why log log' =
    (unbegun : Unbegun L) × (result ≡ Err unbegun) × (unbegun.why ≡ why) × (log' ≡ log)
