-- What the head that is sent may share with the head that the client's bytes say (RFC 9110, section
-- 9.3.2; RFC 9112, section 6).
use Rattle.std.specs.Prelude.{◌≡◌}
use Rattle.relay_tasks.specs.Head.{RequestHead}
use Rattle.relay_h1.specs.Framing.{request_framing}
use Rattle.relay_session.specs.Asked.{asks_of}

-- one is a HEAD exactly where the other is, so both halves frame the response alike
abbrev pub AsksAlike : RequestHead → RequestHead → Type 0
AsksAlike head sent = asks_of sent.method ≡ asks_of head.method

-- the head that is sent agrees with the client's in what the two halves of an exchange share
pub record Agrees (head sent : RequestHead) : Type 0 where
  pub method : AsksAlike head sent
  -- both frame the body of the request alike, so its pieces fit the head that is sent
  pub framing : request_framing sent ≡ request_framing head
