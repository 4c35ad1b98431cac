-- Which requests the proxy relays so far (RFC 9110, sections 7.2, 7.8 and 9; RFC 9112, section
-- 3.2).
use Rattle.std.specs.Prelude.{◌≡◌, ℕ, codes, Option, None}
use Rattle.http_header.specs.HeaderMap.{ContainsKey}
use Rattle.relay_tasks.specs.Head.{RequestHead}
use Rattle.relay_tasks.specs.declared.Context.{Context}
use Rattle.relay_h1.specs.Verdict.{HasRequest}
use Rattle.relay_h1.specs.declared.framing.Framing.{Framing}
use Rattle.relay_authority.specs.Entry.{Entered}
use Rattle.relay_attempt.specs.Passed.{Passed}
use Rattle.relay_request.specs.Passed.{Start, asked}

-- a request for a tunnel, which the proxy does not make
abbrev pub IsConnect : RequestHead → Type 0
IsConnect head = head.method ≡ codes "CONNECT"

-- a request that asks to leave HTTP, which the proxy does not do
abbrev pub NamesUpgrade : RequestHead → Type 0
NamesUpgrade head = ContainsKey head.fields (codes "upgrade")

-- a request that is relayed behind that entry check, whatever its target and its body
pub record IsRelayableBehind (check : RequestHead → Option Context → Type 0) (head : RequestHead)
    : Type 0 where
  pub entered : check head None
  pub method : ¬ (IsConnect head)
  pub no_upgrade : ¬ (NamesUpgrade head)

-- the same behind the entry check of an HTTP/1 client's head
abbrev pub IsRelayable : RequestHead → Type 0
IsRelayable head = IsRelayableBehind Entered head

-- the client's bytes begin with this head, which is of a form that is relayed
pub record IsAccepted (s : Start) (p : Passed) (head : RequestHead) : Type 0 where
  pub framing : Framing
  pub len : ℕ
  pub has : HasRequest (asked s p) head framing len
  pub relayable : IsRelayable head
