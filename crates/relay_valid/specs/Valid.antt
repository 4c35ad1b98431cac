-- A valid exchange: a whole request whose client then is still, and a whole response that is
-- relayed, with no fault (RFC 9112, sections 2, 3, 4 and 6).
use Rattle.std.specs.Prelude.{◌≡◌, ◌≢◌, ℕ, Bool, true, false, List, [], drop, Some, codes}
use Rattle.http_header.specs.HeaderMap.{RefusesInsert}
use Rattle.relay_tasks.specs.Head.{RequestHead, ResponseHead}
use Rattle.relay_links.specs.Count.{Rose}
use Rattle.relay_links.specs.Link.{LinkState, LinkStart}
use Rattle.relay_h1.specs.Body.{ended_text, Body}
use Rattle.relay_h1.specs.ClientHead.{lacks_framing}
use Rattle.relay_h1.specs.Tasks.{Tasks, ResponseText, ended}
use Rattle.relay_h1.specs.Verdict.{HasRequest}
use Rattle.relay_h1.specs.declared.framing.Framing.{Framing}
use Rattle.relay_core.specs.Past.{Origin}
use Rattle.relay_peer.specs.Body.{IsFrontOf}
use Rattle.relay_attempt.specs.Agrees.{Agrees}
use Rattle.relay_attempt.specs.Passed.{Passed, asked}

-- the text is a request with that head: its head, its body, and nothing behind them
pub record IsRequest (head : RequestHead) (text : List ℕ) : Type 0 where
  pub framing : Framing
  pub len : ℕ
  pub has : HasRequest text head framing len
  pub body : List ℕ
  pub n : ℕ
  pub says : Body framing (drop len text) (ended_text body n)
  pub nothing_behind : drop n (drop len text) ≡ []

-- a final head that is relayed: it switches no protocols, and where nothing in it says where its
-- body ends, it has room for the field that does
pub record IsRelayedHead (method : List ℕ) (head : ResponseHead) : Type 0 where
  pub stays : head.status ≢ 101
  pub room : lacks_framing method false head ≡ true
      → ¬ (RefusesInsert head.fields (codes "transfer-encoding"))

-- the text says a response to that method, whole, where its link ends behind it; and its final head
-- is relayed
pub record IsResponse (method : List ℕ) (upgrade : Bool) (text : List ℕ) : Type 0 where
  pub said : ResponseText
  pub n : ℕ
  pub whole : said.mark ≡ ended n
  pub says : Tasks method upgrade text true said
  pub relayed : (head : ResponseHead) → said.final ≡ Some head → IsRelayedHead method head

-- the client's bytes are the front of a request with that head, and the client does not end
pub record AsksFor (s : Origin) (p : Passed) (client : LinkState) : Type 0 where
  pub request : List ℕ
  pub gives : IsFrontOf (asked s p) request
  pub is_request : IsRequest s.head request
  pub stays : client.ended ≡ false

-- the peer's bytes are the front of a response to that method, and its link ends only behind it
pub record AnswersWith (method : List ℕ) (upgrade : Bool) (p : Passed) (link : LinkState)
    : Type 0 where
  pub response : List ℕ
  pub gives : IsFrontOf p.got response
  pub is_response : IsResponse method upgrade response
  pub ends : link.ended ≡ true → p.got ≡ response

-- a valid exchange, in which no call of a link failed; the head that is sent agrees with the
-- client's
pub record IsValid (s : Origin) (p : Passed) (client link : LinkState) (start : LinkStart)
    : Type 0 where
  pub asks : AsksFor s p client
  pub answers : AnswersWith s.sent.method s.asked p link
  pub agrees : Agrees s.head s.sent
  pub client_faultless : ¬ (Rose s.faults client.faults)
  pub link_faultless : ¬ (Rose start.faults link.faults)
