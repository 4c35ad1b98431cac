-- The bytes of a valid request have its head and no other verdict, however many have come.
--
--   asks_head       a head of the bytes is that of the request
--   asks_unrefused  none of them is refused
--   valid_over      a valid request and a valid response are a valid exchange, over a link that had
--                   been used before or not
use Rattle.std.proofs.Common.{◌≡◌, ℕ, Bool, List, subst}
use Rattle.relay_tasks.specs.Head.{RequestHead}
use Rattle.relay_tasks.specs.declared.Context.{Context}
use Rattle.relay_links.specs.Count.{Rose}
use Rattle.relay_links.specs.Link.{LinkState, LinkStart}
use Rattle.relay_h1.specs.Verdict.{HasRequest, IsRefusedRequest}
use Rattle.relay_h1.specs.declared.framing.Framing.{Framing}
use Rattle.relay_h1.proofs.VerdictLemmas.{HasRequest-IsRefusedRequest, HasRequest-unique, HasRequest-append, IsRefusedRequest-append}
use Rattle.relay_core.specs.Past.{Origin}
use Rattle.relay_attempt.specs.Agrees.{Agrees}
use Rattle.relay_attempt.specs.Passed.{Passed, asked}
use Rattle.relay_valid.specs.Valid.{AsksFor, AnswersWith, IsValid}

-- a head of the client's bytes is the one of the whole request
pub asks_head : (s : Origin) (p : Passed) (client : LinkState) (other : RequestHead)
    (framing : Framing) (len : ℕ) → AsksFor s p client → HasRequest (asked s p) other framing len
    → other ≡ s.head
asks_head s p client other framing len asks has =
    let whole = asks.is_request in
    (HasRequest-unique asks.request other s.head framing whole.framing len whole.len
    (subst (λ (xs : List ℕ). HasRequest xs other framing len) asks.gives.joined
    (HasRequest-append (asked s p) asks.gives.rest other framing len has)) whole.has).0

-- it is not refused
pub asks_unrefused : (s : Origin) (p : Passed) (client : LinkState) (why : Context)
    → AsksFor s p client → IsRefusedRequest (asked s p) why → ⊥
asks_unrefused s p client why asks refused =
    let whole = asks.is_request in
    HasRequest-IsRefusedRequest asks.request s.head whole.framing whole.len why whole.has
    (subst (λ (xs : List ℕ). IsRefusedRequest xs why) asks.gives.joined
    (IsRefusedRequest-append (asked s p) asks.gives.rest why refused))

-- a valid exchange, over a link that had been used before or not
pub valid_over : (s : Origin) (p : Passed) (client link : LinkState) (start : LinkStart)
    (reused : Bool) → AsksFor s p client → AnswersWith s.sent.method s.asked p link
    → Agrees s.head s.sent → ¬ (Rose s.faults client.faults) → ¬ (Rose start.faults link.faults)
    → IsValid (record s { reused = reused }) p client link start
valid_over s p client link start reused asks answers agrees calm still = record {
  asks = record {
    request = asks.request;
    gives = asks.gives;
    is_request = asks.is_request;
    stays = asks.stays;
  };
  answers = answers;
  agrees = agrees;
  client_faultless = calm;
  link_faultless = still;
}
