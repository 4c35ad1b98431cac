-- What each exchange keeps, whatever passed: a cause and its opposite never stand together.
use Rattle.relay_tasks.specs.declared.Context.{Context}
use Rattle.relay_tasks.specs.declared.Error.{Error}
use Rattle.relay_links.specs.Link.{LinkState, LinkStart}
use Rattle.relay_h1.specs.Verdict.{IsRefusedRequest}
use Rattle.relay_core.specs.Past.{Origin}
use Rattle.relay_attempt.specs.Order.{FailsFor, IsRelayed}
use Rattle.relay_attempt.specs.Passed.{Passed, asked}
use Rattle.relay_valid.specs.Unfit.{IsUnfit}
use Rattle.relay_valid.specs.Valid.{AsksFor, IsValid}

-- no valid exchange fails with an error
abbrev pub ValidNeverFails : Type 0
ValidNeverFails = (s : Origin) (p : Passed) (client link : LinkState) (start : LinkStart)
    (e : Error) → FailsFor s p client link start e → ¬ (IsValid s p client link start)

-- no response is relayed whole that is broken, cut off or switches protocols
abbrev pub RelayedIsFit : Type 0
RelayedIsFit = (s : Origin) (p : Passed) (link : LinkState) (start : LinkStart)
    → IsRelayed s p link start → ¬ (IsUnfit s.sent.method s.asked p.got link.ended)

-- no head of a valid request is refused, however much of the request has come
abbrev pub ValidNeverRefused : Type 0
ValidNeverRefused = (s : Origin) (p : Passed) (client : LinkState) (why : Context)
    → AsksFor s p client → ¬ (IsRefusedRequest (asked s p) why)
