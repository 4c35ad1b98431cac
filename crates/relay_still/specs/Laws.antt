-- What each exchange behind filters that change nothing keeps, whatever passed.
use Rattle.std.specs.Prelude.{◌≡◌, Bool, true, false}
use Rattle.relay_tasks.specs.declared.error.Error.{Error}
use Rattle.relay_links.specs.Link.{LinkState, LinkStart}
use Rattle.relay_core.specs.Past.{Origin}
use Rattle.relay_attempt.specs.Agrees.{AsksAlike}
use Rattle.relay_attempt.specs.Passed.{Passed}
use Rattle.relay_valid.specs.Unfit.{IsUnfit}
use Rattle.relay_valid.specs.Valid.{IsValid}
use Rattle.relay_hooked.specs.Calls.{Filtering}
use Rattle.relay_hooked.specs.Neutral.{AreNeutral}
use Rattle.relay_hooked.specs.Order.{EndsEarly, FailsFor, IsRelayed}

-- no response is relayed whole, where each call left what it was given and answered no error, that
-- is broken, cut off or switches protocols
abbrev pub RelayedIsFit : Type 0
RelayedIsFit = (f : Filtering) (s : Origin) (p : Passed) (link : LinkState) (start : LinkStart)
    → IsRelayed f s p link start → AreNeutral f.calls
    → ¬ (IsUnfit s.sent.method s.asked p.got link.ended)

-- the client's writer refused what the filters made: a task of a batch, the end of one that ends
-- short, or the end that was asked for
abbrev pub is_refused : {f : Filtering} {s : Origin} {p : Passed} {client link : LinkState}
    {start : LinkStart} {e : Error} → FailsFor f s p client link start e → Bool
is_refused (FailsFor.by_client order blames) = false
is_refused (FailsFor.by_peer order lost blames) = false
is_refused (FailsFor.by_piece order stopped front last are call answered) = false
is_refused (FailsFor.by_batch order stopped unasked stand batch before own are read stops refuses) =
    false
is_refused (FailsFor.by_writer order stand batch made unasked read made_so refused) = true
is_refused (FailsFor.by_cut order front at unasked is passes) = true
is_refused (FailsFor.by_end refused order ends why cannot) = true

-- where each call left what it was given and answered no error, the client's writer refuses nothing
-- of a valid exchange: no task, and no end as short
abbrev pub NeverShort : Type 0
NeverShort = (f : Filtering) (s : Origin) (p : Passed) (client link : LinkState)
    (start : LinkStart) (e : Error) (why : FailsFor f s p client link start e)
    → is_refused why ≡ true → AreNeutral f.calls → ¬ (IsValid s p client link start)

-- no valid exchange fails with an error, where each call left what it was given and answered none
abbrev pub ValidNeverFails : Type 0
ValidNeverFails = (f : Filtering) (s : Origin) (p : Passed) (client link : LinkState)
    (start : LinkStart) (e : Error) → FailsFor f s p client link start e → AreNeutral f.calls
    → ¬ (IsValid s p client link start)

-- what ended early, where each call left what it was given and answered no error, and both heads
-- ask alike, is no response that is broken, cut off or switches protocols
abbrev pub EarlyIsFit : Type 0
EarlyIsFit = (f : Filtering) (s : Origin) (p : Passed) (link : LinkState) (start : LinkStart)
    → EndsEarly f s p link start → AreNeutral f.calls → AsksAlike s.head s.sent
    → ¬ (IsUnfit s.sent.method s.asked p.got link.ended)
