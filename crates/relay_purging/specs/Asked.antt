-- What the purger is asked (RFC 9110, sections 7.1 and 7.2): to purge what is kept for the target of
-- a request at its host.
use Rattle.std.specs.Prelude.{Option, None, Some}
use Rattle.relay_tasks.specs.Head.{RequestHead}
use Rattle.relay_tasks.specs.declared.peer.PurgeAction.{PurgeAction}
use Rattle.relay_tasks.specs.declared.peer.Purged.{Purged}
use Rattle.relay_tasks.specs.declared.peer.Purged.TheVariants.{OutOfMemory}
use Rattle.relay_links.specs.Purger.{PurgerState, Purges}
use Rattle.relay_session.specs.Summary.{first_host}
use Rattle.relay_modules.specs.declared.seen.Seen.{Seen}
use Rattle.relay_hooks.specs.Purge.{purged_of}
use Rattle.relay_hooks.specs.Session.{request_head}
use Rattle.relay_hooks.specs.declared.purge.PurgeStatus.{PurgeStatus}

-- the purger was called once: for the value of the head's first Host, or nothing where there is
-- none, and its raw target; and that was its answer
abbrev pub Asks : PurgerState → PurgeAction → RequestHead → PurgerState → Purged → Type 0
Asks before action head after answer =
    Purges before action (first_host head) head.target after answer

-- what it came to, as the filter of its answer is told; where memory was wanted nothing changed
abbrev pub AsksFor : PurgerState → PurgeAction → RequestHead → PurgerState → Option PurgeStatus
    → Type 0
AsksFor before action head after (Some status) = Asks before action head after (purged_of status)
AsksFor before action head after None = Asks before action head after OutOfMemory

-- the purger was called once for the request, whatever it answered
abbrev pub IsAsked : PurgerState → PurgeAction → Seen → PurgerState → Type 0
IsAsked before action seen after =
    (answer : Purged) × Asks before action (request_head seen) after answer
