-- What a purge is answered with (RFC 9110, section 15).
use Rattle.std.specs.Prelude.{ℕ}
use Rattle.relay_tasks.specs.Head.{ResponseHead}
use Rattle.relay_tasks.specs.declared.peer.Purged.{Purged}
use Rattle.relay_tasks.specs.declared.peer.Purged.TheVariants as purged
use Rattle.relay_session.specs.Generated.{generated_head}
use Rattle.relay_hooks.specs.declared.purge.PurgeStatus.{PurgeStatus}
use Rattle.relay_hooks.specs.declared.purge.PurgeStatus.TheVariants as status

-- the status code of its answer
abbrev pub purge_code : PurgeStatus → ℕ
purge_code status.NoCache = 405
purge_code status.Found = 200
purge_code status.NotFound = 404
purge_code (status.Error fault) = 500

-- the head of its answer, before the application saw it
abbrev pub purge_head : PurgeStatus → ResponseHead
purge_head answer = generated_head (purge_code answer) 0

-- what the purger answered
abbrev pub purged_of : PurgeStatus → Purged
purged_of status.NoCache = purged.NoCache
purged_of status.Found = purged.Found
purged_of status.NotFound = purged.NotFound
purged_of (status.Error fault) = purged.Failed fault
