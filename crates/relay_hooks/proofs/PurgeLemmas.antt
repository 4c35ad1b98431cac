-- The answer to a purge, as the relay makes it, is final and has no body.
use Rattle.std.proofs.Common.{refl}
use Rattle.std.specs.Fmt.{digits}
use Rattle.relay_session.specs.Generated.{generated_head}
use Rattle.relay_hooks.specs.Laws.{IsBodiless}
use Rattle.relay_hooks.specs.Purge.{purge_head}
use Rattle.relay_hooks.specs.declared.purge.PurgeStatus.{PurgeStatus}
use Rattle.relay_hooks.specs.declared.purge.PurgeStatus.TheVariants as status

-- whatever the purger answered
pub purge_head-bodiless : (answer : PurgeStatus) → IsBodiless (purge_head answer)
unfolding generated_head digits
purge_head-bodiless status.NoCache = record { is_final = refl; length_0 = refl; uncoded = refl }
purge_head-bodiless status.Found = record { is_final = refl; length_0 = refl; uncoded = refl }
purge_head-bodiless status.NotFound = record { is_final = refl; length_0 = refl; uncoded = refl }
purge_head-bodiless (status.Error fault) =
    record { is_final = refl; length_0 = refl; uncoded = refl }
