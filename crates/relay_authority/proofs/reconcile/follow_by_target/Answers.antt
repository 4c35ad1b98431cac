use Rattle.std.proofs.Common.{◌≡◌, ◌∙◌}
use Rattle.relay_authority.proofs.MovedTarget.{by_target}
use Rattle.relay_authority.proofs.Settling.{settles_wider}
use Rattle.relay_authority.specs.Sent.{ReconcilesRaw}
use Rattle.relay_authority.proofs.reconcile.follow_by_target.Goals as goal

-- the copy of the target is the target, so its parts are the head's
pub returns : goal.returns
returns c =
    let same : c.as_slice.result.now ≡ c.args.head.now.target =
    c.as_slice.ensures.value ∙ c.in_ok-target.ensures.items ∙ c.raw_path.ensures.value in
    let absolute = rw same at c.in-Absolute.ensures.0 in
    settles_wider {U = ReconcilesRaw c.args.head.now c.args.host.now} _ _ _
    (by_target c.args.head.now c.args.host.now _ absolute) c.move_target.ensures
