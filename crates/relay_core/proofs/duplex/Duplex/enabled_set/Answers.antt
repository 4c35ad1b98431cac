-- One more branch of the order is in the set where it can be taken; at the end all were looked at.
use Rattle.std.proofs.Common.{refl}
use Rattle.relay_core.specs.Table.{core, enabled}
use Rattle.relay_core.proofs.ChooseLemmas.{passed_more, passed_all}
use Rattle.relay_core.proofs.duplex.Duplex.enabled_set.Goals as goal

-- the branch at the place is in the set where it can be taken
pub loop-branch-preserved : goal.loop-branch-preserved
loop-branch-preserved g c = (
  refl,
  passed_more
      (enabled (core c.args.self.now (g.D.Down.state c.args.down.now) (g.U.Up.state c.args.up.now)))
      c.loop-branch.set c.insert_if.new.set c.loop-branch.branch-index _ c.enabled.result
      c.loop-branch-test.true c.enabled.ensures c.insert_if.ensures c.loop-branch.invariant.1,
)

-- all places were passed
pub returns : goal.returns
returns g c =
    passed_all
    (enabled (core c.args.self.now (g.D.Down.state c.args.down.now) (g.U.Up.state c.args.up.now)))
    c.loop-branch.set c.loop-branch.branch-index c.loop-branch-test.false c.loop-branch.invariant.1
