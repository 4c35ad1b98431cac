-- A branch that is chosen can be taken; none is chosen only where both halves have finished or one
-- failed.
use Rattle.relay_core.specs.Table.{core}
use Rattle.relay_core.proofs.StuckLemmas.{none_stuck, first_enabled_is}
use Rattle.relay_core.proofs.duplex.Duplex.choose.Goals as goal

-- the branch that was named cannot be taken: where none can be, no half goes on
pub returns-else-enabled-clause-stuck : goal.returns-else-enabled-clause-stuck
returns-else-enabled-clause-stuck g c =
    none_stuck
    (core c.args.self.now (g.D.Down.state c.args.down.now) (g.U.Up.state c.args.up.now))
    c.enabled_set-set.result c.first-first.result c.enabled_set-set.ensures c.first-first.ensures

-- none was named: where none can be, no half goes on
pub returns-in-None-clause-stuck : goal.returns-in-None-clause-stuck
returns-in-None-clause-stuck g c =
    none_stuck
    (core c.args.self.now (g.D.Down.state c.args.down.now) (g.U.Up.state c.args.up.now))
    c.enabled_set-set.result c.first-first.result c.enabled_set-set.ensures c.first-first.ensures

-- the branch that was named cannot be taken: the first that can be taken can be taken
pub returns-else-enabled-clause-can : goal.returns-else-enabled-clause-can
returns-else-enabled-clause-can g c =
    first_enabled_is
    (core c.args.self.now (g.D.Down.state c.args.down.now) (g.U.Up.state c.args.up.now))
    c.enabled_set-set.result c.first-first.result c.enabled_set-set.ensures c.first-first.ensures

-- none was named: the first that can be taken can be taken
pub returns-in-None-clause-can : goal.returns-in-None-clause-can
returns-in-None-clause-can g c =
    first_enabled_is
    (core c.args.self.now (g.D.Down.state c.args.down.now) (g.U.Up.state c.args.up.now))
    c.enabled_set-set.result c.first-first.result c.enabled_set-set.ensures c.first-first.ensures
