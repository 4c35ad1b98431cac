-- The exchange so far goes on by each branch.
use Rattle.std.proofs.Common.{refl}
use Rattle.relay_core.specs.Down.{stays}
use Rattle.relay_core.specs.Table.{core}
use Rattle.relay_core.proofs.BatchGoes.{goes_down_take}
use Rattle.relay_core.proofs.DownGoes.{goes_down_write, goes_down_drop, goes_down_end, goes_down_closed, goes_down_read, goes_down_finish}
use Rattle.relay_core.proofs.KeepLemmas.{taken, unread}
use Rattle.relay_core.proofs.UseLemmas.{brings_gains}
use Rattle.relay_core.proofs.UpGoes.{goes_up_write, goes_up_take, goes_up_read, goes_up_finish}
use Rattle.relay_core.proofs.duplex.Duplex.step_by.Goals as goal

-- one write to the upstream
pub returns-in-UpWrite-clause-goes : goal.returns-in-UpWrite-clause-goes
returns-in-UpWrite-clause-goes g c =
    let old = core c.args.self.now (g.D.Down.state c.args.down.now) (g.U.Up.state c.args.up.now) in
    λ s p q f.
    goes_up_write _ _ _ _ _ _ _ _ _ _ c.up_write.result p q
    (taken old _ _ c.in-UpWrite.is c.requires)
    (record { does = c.up_write.ensures.exact; down = refl }) (c.up_write.ensures.goes s q f.up) f

-- one write to the client
pub returns-in-DownWrite-clause-goes : goal.returns-in-DownWrite-clause-goes
returns-in-DownWrite-clause-goes g c =
    let old = core c.args.self.now (g.D.Down.state c.args.down.now) (g.U.Up.state c.args.up.now) in
    λ s p q f.
    goes_down_write _ _ _ _ _ _ _ _ _ c.down_write.result p q
    (taken old _ _ c.in-DownWrite.is c.requires)
    (record { does = c.down_write.ensures.exact; up = refl })
    (c.down_write.ensures.goes s p f.down) f

-- a piece went to the upstream
pub returns-in-UpTake-clause-goes : goal.returns-in-UpTake-clause-goes
returns-in-UpTake-clause-goes g c =
    let old = core c.args.self.now (g.D.Down.state c.args.down.now) (g.U.Up.state c.args.up.now) in
    λ s p q f.
    goes_up_take _ _ _ _ _ _ _ _ _ _ c.up_take.result p q
    (taken old _ _ c.in-UpTake.is c.requires)
    c.upgraded.result c.upgraded.ensures c.up_take.ensures.exact refl
    (c.up_take.ensures.goes s q f.up) f

-- a batch went to the client
pub returns-in-DownTake-clause-goes : goal.returns-in-DownTake-clause-goes
returns-in-DownTake-clause-goes g c =
    let old = core c.args.self.now (g.D.Down.state c.args.down.now) (g.U.Up.state c.args.up.now) in
    λ s p q f.
    goes_down_take _ _ _ _ _ _ _ _ _ c.down_take.result p q
    (taken old _ _ c.in-DownTake.is c.requires)
    (record { does = c.down_take.ensures.exact; up = refl })
    (c.down_take.ensures.goes c.args.client.now s p f.down) f

-- a task of the response was dropped
pub returns-in-DownDrop-clause-goes : goal.returns-in-DownDrop-clause-goes
returns-in-DownDrop-clause-goes g c =
    let old = core c.args.self.now (g.D.Down.state c.args.down.now) (g.U.Up.state c.args.up.now) in
    λ s p q f.
    goes_down_drop _ _ _ _ _ _ _ _ c.down_drop.result p q
    (taken old _ _ c.in-DownDrop.is c.requires)
    (record { does = c.down_drop.ensures; down = refl; up = refl }) f

-- no more of the response comes
pub returns-in-DownEnd-clause-goes : goal.returns-in-DownEnd-clause-goes
returns-in-DownEnd-clause-goes g c =
    let old = core c.args.self.now (g.D.Down.state c.args.down.now) (g.U.Up.state c.args.up.now) in
    λ s p q f.
    goes_down_end _ _ _ _ _ _ _ _ c.down_end.result p q
    (taken old _ _ c.in-DownEnd.is c.requires)
    (record { does = c.down_end.ensures; down = refl; up = refl }) f

-- no more of the request is wanted
pub returns-in-DownClosed-clause-goes : goal.returns-in-DownClosed-clause-goes
returns-in-DownClosed-clause-goes g c =
    let old = core c.args.self.now (g.D.Down.state c.args.down.now) (g.U.Up.state c.args.up.now) in
    λ s p q f.
    goes_down_closed _ _ _ _ _ _ _ _ c.down_closed.result p q
    (taken old _ _ c.in-DownClosed.is c.requires)
    (record { does = c.down_closed.ensures; down = refl; up = refl }) f

-- one read of the upstream
pub returns-in-UpRead-clause-goes : goal.returns-in-UpRead-clause-goes
returns-in-UpRead-clause-goes g c =
    let old = core c.args.self.now (g.D.Down.state c.args.down.now) (g.U.Up.state c.args.up.now) in
    λ s p q f.
    goes_up_read _ _ _ _ _ _ _ _ _ _ c.up_read.result p q
    (taken old _ _ c.in-UpRead.is c.requires)
    c.upgraded-in-UpRead.result c.upgraded-in-UpRead.ensures c.up_read.ensures.exact refl
    (c.up_read.ensures.goes s q f.up) f

-- one read of the client
pub returns-in-DownRead-clause-goes : goal.returns-in-DownRead-clause-goes
returns-in-DownRead-clause-goes g c =
    let old = core c.args.self.now (g.D.Down.state c.args.down.now) (g.U.Up.state c.args.up.now) in
    λ s p q f.
    goes_down_read _ _ _ _ _ _ _ _ _ c.down_read.result p q
    (taken old _ _ c.in-DownRead.is c.requires)
    (record { does = c.down_read.ensures.exact; up = refl })
    (c.down_read.ensures.goes s p f.down) f

-- the upstream half came to its end
pub returns-in-UpFinish-clause-goes : goal.returns-in-UpFinish-clause-goes
returns-in-UpFinish-clause-goes g c =
    let old = core c.args.self.now (g.D.Down.state c.args.down.now) (g.U.Up.state c.args.up.now) in
    λ s p q f.
    goes_up_finish _ _ _ _ _ _ _ _ c.up_finish.result p q
    (taken old _ _ c.in-UpFinish.is c.requires)
    (record { does = c.up_finish.ensures; down = refl; up = refl }) f

-- the end of the response's body was asked for
pub returns-in-DownFinish-clause-goes : goal.returns-in-DownFinish-clause-goes
returns-in-DownFinish-clause-goes g c =
    let old = core c.args.self.now (g.D.Down.state c.args.down.now) (g.U.Up.state c.args.up.now) in
    λ s p q f.
    goes_down_finish _ _ _ _ _ _ _ _ _ c.down_finish.result p q
    (taken old _ _ c.in-DownFinish.is c.requires)
    (record { does = c.down_finish.ensures.exact; up = refl })
    (c.down_finish.ensures.goes c.args.client.now s p f.down) f

-- a read of the upstream that moved brought a task, or its link gave bytes
pub returns-in-UpRead-clause-brings : goal.returns-in-UpRead-clause-brings
returns-in-UpRead-clause-brings g c =
    let old = core c.args.self.now (g.D.Down.state c.args.down.now) (g.U.Up.state c.args.up.now) in
    λ s p q f is.
    c.up_read.ensures.brings s q f.up
    (f.unended (unread old (taken old _ _ c.in-UpRead.is c.requires)))

-- so that the link was asked, or the task was put
pub returns-in-UpRead-clause-gains : goal.returns-in-UpRead-clause-gains
returns-in-UpRead-clause-gains g c =
    let old = core c.args.self.now (g.D.Down.state c.args.down.now) (g.U.Up.state c.args.up.now) in
    rw c.in-UpRead.is (λ s p q f is.
    brings_gains (g.U.Up.link c.args.up.now) (g.U.Up.link c.up_read.new.up) c.args.self.now
    c.up_read.new.self (c.up_read.ensures.brings s q f.up
    (f.unended (unread old (taken old _ _ c.in-UpRead.is c.requires))) is))

-- ---- the client's side

-- a write to the upstream leaves it
pub returns-in-UpWrite-clause-lasts : goal.returns-in-UpWrite-clause-lasts
returns-in-UpWrite-clause-lasts g c = stays

-- so does a piece that is taken
pub returns-in-UpTake-clause-lasts : goal.returns-in-UpTake-clause-lasts
returns-in-UpTake-clause-lasts g c = stays

-- a task that is dropped
pub returns-in-DownDrop-clause-lasts : goal.returns-in-DownDrop-clause-lasts
returns-in-DownDrop-clause-lasts g c = stays

-- the end of the response
pub returns-in-DownEnd-clause-lasts : goal.returns-in-DownEnd-clause-lasts
returns-in-DownEnd-clause-lasts g c = stays

-- the end of the request
pub returns-in-DownClosed-clause-lasts : goal.returns-in-DownClosed-clause-lasts
returns-in-DownClosed-clause-lasts g c = stays

-- a read of the upstream
pub returns-in-UpRead-clause-lasts : goal.returns-in-UpRead-clause-lasts
returns-in-UpRead-clause-lasts g c = stays

-- and its end
pub returns-in-UpFinish-clause-lasts : goal.returns-in-UpFinish-clause-lasts
returns-in-UpFinish-clause-lasts g c = stays
