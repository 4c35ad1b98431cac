-- What each call of a side leaves, all of them leave, and it holds what it was made over.
use Rattle.std.proofs.Common.{is_some}
use Rattle.relay_tasks.specs.declared.log.LogEntry.{LogEntry}
use Rattle.relay_hooks.specs.Standing.{Standing}
use Rattle.relay_calls.specs.Log.{IsAllowed}
use Rattle.relay_filters.specs.Hooked.{LedTo, SameNames, is_lost, seen_by, stays_of}
use Rattle.relay_filters.specs.Response.{SomeAllow}
use Rattle.relay_filters.proofs.LastLemmas.{lasting_names}
use Rattle.relay_hooked.proofs.WalkLemmas.{lasts_all}
use Rattle.relay_hooked.proofs.exchange.turn_over.Goals as goal

-- the turn is that of the exchange
pub returns-clause-goes : goal.returns-clause-goes
returns-clause-goes g c = c.turn.ensures.goes

pub returns-clause-moves : goal.returns-clause-moves
returns-clause-moves g c = c.turn.ensures.moves

pub returns-clause-quiet : goal.returns-clause-quiet
returns-clause-quiet g c = λ is.
    let quiet = c.turn.ensures.quiet is in
    record {
      silent = quiet.silent;
      client_same = quiet.client_same;
      peer_same = quiet.upstream_same;
    }

-- all its calls are by the application
pub returns-clause-lasts : goal.returns-clause-lasts
returns-clause-lasts g c =
    let law : g.row.SV.Denot → Standing → LogEntry → Type 0 = λ a.
    IsAllowed (g.SV.ProxyHttp.allows a) (SomeAllow g.SV.Modules.HttpModule.allows) in
    lasts_all law (λ f. stays_of f.app.now f.side.now) (λ f. is_lost f.side.now.stopped)
    (λ f. seen_by f.session.now.seen f.side.now.inner.session)
    (λ f. g.SV.ProxyHttp.mark_of f.app.now f.ctx.now)
    (λ o n. SameNames o.session.ghost_name n.session.ghost_name o.ctx.ghost_name n.ctx.ghost_name
    o.side.ghost_name n.side.ghost_name
    × LedTo (is_some o.session.now.modules) o.session.now.seen n.session.now.seen) c.args.down.now c.turn.new.down c.turn.ensures.lasts

-- and leave what it holds
pub returns-clause-same_session : goal.returns-clause-same_session
returns-clause-same_session g c =
    (lasting_names _ (λ f. f.session.ghost_name) (λ f. f.ctx.ghost_name) (λ f. f.side.ghost_name)
    (λ o n l. l.1.0) c.args.down.now c.turn.new.down c.turn.ensures.lasts).session

pub returns-clause-same_ctx : goal.returns-clause-same_ctx
returns-clause-same_ctx g c =
    (lasting_names _ (λ f. f.session.ghost_name) (λ f. f.ctx.ghost_name) (λ f. f.side.ghost_name)
    (λ o n l. l.1.0) c.args.down.now c.turn.new.down c.turn.ensures.lasts).ctx

pub returns-clause-same_side : goal.returns-clause-same_side
returns-clause-same_side g c =
    (lasting_names _ (λ f. f.session.ghost_name) (λ f. f.ctx.ghost_name) (λ f. f.side.ghost_name)
    (λ o n l. l.1.0) c.args.down.now c.turn.new.down c.turn.ensures.lasts).side
