-- The attempt is recorded with its error as it was treated, and another follows, or its client is
-- to be answered; or memory was wanted.
use Rattle.std.proofs.Common.{refl, subst}
use Rattle.relay_hooks.specs.Session.{request_head}
use Rattle.relay_phases.specs.Order.{named}
use Rattle.relay_trying.specs.Trying.{may_follow, treated_at}
use Rattle.relay_request.specs.Calls.{TellsPeer, allowed_by, log_of, seen_with}
use Rattle.relay_request.specs.declared.calls.At.{At}
use Rattle.relay_request.proofs.CallLemmas.{logged_same}
use Rattle.relay_turns.proofs.ConnectSteps.{not_told, refused_moved, refused_on}
use Rattle.relay_turns.proofs.RefusalLemmas.{refused_counts, told_on, told_once}
use Rattle.relay_turns.proofs.RefusedCalls.{refused_calls}
use Rattle.relay_turns.proofs.Tells.{sided}
use Rattle.relay_proxy.proofs.connecting.refused_link.Goals as goal

-- the application treated its error, and another attempt follows, or none
pub returns-in-Ok-clause-run : goal.returns-in-Ok-clause-run
returns-in-Ok-clause-run g c = λ s p w failed limit fits rose kind o was same run.
    let t = rw c.deref_mut.ensures.value at c.in-Ok.ensures.treats in
    refused_on g.L.ByteLink.state g.L.ByteLink.start
    (allowed_by (g.SV.ProxyHttp.allows c.args.app.now) g.SV.Modules.HttpModule.allows)
    c.args.calls.now c.treat_unlinked.new.calls
    (g.SV.ProxyHttp.mark_of c.args.app.now c.args.context)
    (g.SV.ProxyHttp.mark_of c.args.app.now c.treat_unlinked.new.context) s p w failed c.args.most
    c.args.context c.args.session c.treat_unlinked.new.client
    c.args.lacking.room.items.items c.record-attempts.result named
    (treated_at (may_follow c.in-Ok.treated (seen_with c.args.calls.now c.args.session.value)))
    c.args.lacking.peer c.args.lacking.recorded c.args.lacking.fault c.of_fault-raised.result
    c.in-Ok.treated c.into_up-error.result limit fits rose kind
    (subst (λ (a : At _ _). TellsPeer a (log_of c.args.calls.now)
    (request_head (seen_with c.args.calls.now c.args.session.value))) was o.named) same
    c.of_fault-raised.ensures c.into_up-error.ensures c.record-attempts.ensures t.call run
    c.go_on.new.calls c.treat_unlinked.new.context _ c.go_on.result.phase c.go_on.ensures.log
    (λ may. (c.go_on.ensures.again may).0) (λ over. (c.go_on.ensures.ends over).0) refl

pub returns-in-Ok-clause-calls : goal.returns-in-Ok-clause-calls
returns-in-Ok-clause-calls g c = λ was o.
    refused_calls _ (g.SV.ProxyHttp.mark_of c.args.app.now) c.args.calls.now
    c.treat_unlinked.new.calls c.args.context c.treat_unlinked.new.context c.args.session.value
    c.treat_unlinked.new.client c.args.lacking.room.items.items c.args.lacking.peer
    c.of_fault-raised.result c.in-Ok.treated was o
    (rw c.deref_mut.ensures.value at c.in-Ok.ensures.treats) c.go_on.new.calls _
    c.go_on.result.phase c.args.most c.record-attempts.result c.into_up-error.result
    c.into_up-error.ensures c.go_on.ensures.again c.go_on.ensures.ends refl

-- that is what the turn moved
pub returns-in-Ok-clause-cause : goal.returns-in-Ok-clause-cause
returns-in-Ok-clause-cause g c = λ log w x.
    refused_moved g.L.ByteLink.state g.L.ByteLink.start log w x c.args.context
    c.treat_unlinked.new.context c.args.session _ c.args.lacking.room.items.items
    c.record-attempts.result _ c.into_up-error.result c.go_on.result.phase c.go_on.result.step
    c.go_on.ensures.step c.record-attempts.ensures c.go_on.ensures.follows

-- the record tells of the fault
pub returns-in-Ok-clause-told : goal.returns-in-Ok-clause-told
returns-in-Ok-clause-told g c =
    told_on c.go_on.result.phase _ _ c.record-attempts.result c.into_up-error.result _
    c.go_on.ensures.follows
    (told_once c.args.lacking.room.items.items c.record-attempts.result _ c.args.lacking.fault
    c.record-attempts.ensures refl)

-- and counts as one attempt more
pub returns-in-Ok-clause-counts : goal.returns-in-Ok-clause-counts
returns-in-Ok-clause-counts g c =
    refused_counts c.go_on.result.phase _ _ c.args.lacking.room.items.items
    c.record-attempts.result _ c.into_up-error.result c.go_on.result.work
    (rw c.go_on.ensures.work refl) (rw c.go_on.ensures.work refl) c.record-attempts.ensures
    c.go_on.ensures.follows

-- memory was wanted as the application was to be told so
pub returns-in-Err-clause-run : goal.returns-in-Err-clause-run
returns-in-Err-clause-run g c = λ s p w failed limit fits rose kind o was same run.
    rw c.lacks_memory.ensures.phase
    (not_told g.L.ByteLink.state g.L.ByteLink.start c.args.calls.now c.treat_unlinked.new.calls s p
    w
    failed c.args.context c.args.session c.args.lacking.room.items.items c.record.result fits rose
    run c.args.lacking.peer c.args.lacking.recorded c.args.lacking.fault c.into_up.result
    c.in-Err.ensures.lost
    (subst (λ (a : At _ _). TellsPeer a (log_of c.args.calls.now)
    (request_head (seen_with c.args.calls.now c.args.session.value))) was o.named) same kind
    (sided _ _ _ _ c.of_fault-raised.ensures c.into_up.ensures) c.record.ensures)

pub returns-in-Err-clause-calls : goal.returns-in-Err-clause-calls
returns-in-Err-clause-calls g c = λ was o.
    rw c.lacks_memory.ensures.phase
    (logged_same _ _ c.args.calls.now c.treat_unlinked.new.calls c.args.context
    c.args.session.value _ c.in-Err.ensures.lost o)

-- and the record tells of the fault
pub returns-in-Err-clause-told : goal.returns-in-Err-clause-told
returns-in-Err-clause-told g c =
    rw c.lacks_memory.ensures.phase
    (told_once c.args.lacking.room.items.items c.record.result _ c.args.lacking.fault
    c.record.ensures refl)
