-- Over a link that the connector gave the exchange begins; where it gave none, its count rose.
use Rattle.std.proofs.Common.{List, ap, refl, sym, ◌∙◌}
use Rattle.relay_connector.specs.Upstream.{upstream_state, upstream_start}
use Rattle.relay_connector.proofs.UpstreamLemmas.{speaks_of_bytes}
use Rattle.relay_request.specs.Refusals.{faults_told}
use Rattle.relay_request.specs.Turn.{world_with}
use Rattle.relay_request.specs.declared.record.AttemptRecord.{AttemptRecord}
use Rattle.relay_request.proofs.CallLemmas.{opening_logged}
use Rattle.relay_turns.proofs.HookSteps.{same_peer}
use Rattle.relay_turns.proofs.RefusalLemmas.{told_before_link}
use Rattle.relay_turns.proofs.TakenLemmas.{none_asked, took_fault, took_link}
use Rattle.relay_proxy.proofs.connecting.connect.Goals as goal

-- the run goes on over the link that the connector gave
pub returns-in-Ok-get-clause-run : goal.returns-in-Ok-get-clause-run
returns-in-Ok-get-clause-run g c = λ s p client ahead limit o run.
    rw c.in-Ok-get.ensures.no_fault (c.tell.ensures.run s p
    (world_with client ahead (g.K.Connector.fault_count c.args.connector.now))
    (rw (← c.in-Ok.ensures.ok) at o) (rw (← c.in-Ok.ensures.ok) at run) c.in-Some.ensures
    (same_peer _ _ (sym c.in-Some-peer.ensures ∙ c.in-Some.ensures)) c.in-Ok-get.ensures.handed
    (rw c.carries_bytes-speaks.ensures
    (speaks_of_bytes g.K.Byte.ByteLink.state g.K.Byte.ByteLink.start g.K.Message.MessageLink.state
    g.K.Message.MessageLink.start g.K.Custom.MessageLink.state g.K.Custom.MessageLink.start _ _
    c.in-Ok-get.ensures.over)))

-- and so do its calls
pub returns-in-Ok-get-clause-calls : goal.returns-in-Ok-get-clause-calls
returns-in-Ok-get-clause-calls g c = λ o.
    c.tell.ensures.calls c.in-Some.ensures (rw (← c.in-Ok.ensures.ok) at o)

-- memory was wanted before it was asked
pub returns-in-Err-clause-calls : goal.returns-in-Err-clause-calls
returns-in-Err-clause-calls g c = λ o.
    rw c.lacks_memory.ensures.phase
    (opening_logged _ _ c.args.calls.now c.args.context c.args.session.value c.args.tries o)

pub returns-in_default-clause-calls : goal.returns-in_default-clause-calls
returns-in_default-clause-calls g c = λ o.
    rw c.lacks_memory-in_default.ensures.phase
    (opening_logged _ _ c.args.calls.now c.args.context c.args.session.value c.args.tries o)

pub returns-in_default-peer-clause-calls : goal.returns-in_default-peer-clause-calls
returns-in_default-peer-clause-calls g c = λ o.
    rw c.lacks_memory-in_default-peer.ensures.phase
    (opening_logged _ _ c.args.calls.now c.args.context c.args.session.value c.args.tries o)

-- where it gave none the application is told so
pub returns-in-Err-get-clause-run : goal.returns-in-Err-get-clause-run
returns-in-Err-get-clause-run g c = λ s p client ahead limit o run.
    c.refused_link.ensures.run s p
    (world_with client ahead (g.K.Connector.fault_count c.args.connector.now))
    (g.K.Connector.fault_count c.get.new.self) limit c.get.ensures.fits.0
    c.in-Err-get.ensures.rose c.in-Err-get.ensures.fault (rw (← c.in-Ok.ensures.ok) at o)
    c.in-Some.ensures (same_peer _ _ (sym c.in-Some-peer.ensures ∙ c.in-Some.ensures))
    (rw (← c.in-Ok.ensures.ok) at run)

pub returns-in-Err-get-clause-calls : goal.returns-in-Err-get-clause-calls
returns-in-Err-get-clause-calls g c = λ o.
    c.refused_link.ensures.calls c.in-Some.ensures (rw (← c.in-Ok.ensures.ok) at o)

pub returns-in-Err-get-clause-called : goal.returns-in-Err-get-clause-called
returns-in-Err-get-clause-called g c = c.refused_link.ensures.called

-- a link that was given is no refusal, and was the first of the offers
pub returns-in-Ok-get-clause-asks : goal.returns-in-Ok-get-clause-asks
returns-in-Ok-get-clause-asks g c =
    let link_state = upstream_state g.K.Byte.ByteLink.state g.K.Message.MessageLink.state
    g.K.Custom.MessageLink.state in
    let link_start = upstream_start g.K.Byte.ByteLink.start g.K.Message.MessageLink.start
    g.K.Custom.MessageLink.start in
    took_link _ _ _ _ _ _ _ _
    (told_before_link link_state link_start c.args.tries
    c.tell.result.phase c.tell.result.work (rw c.in-Ok.ensures.ok at c.tell.ensures.counts)
    c.tell.ensures.linked)
    c.tell.ensures.items c.in-Ok-get.ensures.calm c.in-Ok-get.ensures.first

-- one that was not given is one refusal more, and its fault was the first of them
pub returns-in-Err-get-clause-asks : goal.returns-in-Err-get-clause-asks
returns-in-Err-get-clause-asks g c =
    took_fault _ _ _ c.in-Err-get.fault _ _ _ _
    (rw c.in-Ok.ensures.ok at c.refused_link.ensures.told) c.refused_link.ensures.no_items
    c.in-Err-get.ensures.refused c.in-Err-get.ensures.foretold

-- where none was given the cause is that of the refusal
pub returns-in-Err-get-clause-cause : goal.returns-in-Err-get-clause-cause
returns-in-Err-get-clause-cause g c = λ log client ahead.
    rw c.in-Ok.ensures.ok at (c.refused_link.ensures.cause log
    (world_with client ahead (g.K.Connector.fault_count c.args.connector.now))
    (world_with client ahead (g.K.Connector.fault_count c.get.new.self)))

-- and where memory was wanted none was answered
pub returns-in_default-peer-clause-asks : goal.returns-in_default-peer-clause-asks
returns-in_default-peer-clause-asks g c =
    rw c.lacks_memory-in_default-peer.ensures.phase
    (none_asked _ _ _ _ _ _ _
    (ap (λ (xs : List AttemptRecord). faults_told xs)
    (c.into_tries-in_default-peer.ensures ∙ c.in-Ok.ensures.ok)) refl refl refl)

pub returns-in_default-clause-asks : goal.returns-in_default-clause-asks
returns-in_default-clause-asks g c =
    rw c.lacks_memory-in_default.ensures.phase
    (none_asked _ _ _ _ _ _ _
    (ap (λ (xs : List AttemptRecord). faults_told xs)
    (c.into_tries.ensures ∙ c.in-Ok.ensures.ok)) refl refl refl)

pub returns-in-Err-clause-asks : goal.returns-in-Err-clause-asks
returns-in-Err-clause-asks g c =
    rw c.lacks_memory.ensures.phase
    (none_asked _ _ _ _ _ _ _
    (ap (λ (xs : List AttemptRecord). faults_told xs) c.in-Err.ensures.err) refl refl refl)

-- the end does not begin as the application is told of the link
pub returns-in-Ok-get-clause-unended : goal.returns-in-Ok-get-clause-unended
returns-in-Ok-get-clause-unended g c = c.tell.ensures.unended

pub returns-in-Err-get-clause-unended : goal.returns-in-Err-get-clause-unended
returns-in-Err-get-clause-unended g c = c.refused_link.ensures.unended
