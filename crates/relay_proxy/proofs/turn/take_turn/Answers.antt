-- A turn of a phase that relays asks no connector, and is a turn of the request.
use Rattle.std.specs.Global.{Box}
use Rattle.std.proofs.Common.{◌≡◌, ◌+◌, List, [], Some, refl, sym, subst, ◌∙◌, inl, inr, true≢false}
use Rattle.relay_connector.specs.Upstream.{upstream_state, upstream_start}
use Rattle.relay_connector.specs.declared.Returned.{Returned}
use Rattle.relay_request.specs.Bound.{PhaseCounts, TurnedCounts}
use Rattle.relay_request.specs.Calls.{CallsSoFar, allowed_by, log_of}
use Rattle.relay_request.specs.Closing.{TurnOf}
use Rattle.relay_request.specs.Passed.{called_to}
use Rattle.relay_request.specs.Purging.{AsksPurger}
use Rattle.relay_request.specs.Turn.{held_state, world_of}
use Rattle.relay_request.specs.Uses.{PhaseUses, TurnCounts, TurnUses}
use Rattle.relay_request.specs.declared.machine.Phase.{Phase}
use Rattle.relay_request.proofs.MadeLemmas.{relaying_unmade}
use Rattle.relay_turns.proofs.RefusalLemmas.{none_added}
use Rattle.relay_turns.proofs.RelayingTurns.{relaying_exchanges, relaying_going, relaying_run, relaying_under, relays_turn}
use Rattle.relay_turns.proofs.TakenLemmas.{takes_nothing}
use Rattle.relay_turns.proofs.TurnLemmas.{relaying_rests, relaying_works, relaying_tells, relaying_unrefused, relaying_takes, relaying_carries, not_relaying}
use Rattle.relay_proxy.proofs.turn.take_turn.Goals as goal

-- a turn of the attempt is a turn
pub returns-then-is_relaying-clause-turn : goal.returns-then-is_relaying-clause-turn
returns-then-is_relaying-clause-turn g c =
    let link_state = upstream_state g.K.Byte.ByteLink.state g.K.Message.MessageLink.state
    g.K.Custom.MessageLink.state in
    let link_start = upstream_start g.K.Byte.ByteLink.start g.K.Message.MessageLink.start
    g.K.Custom.MessageLink.start in
    λ s p own most first calls run.
    relaying_run link_state link_start
    (called_to s (log_of c.args.calls.now)) p
    (world_of g.D.ByteLink.state c.args.client.now
    (g.K.Connector.fault_count c.args.connector.now)) own c.args.phase.now
    (λ (back : List (Returned _)).
    TurnOf link_state link_start
    (called_to s (log_of c.relay.new.calls))
    (world_of g.D.ByteLink.state c.relay.new.client
    (g.K.Connector.fault_count c.args.connector.now)) back c.args.phase.now c.relay.new.phase)
    (sym c.is_relaying.ensures ∙ c.if-is_relaying.true) run
    (λ none. relays_turn link_state link_start
    (called_to s (log_of c.relay.new.calls))
    (world_of g.D.ByteLink.state c.relay.new.client
    (g.K.Connector.fault_count c.args.connector.now)) c.args.phase.now c.relay.new.phase
    (sym c.is_relaying.ensures ∙ c.if-is_relaying.true)
    (c.relay.ensures.run s p (g.K.Connector.fault_count c.args.connector.now) first calls none))

-- one of another phase does not heed how many calls had failed
pub returns-clause-turn : goal.returns-clause-turn
returns-clause-turn g c = λ s p own most first calls run.
    c.move_on.ensures.turn s p own most calls run

-- its cause is that of the attempt
pub returns-then-is_relaying-clause-cause : goal.returns-then-is_relaying-clause-cause
returns-then-is_relaying-clause-cause g c =
    c.relay.ensures.cause (g.K.Connector.fault_count c.args.connector.now)

-- or that of the phase that does not relay
pub returns-clause-cause : goal.returns-clause-cause
returns-clause-cause g c = inl c.move_on.ensures.cause

-- the request had not ended
pub returns-then-is_relaying-clause-rests : goal.returns-then-is_relaying-clause-rests
returns-then-is_relaying-clause-rests g c =
    let link_state = upstream_state g.K.Byte.ByteLink.state g.K.Message.MessageLink.state
    g.K.Custom.MessageLink.state in
    let link_start = upstream_start g.K.Byte.ByteLink.start g.K.Message.MessageLink.start
    g.K.Custom.MessageLink.start in
    relaying_rests link_state link_start
    (world_of g.D.ByteLink.state c.args.client.now
    (g.K.Connector.fault_count c.args.connector.now))
    (world_of g.D.ByteLink.state c.relay.new.client
    (g.K.Connector.fault_count c.args.connector.now))
    c.args.phase.now c.relay.new.phase c.relay.result.step
    (sym c.is_relaying.ensures ∙ c.if-is_relaying.true)

pub returns-then-is_relaying-clause-still : goal.returns-then-is_relaying-clause-still
returns-then-is_relaying-clause-still g c = λ over.
    absurd (true≢false (sym over
    ∙ relaying_going c.args.phase.now (sym c.is_relaying.ensures ∙ c.if-is_relaying.true)))

-- the turn did its work
pub returns-then-is_relaying-clause-work : goal.returns-then-is_relaying-clause-work
returns-then-is_relaying-clause-work g c =
    relaying_works c.args.phase.now c.relay.result.step c.relay.result.work
    (sym c.is_relaying.ensures ∙ c.if-is_relaying.true)
    c.relay.ensures.work

-- a turn of the attempt adds no refusal of the connector
pub returns-then-is_relaying-clause-refusals : goal.returns-then-is_relaying-clause-refusals
returns-then-is_relaying-clause-refusals g c =
    let link_state = upstream_state g.K.Byte.ByteLink.state g.K.Message.MessageLink.state
    g.K.Custom.MessageLink.state in
    let link_start = upstream_start g.K.Byte.ByteLink.start g.K.Message.MessageLink.start
    g.K.Custom.MessageLink.start in
    none_added _ _ _ (relaying_unrefused link_state link_start
    c.args.phase.now c.relay.new.phase (sym c.is_relaying.ensures ∙ c.if-is_relaying.true)) refl

-- and tells of those that were answered before
pub returns-then-is_relaying-clause-tells : goal.returns-then-is_relaying-clause-tells
returns-then-is_relaying-clause-tells g c =
    let link_state = upstream_state g.K.Byte.ByteLink.state g.K.Message.MessageLink.state
    g.K.Custom.MessageLink.state in
    let link_start = upstream_start g.K.Byte.ByteLink.start g.K.Message.MessageLink.start
    g.K.Custom.MessageLink.start in
    λ live.
    relaying_tells link_state link_start c.args.phase.now
    c.relay.new.phase (sym c.is_relaying.ensures ∙ c.if-is_relaying.true) c.relay.ensures.tries

-- nor does it take any of the offers
pub returns-then-is_relaying-clause-offers : goal.returns-then-is_relaying-clause-offers
returns-then-is_relaying-clause-offers g c =
    let link_state = upstream_state g.K.Byte.ByteLink.state g.K.Message.MessageLink.state
    g.K.Custom.MessageLink.state in
    let link_start = upstream_start g.K.Byte.ByteLink.start g.K.Message.MessageLink.start
    g.K.Custom.MessageLink.start in
    takes_nothing _ _ _ (relaying_takes link_state link_start
    c.args.phase.now c.relay.new.phase (sym c.is_relaying.ensures ∙ c.if-is_relaying.true)) refl

-- its next phase holds the same link
pub returns-then-is_relaying-clause-carries : goal.returns-then-is_relaying-clause-carries
returns-then-is_relaying-clause-carries g c =
    let link_state = upstream_state g.K.Byte.ByteLink.state g.K.Message.MessageLink.state
    g.K.Custom.MessageLink.state in
    let link_start = upstream_start g.K.Byte.ByteLink.start g.K.Message.MessageLink.start
    g.K.Custom.MessageLink.start in
    λ live.
    relaying_carries link_state link_start c.args.phase.now
    c.relay.new.phase (sym c.is_relaying.ensures ∙ c.if-is_relaying.true) c.relay.ensures.tries
    c.relay.ensures.items

-- its uses are those of both links
pub returns-then-is_relaying-clause-uses : goal.returns-then-is_relaying-clause-uses
returns-then-is_relaying-clause-uses g c =
    let link_state = upstream_state g.K.Byte.ByteLink.state g.K.Message.MessageLink.state
    g.K.Custom.MessageLink.state in
    let link_start = upstream_start g.K.Byte.ByteLink.start g.K.Message.MessageLink.start
    g.K.Custom.MessageLink.start in
    λ s p own calls run.
    relaying_under link_state link_start
    (allowed_by (g.SV.ProxyHttp.allows c.args.hooks.now) g.SV.Modules.HttpModule.allows)
    (g.SV.ProxyHttp.mark_of c.args.hooks.now) s p
    (world_of g.D.ByteLink.state c.args.client.now
    (g.K.Connector.fault_count c.args.connector.now)) c.args.calls.now own c.args.phase.now
    (λ (back : List (Returned _)).
    TurnUses c.relay.result.work.used (g.D.ByteLink.state c.args.client.now.link)
    (g.D.ByteLink.state c.relay.new.client.link)
    (held_state link_state c.args.phase.now)
    (λ link. held_state link_state c.relay.new.phase ≡ Some link))
    (sym c.is_relaying.ensures ∙ c.if-is_relaying.true) calls run c.relay.ensures.uses

-- a phase that does not relay heeds no log in them
pub returns-clause-uses : goal.returns-clause-uses
returns-clause-uses g c = λ s p own calls run.
    c.move_on.ensures.uses (called_to s (log_of c.args.calls.now)) p own run

-- what it counted of tasks and ends is that of the exchange
pub returns-then-is_relaying-clause-bounds : goal.returns-then-is_relaying-clause-bounds
returns-then-is_relaying-clause-bounds g c =
    let link_state = upstream_state g.K.Byte.ByteLink.state g.K.Message.MessageLink.state
    g.K.Custom.MessageLink.state in
    let link_start = upstream_start g.K.Byte.ByteLink.start g.K.Message.MessageLink.start
    g.K.Custom.MessageLink.start in
    λ s p own tasks ends most calls run had.
    relaying_run link_state link_start
    (called_to s (log_of c.args.calls.now)) p
    (world_of g.D.ByteLink.state c.args.client.now
    (g.K.Connector.fault_count c.args.connector.now)) own c.args.phase.now
    (λ (back : List (Returned _)).
    PhaseCounts {C = g.row.SV-CTX.Denot} link_state link_start tasks ends
    (called_to s (log_of c.args.calls.now)) (g.D.ByteLink.state c.args.client.now.link)
    c.args.client.now.ahead back c.args.phase.now
    → TurnedCounts {C = g.row.SV-CTX.Denot} link_state link_start
    (c.relay.result.work.moved + tasks) (c.relay.result.work.ended + ends)
    (called_to s (log_of c.relay.new.calls)) (g.D.ByteLink.state c.relay.new.client.link)
    c.relay.new.client.ahead back c.relay.new.phase)
    (sym c.is_relaying.ensures ∙ c.if-is_relaying.true) run
    (λ none counted. c.relay.ensures.bounds s tasks ends calls counted) had

-- and what it moved is what the exchange moved, or hooks were called
pub returns-then-is_relaying-clause-moves : goal.returns-then-is_relaying-clause-moves
returns-then-is_relaying-clause-moves g c =
    c.relay.ensures.moves (g.K.Connector.fault_count c.args.connector.now)

-- a phase that does not relay moves nothing of an exchange
pub returns-clause-moves : goal.returns-clause-moves
returns-clause-moves g c = λ a is did.
    absurd (not_relaying c.args.phase.now a (sym c.is_relaying.ensures ∙ c.if-is_relaying.false) is)

-- and so often were both links asked
pub returns-then-is_relaying-clause-counts : goal.returns-then-is_relaying-clause-counts
returns-then-is_relaying-clause-counts g c =
    let link_state = upstream_state g.K.Byte.ByteLink.state g.K.Message.MessageLink.state
    g.K.Custom.MessageLink.state in
    let link_start = upstream_start g.K.Byte.ByteLink.start g.K.Message.MessageLink.start
    g.K.Custom.MessageLink.start in
    λ s p own n calls run had.
    relaying_run link_state link_start
    (called_to s (log_of c.args.calls.now)) p
    (world_of g.D.ByteLink.state c.args.client.now
    (g.K.Connector.fault_count c.args.connector.now)) own c.args.phase.now
    (λ (back : List (Returned _)).
    PhaseUses {C = g.row.SV-CTX.Denot} link_state link_start n back
    c.args.phase.now
    → TurnCounts {C = g.row.SV-CTX.Denot} link_state link_start n
    (g.D.ByteLink.state c.args.client.now.link) (g.D.ByteLink.state c.relay.new.client.link)
    c.relay.result.work.used back c.relay.new.phase)
    (sym c.is_relaying.ensures ∙ c.if-is_relaying.true) run
    (λ none had.
    relaying_under link_state link_start
    (allowed_by (g.SV.ProxyHttp.allows c.args.hooks.now) g.SV.Modules.HttpModule.allows)
    (g.SV.ProxyHttp.mark_of c.args.hooks.now) s p
    (world_of g.D.ByteLink.state c.args.client.now
    (g.K.Connector.fault_count c.args.connector.now)) c.args.calls.now [] c.args.phase.now
    (λ (back : List (Returned _)).
    TurnCounts {C = g.row.SV-CTX.Denot} link_state link_start n
    (g.D.ByteLink.state c.args.client.now.link) (g.D.ByteLink.state c.relay.new.client.link)
    c.relay.result.work.used [] c.relay.new.phase)
    (sym c.is_relaying.ensures ∙ c.if-is_relaying.true) calls none
    (λ o q a is under. c.relay.ensures.counts o q a n is under
    (subst (λ (k : Phase _ g.row.SV-CTX.Denot).
    PhaseUses link_state link_start n [] k) is had))) had

-- nor is one asked that does not relay
pub returns-clause-counts : goal.returns-clause-counts
returns-clause-counts g c = λ s p own n calls run had.
    c.move_on.ensures.counts (called_to s (log_of c.args.calls.now)) p own n run had

-- its calls go on with those of its filters
pub returns-then-is_relaying-clause-calls : goal.returns-then-is_relaying-clause-calls
returns-then-is_relaying-clause-calls g c =
    let link_state = upstream_state g.K.Byte.ByteLink.state g.K.Message.MessageLink.state
    g.K.Custom.MessageLink.state in
    let link_start = upstream_start g.K.Byte.ByteLink.start g.K.Message.MessageLink.start
    g.K.Custom.MessageLink.start in
    λ s p own most first calls run.
    relaying_run link_state link_start
    (called_to s (log_of c.args.calls.now)) p
    (world_of g.D.ByteLink.state c.args.client.now
    (g.K.Connector.fault_count c.args.connector.now)) own c.args.phase.now
    (λ (back : List (Returned _)).
    CallsSoFar (allowed_by (g.SV.ProxyHttp.allows c.args.hooks.now) g.SV.Modules.HttpModule.allows)
    (g.SV.ProxyHttp.mark_of c.args.hooks.now) c.relay.new.calls c.relay.new.phase)
    (sym c.is_relaying.ensures ∙ c.if-is_relaying.true) run
    (λ none. c.relay.ensures.calls s p (g.K.Connector.fault_count c.args.connector.now) first calls
    none)

-- and those of a phase that does not relay with its call
pub returns-clause-calls : goal.returns-clause-calls
returns-clause-calls g c = λ s p own most first calls run. c.move_on.ensures.calls calls

-- it may make several of them
pub returns-then-is_relaying-clause-once : goal.returns-then-is_relaying-clause-once
returns-then-is_relaying-clause-once g c = λ not.
    absurd (true≢false (sym (relaying_exchanges c.args.phase.now
    (sym c.is_relaying.ensures ∙ c.if-is_relaying.true)) ∙ not))

-- but none of a purge
pub returns-then-is_relaying-clause-purger : goal.returns-then-is_relaying-clause-purger
returns-then-is_relaying-clause-purger g c = λ so_far.
    AsksPurger.nothing refl c.relay.ensures.purged

-- no hook before the attempts is called in an exchange
pub returns-then-is_relaying-clause-made : goal.returns-then-is_relaying-clause-made
returns-then-is_relaying-clause-made g c =
    relaying_unmade c.args.makes_modules c.args.calls.now c.relay.new.calls c.args.phase.now
    (sym c.is_relaying.ensures ∙ c.if-is_relaying.true)
