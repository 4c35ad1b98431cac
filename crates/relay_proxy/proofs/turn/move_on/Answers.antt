-- A turn of a phase that does not relay. One that does not ask the connector leaves its count of
-- faults as it was.
use Rattle.std.proofs.Common.{[], ◌++◌, List, Some, refl, sym, ap, subst, ◌∙◌, inr, true≢false, append-nil, arith}
use Rattle.relay_connector.specs.Connector.{Handed}
use Rattle.relay_request.specs.Stock.{all_links}
use Rattle.relay_proxy.proofs.StockLemmas.{links_asked}
use Rattle.relay_connector.specs.Upstream.{upstream_state, upstream_start}
use Rattle.relay_tasks.specs.declared.Fault.{Fault}
use Rattle.relay_links.specs.Told.{Gains}
use Rattle.relay_request.specs.Refusals.{faults_told}
use Rattle.relay_request.specs.declared.record.AttemptRecord.{AttemptRecord}
use Rattle.relay_tasks.specs.declared.log.LogEntry.{LogEntry}
use Rattle.relay_phases.specs.Order.{next_behind}
use Rattle.relay_phases.specs.Order.{Station as station}
use Rattle.relay_request.specs.Calls.{log_of}
use Rattle.relay_request.specs.Purging.{AsksPurger}
use Rattle.relay_request.specs.Passed.{called_to}
use Rattle.relay_request.specs.Turn.{world_of}
use Rattle.relay_turns.proofs.BoundLemmas.{answer_bounds, head_turn_bounds, link_turn_bounds, send_turn_bounds, treat_turn_bounds}
use Rattle.relay_turns.proofs.RefusalLemmas.{none_added, none_unmade, others_told}
use Rattle.relay_turns.proofs.TakenLemmas.{takes_nothing, takes_more, took_more, no_offers}
use Rattle.relay_turns.proofs.TurnLemmas.{broken_counts, broken_faults, broken_offers, broken_turn, head_turn, connect_turn, none_unended, open_step, prepare_turn, head_counts, still_counts, connect_counts, prepare_counts, prepare_faults, prepare_offers, unlinked_asked, unlinked_offers, unlinked_open, unlinked_turn, unlinked_turn_bounds, answer_offers}
use Rattle.relay_request.proofs.CallLemmas.{none_called}
use Rattle.relay_turns.proofs.CountLemmas.{client_both}
use Rattle.relay_turns.proofs.LastCalls.{calls_logged, owing_on}
use Rattle.relay_turns.proofs.PurgeSteps.{asks_nothing, asks_still, breaks_elsewhere, fails_elsewhere}
use Rattle.relay_proxy.proofs.turn.move_on.Goals as goal

-- a turn that reads the head is a turn
pub returns-in-ReadHead-clause-turn : goal.returns-in-ReadHead-clause-turn
returns-in-ReadHead-clause-turn g c =
    let link_state = upstream_state g.K.Byte.ByteLink.state g.K.Message.MessageLink.state
    g.K.Custom.MessageLink.state in
    let link_start = upstream_start g.K.Byte.ByteLink.start g.K.Message.MessageLink.start
    g.K.Custom.MessageLink.start in
    rw (c.go_on.ensures.phase, sym c.replace.ensures.value ∙ c.in-ReadHead.is)
    (λ s p own most calls run.
    head_turn link_state link_start
    (called_to s (log_of c.args.calls.now)) (called_to s (log_of c.read_head.new.calls)) p
    (world_of g.D.ByteLink.state c.args.client.now
    (g.K.Connector.fault_count c.args.connector.now))
    (world_of g.D.ByteLink.state c.read_head.new.client
    (g.K.Connector.fault_count c.args.connector.now)) own c.read_head.result.phase run
    (open_step link_state link_start s _ _ p _ _ _ _
    (none_unended _ calls) (c.read_head.ensures.unended (none_unended _ calls))
    (λ first. c.read_head.ensures.run s p (g.K.Connector.fault_count c.args.connector.now) calls
    first)))

-- a write of the answer is a turn
pub returns-in-Answer-clause-turn : goal.returns-in-Answer-clause-turn
returns-in-Answer-clause-turn g c =
    rw (
      c.write_answer.ensures.log,
      c.go_on-in-Answer.ensures.phase,
      sym c.replace.ensures.value ∙ c.in-Answer.is,
    )
    (λ s p own most calls run. record {
      advances = c.write_answer.ensures.run (called_to s (log_of c.args.calls.now)) p own
          (g.K.Connector.fault_count c.args.connector.now) run;
      same = c.write_answer.ensures.attempts;
      unlinked = c.write_answer.ensures.unlinked;
    })

-- and so is one whose link is to go back
pub returns-in-Fail-clause-turn : goal.returns-in-Fail-clause-turn
returns-in-Fail-clause-turn g c =
    rw (c.go_on-in-Fail.ensures.phase, sym c.replace.ensures.value ∙ c.in-Fail.is)
    (λ s p own most calls run. record { passed = p; run = run })

-- the same where another attempt follows then
pub returns-in-Again-clause-turn : goal.returns-in-Again-clause-turn
returns-in-Again-clause-turn g c =
    rw (c.go_on-in-Again.ensures.phase, sym c.replace.ensures.value ∙ c.in-Again.is)
    (λ s p own most calls run. record { passed = p; run = run })

-- a turn that asks the connector is a turn
pub returns-in-Connect-clause-turn : goal.returns-in-Connect-clause-turn
returns-in-Connect-clause-turn g c =
    let link_state = upstream_state g.K.Byte.ByteLink.state g.K.Message.MessageLink.state
    g.K.Custom.MessageLink.state in
    let link_start = upstream_start g.K.Byte.ByteLink.start g.K.Message.MessageLink.start
    g.K.Custom.MessageLink.start in
    rw (c.go_on-in-Connect.ensures.phase, sym c.replace.ensures.value ∙ c.in-Connect.is)
    (λ s p own most calls run. connect_turn link_state link_start
    (called_to s (log_of c.args.calls.now)) (called_to s (log_of c.reach.new.calls)) p
    (world_of g.D.ByteLink.state c.args.client.now
    (g.K.Connector.fault_count c.args.connector.now))
    (world_of g.D.ByteLink.state c.args.client.now
    (g.K.Connector.fault_count c.reach.new.connector)) own _ _ _ c.reach.result.phase run
    (λ first. c.reach.ensures.run s p (g.D.ByteLink.state c.args.client.now.link)
    c.args.client.now.ahead most calls first))

-- the link that the connector gave comes behind those that were there
pub returns-in-Connect-clause-links : goal.returns-in-Connect-clause-links
returns-in-Connect-clause-links g c =
    let link_start = upstream_start g.K.Byte.ByteLink.start g.K.Message.MessageLink.start
    g.K.Custom.MessageLink.start in
    rw (
      c.go_on-in-Connect.ensures.phase,
      sym c.replace.ensures.value ∙ c.in-Connect.is,
      c.reach.ensures.returned,
    )
    (ap (λ (links : List Handed).
    all_links link_start (g.K.Connector.returned c.args.connector.now) links)
    (sym (links_asked link_start _ c.reach.result.phase _ _ _ _ c.reach.ensures.asks)))

-- the cause of a turn that reads the head
pub returns-in-ReadHead-clause-cause : goal.returns-in-ReadHead-clause-cause
returns-in-ReadHead-clause-cause g c =
    rw (c.go_on.ensures.phase, c.go_on.ensures.step, sym c.replace.ensures.value ∙ c.in-ReadHead.is)
    (c.read_head.ensures.cause (log_of c.args.calls.now)
    (g.K.Connector.fault_count c.args.connector.now))

-- the cause of a turn that writes the answer
pub returns-in-Answer-clause-cause : goal.returns-in-Answer-clause-cause
returns-in-Answer-clause-cause g c =
    rw (
      c.go_on-in-Answer.ensures.phase,
      c.go_on-in-Answer.ensures.step,
      sym c.replace.ensures.value ∙ c.in-Answer.is,
    )
    (c.write_answer.ensures.cause (log_of c.args.calls.now)
    (g.K.Connector.fault_count c.args.connector.now))

-- a turn that reads the head hands no link back
pub returns-in-ReadHead-clause-hands_on : goal.returns-in-ReadHead-clause-hands_on
returns-in-ReadHead-clause-hands_on g c =
    let link_state = upstream_state g.K.Byte.ByteLink.state g.K.Message.MessageLink.state
    g.K.Custom.MessageLink.state in
    let link_start = upstream_start g.K.Byte.ByteLink.start g.K.Message.MessageLink.start
    g.K.Custom.MessageLink.start in
    rw (c.go_on.ensures.phase, c.go_on.ensures.step) (λ closing. absurd (true≢false
    (sym closing ∙ unlinked_open link_state link_start
    c.read_head.result.phase c.read_head.ensures.unlinked)))

-- nor does one that writes the answer
pub returns-in-Answer-clause-hands_on : goal.returns-in-Answer-clause-hands_on
returns-in-Answer-clause-hands_on g c =
    let link_state = upstream_state g.K.Byte.ByteLink.state g.K.Message.MessageLink.state
    g.K.Custom.MessageLink.state in
    let link_start = upstream_start g.K.Byte.ByteLink.start g.K.Message.MessageLink.start
    g.K.Custom.MessageLink.start in
    rw (c.go_on-in-Answer.ensures.phase, c.go_on-in-Answer.ensures.step)
    (λ closing. absurd (true≢false
    (sym closing ∙ unlinked_open link_state link_start
    c.write_answer.result.phase c.write_answer.ensures.unlinked)))

-- one that asks the connector moved or ended
pub returns-in-Connect-clause-hands_on : goal.returns-in-Connect-clause-hands_on
returns-in-Connect-clause-hands_on g c =
    rw c.go_on-in-Connect.ensures.step (λ closing. c.reach.ensures.step)

-- the cause of a turn that asks the connector
pub returns-in-Connect-clause-cause : goal.returns-in-Connect-clause-cause
returns-in-Connect-clause-cause g c =
    rw (
      c.go_on-in-Connect.ensures.phase,
      c.go_on-in-Connect.ensures.step,
      sym c.replace.ensures.value ∙ c.in-Connect.is,
    )
    (c.reach.ensures.cause (log_of c.args.calls.now) (g.D.ByteLink.state c.args.client.now.link)
    c.args.client.now.ahead)

-- a turn that reads the head adds no refusal of the connector
pub returns-in-ReadHead-clause-refusals : goal.returns-in-ReadHead-clause-refusals
returns-in-ReadHead-clause-refusals g c =
    rw (c.go_on.ensures.phase, sym c.replace.ensures.value ∙ c.in-ReadHead.is)
    (none_added _ _ _ (none_unmade c.read_head.result.phase c.read_head.ensures.no_attempts) refl)

-- a turn that asks the connector adds its refusals
pub returns-in-Connect-clause-refusals : goal.returns-in-Connect-clause-refusals
returns-in-Connect-clause-refusals g c =
    rw (c.go_on-in-Connect.ensures.phase, sym c.replace.ensures.value ∙ c.in-Connect.is)
    (subst (λ (fs : List Fault). Gains (g.K.Connector.refusals c.args.connector.now) fs
    (g.K.Connector.refusals c.reach.new.connector))
    (others_told _ c.reach.ensures.asks.faults _ c.reach.ensures.asks.are)
    c.reach.ensures.asks.gained)

-- which are told behind those from before
pub returns-in-Connect-clause-tells : goal.returns-in-Connect-clause-tells
returns-in-Connect-clause-tells g c =
    rw (c.go_on-in-Connect.ensures.phase, sym c.replace.ensures.value ∙ c.in-Connect.is) (λ live.
    ap (λ (fs : List Fault). faults_told c.in-Connect.tries ++ fs)
    (sym (others_told _ c.reach.ensures.asks.faults _ c.reach.ensures.asks.are))
    ∙ c.reach.ensures.asks.are)

-- a link that is to go back adds none
pub returns-in-Fail-clause-tells : goal.returns-in-Fail-clause-tells
returns-in-Fail-clause-tells g c =
    rw (c.go_on-in-Fail.ensures.phase, sym c.replace.ensures.value ∙ c.in-Fail.is) (λ live.
    append-nil _)

-- the same where another attempt follows then
pub returns-in-Again-clause-tells : goal.returns-in-Again-clause-tells
returns-in-Again-clause-tells g c =
    rw (c.go_on-in-Again.ensures.phase, sym c.replace.ensures.value ∙ c.in-Again.is) (λ live.
    append-nil _)

-- nor does a write of the answer
pub returns-in-Answer-clause-tells : goal.returns-in-Answer-clause-tells
returns-in-Answer-clause-tells g c =
    rw (c.go_on-in-Answer.ensures.phase, sym c.replace.ensures.value ∙ c.in-Answer.is) (λ live.
    append-nil _ ∙ ap (λ (xs : List AttemptRecord). faults_told xs)
    (sym c.write_answer.ensures.attempts))

-- what was taken before a link is to go back stays so
pub returns-in-Fail-clause-carries : goal.returns-in-Fail-clause-carries
returns-in-Fail-clause-carries g c =
    rw (c.go_on-in-Fail.ensures.phase, sym c.replace.ensures.value ∙ c.in-Fail.is) (λ live.
    append-nil _)

-- the same where another attempt follows then
pub returns-in-Again-clause-carries : goal.returns-in-Again-clause-carries
returns-in-Again-clause-carries g c =
    rw (c.go_on-in-Again.ensures.phase, sym c.replace.ensures.value ∙ c.in-Again.is) (λ live.
    append-nil _)

-- a turn that reads the head takes none of the offers
pub returns-in-ReadHead-clause-offers : goal.returns-in-ReadHead-clause-offers
returns-in-ReadHead-clause-offers g c =
    let link_start = upstream_start g.K.Byte.ByteLink.start g.K.Message.MessageLink.start
    g.K.Custom.MessageLink.start in
    rw (c.go_on.ensures.phase, sym c.replace.ensures.value ∙ c.in-ReadHead.is)
    (takes_nothing _ _ _ (no_offers link_start c.read_head.result.phase
    c.read_head.ensures.no_items
    (none_unmade c.read_head.result.phase c.read_head.ensures.no_attempts)) refl)

-- what was taken before an answer stays so
pub returns-in-Answer-clause-carries : goal.returns-in-Answer-clause-carries
returns-in-Answer-clause-carries g c =
    let link_start = upstream_start g.K.Byte.ByteLink.start g.K.Message.MessageLink.start
    g.K.Custom.MessageLink.start in
    rw (c.go_on-in-Answer.ensures.phase, sym c.replace.ensures.value ∙ c.in-Answer.is) (λ live.
    append-nil _ ∙ answer_offers link_start [] c.in-Answer.session c.in-Answer.owed
    c.in-Answer.attempts c.write_answer.result.phase
    c.write_answer.ensures.no_items c.write_answer.ensures.attempts)

-- a turn that asks the connector takes what the next phase took
pub returns-in-Connect-clause-offers : goal.returns-in-Connect-clause-offers
returns-in-Connect-clause-offers g c =
    let link_start = upstream_start g.K.Byte.ByteLink.start g.K.Message.MessageLink.start
    g.K.Custom.MessageLink.start in
    rw (c.go_on-in-Connect.ensures.phase, sym c.replace.ensures.value ∙ c.in-Connect.is)
    (takes_more link_start _ c.reach.result.phase _ _ _ _ c.reach.ensures.asks)

-- behind what was taken before
pub returns-in-Connect-clause-carries : goal.returns-in-Connect-clause-carries
returns-in-Connect-clause-carries g c =
    let link_start = upstream_start g.K.Byte.ByteLink.start g.K.Message.MessageLink.start
    g.K.Custom.MessageLink.start in
    rw (c.go_on-in-Connect.ensures.phase, sym c.replace.ensures.value ∙ c.in-Connect.is) (λ live.
    took_more link_start _ c.reach.result.phase _ _ _ _ c.reach.ensures.asks)

-- one that was to be closed, or had ended, asks no link
pub returns-in-Close-clause-uses : goal.returns-in-Close-clause-uses
returns-in-Close-clause-uses g c =
    let link_state = upstream_state g.K.Byte.ByteLink.state g.K.Message.MessageLink.state
    g.K.Custom.MessageLink.state in
    rw (
      c.go_on-in-Close.ensures.phase,
      c.go_on-in-Close.ensures.work,
      sym c.replace.ensures.value ∙ c.in-Close.is,
    )
    (λ s p own run. (
      link_state c.in-Close.link,
      refl,
      inr (refl, record { client_same = refl; upstream_same = refl }),
    ))

-- nor does one whose link is to go back
pub returns-in-Fail-clause-uses : goal.returns-in-Fail-clause-uses
returns-in-Fail-clause-uses g c =
    let link_state = upstream_state g.K.Byte.ByteLink.state g.K.Message.MessageLink.state
    g.K.Custom.MessageLink.state in
    rw (
      c.go_on-in-Fail.ensures.phase,
      c.go_on-in-Fail.ensures.work,
      sym c.replace.ensures.value ∙ c.in-Fail.is,
    )
    (λ s p own run. (
      link_state c.in-Fail.link,
      refl,
      inr (refl, record { client_same = refl; upstream_same = refl }),
    ))

-- the same where another attempt follows then
pub returns-in-Again-clause-uses : goal.returns-in-Again-clause-uses
returns-in-Again-clause-uses g c =
    let link_state = upstream_state g.K.Byte.ByteLink.state g.K.Message.MessageLink.state
    g.K.Custom.MessageLink.state in
    rw (
      c.go_on-in-Again.ensures.phase,
      c.go_on-in-Again.ensures.work,
      sym c.replace.ensures.value ∙ c.in-Again.is,
    )
    (λ s p own run. (
      link_state c.in-Again.link,
      refl,
      inr (refl, record { client_same = refl; upstream_same = refl }),
    ))

-- a turn that reads the head counts the client's uses
pub returns-in-ReadHead-clause-counts : goal.returns-in-ReadHead-clause-counts
returns-in-ReadHead-clause-counts g c =
    let link_state = upstream_state g.K.Byte.ByteLink.state g.K.Message.MessageLink.state
    g.K.Custom.MessageLink.state in
    let link_start = upstream_start g.K.Byte.ByteLink.start g.K.Message.MessageLink.start
    g.K.Custom.MessageLink.start in
    rw (c.go_on.ensures.phase, c.go_on.ensures.work, sym c.replace.ensures.value ∙ c.in-ReadHead.is)
    (λ s p own n run had. head_counts link_state link_start n
    c.read_head.result.work.used _ _ own c.read_head.result.phase c.read_head.ensures.uses
    c.read_head.ensures.unlinked had)

-- and so does one that writes the answer
pub returns-in-Answer-clause-counts : goal.returns-in-Answer-clause-counts
returns-in-Answer-clause-counts g c =
    let link_state = upstream_state g.K.Byte.ByteLink.state g.K.Message.MessageLink.state
    g.K.Custom.MessageLink.state in
    let link_start = upstream_start g.K.Byte.ByteLink.start g.K.Message.MessageLink.start
    g.K.Custom.MessageLink.start in
    rw (
      c.go_on-in-Answer.ensures.phase,
      c.go_on-in-Answer.ensures.work,
      sym c.replace.ensures.value ∙ c.in-Answer.is,
    )
    (λ s p own n run had. head_counts link_state link_start n
    c.write_answer.result.work.used _ _ own c.write_answer.result.phase
    c.write_answer.ensures.uses c.write_answer.ensures.unlinked had)

-- one that asks the connector counts none
pub returns-in-Connect-clause-counts : goal.returns-in-Connect-clause-counts
returns-in-Connect-clause-counts g c =
    let link_state = upstream_state g.K.Byte.ByteLink.state g.K.Message.MessageLink.state
    g.K.Custom.MessageLink.state in
    let link_start = upstream_start g.K.Byte.ByteLink.start g.K.Message.MessageLink.start
    g.K.Custom.MessageLink.start in
    rw (
      c.go_on-in-Connect.ensures.phase,
      c.go_on-in-Connect.ensures.work,
      sym c.replace.ensures.value ∙ c.in-Connect.is,
    )
    (λ s p own n run had. connect_counts link_state link_start s p own
    _ _ _ _ n c.reach.result.work.used _ c.reach.result.phase run had c.reach.ensures.unused
    c.reach.ensures.fresh)

-- nor does one of a request that is to be closed
pub returns-in-Close-clause-counts : goal.returns-in-Close-clause-counts
returns-in-Close-clause-counts g c =
    let link_state = upstream_state g.K.Byte.ByteLink.state g.K.Message.MessageLink.state
    g.K.Custom.MessageLink.state in
    let link_start = upstream_start g.K.Byte.ByteLink.start g.K.Message.MessageLink.start
    g.K.Custom.MessageLink.start in
    rw (
      c.go_on-in-Close.ensures.phase,
      c.go_on-in-Close.ensures.work,
      sym c.replace.ensures.value ∙ c.in-Close.is,
    )
    (λ s p own n run had. still_counts link_state link_start n 0 _ own _
    refl had)

-- or whose link is to go back
pub returns-in-Fail-clause-counts : goal.returns-in-Fail-clause-counts
returns-in-Fail-clause-counts g c =
    let link_state = upstream_state g.K.Byte.ByteLink.state g.K.Message.MessageLink.state
    g.K.Custom.MessageLink.state in
    let link_start = upstream_start g.K.Byte.ByteLink.start g.K.Message.MessageLink.start
    g.K.Custom.MessageLink.start in
    rw (
      c.go_on-in-Fail.ensures.phase,
      c.go_on-in-Fail.ensures.work,
      sym c.replace.ensures.value ∙ c.in-Fail.is,
    )
    (λ s p own n run had. still_counts link_state link_start n 0 _ own _
    refl had)

-- the same where another attempt follows then
pub returns-in-Again-clause-counts : goal.returns-in-Again-clause-counts
returns-in-Again-clause-counts g c =
    let link_state = upstream_state g.K.Byte.ByteLink.state g.K.Message.MessageLink.state
    g.K.Custom.MessageLink.state in
    let link_start = upstream_start g.K.Byte.ByteLink.start g.K.Message.MessageLink.start
    g.K.Custom.MessageLink.start in
    rw (
      c.go_on-in-Again.ensures.phase,
      c.go_on-in-Again.ensures.work,
      sym c.replace.ensures.value ∙ c.in-Again.is,
    )
    (λ s p own n run had. still_counts link_state link_start n 0 _ own _
    refl had)

-- or has ended
pub returns-in-Ended-clause-counts : goal.returns-in-Ended-clause-counts
returns-in-Ended-clause-counts g c =
    let link_state = upstream_state g.K.Byte.ByteLink.state g.K.Message.MessageLink.state
    g.K.Custom.MessageLink.state in
    let link_start = upstream_start g.K.Byte.ByteLink.start g.K.Message.MessageLink.start
    g.K.Custom.MessageLink.start in
    rw (
      c.go_on-in-Ended.ensures.phase,
      c.go_on-in-Ended.ensures.work,
      sym c.replace.ensures.value ∙ c.in-Ended.is,
    )
    (λ s p own n run had. still_counts link_state link_start n 0 _ own _
    refl had)

-- a turn that reads the head counts no more than one end
pub returns-in-ReadHead-clause-bounds : goal.returns-in-ReadHead-clause-bounds
returns-in-ReadHead-clause-bounds g c =
    let link_state = upstream_state g.K.Byte.ByteLink.state g.K.Message.MessageLink.state
    g.K.Custom.MessageLink.state in
    let link_start = upstream_start g.K.Byte.ByteLink.start g.K.Message.MessageLink.start
    g.K.Custom.MessageLink.start in
    rw (c.go_on.ensures.phase, c.go_on.ensures.work, sym c.replace.ensures.value ∙ c.in-ReadHead.is)
    (λ s p own tasks ends most calls run had.
    head_turn_bounds link_state link_start
    (called_to s (log_of c.args.calls.now)) (called_to s (log_of c.read_head.new.calls)) p
    (world_of g.D.ByteLink.state c.args.client.now
    (g.K.Connector.fault_count c.args.connector.now))
    (world_of g.D.ByteLink.state c.read_head.new.client
    (g.K.Connector.fault_count c.args.connector.now)) own c.read_head.result.phase
    c.read_head.result.work tasks ends run
    (open_step link_state link_start s _ _ p _ _ _ _
    (none_unended _ calls) (c.read_head.ensures.unended (none_unended _ calls))
    (λ first. c.read_head.ensures.run s p (g.K.Connector.fault_count c.args.connector.now) calls
    first))
    c.read_head.ensures.counts had)

-- one that asks the connector counts one head or one end
pub returns-in-Connect-clause-bounds : goal.returns-in-Connect-clause-bounds
returns-in-Connect-clause-bounds g c =
    let link_state = upstream_state g.K.Byte.ByteLink.state g.K.Message.MessageLink.state
    g.K.Custom.MessageLink.state in
    let link_start = upstream_start g.K.Byte.ByteLink.start g.K.Message.MessageLink.start
    g.K.Custom.MessageLink.start in
    rw (
      c.go_on-in-Connect.ensures.phase,
      c.go_on-in-Connect.ensures.work,
      sym c.replace.ensures.value ∙ c.in-Connect.is,
    )
    (λ s p own tasks ends most calls run had. link_turn_bounds link_state
    link_start (called_to s (log_of c.args.calls.now))
    (called_to s (log_of c.reach.new.calls)) p
    (world_of g.D.ByteLink.state c.args.client.now
    (g.K.Connector.fault_count c.args.connector.now))
    (world_of g.D.ByteLink.state c.args.client.now
    (g.K.Connector.fault_count c.reach.new.connector)) own _ _ _ c.reach.result.phase
    c.reach.result.work tasks ends run
    (λ first. c.reach.ensures.run s p (g.D.ByteLink.state c.args.client.now.link)
    c.args.client.now.ahead most calls first) c.reach.ensures.counts had)

-- one that writes the answer counts one end at most
pub returns-in-Answer-clause-bounds : goal.returns-in-Answer-clause-bounds
returns-in-Answer-clause-bounds g c =
    let link_state = upstream_state g.K.Byte.ByteLink.state g.K.Message.MessageLink.state
    g.K.Custom.MessageLink.state in
    let link_start = upstream_start g.K.Byte.ByteLink.start g.K.Message.MessageLink.start
    g.K.Custom.MessageLink.start in
    rw (
      c.write_answer.ensures.log,
      c.go_on-in-Answer.ensures.phase,
      c.go_on-in-Answer.ensures.work,
      sym c.replace.ensures.value ∙ c.in-Answer.is,
    )
    (λ s p own tasks ends most calls run had.
    answer_bounds link_state link_start
    (called_to s (log_of c.args.calls.now)) _ _ _ own
    c.write_answer.result.phase c.write_answer.result.work tasks ends
    c.write_answer.ensures.gives c.write_answer.ensures.counts _ c.write_answer.ensures.attempts
    had)

-- one whose link is to go back is settled before it is turned
pub returns-in-Fail-clause-bounds : goal.returns-in-Fail-clause-bounds
returns-in-Fail-clause-bounds g c =
    rw (sym c.replace.ensures.value ∙ c.in-Fail.is) (λ s p own tasks ends most calls run had. absurd
    had)

-- the same where another attempt follows then
pub returns-in-Again-clause-bounds : goal.returns-in-Again-clause-bounds
returns-in-Again-clause-bounds g c =
    rw (sym c.replace.ensures.value ∙ c.in-Again.is) (λ s p own tasks ends most calls run had.
    absurd had)

-- and so is one that is to be closed
pub returns-in-Close-clause-bounds : goal.returns-in-Close-clause-bounds
returns-in-Close-clause-bounds g c =
    rw (sym c.replace.ensures.value ∙ c.in-Close.is) (λ s p own tasks ends most calls run had.
    absurd had)

-- one that has ended counts nothing
pub returns-in-Ended-clause-bounds : goal.returns-in-Ended-clause-bounds
returns-in-Ended-clause-bounds g c =
    rw (
      c.go_on-in-Ended.ensures.phase,
      c.go_on-in-Ended.ensures.work,
      sym c.replace.ensures.value ∙ c.in-Ended.is,
    )
    (λ s p own tasks ends most calls run had. record {
      came = had.came;
      got = had.got;
      client_gave = had.client_gave;
      own_gave = had.own_gave;
      tasks_within = omega (arith, had.tasks_within);
      ends_within = omega (arith, had.ends_within);
    })

-- a turn that has the error of a request without a link answered is a turn
pub returns-in-Unlinked-clause-turn : goal.returns-in-Unlinked-clause-turn
returns-in-Unlinked-clause-turn g c =
    let link_state = upstream_state g.K.Byte.ByteLink.state g.K.Message.MessageLink.state
    g.K.Custom.MessageLink.state in
    let link_start = upstream_start g.K.Byte.ByteLink.start g.K.Message.MessageLink.start
    g.K.Custom.MessageLink.start in
    rw (c.go_on-in-Unlinked.ensures.phase, sym c.replace.ensures.value ∙ c.in-Unlinked.is)
    (λ s p own most calls run. unlinked_turn link_state link_start
    (called_to s (log_of c.args.calls.now)) (called_to s (log_of c.answer_unlinked.new.calls)) p
    (world_of g.D.ByteLink.state c.args.client.now
    (g.K.Connector.fault_count c.args.connector.now))
    (world_of g.D.ByteLink.state c.args.client.now
    (g.K.Connector.fault_count c.args.connector.now)) own _ _ _ _ c.answer_unlinked.result.phase
    run
    (λ first. c.answer_unlinked.ensures.run s p
    (world_of g.D.ByteLink.state c.args.client.now
    (g.K.Connector.fault_count c.args.connector.now)) calls first))

-- its cause
pub returns-in-Unlinked-clause-cause : goal.returns-in-Unlinked-clause-cause
returns-in-Unlinked-clause-cause g c =
    rw (
      c.go_on-in-Unlinked.ensures.phase,
      c.go_on-in-Unlinked.ensures.step,
      sym c.replace.ensures.value ∙ c.in-Unlinked.is,
    )
    (c.answer_unlinked.ensures.cause (log_of c.args.calls.now)
    (world_of g.D.ByteLink.state c.args.client.now
    (g.K.Connector.fault_count c.args.connector.now))
    (world_of g.D.ByteLink.state c.args.client.now
    (g.K.Connector.fault_count c.args.connector.now)))

-- it moved or ended
pub returns-in-Unlinked-clause-hands_on : goal.returns-in-Unlinked-clause-hands_on
returns-in-Unlinked-clause-hands_on g c =
    rw c.go_on-in-Unlinked.ensures.step (λ closing. c.answer_unlinked.ensures.step)

-- it counts no use
pub returns-in-Unlinked-clause-counts : goal.returns-in-Unlinked-clause-counts
returns-in-Unlinked-clause-counts g c =
    let link_state = upstream_state g.K.Byte.ByteLink.state g.K.Message.MessageLink.state
    g.K.Custom.MessageLink.state in
    let link_start = upstream_start g.K.Byte.ByteLink.start g.K.Message.MessageLink.start
    g.K.Custom.MessageLink.start in
    rw (
      c.go_on-in-Unlinked.ensures.phase,
      c.go_on-in-Unlinked.ensures.work,
      sym c.replace.ensures.value ∙ c.in-Unlinked.is,
    )
    (λ s p own n run had. still_counts link_state link_start n
    c.answer_unlinked.result.work.used _ own c.answer_unlinked.result.phase
    c.answer_unlinked.ensures.unused
    (unlinked_asked link_state link_start n own
    c.answer_unlinked.result.phase c.answer_unlinked.ensures.unlinked had))

-- but one end at most
pub returns-in-Unlinked-clause-bounds : goal.returns-in-Unlinked-clause-bounds
returns-in-Unlinked-clause-bounds g c =
    let link_state = upstream_state g.K.Byte.ByteLink.state g.K.Message.MessageLink.state
    g.K.Custom.MessageLink.state in
    let link_start = upstream_start g.K.Byte.ByteLink.start g.K.Message.MessageLink.start
    g.K.Custom.MessageLink.start in
    rw (
      c.go_on-in-Unlinked.ensures.phase,
      c.go_on-in-Unlinked.ensures.work,
      sym c.replace.ensures.value ∙ c.in-Unlinked.is,
    )
    (λ s p own tasks ends most calls run had. unlinked_turn_bounds link_state
    link_start (called_to s (log_of c.args.calls.now))
    (called_to s (log_of c.answer_unlinked.new.calls)) p
    (world_of g.D.ByteLink.state c.args.client.now
    (g.K.Connector.fault_count c.args.connector.now))
    (world_of g.D.ByteLink.state c.args.client.now
    (g.K.Connector.fault_count c.args.connector.now)) own _ _ _ _ c.answer_unlinked.result.phase
    c.answer_unlinked.result.work tasks ends run
    (λ first. c.answer_unlinked.ensures.run s p
    (world_of g.D.ByteLink.state c.args.client.now
    (g.K.Connector.fault_count c.args.connector.now)) calls first)
    c.answer_unlinked.ensures.counts had)

-- what was taken before it stays so
pub returns-in-Unlinked-clause-carries : goal.returns-in-Unlinked-clause-carries
returns-in-Unlinked-clause-carries g c =
    let link_start = upstream_start g.K.Byte.ByteLink.start g.K.Message.MessageLink.start
    g.K.Custom.MessageLink.start in
    rw (c.go_on-in-Unlinked.ensures.phase, sym c.replace.ensures.value ∙ c.in-Unlinked.is) (λ live.
    append-nil _ ∙ unlinked_offers link_start c.in-Unlinked.context
    c.in-Unlinked.session c.in-Unlinked.attempts c.in-Unlinked.error c.answer_unlinked.result.phase
    c.answer_unlinked.ensures.no_items c.answer_unlinked.ensures.attempts)

-- and so do the faults with which links were refused
pub returns-in-Unlinked-clause-tells : goal.returns-in-Unlinked-clause-tells
returns-in-Unlinked-clause-tells g c =
    rw (c.go_on-in-Unlinked.ensures.phase, sym c.replace.ensures.value ∙ c.in-Unlinked.is) (λ live.
    append-nil _ ∙ ap (λ (xs : List AttemptRecord). faults_told xs)
    (sym c.answer_unlinked.ensures.attempts))

-- a turn that makes the head of an attempt is a turn
pub returns-in-Prepare-clause-turn : goal.returns-in-Prepare-clause-turn
returns-in-Prepare-clause-turn g c =
    let link_state = upstream_state g.K.Byte.ByteLink.state g.K.Message.MessageLink.state
    g.K.Custom.MessageLink.state in
    let link_start = upstream_start g.K.Byte.ByteLink.start g.K.Message.MessageLink.start
    g.K.Custom.MessageLink.start in
    rw (c.go_on-in-Prepare.ensures.phase, sym c.replace.ensures.value ∙ c.in-Prepare.is)
    (λ s p own most calls run. prepare_turn link_state link_start
    (called_to s (log_of c.args.calls.now)) (called_to s (log_of c.prepare.new.calls)) p
    (world_of g.D.ByteLink.state c.args.client.now
    (g.K.Connector.fault_count c.args.connector.now))
    (world_of g.D.ByteLink.state c.args.client.now
    (g.K.Connector.fault_count c.args.connector.now)) own _ _ _ _ c.prepare.result.phase run
    (open_step link_state link_start s _ _ p _ _ _ _
    calls.0.unended (c.prepare.ensures.unended calls.0.unended)
    (λ first. c.prepare.ensures.run s p c.args.client.now
    (g.K.Connector.fault_count c.args.connector.now) calls first)))

-- its cause
pub returns-in-Prepare-clause-cause : goal.returns-in-Prepare-clause-cause
returns-in-Prepare-clause-cause g c =
    rw (
      c.go_on-in-Prepare.ensures.phase,
      c.go_on-in-Prepare.ensures.step,
      sym c.replace.ensures.value ∙ c.in-Prepare.is,
    )
    (c.prepare.ensures.cause (log_of c.args.calls.now)
    (world_of g.D.ByteLink.state c.args.client.now
    (g.K.Connector.fault_count c.args.connector.now))
    (world_of g.D.ByteLink.state c.args.client.now
    (g.K.Connector.fault_count c.args.connector.now)))

-- it asks no link
pub returns-in-Prepare-clause-uses : goal.returns-in-Prepare-clause-uses
returns-in-Prepare-clause-uses g c =
    let link_state = upstream_state g.K.Byte.ByteLink.state g.K.Message.MessageLink.state
    g.K.Custom.MessageLink.state in
    rw (
      c.go_on-in-Prepare.ensures.phase,
      c.go_on-in-Prepare.ensures.work,
      sym c.replace.ensures.value ∙ c.in-Prepare.is,
      c.prepare.ensures.unused,
    )
    (λ s p own run. (
      link_state c.in-Prepare.link,
      c.prepare.ensures.held,
      inr (refl, record { client_same = refl; upstream_same = refl }),
    ))

-- and counts no use
pub returns-in-Prepare-clause-counts : goal.returns-in-Prepare-clause-counts
returns-in-Prepare-clause-counts g c =
    let link_state = upstream_state g.K.Byte.ByteLink.state g.K.Message.MessageLink.state
    g.K.Custom.MessageLink.state in
    let link_start = upstream_start g.K.Byte.ByteLink.start g.K.Message.MessageLink.start
    g.K.Custom.MessageLink.start in
    rw (
      c.go_on-in-Prepare.ensures.phase,
      c.go_on-in-Prepare.ensures.work,
      sym c.replace.ensures.value ∙ c.in-Prepare.is,
    )
    (λ s p own n run had. prepare_counts link_state link_start s p own
    _ _ _ _ _ n c.prepare.result.work.used _ c.prepare.result.phase run had
    c.prepare.ensures.unused c.prepare.ensures.asked)

-- but one head or one end
pub returns-in-Prepare-clause-bounds : goal.returns-in-Prepare-clause-bounds
returns-in-Prepare-clause-bounds g c =
    let link_state = upstream_state g.K.Byte.ByteLink.state g.K.Message.MessageLink.state
    g.K.Custom.MessageLink.state in
    let link_start = upstream_start g.K.Byte.ByteLink.start g.K.Message.MessageLink.start
    g.K.Custom.MessageLink.start in
    rw (
      c.go_on-in-Prepare.ensures.phase,
      c.go_on-in-Prepare.ensures.work,
      sym c.replace.ensures.value ∙ c.in-Prepare.is,
    )
    (λ s p own tasks ends most calls run had. send_turn_bounds link_state
    link_start (called_to s (log_of c.args.calls.now))
    (called_to s (log_of c.prepare.new.calls)) p
    (world_of g.D.ByteLink.state c.args.client.now
    (g.K.Connector.fault_count c.args.connector.now))
    (world_of g.D.ByteLink.state c.args.client.now
    (g.K.Connector.fault_count c.args.connector.now)) own _ _ _ _ c.prepare.result.phase
    c.prepare.result.work tasks ends run
    (open_step link_state link_start s _ _ p _ _ _ _
    calls.0.unended (c.prepare.ensures.unended calls.0.unended)
    (λ first. c.prepare.ensures.run s p c.args.client.now
    (g.K.Connector.fault_count c.args.connector.now) calls first)) c.prepare.ensures.counts had)

-- it holds the link that it held
pub returns-in-Prepare-clause-carries : goal.returns-in-Prepare-clause-carries
returns-in-Prepare-clause-carries g c =
    let link_state = upstream_state g.K.Byte.ByteLink.state g.K.Message.MessageLink.state
    g.K.Custom.MessageLink.state in
    let link_start = upstream_start g.K.Byte.ByteLink.start g.K.Message.MessageLink.start
    g.K.Custom.MessageLink.start in
    rw (c.go_on-in-Prepare.ensures.phase, sym c.replace.ensures.value ∙ c.in-Prepare.is) (λ live.
    append-nil _ ∙ prepare_offers link_state link_start
    c.in-Prepare.context c.in-Prepare.session c.in-Prepare.link c.in-Prepare.lease
    c.prepare.result.phase c.prepare.ensures.tries c.prepare.ensures.items)

-- and the attempts before it
pub returns-in-Prepare-clause-tells : goal.returns-in-Prepare-clause-tells
returns-in-Prepare-clause-tells g c =
    let link_state = upstream_state g.K.Byte.ByteLink.state g.K.Message.MessageLink.state
    g.K.Custom.MessageLink.state in
    let link_start = upstream_start g.K.Byte.ByteLink.start g.K.Message.MessageLink.start
    g.K.Custom.MessageLink.start in
    rw (c.go_on-in-Prepare.ensures.phase, sym c.replace.ensures.value ∙ c.in-Prepare.is) (λ live.
    append-nil _ ∙ prepare_faults link_state link_start
    c.in-Prepare.context c.in-Prepare.session c.in-Prepare.link c.in-Prepare.lease
    c.prepare.result.phase c.prepare.ensures.tries)

-- a turn that has the error of an attempt treated is a turn
pub returns-in-Broken-clause-turn : goal.returns-in-Broken-clause-turn
returns-in-Broken-clause-turn g c =
    let link_state = upstream_state g.K.Byte.ByteLink.state g.K.Message.MessageLink.state
    g.K.Custom.MessageLink.state in
    let link_start = upstream_start g.K.Byte.ByteLink.start g.K.Message.MessageLink.start
    g.K.Custom.MessageLink.start in
    rw (c.go_on-in-Broken.ensures.phase, sym c.replace.ensures.value ∙ c.in-Broken.is)
    (λ s p own most calls run. broken_turn link_state link_start
    (called_to s (log_of c.args.calls.now)) (called_to s (log_of c.fail.new.calls)) p
    (world_of g.D.ByteLink.state c.args.client.now
    (g.K.Connector.fault_count c.args.connector.now))
    (world_of g.D.ByteLink.state c.fail.new.client
    (g.K.Connector.fault_count c.args.connector.now)) own _ _ _ _ _ _ c.fail.result.phase run
    (λ first. c.fail.ensures.run s p (g.K.Connector.fault_count c.args.connector.now) most calls
    first))

-- its cause
pub returns-in-Broken-clause-cause : goal.returns-in-Broken-clause-cause
returns-in-Broken-clause-cause g c =
    rw (
      c.go_on-in-Broken.ensures.phase,
      c.go_on-in-Broken.ensures.step,
      sym c.replace.ensures.value ∙ c.in-Broken.is,
    )
    (c.fail.ensures.cause (log_of c.args.calls.now)
    (g.K.Connector.fault_count c.args.connector.now))

-- it asks the client's link, or none
pub returns-in-Broken-clause-uses : goal.returns-in-Broken-clause-uses
returns-in-Broken-clause-uses g c =
    let link_state = upstream_state g.K.Byte.ByteLink.state g.K.Message.MessageLink.state
    g.K.Custom.MessageLink.state in
    rw (
      c.go_on-in-Broken.ensures.phase,
      c.go_on-in-Broken.ensures.work,
      sym c.replace.ensures.value ∙ c.in-Broken.is,
    )
    (λ s p own run. (
      link_state c.in-Broken.link,
      c.fail.ensures.held,
      client_both c.fail.result.work.used _ _ (link_state c.in-Broken.link)
          c.fail.ensures.uses,
    ))

-- and counts that use
pub returns-in-Broken-clause-counts : goal.returns-in-Broken-clause-counts
returns-in-Broken-clause-counts g c =
    let link_state = upstream_state g.K.Byte.ByteLink.state g.K.Message.MessageLink.state
    g.K.Custom.MessageLink.state in
    let link_start = upstream_start g.K.Byte.ByteLink.start g.K.Message.MessageLink.start
    g.K.Custom.MessageLink.start in
    rw (
      c.go_on-in-Broken.ensures.phase,
      c.go_on-in-Broken.ensures.work,
      sym c.replace.ensures.value ∙ c.in-Broken.is,
    )
    (λ s p own n run had. broken_counts link_state link_start s p own
    _ _ _ _ _ _ _ n c.fail.result.work.used _ _ c.fail.result.phase run had
    c.fail.ensures.uses c.fail.ensures.asked)

-- but one end at most
pub returns-in-Broken-clause-bounds : goal.returns-in-Broken-clause-bounds
returns-in-Broken-clause-bounds g c =
    let link_state = upstream_state g.K.Byte.ByteLink.state g.K.Message.MessageLink.state
    g.K.Custom.MessageLink.state in
    let link_start = upstream_start g.K.Byte.ByteLink.start g.K.Message.MessageLink.start
    g.K.Custom.MessageLink.start in
    rw (
      c.go_on-in-Broken.ensures.phase,
      c.go_on-in-Broken.ensures.work,
      sym c.replace.ensures.value ∙ c.in-Broken.is,
    )
    (λ s p own tasks ends most calls run had. treat_turn_bounds link_state
    link_start s (log_of c.args.calls.now) (log_of c.fail.new.calls) _ _
    c.args.client.now.ahead c.fail.new.client.ahead own
    c.in-Broken.context c.in-Broken.session c.in-Broken.link c.in-Broken.lease c.in-Broken.keep
    c.in-Broken.error c.fail.result.phase c.fail.result.work tasks ends c.fail.ensures.gives
    c.fail.ensures.counts c.fail.ensures.leaves had)

-- it holds the link that it held
pub returns-in-Broken-clause-carries : goal.returns-in-Broken-clause-carries
returns-in-Broken-clause-carries g c =
    let link_state = upstream_state g.K.Byte.ByteLink.state g.K.Message.MessageLink.state
    g.K.Custom.MessageLink.state in
    let link_start = upstream_start g.K.Byte.ByteLink.start g.K.Message.MessageLink.start
    g.K.Custom.MessageLink.start in
    rw (c.go_on-in-Broken.ensures.phase, sym c.replace.ensures.value ∙ c.in-Broken.is) (λ live.
    append-nil _ ∙ broken_offers link_state link_start
    c.in-Broken.context c.in-Broken.session c.in-Broken.link c.in-Broken.lease c.in-Broken.keep
    c.in-Broken.error c.fail.result.phase c.fail.ensures.tries c.fail.ensures.items)

-- and the attempts before it
pub returns-in-Broken-clause-tells : goal.returns-in-Broken-clause-tells
returns-in-Broken-clause-tells g c =
    let link_state = upstream_state g.K.Byte.ByteLink.state g.K.Message.MessageLink.state
    g.K.Custom.MessageLink.state in
    let link_start = upstream_start g.K.Byte.ByteLink.start g.K.Message.MessageLink.start
    g.K.Custom.MessageLink.start in
    rw (c.go_on-in-Broken.ensures.phase, sym c.replace.ensures.value ∙ c.in-Broken.is) (λ live.
    append-nil _ ∙ broken_faults link_state link_start
    c.in-Broken.context c.in-Broken.session c.in-Broken.link c.in-Broken.lease c.in-Broken.keep
    c.in-Broken.error c.fail.result.phase c.fail.ensures.tries)

-- the answer goes by its calls, which are those that were made
pub returns-in-Answer-clause-calls : goal.returns-in-Answer-clause-calls
returns-in-Answer-clause-calls g c =
    rw (c.go_on-in-Answer.ensures.phase, sym c.replace.ensures.value ∙ c.in-Answer.is) (λ so_far.
    owing_on _ _ c.args.calls.now c.write_answer.new.calls c.in-Answer.session.value
    c.in-Answer.owed c.write_answer.result.phase c.write_answer.ensures.calls so_far)

pub returns-in-Answer-clause-called : goal.returns-in-Answer-clause-called
returns-in-Answer-clause-called g c =
    rw c.go_on-in-Answer.ensures.work
    (let none = none_called c.args.calls.now c.write_answer.new.calls c.write_answer.result.work
    c.write_answer.ensures.uncalled c.write_answer.ensures.log in
    record { counted = none.counted; grows = none.grows })

-- the purger is asked in the turn of a purge alone
pub returns-in-ReadHead-clause-purger : goal.returns-in-ReadHead-clause-purger
returns-in-ReadHead-clause-purger g c =
    rw (c.go_on.ensures.phase, sym c.replace.ensures.value ∙ c.in-ReadHead.is) (λ o.
    let logged = calls_logged _ _ c.read_head.new.calls c.read_head.result.phase
    (c.read_head.ensures.calls o) in
    asks_nothing _ _ c.args.calls.now c.read_head.new.calls c.read_head.result.phase
    station.accepted logged.0 refl (ap
    (λ (l : List LogEntry). next_behind (Some station.accepted) l) o) (λ is. cc)
    logged.1.order c.read_head.ensures.called.grows c.read_head.ensures.called.once)

pub returns-in-Unlinked-clause-purger : goal.returns-in-Unlinked-clause-purger
returns-in-Unlinked-clause-purger g c =
    rw (c.go_on-in-Unlinked.ensures.phase, sym c.replace.ensures.value ∙ c.in-Unlinked.is) (λ o.
    let logged = calls_logged _ _ c.answer_unlinked.new.calls c.answer_unlinked.result.phase
    (c.answer_unlinked.ensures.calls o) in
    asks_nothing _ _ c.args.calls.now c.answer_unlinked.new.calls c.answer_unlinked.result.phase
    o.at logged.0 refl o.order (fails_elsewhere o.at o.fails)
    logged.1.order c.answer_unlinked.ensures.called.grows c.answer_unlinked.ensures.called.once)

pub returns-in-Prepare-clause-purger : goal.returns-in-Prepare-clause-purger
returns-in-Prepare-clause-purger g c =
    rw (c.go_on-in-Prepare.ensures.phase, sym c.replace.ensures.value ∙ c.in-Prepare.is) (λ o.
    AsksPurger.nothing refl c.prepare.ensures.purged)

pub returns-in-Broken-clause-purger : goal.returns-in-Broken-clause-purger
returns-in-Broken-clause-purger g c =
    rw (c.go_on-in-Broken.ensures.phase, sym c.replace.ensures.value ∙ c.in-Broken.is) (λ o.
    let logged = calls_logged _ _ c.fail.new.calls c.fail.result.phase (c.fail.ensures.calls o) in
    asks_nothing _ _ c.args.calls.now c.fail.new.calls c.fail.result.phase
    o.at logged.0 refl o.order
    (breaks_elsewhere c.args.calls.now.at (log_of c.args.calls.now) c.in-Broken.error o.at o.breaks)
    logged.1.order c.fail.ensures.called.grows c.fail.ensures.called.once)

pub returns-in-Connect-clause-purger : goal.returns-in-Connect-clause-purger
returns-in-Connect-clause-purger g c =
    rw (c.go_on-in-Connect.ensures.phase, sym c.replace.ensures.value ∙ c.in-Connect.is)
    c.reach.ensures.purger

pub returns-in-Answer-clause-purger : goal.returns-in-Answer-clause-purger
returns-in-Answer-clause-purger g c = λ so_far.
    asks_still _ _ c.args.calls.now c.write_answer.new.calls c.go_on-in-Answer.new.self refl
    c.write_answer.ensures.log

pub returns-in-Again-clause-purger : goal.returns-in-Again-clause-purger
returns-in-Again-clause-purger g c = λ so_far. AsksPurger.nothing refl refl

pub returns-in-Fail-clause-purger : goal.returns-in-Fail-clause-purger
returns-in-Fail-clause-purger g c = λ so_far. AsksPurger.nothing refl refl

pub returns-in-Close-clause-purger : goal.returns-in-Close-clause-purger
returns-in-Close-clause-purger g c = λ so_far. AsksPurger.nothing refl refl

pub returns-in-Ended-clause-purger : goal.returns-in-Ended-clause-purger
returns-in-Ended-clause-purger g c = λ so_far. AsksPurger.nothing refl refl

-- where a hook before the attempts is called, the modules stand behind it as the proxy makes them
pub returns-in-Connect-clause-made : goal.returns-in-Connect-clause-made
returns-in-Connect-clause-made g c =
    rw (sym c.replace.ensures.value ∙ c.in-Connect.is) c.reach.ensures.made
