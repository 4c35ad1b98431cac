-- A step is a turn, or a call of a hook of the end.
use Rattle.std.proofs.Common.{refl, sym, ◌∙◌, ap, subst, inl, inr}
use Rattle.std.proofs.lemmas.Bool.{cases_Bool}
use Rattle.relay_connector.specs.Upstream.{upstream_state, upstream_start}
use Rattle.relay_request.specs.Calls.{CallsSoFar, allowed_by, is_ending, log_of}
use Rattle.relay_request.specs.Passed.{called_to}
use Rattle.relay_request.specs.Request.{StepsOn}
use Rattle.relay_request.specs.Turn.{held_state, world_of}
use Rattle.relay_request.specs.declared.machine.Phase.{Phase}
use Rattle.relay_request.specs.declared.work.Work.{Work}
use Rattle.relay_request.specs.declared.work.TheConstants.Work.{NONE}
use Rattle.relay_request.proofs.DelayLemmas.{handed_none, since_same}
use Rattle.relay_request.proofs.MadeLemmas.{last_unmade, over_unmade}
use Rattle.relay_request.specs.Stock.{items_held}
use Rattle.relay_turns.proofs.TakenLemmas.{stocks_kept}
use Rattle.relay_turns.proofs.EndSteps.{calls_last, last_elsewhere, last_on, rests_on, rests_uses}
use Rattle.relay_turns.proofs.PurgeSteps.{asks_nothing, asks_still}
use Rattle.relay_proxy.proofs.proxy.HttpProxy.step.Goals as goal

-- the calls so far go on with that of such a hook
pub returns-in-Some-clause-calls : goal.returns-in-Some-clause-calls
returns-in-Some-clause-calls g c = λ s p own most first so_far run.
    subst (λ (k : Phase _ g.row.SV-CTX.Denot). CallsSoFar
    (allowed_by (g.SV.ProxyHttp.allows c.args.self.now.inner) g.SV.Modules.HttpModule.allows)
    (g.SV.ProxyHttp.mark_of c.args.self.now.inner) c.call_last-step.new.machine.calls k)
    (sym c.call_last-step.ensures.phase)
    (calls_last (allowed_by (g.SV.ProxyHttp.allows c.args.self.now.inner)
    g.SV.Modules.HttpModule.allows) (g.SV.ProxyHttp.mark_of c.args.self.now.inner)
    c.args.machine.now.calls c.call_last-step.new.machine.calls c.args.machine.now.machine.phase
    c.in-Some.goes_back (sym c.goes_on_last.ensures ∙ c.in-Some.is) c.call_last-step.ensures.calls
    so_far)

-- and so does the run so far
pub returns-in-Some-clause-steps : goal.returns-in-Some-clause-steps
returns-in-Some-clause-steps g c =
    let link_state = upstream_state g.K.Byte.ByteLink.state g.K.Message.MessageLink.state
    g.K.Custom.MessageLink.state in
    let link_start = upstream_start g.K.Byte.ByteLink.start g.K.Message.MessageLink.start
    g.K.Custom.MessageLink.start in
    λ s p own most first so_far run.
    let w = world_of g.D.ByteLink.state c.args.client.now
    (g.K.Connector.fault_count c.args.self.now.connector) in
    let counts = c.call_last-step.ensures.counts in
    subst (λ (k : Phase _ g.row.SV-CTX.Denot).
    StepsOn link_state link_start
    (called_to s (log_of c.args.machine.now.calls))
    (called_to s (log_of c.call_last-step.new.machine.calls)) p w own
    (g.K.Connector.returned c.args.self.now.connector)
    (g.K.Connector.returned c.args.self.now.connector)
    (g.K.Connector.refusals c.args.self.now.connector)
    (g.K.Connector.refusals c.args.self.now.connector)
    (g.K.Connector.stock c.args.self.now.connector)
    (g.K.Connector.stock c.args.self.now.connector) (g.D.ByteLink.state c.args.client.now.link)
    c.args.client.now.ahead c.args.machine.now.machine.work
    c.call_last-step.new.machine.machine.work c.args.machine.now.machine.phase k)
    (sym c.call_last-step.ensures.phase)
    (last_on (allowed_by (g.SV.ProxyHttp.allows c.args.self.now.inner)
    g.SV.Modules.HttpModule.allows) (g.SV.ProxyHttp.mark_of c.args.self.now.inner)
    c.args.machine.now.calls c.call_last-step.new.machine.calls c.args.machine.now.machine.phase
    c.in-Some.goes_back (sym c.goes_on_last.ensures ∙ c.in-Some.is) c.call_last-step.ensures.calls so_far
    link_state link_start s p w own
    (g.K.Connector.returned c.args.self.now.connector)
    (g.K.Connector.refusals c.args.self.now.connector)
    (g.K.Connector.stock c.args.self.now.connector) c.args.machine.now.machine.work
    c.call_last-step.new.machine.machine.work (record {
      work = counts.work;
      adds = counts.adds;
      unused = counts.unused;
      unmoved = counts.unmoved;
      unended = counts.unended;
    }) run)

-- where none is called nothing passes
pub returns-then-is_over-clause-steps : goal.returns-then-is_over-clause-steps
returns-then-is_over-clause-steps g c =
    let link_state = upstream_state g.K.Byte.ByteLink.state g.K.Message.MessageLink.state
    g.K.Custom.MessageLink.state in
    let link_start = upstream_start g.K.Byte.ByteLink.start g.K.Message.MessageLink.start
    g.K.Custom.MessageLink.start in
    λ s p own most first so_far run.
    rw c.rest.ensures.same (rests_on link_state link_start
    (called_to s (log_of c.args.machine.now.calls)) (called_to s (log_of c.args.machine.now.calls))
    p (world_of g.D.ByteLink.state c.args.client.now
    (g.K.Connector.fault_count c.args.self.now.connector)) own
    (g.K.Connector.returned c.args.self.now.connector)
    (g.K.Connector.refusals c.args.self.now.connector)
    (g.K.Connector.stock c.args.self.now.connector) c.args.machine.now.machine.work
    c.args.machine.now.machine.work c.args.machine.now.machine.phase run (record {
      work = NONE;
      adds = rw c.rest.ensures.same at c.rest.ensures.adds;
      unused = refl;
      unmoved = refl;
      unended = refl;
    }) (λ tasks ends counted. counted))

-- and no link is used
pub returns-then-is_over-clause-uses : goal.returns-then-is_over-clause-uses
returns-then-is_over-clause-uses g c =
    let link_state = upstream_state g.K.Byte.ByteLink.state g.K.Message.MessageLink.state
    g.K.Custom.MessageLink.state in
    λ s p own calls run. (
      0,
      ap (λ (k : Work). k.used) c.rest.ensures.adds,
      rw c.rest.ensures.same (rests_uses link_state 0
          (g.D.ByteLink.state c.args.client.now.link)
          (held_state link_state c.args.machine.now.machine.phase)
          (g.K.Connector.returned c.args.self.now.connector) refl),
    )

-- a hook of the end is none of a purge
pub returns-in-Some-clause-purger : goal.returns-in-Some-clause-purger
returns-in-Some-clause-purger g c = λ so_far.
    let last = last_elsewhere (allowed_by (g.SV.ProxyHttp.allows c.args.self.now.inner)
    g.SV.Modules.HttpModule.allows) (g.SV.ProxyHttp.mark_of c.args.self.now.inner)
    c.args.machine.now.calls c.call_last-step.new.machine.calls c.args.machine.now.machine.phase
    c.in-Some.goes_back (sym c.goes_on_last.ensures ∙ c.in-Some.is) c.call_last-step.ensures.calls
    so_far in
    asks_nothing _ _ c.args.machine.now.calls c.call_last-step.new.machine.calls
    c.call_last-step.new.machine.machine.phase last.0.here last.1.0 refl last.0.order last.0.elsewhere
    last.1.1.order c.call_last-step.ensures.counts.calls.grows c.call_last-step.ensures.counts.calls.once

-- and where none is called nothing is asked
pub returns-then-is_over-clause-purger : goal.returns-then-is_over-clause-purger
returns-then-is_over-clause-purger g c = λ so_far.
    asks_still _ _ c.args.machine.now.calls c.rest.new.self.calls c.rest.new.self.machine.phase refl
    (rw c.rest.ensures.same refl)

-- no call of this step asked for a delay, where none was made
pub returns-then-is_over-clause-delays : goal.returns-then-is_over-clause-delays
returns-then-is_over-clause-delays g c =
    rw c.rest.ensures.same
    (handed_none _ _ _ (since_same (log_of c.args.machine.now.calls)))

-- a hook of the end takes no link, nor does a step of a request that has ended
pub returns-in-Some-clause-stock : goal.returns-in-Some-clause-stock
returns-in-Some-clause-stock g c =
    let link_start = upstream_start g.K.Byte.ByteLink.start g.K.Message.MessageLink.start
    g.K.Custom.MessageLink.start in
    stocks_kept link_start _ (g.K.Connector.returned c.args.self.now.connector)
    (items_held link_start c.args.machine.now.machine.phase) _ _
    (g.K.Connector.stock c.args.self.now.connector)
    (rw c.call_last-step.ensures.phase refl) refl

pub returns-then-is_over-clause-stock : goal.returns-then-is_over-clause-stock
returns-then-is_over-clause-stock g c =
    let link_start = upstream_start g.K.Byte.ByteLink.start g.K.Message.MessageLink.start
    g.K.Custom.MessageLink.start in
    stocks_kept link_start _ (g.K.Connector.returned c.args.self.now.connector)
    (items_held link_start c.args.machine.now.machine.phase) _ _
    (g.K.Connector.stock c.args.self.now.connector) (rw c.rest.ensures.same refl) refl

-- what moved in an exchange is what moved in its turn, but where it ended and hooks are called
pub returns-clause-moves : goal.returns-clause-moves
returns-clause-moves g c = λ a is moved.
    elim (cases_Bool (is_ending c.advance-step.new.machine.machine.phase
    c.advance-step.new.machine.calls.at)) [
      | inl ends ↦ inr (inr (inr ends))
      | inr on ↦
          let went = sym (rw on at c.answer.ensures) ∙ moved in
          elim (c.advance-step.ensures.moves a is went) [
            | inl moves ↦ inl moves
            | inr (inl owes) ↦ inr (inl owes)
            | inr (inr called) ↦ inr (inr (inl called))
          ]
    ]

-- a request that has ended is not asked for subrequests
pub returns-in-Some-clause-made : goal.returns-in-Some-clause-made
returns-in-Some-clause-made g c =
    last_unmade c.args.self.now.makes_modules c.args.machine.now.calls
    c.call_last-step.new.machine.calls c.args.machine.now.machine.phase
    c.args.machine.now.calls.at c.in-Some.goes_back (sym c.goes_on_last.ensures ∙ c.in-Some.is)

pub returns-then-is_over-clause-made : goal.returns-then-is_over-clause-made
returns-then-is_over-clause-made g c =
    over_unmade c.args.self.now.makes_modules c.args.machine.now.calls c.rest.new.self.calls
    c.args.machine.now.machine.phase (sym c.is_over.ensures ∙ c.if-is_over.true)
