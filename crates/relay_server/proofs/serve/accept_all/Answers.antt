-- One more client is accepted.
use Rattle.std.proofs.Common.{rules, ◌∙◌, arith}
use Rattle.relay_server.proofs.ServingLemmas.{on_begun, on_then}
use Rattle.relay_server.proofs.serve.accept_all.Goals as goal

-- its connection begins, and is kept
pub loop-seat-preserved : goal.loop-seat-preserved
loop-seat-preserved g c = (
  on_then _ _ _ _ _ _ _ _ _ _ _ _ _ _ _ c.loop-seat.invariant.0
      (on_then _ _ _ _ _ _ _ _ _ _ _ _ _ _ _
      (on_begun _ _ _ _ _ _ _ _ _ _ c.begin-connection.result c.loop-seat.floor
      (λ before. c.begin-connection.ensures.serves before c.loop-seat.floor)
      c.begin-connection.ensures.no_link) c.keep.ensures.goes),
  omega (arith, c.keep.ensures.few, c.loop-seat.invariant.1),
  omega (arith, c.loop-seat-test.true),
  omega (arith, c.accept.ensures.grows, c.keep.ensures.polled, c.loop-seat.invariant.3),
  c.keep.ensures.ports ∙ (c.accept.ensures.ports ∙ c.loop-seat.invariant.4),
)
