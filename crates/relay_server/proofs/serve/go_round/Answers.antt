-- One more turn of a round.
use Rattle.std.proofs.Common.{◌∙◌, arith}
use Rattle.relay_server.proofs.ServingLemmas.{on_then}
use Rattle.relay_server.proofs.serve.go_round.Goals as goal
use Rattle.relay_server.proofs.serve.go_round.Goals.{in-Moved, in-Waits, in-Still}

-- as many requests as were asked for have ended
pub returns-then-requests_ended-before-clause-goes :
    goal.returns-then-requests_ended-before-clause-goes
returns-then-requests_ended-before-clause-goes g c =
    on_then _ _ _ _ _ _ _ _ _ _ _ _ _ _ _ c.loop-turn.invariant.0 c.take_turn.ensures.goes

-- the floor serves on
pub loop-turn-preserved : goal.loop-turn-preserved
loop-turn-preserved g c =
    let counted = c.take_turn.ensures.goes.counted c.loop-turn.invariant.4 in (
      on_then _ _ _ _ _ _ _ _ _ _ _ _ _ _ _ c.loop-turn.invariant.0 c.take_turn.ensures.goes,
      c.take_turn.ensures.few,
      omega (arith, c.take_turn.ensures.polled, c.loop-turn.invariant.2),
      omega (arith, counted.0, c.loop-turn.invariant.3),
      counted.1,
      c.take_turn.ensures.ports ∙ c.loop-turn.invariant.5,
      elim c.match-take_turn.branch [
        | in-Moved w ↦ omega (arith, w.place-is, c.loop-turn.invariant.6)
        | in-Waits w ↦ omega (arith, w.place-is, c.loop-turn.invariant.6)
        | in-Still w ↦ omega (arith, w.place-is, c.loop-turn.invariant.6)
      ],
    )
