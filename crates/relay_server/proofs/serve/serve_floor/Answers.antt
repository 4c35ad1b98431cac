-- One more round.
use Rattle.std.proofs.Common.{◌∙◌, arith}
use Rattle.relay_server.proofs.ServingLemmas.{on_then}
use Rattle.relay_server.proofs.serve.serve_floor.Goals as goal
use Rattle.relay_server.proofs.serve.serve_floor.Goals.{else-woken-via-then-woken+else-eq-2, else-woken-via-else-woken}

-- as many requests as were asked for have ended
pub returns-then-requests_ended-before-clause-goes :
    goal.returns-then-requests_ended-before-clause-goes
returns-then-requests_ended-before-clause-goes g c =
    on_then _ _ _ _ _ _ _ _ _ _ _ _ _ _ _ c.loop.invariant.0
    (on_then _ _ _ _ _ _ _ _ _ _ _ _ _ _ _ c.accept_all.ensures.goes c.go_round-moving.ensures.goes)

-- the poller failed
pub returns-then-eq-2-clause-goes : goal.returns-then-eq-2-clause-goes
returns-then-eq-2-clause-goes g c =
    on_then _ _ _ _ _ _ _ _ _ _ _ _ _ _ _ c.loop.invariant.0
    (on_then _ _ _ _ _ _ _ _ _ _ _ _ _ _ _ c.accept_all.ensures.goes
    (on_then _ _ _ _ _ _ _ _ _ _ _ _ _ _ _ c.go_round-moving.ensures.goes
    c.replace_idle-came.ensures.goes))

-- the floor serves on, whether the poller was asked or not
pub loop-preserved : goal.loop-preserved
loop-preserved g c =
    let first = c.accept_all.ensures.goes.counted c.loop.invariant.4 in
    let then = c.go_round-moving.ensures.goes.counted first.1 in
    let last = c.replace_idle-came.ensures.goes.counted then.1 in
    let ports = c.replace_idle-came.ensures.ports
    ∙ (c.go_round-moving.ensures.ports
    ∙ (c.accept_all.ensures.ports ∙ c.loop.invariant.5)) in (
      on_then _ _ _ _ _ _ _ _ _ _ _ _ _ _ _ c.loop.invariant.0
          (on_then _ _ _ _ _ _ _ _ _ _ _ _ _ _ _ c.accept_all.ensures.goes
          (on_then _ _ _ _ _ _ _ _ _ _ _ _ _ _ _ c.go_round-moving.ensures.goes
          c.replace_idle-came.ensures.goes)),
      c.replace_idle-came.ensures.few,
      elim c.else-woken.branch [
        | else-woken-via-then-woken+else-eq-2 w ↦
            rw w.poller-is (omega (
              arith,
              w.wait.ensures.grows,
              c.replace_idle-came.ensures.polled,
              c.go_round-moving.ensures.polled,
              c.accept_all.ensures.polled,
              c.loop.invariant.2,
            ))
        | else-woken-via-else-woken w ↦
            rw w.poller-is (omega (
              arith,
              c.replace_idle-came.ensures.polled,
              c.go_round-moving.ensures.polled,
              c.accept_all.ensures.polled,
              c.loop.invariant.2,
            ))
      ],
      omega (arith, last.0, then.0, first.0, c.loop.invariant.3),
      last.1,
      elim c.else-woken.branch [
        | else-woken-via-then-woken+else-eq-2 w ↦ rw w.poller-is (w.wait.ensures.ports ∙ ports)
        | else-woken-via-else-woken w ↦ rw w.poller-is ports
      ],
    )
