-- So far each branch that was taken found its link silent, which changed nothing, and the exchange
-- goes on.
use Rattle.std.proofs.Common.{◌≡◌, ℕ, ◌<◌, true}
use Rattle.relay_tasks.specs.declared.took.Pause.TheVariants as pause
use Rattle.relay_links.specs.declared.branch.Branch.{Branch}
use Rattle.relay_core.specs.Asked.{is_silent_for}
use Rattle.relay_core.specs.Causes.{Tells}
use Rattle.relay_core.specs.Down.{Lasting}
use Rattle.relay_core.specs.Moves.{SoFar, Goes}
use Rattle.relay_core.specs.Past.{Origin, DownPast, UpPast}
use Rattle.relay_core.specs.Table.{State, core, enabled}
use Rattle.relay_core.specs.declared.step.Step.TheVariants as step
use Rattle.relay_exchange.proofs.RoundLemmas.{behind}
use Rattle.relay_exchange.proofs.round.go_round.Given as goal

-- the branches so far met silence, and the exchange goes on from the first
abbrev pub invariant-loop-turn : goal.invariant-loop-turn
invariant-loop-turn g l =
    let at_first : State =
    core l.fn.duplex (g.D.Down.state l.fn.down) (g.U.Up.state l.fn.up) in
    let at : State = core l.duplex (g.D.Down.state l.down) (g.U.Up.state l.up) in
    ((s : Origin) (p : DownPast) (q : UpPast)
    → SoFar (g.D.Down.past l.fn.down l.fn.client s) (g.U.Up.past l.fn.up s)
    (g.U.Up.blames l.fn.up s) at_first p q
    → Goes (g.D.Down.past l.down l.client s) (g.D.Down.blames l.down l.client s)
    (g.D.Down.refuses l.down l.client s) (g.D.Down.cannot_end l.down l.client s)
    (g.U.Up.past l.up s) (g.U.Up.blames l.up s) p q at_first at (step.Waited pause.Silent))
    × Tells (step.Waited pause.Silent) l.duplex
    × (g.D.Down.link l.client ≡ g.D.Down.link l.fn.client)
    × (g.U.Up.link l.up ≡ g.U.Up.link l.fn.up)
    × ((b : Branch) → enabled at b ≡ enabled at_first b)
    × ((k : ℕ) → k < l.turn → enabled at_first (behind l.first k) ≡ true
    → is_silent_for (g.D.Down.link l.fn.client) (g.U.Up.link l.fn.up) (behind l.first k) ≡ true)
    × (g.D.Down.start l.client ≡ g.D.Down.start l.fn.client)
    × (g.U.Up.start l.up ≡ g.U.Up.start l.fn.up)
    × (l.duplex ≡ l.fn.duplex)
    × ((g.D.Down.state l.down).pending ≡ (g.D.Down.state l.fn.down).pending)
    × ((g.D.Down.state l.down).body_finished ≡ (g.D.Down.state l.fn.down).body_finished)
    × ((g.D.Down.state l.down).calls ≡ (g.D.Down.state l.fn.down).calls)
    × ((g.D.Down.state l.down).told.errors ≡ (g.D.Down.state l.fn.down).told.errors)
    × Lasting g.D.Down.lasts l.fn.down l.down
