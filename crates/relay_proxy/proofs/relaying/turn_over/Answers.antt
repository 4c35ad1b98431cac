-- The turn is the exchange's: taking the kept value out and putting it back change nothing else.
use Rattle.relay_proxy.proofs.relaying.turn_over.Goals as goal

-- a turn over a value that was kept
pub returns-in-Some-clause-goes : goal.returns-in-Some-clause-goes
returns-in-Some-clause-goes g c = λ s p under.
    rw (c.set_kept.ensures, c.take_kept.ensures.after)
    (c.turn-turn.ensures.goes s p (rw c.take_kept-kept.ensures.after under))

-- a turn where none was kept
pub returns-in_default-clause-goes : goal.returns-in_default-clause-goes
returns-in_default-clause-goes g c = λ s p under.
    rw c.take_kept.ensures.after
    (c.turn-turn.ensures.goes s p (rw c.take_kept-kept.ensures.after under))

-- what a turn moved over a value that was kept
pub returns-in-Some-clause-moves : goal.returns-in-Some-clause-moves
returns-in-Some-clause-moves g c = λ s p under.
    rw (c.set_kept.ensures, c.take_kept.ensures.after)
    ((rw c.take_kept-kept.ensures.after at (c.turn-turn.ensures.moves s p)) under)

-- and where none was kept
pub returns-in_default-clause-moves : goal.returns-in_default-clause-moves
returns-in_default-clause-moves g c = λ s p under.
    rw c.take_kept.ensures.after
    ((rw c.take_kept-kept.ensures.after at (c.turn-turn.ensures.moves s p)) under)

-- what was counted over a value that was kept
pub returns-in-Some-clause-counts : goal.returns-in-Some-clause-counts
returns-in-Some-clause-counts g c = λ s tasks ends counted.
    rw (c.set_kept.ensures, c.take_kept.ensures.after)
    ((rw c.take_kept-kept.ensures.after at (c.turn-turn.ensures.counts_on s tasks ends)) counted)

-- and where none was kept
pub returns-in_default-clause-counts : goal.returns-in_default-clause-counts
returns-in_default-clause-counts g c = λ s tasks ends counted.
    rw c.take_kept.ensures.after
    ((rw c.take_kept-kept.ensures.after at (c.turn-turn.ensures.counts_on s tasks ends)) counted)
