-- Nothing was ahead: the one read of the link says what the client did.
use Rattle.std.proofs.Common.{◌≡◌, [], ap, ◌++◌, List, ℕ, ◌∙◌, take, arith}
use Rattle.std.proofs.lemmas.Grind.{common_steps}
use Rattle.relay_session.specs.Front as front
use Rattle.relay_session.proofs.FrontLemmas.{gave_more, sided}
use Rattle.relay_session.proofs.front.watch.Goals as goal

pub returns-in-Ok-Bytes-clause-answer : goal.returns-in-Ok-Bytes-clause-answer
returns-in-Ok-Bytes-clause-answer g c =
    let more = rw c.in-Ok-Bytes.field-0-is at c.in-Ok-Bytes.ensures.ok in
    let none : c.args.client.now.ahead ≡ [] = grind (arith, common_steps) in
    front.Stirs.sends (take c.in-Ok-Bytes.field-0-0 more.room) none (gave_more _ _ _ _ _ more)
    (more.grown ∙ ap (λ (xs : List ℕ). xs ++ take c.in-Ok-Bytes.field-0-0 more.room) none)
    c.closed-in-Ok-Bytes.ensures

pub returns-in-Ok-Failed-clause-answer : goal.returns-in-Ok-Failed-clause-answer
returns-in-Ok-Failed-clause-answer g c =
    let more = rw c.in-Ok-Failed.field-0-is at c.in-Ok-Failed.ensures.ok in
    let none : c.args.client.now.ahead ≡ [] = grind (arith, common_steps) in
    front.Stirs.link_failed c.in-Ok-Failed.fault none more.0 more.1
    (sided _ _ _ c.of_fault.ensures c.into_down.ensures)
