-- Nothing of the body was given out yet; a body that has ended at once is whole.
use Rattle.std.proofs.Common.{[]}
use Rattle.relay_session.proofs.ReadingLemmas.{first_in_body, body_whole}
use Rattle.relay_session.proofs.reading.Reading.of_request.Goals as goal

pub returns-clause-starts : goal.returns-clause-starts
returns-clause-starts c = λ given len has.
    rw (c.new.ensures.place, c.new-2.ensures) (first_in_body given c.args.head c.args.framing len has)

pub returns-clause-whole : goal.returns-clause-whole
returns-clause-whole c =
    rw c.new.ensures.place
    (λ given len has done.
    body_whole given [] _ _ (first_in_body given c.args.head c.args.framing len has) done)
