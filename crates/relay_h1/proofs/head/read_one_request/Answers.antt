use Rattle.relay_h1.proofs.HeadLemmas.{never_refused, found_is_read}
use Rattle.relay_h1.proofs.head.read_one_request.Goals as goal

pub returns-in-Some-clause-refused : goal.returns-in-Some-clause-refused
returns-in-Some-clause-refused c =
    let read =
    found_is_read c.args.bytes.now c.find_request.new.spans c.in-Some.found
    c.in-Some.ensures.found in (
      λ is. absurd (never_refused c.make_request.result _ c.make_request.ensures.memory is),
      λ refuses. absurd (refuses read.0 read.1),
    )

pub returns-in-Some-clause-memory : goal.returns-in-Some-clause-memory
returns-in-Some-clause-memory c =
    λ _. found_is_read c.args.bytes.now c.find_request.new.spans c.in-Some.found
    c.in-Some.ensures.found
