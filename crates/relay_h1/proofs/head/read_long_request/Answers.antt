use Rattle.std.proofs.Common.{Err, ap, arith}
use Rattle.relay_tasks.specs.declared.error.Fail.TheVariants as fail
use Rattle.relay_h1.proofs.HeadLemmas.{never_refused, found_is_read}
use Rattle.relay_h1.proofs.head.read_long_request.Goals as goal

pub returns-in-Some-clause-refused : goal.returns-in-Some-clause-refused
returns-in-Some-clause-refused c =
    let read =
    found_is_read c.args.bytes.now c.find_request.new.spans c.in-Some.found
    c.in-Some.ensures.found in (
      λ is. absurd (never_refused c.make_request.result _ c.make_request.ensures.memory is),
      λ refuses. absurd (refuses read.0 read.1),
    )

pub returns-in-Some-clause-memory : goal.returns-in-Some-clause-memory
returns-in-Some-clause-memory c =
    λ _. found_is_read c.args.bytes.now c.find_request.new.spans c.in-Some.found
    c.in-Some.ensures.found

-- there is room for as many fields as a head may have
pub returns-in-None-clause-refused : goal.returns-in-None-clause-refused
returns-in-None-clause-refused c =
    let refuses = c.in-None.ensures.refused (omega arith) in
    (λ _. refuses, λ _. ap (λ e. Err (fail.Error e)) c.head_refusal.ensures)
