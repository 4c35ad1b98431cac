use Rattle.std.proofs.Common.{arith}
use Rattle.relay_h1.proofs.HeadLemmas.{request_found}
use Rattle.relay_h1.proofs.head.find_request.Goals as goal

pub returns-clause-found : goal.returns-clause-found
returns-clause-found c =
    let ensured = rw c.in-Ok-Complete.field-0-is at c.in-Ok-Complete.ensures in
    request_found c.args.bytes.now c.parse_request.new.headers c.in-Ok-Complete.found
    ensured.complete.0
    ensured.within ensured.complete.1 (omega arith) (omega arith) (omega arith)
    c.requires.ends
