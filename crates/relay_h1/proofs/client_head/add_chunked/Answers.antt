use Rattle.std.proofs.Common.{◌≡◌, rules}
use Rattle.relay_h1.specs.ClientHead.{chunked_head}
use Rattle.relay_h1.proofs.ClientHeadLemmas.{added_is_chunked}
use Rattle.relay_h1.proofs.client_head.add_chunked.Goals as goal

pub returns-clause-framed : goal.returns-clause-framed
returns-clause-framed c = λ method asked ends lacks.
    let made : c.set_version.new.self ≡ chunked_head c.args.head.now = search rules in
    rw made (added_is_chunked method asked ends c.args.head.now lacks)
