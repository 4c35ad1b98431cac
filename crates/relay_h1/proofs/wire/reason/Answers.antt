use Rattle.std.proofs.Common.{◌∙◌, Some, None}
use Rattle.relay_h1.proofs.WireLemmas.{reason_is}
use Rattle.relay_h1.proofs.wire.reason.Goals as goal

pub returns-in-Some : goal.returns-in-Some
returns-in-Some c =
    c.as_bytes.ensures.value ∙ reason_is (Some _) c.args.status c.in-Some.ensures.value

pub returns-in-None : goal.returns-in-None
returns-in-None c = reason_is None c.args.status c.in-None.ensures.value
