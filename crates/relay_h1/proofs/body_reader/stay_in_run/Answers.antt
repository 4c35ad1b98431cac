-- No framing stands inside a run.
use Rattle.relay_h1.proofs.BodyReaderLemmas.{stays_in_run}
use Rattle.relay_h1.proofs.body_reader.stay_in_run.Goals as goal

pub returns : goal.returns
returns c =
    rw (c.stay.ensures, c.run_front.ensures) (stays_in_run c.args.state c.args.ahead.now c.requires)
