use Rattle.relay_h1.proofs.BodyReaderLemmas.{SoFar-first}
use Rattle.relay_h1.proofs.body_reader.BodyReader.new.Goals as goal

pub returns-clause-starts : goal.returns-clause-starts
returns-clause-starts c = λ ahead.
    rw c.first_state.ensures (SoFar-first c.args.framing ahead)
