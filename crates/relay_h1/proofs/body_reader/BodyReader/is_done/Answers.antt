use Rattle.std.proofs.Common.{[]}
use Rattle.relay_h1.proofs.BodyReaderLemmas.{done_reads, nothing_more}
use Rattle.relay_h1.proofs.body_reader.BodyReader.is_done.Goals as goal

pub returns-clause-told : goal.returns-clause-told
returns-clause-told c =
    rw (← c.self.view_is, c.is_done.ensures)
    (done_reads c.self.inside.state [], nothing_more c.self.inside.state)
