-- A text that is longer than the line at its front is no line.
use Rattle.relay_h1.proofs.BodyReaderLemmas.{longer_than_line}
use Rattle.relay_h1.proofs.body_reader.line_size.Goals as goal

pub returns-in-Ok-Complete-2-clause-none : goal.returns-in-Ok-Complete-2-clause-none
returns-in-Ok-Complete-2-clause-none c =
    let ensured = rw c.in-Ok-Complete.field-0-is at c.in-Ok-Complete.ensures in
    longer_than_line c.args.text.now c.in-Ok-Complete.len c.in-Ok-Complete.size
    ensured.complete.0 ensured.complete.1 c.if-len-text.false
