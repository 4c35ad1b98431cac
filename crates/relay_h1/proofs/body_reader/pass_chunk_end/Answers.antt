-- The CR LF behind a chunk, once its two bytes have come.
use Rattle.std.proofs.Common.{arith, sym, ◌∙◌, ap}
use Rattle.relay_h1.specs.Body as body
use Rattle.relay_h1.specs.Body.{begins_with_crlf}
use Rattle.relay_h1.specs.declared.body_reader.BodyFront.TheVariants as front
use Rattle.relay_h1.specs.declared.body_reader.State.TheVariants as state
use Rattle.relay_h1.proofs.BodyReaderLemmas.{stays, goes_on, GoesOver-crlf}
use Rattle.relay_h1.proofs.body_reader.pass_chunk_end.Goals as goal

pub returns-then-len-lt2 : goal.returns-then-len-lt2
returns-then-len-lt2 c =
    let ahead = c.args.ahead.now in
    rw c.stay.ensures
    (stays state.ChunkEnd ahead front.More (body.Chunked.crlf_open ahead (omega arith)))

pub returns-then-not-begins_with_crlf : goal.returns-then-not-begins_with_crlf
returns-then-not-begins_with_crlf c =
    let ahead = c.args.ahead.now in
    let none =
    ap begins_with_crlf (sym c.bytes.ensures) ∙ sym c.if-not-begins_with_crlf.ensures in
    rw c.stay-then-not-begins_with_crlf.ensures
    (stays state.ChunkEnd ahead front.Broken
    (body.Chunked.crlf_broken ahead (omega arith) none))

pub returns : goal.returns
returns c =
    let ahead = c.args.ahead.now in
    let begins =
    ap begins_with_crlf (sym c.bytes.ensures) ∙ sym c.if-not-begins_with_crlf.ensures in
    goes_on state.ChunkEnd state.ChunkLine ahead c.pass_line.new.ahead 2 c.pass_line.result
    (GoesOver-crlf ahead begins)
    (rw c.consume.ensures at c.pass_line.ensures)
