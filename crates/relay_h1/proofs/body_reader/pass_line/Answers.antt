-- A chunk line, and the trailer section behind that of the last chunk.
use Rattle.std.proofs.Common.{◌<◌, drop, arith}
use Rattle.relay_h1.specs.Body as body
use Rattle.relay_h1.specs.Body.{IsLineOpen, IsLineBroken, StartsWithLine}
use Rattle.relay_h1.specs.declared.body_reader.BodyFront.TheVariants as front
use Rattle.relay_h1.specs.declared.body_reader.State.TheVariants as state
use Rattle.relay_h1.proofs.BodyReaderLemmas.{stays, goes_on, GoesOver-line, GoesOver-last}
use Rattle.relay_h1.proofs.CrlfLemmas.{line_end-within}
use Rattle.relay_h1.proofs.body_reader.pass_line.Goals as goal

pub consume-requires : goal.consume-requires
consume-requires c =
    let starts = rw c.bytes.ensures at c.in-Chunk-default-eq0.ensures in
    (line_end-within c.args.ahead.now c.in-Chunk-default-eq0.len starts.ends).1

pub consume-requires-in-Chunk : goal.consume-requires-in-Chunk
consume-requires-in-Chunk c =
    let starts = rw c.bytes.ensures at c.in-Chunk.ensures in
    (line_end-within c.args.ahead.now c.in-Chunk.len starts.ends).1

pub returns-in-Open : goal.returns-in-Open
returns-in-Open c =
    let ahead = c.args.ahead.now in
    let still = rw c.bytes.ensures at c.in-Open.ensures in
    rw c.stay.ensures (stays state.ChunkLine ahead front.More (body.Chunked.line_open ahead still))

pub returns-in-Broken : goal.returns-in-Broken
returns-in-Broken c =
    let ahead = c.args.ahead.now in
    let wrong = rw c.bytes.ensures at c.in-Broken.ensures in
    rw c.stay-in-Broken.ensures
    (stays state.ChunkLine ahead front.Broken (body.Chunked.line_broken ahead wrong))

pub returns-in-Chunk-default-eq0 : goal.returns-in-Chunk-default-eq0
returns-in-Chunk-default-eq0 c =
    let ahead = c.args.ahead.now in
    let len = c.in-Chunk-default-eq0.len in
    let starts =
    rw (c.bytes.ensures, c.in-Chunk-default-eq0.field-1-test) at c.in-Chunk-default-eq0.ensures in
    goes_on state.ChunkLine state.Trailer ahead c.pass_trailer.new.ahead len c.pass_trailer.result
    (GoesOver-last ahead len starts)
    (rw c.consume.ensures at c.pass_trailer.ensures)

pub returns-in-Chunk : goal.returns-in-Chunk
returns-in-Chunk c =
    let ahead = c.args.ahead.now in
    let starts = rw c.bytes.ensures at c.in-Chunk.ensures in
    let some : 0 < c.in-Chunk.size = omega arith in
    rw c.consume-in-Chunk.ensures
    (goes_on state.ChunkLine (state.Chunk c.in-Chunk.size) ahead
    (drop c.in-Chunk.len ahead) c.in-Chunk.len c.stay_in_run.result
    (GoesOver-line ahead c.in-Chunk.len c.in-Chunk.size starts some)
    (rw c.consume-in-Chunk.ensures at c.stay_in_run.ensures))
