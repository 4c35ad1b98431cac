-- A chunk of which no byte is to come is left first.
use Rattle.std.proofs.Common.{◌≡◌, sym, ◌∙◌}
use Rattle.relay_h1.specs.declared.body_reader.State.TheVariants as state
use Rattle.relay_h1.proofs.BodyReaderLemmas.{goes_on, GoesOver-chunk_end}
use Rattle.relay_h1.proofs.body_reader.pass_framing.Goals as goal

pub returns-in-Chunk-eq0 : goal.returns-in-Chunk-eq0
returns-in-Chunk-eq0 c =
    let none : c.in-Chunk-eq0.field-0 ≡ 0 =
    sym c.in-Chunk-eq0.field-0-is ∙ c.in-Chunk-eq0.field-0-test in
    rw (c.in-Chunk-eq0.is, none)
    (goes_on (state.Chunk 0) state.ChunkEnd c.args.ahead.now c.pass_chunk_end.new.ahead 0
    c.pass_chunk_end.result GoesOver-chunk_end c.pass_chunk_end.ensures)
