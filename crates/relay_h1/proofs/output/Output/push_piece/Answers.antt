-- The bytes of the piece are those that were written.
use Rattle.std.proofs.Common.{◌∙◌}
use Rattle.relay_h1.specs.BodyWire.{piece_text}
use Rattle.relay_h1.proofs.OutputLemmas.{waits_behind}
use Rattle.relay_h1.proofs.output.Output.push_piece.Goals as goal

-- what was gathered is what waited, and the text stands behind it
pub returns-clause-text : goal.returns-clause-text
returns-clause-text c =
    waits_behind c.write.result c.gather.new.piece c.gather.new.bytes.items c.write.new.out.items
    (piece_text c.args.body.now c.args.piece) c.args.self.now c.gather.new.start
    c.gather.ensures.within (c.gather.ensures.same ∙ c.self.view_is)
    (rw c.as_slice.ensures at c.write.ensures.text)

pub returns-clause-so_far : goal.returns-clause-so_far
returns-clause-so_far c = rw c.as_slice.ensures at c.write.ensures.so_far
