use Rattle.relay_h1.proofs.body_writer.BodyWriter.pass.Goals as goal

pub returns-clause-so_far : goal.returns-clause-so_far
returns-clause-so_far c = rw c.as_slice-2.ensures at c.go_past.ensures.so_far
