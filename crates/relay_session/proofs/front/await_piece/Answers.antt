-- The one read of the link was an answer, or it gave bytes in which a piece is looked for.
use Rattle.std.proofs.Common.{refl, append-nil, take, []}
use Rattle.relay_session.specs.Front as front
use Rattle.relay_h1.proofs.BodyReaderLemmas.{Takes-nothing}
use Rattle.relay_session.proofs.FrontLemmas.{gave_more, found_piece, stays_there, ended_body, sided}
use Rattle.relay_session.proofs.front.await_piece.Goals as goal

pub returns-in-Ok-Bytes-clause-answer : goal.returns-in-Ok-Bytes-clause-answer
returns-in-Ok-Bytes-clause-answer g c =
    let more = rw c.in-Ok-Bytes.field-0-is at c.in-Ok-Bytes.ensures.ok in
    rw c.find_piece.ensures.same
    (found_piece (Unit {0}) _ _ c.args.body.now c.find_piece.new.body c.args.client.now.ahead _
    c.find_piece.new.client.ahead (take _ more.room) c.find_piece.result tt
    (gave_more _ _ _ _ _ more) more.grown c.find_piece.ensures.answer)

pub returns-in-Ok-NotReady-clause-answer : goal.returns-in-Ok-NotReady-clause-answer
returns-in-Ok-NotReady-clause-answer g c =
    let more = rw c.in-Ok-NotReady.field-0-is at c.in-Ok-NotReady.ensures.ok in
    (stays_there c.args.body.now _ _ more.1, more.0)

pub returns-in-Ok-Silent-clause-answer : goal.returns-in-Ok-Silent-clause-answer
returns-in-Ok-Silent-clause-answer g c =
    let more = rw c.in-Ok-Silent.field-0-is at c.in-Ok-Silent.ensures.ok in
    (stays_there c.args.body.now _ _ more.1, more.0)

pub returns-in-Ok-End-clause-answer : goal.returns-in-Ok-End-clause-answer
returns-in-Ok-End-clause-answer g c =
    let more = rw c.in-Ok-End.field-0-is at c.in-Ok-End.ensures.ok in
    ended_body _ _ c.args.body.now c.end_of_body.new.body _ _ c.end_of_body.result c.requires
    more.0 more.1 c.end_of_body.ensures

pub returns-in-Ok-Failed-clause-answer : goal.returns-in-Ok-Failed-clause-answer
returns-in-Ok-Failed-clause-answer g c =
    let more = rw c.in-Ok-Failed.field-0-is at c.in-Ok-Failed.ensures.ok in
    front.RefusesBody.link_failed c.in-Ok-Failed.fault (stays_there c.args.body.now _ _ more.1)
    more.0 (sided _ _ _ c.of_fault.ensures c.into_down.ensures)

pub returns-in-Err-clause-answer : goal.returns-in-Err-clause-answer
returns-in-Err-clause-answer g c =
    let same = c.in-Err.ensures.err in
    rw same (record {
      came = [];
      comes = front.Comes.unasked refl;
      takes = rw append-nil (Takes-nothing c.args.body.now c.args.client.now.ahead);
      inside = c.requires;
    })
