-- The one read of the link was an answer, or it gave bytes in which the head is looked for.
use Rattle.std.proofs.Common.{refl, sym, append-nil, take, []}
use Rattle.relay_session.specs.Front as front
use Rattle.relay_session.proofs.FrontLemmas.{gave_more, found_head, sided}
use Rattle.relay_session.proofs.front.await_head.Goals as goal

pub returns-in-Ok-Bytes-clause-answer : goal.returns-in-Ok-Bytes-clause-answer
returns-in-Ok-Bytes-clause-answer g c =
    let more = rw c.in-Ok-Bytes.field-0-is at c.in-Ok-Bytes.ensures.ok in
    rw c.find_head.ensures.same
    (found_head _ _ c.args.client.now.ahead _ c.find_head.new.client.ahead (take _ more.room)
    c.find_head.result c.requires (gave_more _ _ _ _ _ more) more.grown c.find_head.ensures.answer)

pub returns-in-Ok-Failed-clause-answer : goal.returns-in-Ok-Failed-clause-answer
returns-in-Ok-Failed-clause-answer g c =
    let more = rw c.in-Ok-Failed.field-0-is at c.in-Ok-Failed.ensures.ok in
    front.RefusesHead.link_failed c.in-Ok-Failed.fault c.requires more.0 more.1
    (sided _ _ _ c.of_fault.ensures c.into_down.ensures)

pub returns-in-Err-clause-answer : goal.returns-in-Err-clause-answer
returns-in-Err-clause-answer g c =
    let same = c.in-Err.ensures.err in
    rw same (record {
      came = [];
      comes = front.Comes.unasked refl;
      grown = sym (append-nil c.args.client.now.ahead);
    })
