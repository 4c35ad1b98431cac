-- A body that lasts until the link ends has ended, and any other is cut off.
use Rattle.std.proofs.Common.{refl, [], ◌∷◌}
use Rattle.relay_peer.proofs.ResponseLemmas.{ends_there, cut_there, has_come, body_has_come}
use Rattle.relay_peer.proofs.LengthLemmas.{stream_out}
use Rattle.relay_peer.proofs.response_reading.end_of_body.Goals as goal

pub returns-in-Ok-clause-ends : goal.returns-in-Ok-clause-ends
returns-in-Ok-clause-ends c = λ method upgrade given told ahead still. (
  refl,
  ends_there method upgrade given told c.args.body ahead still
      (c.in-Ok.ensures.answer still.0.framing still.0.so_far.of_framing),
)

pub returns-in-Err-clause-ends : goal.returns-in-Err-clause-ends
returns-in-Err-clause-ends c = λ method upgrade given told ahead still.
    let answer = c.in-Err.ensures.answer still.0.framing still.0.so_far.of_framing in
    rw (c.cut_off.ensures.fails given
    (has_come given (body_has_come method upgrade given told c.args.body ahead still.0)))
    (cut_there method upgrade given told c.args.body
    (record c.args.body { reader = c.end_of_stream.new.self }) ahead still answer.1
    c.in-Err.ensures.err)

pub returns-in-Ok-clause-cuts : goal.returns-in-Ok-clause-cuts
returns-in-Ok-clause-cuts c = λ bytes rest. stream_out c.args.body.reader c.in-Ok.ensures.answer

pub returns-in-Err-clause-cuts : goal.returns-in-Err-clause-cuts
returns-in-Err-clause-cuts c = λ bytes rest. rw (c.cut_off.ensures.fails (0 ∷ []) refl) tt
